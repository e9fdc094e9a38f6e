-- A history in parts: the values of its frames stand beside their heads.
use Rattle.std.specs.Prelude.{ℕ, List}
use Rattle.frame.specs.declared.Head.{Head}
use Rattle.frame.specs.Parts.{head_of, frame_of}
use Rattle.history.specs.declared.Heads.{Heads}
use Rattle.history.specs.declared.History.{History}

abbrev pub heads_of : History → Heads
heads_of h = record { last = head_of h.last; older = head_of h.older }

abbrev pub history_of : Heads → (last older : List ℕ) → History
history_of h last older = record { last = frame_of h.last last; older = frame_of h.older older }

abbrev pub head_pushed : Heads → Head → Heads
head_pushed h f = record { last = f; older = h.last }
