-- Frames in parts: the values of a main frame stand beside its head, and the fields of a raw frame beside its other numbers.
use Rattle.std.specs.Prelude.{ℕ, List}
use Rattle.raws.specs.declared.Raw.{Raw}
use Rattle.frame.specs.declared.Head.{Head}
use Rattle.frame.specs.declared.MainFrame.{MainFrame}

abbrev pub head_of : MainFrame → Head
head_of f = record { mark = f.mark; iteration = f.iteration; time = f.time }

abbrev pub frame_of : Head → (values : List ℕ) → MainFrame
frame_of h vs = record { mark = h.mark; iteration = h.iteration; time = h.time; values = vs }

abbrev pub raw_of : (iteration time : ℕ) → (fields : List ℕ) → Raw
raw_of i t xs = record { iteration = i; time = t; fields = xs }
