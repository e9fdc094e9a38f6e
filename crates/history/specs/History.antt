-- The two main frames before the next, and what later frames read of them (document 01, "Predictors" and "The walk").
use Rattle.std.specs.Prelude.{Bool, true, false}
use Rattle.frame.specs.declared.MainFrame.{MainFrame}
use Rattle.frame.specs.declared.Mark.{Mark}
use Rattle.frame.specs.declared.Mark.TheVariants.{Absent, Intra, Inter}
use Rattle.frame.specs.Past.{Past, past_of, body_of, no_frame}
use Rattle.history.specs.declared.History.{History}

-- before a section's first main frame
unfoldable pub empty : History
empty = record { last = no_frame; older = no_frame }

-- an accepted main frame becomes last, and last becomes older
unfoldable pub pushed : History → MainFrame → History
pushed h f = record { last = f; older = h.last }

-- what a later frame reads of it
unfoldable pub past : History → Past
past h = past_of (body_of h.last) (body_of h.older)

-- an older frame without a last is refused (10)
unfoldable pub in_order : (last older : Mark) → Bool
in_order Absent Absent = true
in_order Absent Intra = false
in_order Absent Inter = false
in_order Intra older = true
in_order Inter older = true

unfoldable pub sound : History → Bool
sound h = in_order h.last.mark h.older.mark
