-- What a later frame reads of a history: of the two frames alone, so that what else a frame may come to hold changes nothing.
use Rattle.std.specs.Prelude.{None}
use mathlib.Core.Path.{◌≡◌, refl}
use Rattle.frame.specs.declared.MainFrame.{MainFrame}
use Rattle.frame.specs.Past.{past_of, body_of, no_frame}
use Rattle.history.specs.declared.History.{History}
use Rattle.history.specs.History.{empty, pushed, past}

-- behind an accepted frame: that frame, and the one that was last
pub past_pushed : (h : History) (f : MainFrame) → past (pushed h f) ≡ past_of (body_of f) (past h).last
unfolding past pushed
past_pushed h f = refl

-- before a section's first main frame: none
pub past_empty : past empty ≡ past_of None None
unfolding past empty body_of no_frame
past_empty = refl
