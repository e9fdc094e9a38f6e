-- `walks::through` meets its contract: an admitted walk goes to its end, any other is refused. Assumes nothing.
use mathlib.Core.Path.{sym, ◌∙◌}
use Rattle.walks.proofs.Whole.{through_passed, through_refused}
use Rattle.walks.proofs.through.Goals as goal

pub walk_to-requires : goal.walk_to-requires
walk_to-requires c = sym c.admits.ensures ∙ c.if-admits.true

pub returns-then-admits : goal.returns-then-admits
returns-then-admits c = through_passed _ _ _ c.admits.ensures _ c.walk_to.ensures c.if-admits.true

pub returns : goal.returns
returns c = through_refused _ _ _ c.admits.ensures _ c.refused.ensures c.if-admits.false
