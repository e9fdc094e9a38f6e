-- `header::newer_value` meets its contract: the stretch is the line without its line feed. Assumes nothing.
use Rattle.header.proofs.Lines.{end_within}
use Rattle.header.proofs.Walking.{newer_here, newer_not}
use Rattle.header.proofs.newer_value.Goals as goal

pub slice_bounds-starts_with-end : goal.slice_bounds-starts_with-end
slice_bounds-starts_with-end c = search end_within

pub returns-then-starts_with : goal.returns-then-starts_with
returns-then-starts_with c = newer_here _ _ _ _ c.starts_with.ensures.value c.requires.1 c.if-starts_with.true

pub returns-else-starts_with : goal.returns-else-starts_with
returns-else-starts_with c = newer_not _ _ _ _ c.starts_with.ensures.value c.requires.1 c.if-starts_with.false
