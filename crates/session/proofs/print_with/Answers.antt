-- `session::print_with` is safe: the section begins within the log. Assumes nothing.
use Rattle.header.proofs.Within.{section_within}
use Rattle.session.proofs.print_with.Goals as goal

pub overflow_sub-log : goal.overflow_sub-log
overflow_sub-log g c = rw c.read-header.ensures (section_within _)

pub defined-requires : goal.defined-requires
defined-requires g c = rw c.read-header.ensures (section_within _)
