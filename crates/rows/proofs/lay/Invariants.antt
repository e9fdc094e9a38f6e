-- `rows::lay` meets its contract. The invariant: so many rows are laid out, and those from the walk that stands there follow;
-- the walk is admitted and the flag is right. It requires an admitted walk.
use Rattle.section.specs.Lent.{walk_of}
use Rattle.calls.proofs.Turns.{Ready}
use Rattle.rows.proofs.Laying.{Laying}
use Rattle.rows.proofs.lay.Given as goal

abbrev pub invariant-loop-count : goal.invariant-loop-count
invariant-loop-count l =
    Ready l.d l.s (walk_of l.walk l.values) l.barren
    × Laying l.d l.s l.initial.out (walk_of l.initial.walk l.initial.values) l.room l.size l.out (walk_of l.walk l.values) l.count
