-- `raws::groups::read_into` meets its contract: the invariant is `Held`; a turn is one number by itself, or one group. It requires no more
-- fields than rooms.
use mathlib.Core.Path.{ap, ◌∙◌}
use native.Mathlib.Omega.{arith}
use lib.ListN.{length-take}
use Rattle.reader.proofs.Reading.{handed_on}
use Rattle.raws.specs.Chunks.{settled}
use Rattle.raws.proofs.Runs.{size_more}
use Rattle.raws.proofs.Turns.{held_first, one_on, one_stop, held_run, held_on, held_stop, held_end}
use Rattle.raws.proofs.groups.read_into.Goals as goal

pub loop-i-init : goal.loop-i-init
loop-i-init c = held_first _ _ _ _ _ c.requires c.clear.ensures

pub bounds-out-i : goal.bounds-out-i
bounds-out-i c = omega (arith, c.loop-i.invariant.fit, c.loop-i.invariant.room, c.loop-i-test.true)

pub returns-in_err-v : goal.returns-in_err-v
returns-in_err-v c =
    ap (λ r. settled r c.loop-i.out) (handed_on c.from_residual.ensures.1)
    ∙ one_stop c.loop-i.invariant c.max_chunk_size.ensures c.if-max_chunk_size-eq1.true c.loop-i-test.true c.in_err-v.ensures

pub loop-i-preserved-then-max_chunk_size-eq1 : goal.loop-i-preserved-then-max_chunk_size-eq1
loop-i-preserved-then-max_chunk_size-eq1 c =
    one_on c.loop-i.invariant c.max_chunk_size.ensures c.if-max_chunk_size-eq1.true c.loop-i-test.true c.in_ok-v.ensures

pub group-read-requires : goal.group-read-requires
group-read-requires c = size_more _ c.max_chunk_size.ensures c.if-max_chunk_size-eq1.false

pub returns-in_err-next : goal.returns-in_err-next
returns-in_err-next c =
    ap (λ r. settled r c.loop-i.out) (handed_on c.from_residual-in_err-next.ensures.1)
    ∙ held_stop c.loop-i.invariant c.chunk-n.ensures c.group-read.ensures c.loop-i-test.true c.in_err-next.was

pub overflow_add-i-else-max_chunk_size-eq1 : goal.overflow_add-i-else-max_chunk_size-eq1
overflow_add-i-else-max_chunk_size-eq1 c = omega (arith, held_run c.loop-i.invariant c.chunk-n.ensures c.loop-i-test.true)

pub slice_bounds-lay-end : goal.slice_bounds-lay-end
slice_bounds-lay-end c = omega (arith, held_run c.loop-i.invariant c.chunk-n.ensures c.loop-i-test.true)

pub lay-requires : goal.lay-requires
lay-requires c = simp length-take (omega (arith, held_run c.loop-i.invariant c.chunk-n.ensures c.loop-i-test.true))

pub loop-i-smaller : goal.loop-i-smaller
loop-i-smaller c = omega (arith, held_run c.loop-i.invariant c.chunk-n.ensures c.loop-i-test.true)

pub loop-i-preserved : goal.loop-i-preserved
loop-i-preserved c =
    held_on c.loop-i.invariant c.chunk-n.ensures c.group-read.ensures c.loop-i-test.true
    c.in_ok-next.was c.lay.ensures (λ j. omega (arith, c.shared_slice_known-2-1.given j))

pub returns : goal.returns
returns c = held_end c.loop-i.invariant c.loop-i-test.false
