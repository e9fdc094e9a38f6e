-- `octets::put_values` meets its contract. The invariant: the values so far are stored. It requires room for all.
use Rattle.octets.proofs.Stores.{put_next}
use Rattle.octets.proofs.put_values.Goals as goal

pub loop-i-preserved : goal.loop-i-preserved
loop-i-preserved g c =
    put_next g.T.Number.bytes g.T.Number.WIDTH g.met.T.Number.width c.args.values.now c.index-values-i.result _ _ _ _ _ c.loop-i.invariant c.loop-i-test.true
    (rw (c.WIDTH.ensures, c.index-values-i.is) at c.put.ensures)
