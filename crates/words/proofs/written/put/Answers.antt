-- `words::written::put` meets its contract: each byte goes behind those that are put.
use Rattle.std.proofs.Common.{rules}
use Rattle.words.proofs.Texts.{laid_first, laid_on, laid_stopped, laid_full}
use Rattle.words.proofs.written.put.Goals as goal

pub loop-i-init : goal.loop-i-init
loop-i-init g c = laid_first _ _ c.requires

pub returns-in_default : goal.returns-in_default
returns-in_default g c = laid_stopped c.loop-i.invariant _ c.in_default.ensures

pub loop-i-preserved : goal.loop-i-preserved
loop-i-preserved g c = laid_on c.loop-i.invariant _ _ c.in-Some.ensures.is

pub returns : goal.returns
returns g c = laid_full c.loop-i.invariant (search rules)
