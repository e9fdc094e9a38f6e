-- `words::written::count` meets its contract: a byte more is a byte in front of the others.
use Rattle.std.proofs.Common.{sym, ap, ◌∙◌, arith, rules}
use Rattle.words.proofs.Texts.{more, more_none, more_one, more_end, more_wrong}
use Rattle.words.proofs.written.count.Goals as goal

pub loop-behind-init : goal.loop-behind-init
loop-behind-init g c = record { is = more_none _; within = omega arith }

pub loop-behind-preserved : goal.loop-behind-preserved
loop-behind-preserved g c =
    record {
      is = sym (ap (more c.loop-behind.n) c.in-Some.ensures.is ∙ more_one _ _ _) ∙ c.loop-behind.invariant.is;
      within = omega (arith, c.in-Some.ensures.less, c.loop-behind.invariant.within);
    }

pub returns-then-is_empty : goal.returns-then-is_empty
returns-then-is_empty g c =
    sym (ap (more c.loop-behind.n) c.in_default.ensures ∙ more_end _ _ (search rules)) ∙ c.loop-behind.invariant.is

pub returns-else-is_empty : goal.returns-else-is_empty
returns-else-is_empty g c =
    sym (ap (more c.loop-behind.n) c.in_default.ensures ∙ more_wrong _ _ (search rules)) ∙ c.loop-behind.invariant.is
