-- `digits::decimal` meets its contract. The invariant: the bytes before `b` write `n`. Assumes nothing.
use borrow.Author.Rules.{rules}
use mathlib.Core.Path.{sym, ◌∙◌}
use Rattle.std.proofs.Common.{eqb-true}
use Rattle.std.proofs.lemmas.Bool.{eqb-false}
use Rattle.digits.proofs.Digits.{none_written, read_first, read_on, read_wrong, read_end}
use Rattle.digits.proofs.decimal.Goals as goal

pub returns-then-is_empty : goal.returns-then-is_empty
returns-then-is_empty c = none_written _ (eqb-true _ _ (sym c.if-is_empty.ensures))

pub loop-b-init : goal.loop-b-init
loop-b-init c = (search rules, read_first _ (eqb-false _ _ (sym c.if-is_empty.ensures)))

pub returns-in_err-n : goal.returns-in_err-n
returns-in_err-n c = c.from_residual.ensures ∙ read_wrong _ _ _ c.loop-b.invariant.1 c.in_err-n.ensures c.loop-b-test.true

pub loop-b-preserved : goal.loop-b-preserved
loop-b-preserved c = (search rules, read_on _ _ _ c.loop-b.invariant.1 c.in_ok-n.ensures c.loop-b-test.true)

pub returns : goal.returns
returns c = search read_end
