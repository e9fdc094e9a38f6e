-- `definition::main_lists::check_lengths` meets its contract: list by list, in the zips' order. Assumes nothing.
use Rattle.std.proofs.Common.{◌≡◌, ◌||◌, ap, ap₂, ◌∙◌, rules}
use Rattle.std.proofs.lemmas.Result.{err_from_is_err_and}
use Rattle.definition.specs.Checks.{check}
use Rattle.definition.proofs.Chain.{passes, stops}
use Rattle.definition.proofs.Readings.{lengths_said}
use Rattle.definition.proofs.main_lists.check_lengths.Goals as goal

pub returns-in_err-check : goal.returns-in_err-check
returns-in_err-check c l e =
    let p = err_from_is_err_and c.from_residual.result c.from_residual.ensures.1 in
    let w : c.if-w3.check ≡ (c.is_wrong-w0.result || (c.is_wrong-w1.result || (c.is_wrong-w3.result || c.is_wrong-w5.result))) = search rules in
    let wrong = w ∙ ap₂ ◌||◌ c.is_wrong-w0.ensures (ap₂ ◌||◌ c.is_wrong-w1.ensures (ap₂ ◌||◌ c.is_wrong-w3.ensures c.is_wrong-w5.ensures)) in
    rw (p.1, p.2) (lengths_said c.args.n l e (stops _ (c.in_err-check.ensures ∙ ap (λ b. check b 6 c.args.n) wrong)))

pub returns : goal.returns
returns c l e =
    let w : c.if-w3.check ≡ (c.is_wrong-w0.result || (c.is_wrong-w1.result || (c.is_wrong-w3.result || c.is_wrong-w5.result))) = search rules in
    let v : c.if-w2.check ≡ (c.is_wrong-w2.result || c.is_wrong-w4.result) = search rules in
    let wrong = w ∙ ap₂ ◌||◌ c.is_wrong-w0.ensures (ap₂ ◌||◌ c.is_wrong-w1.ensures (ap₂ ◌||◌ c.is_wrong-w3.ensures c.is_wrong-w5.ensures)) in
    lengths_said c.args.n l e (passes (c.in_ok-check.ensures ∙ ap (λ b. check b 6 c.args.n) wrong)
    (c.check-2.ensures ∙ ap (λ b. check b 7 c.args.n) (v ∙ ap₂ ◌||◌ c.is_wrong-w2.ensures c.is_wrong-w4.ensures)))
