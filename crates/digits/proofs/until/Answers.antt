-- `digits::until` meets its contract: the place that the library finds, or the length. Assumes nothing.
use borrow.Author.Rules.{rules}
use mathlib.Core.Path.{◌∙◌}
use lib.Dec.{eqb}
use Rattle.std.proofs.Common.{tests}
use Rattle.std.proofs.lemmas.Iterator.{YieldsList-from_slice}
use Rattle.std.proofs.lemmas.Iterator.Search.{position_from_yields_List}
use Rattle.digits.specs.Digits.{before}
use Rattle.digits.proofs.Parting.{place_or_end}
use Rattle.digits.proofs.until.Goals as goal

pub returns : goal.returns
unfolding before
returns c =
    let s = c.args.s.now in
    let found = position_from_yields_List (λ x. eqb x c.args.b) _ _ c.position.result c.position.ensures.ran (YieldsList-from_slice s cc)
    (λ x b q k. search (rules, tests)) in
    c.unwrap_or.ensures ∙ place_or_end _ s found
