-- `items::item_at` meets its contract: at each turn `start` is where the next item starts. Assumes nothing.
use borrow.Author.Rules.{rules}
use native.Mathlib.Omega.{arith}
use lib.Dec.{eqb}
use Rattle.std.proofs.Common.{tests}
use Rattle.std.proofs.lemmas.List.{length_push}
use Rattle.std.proofs.lemmas.List.FromFn.{length-enumerate_from}
use Rattle.std.proofs.lemmas.Iterator.Consumers.{YieldsList-at, YieldsList-turn, YieldsList-end, YieldsList-from_enumerate}
use Rattle.std.proofs.lemmas.Iterator.Splits.{YieldsList-from_slice_split}
use Rattle.items.specs.Items.{items}
use Rattle.items.proofs.Items.{start_first, nth, item_ends, item_next, item_at_here, item_at_none}
use Rattle.items.proofs.item_at.Goals as goal

pub loop-j-init : goal.loop-j-init
loop-j-init c = record { from = start_first _; before_k = omega arith }

pub overflow_add-end : goal.overflow_add-end
unfolding items
overflow_add-end c =
    let t = nth c.args.text.now (YieldsList-turn (YieldsList-at c.into_iter-j-iterator.ensures.into_iter_gives
    (YieldsList-from_enumerate (YieldsList-at c.enumerate-j-items.ensures.source
    (YieldsList-from_slice_split _ (λ b. eqb b 44) c.args.text.now c.split.ensures.rest c.split.ensures.done c.split.ensures.closure
    (λ x r q k. search (rules, tests)))) c.enumerate-j-items.ensures.count))
    c.loop-j.yielded _ c.loop-j.yielded_by _ _ (c.in-Some.j, c.in-Some.item) c.in-Some.is c.next.ensures.steps) in
    omega (arith, c.well_formed, item_ends c.args.text.now t.0 c.loop-j.invariant.from t.2)

pub returns-then-j-k : goal.returns-then-j-k
unfolding items
returns-then-j-k c =
    let t = nth c.args.text.now (YieldsList-turn (YieldsList-at c.into_iter-j-iterator.ensures.into_iter_gives
    (YieldsList-from_enumerate (YieldsList-at c.enumerate-j-items.ensures.source
    (YieldsList-from_slice_split _ (λ b. eqb b 44) c.args.text.now c.split.ensures.rest c.split.ensures.done c.split.ensures.closure
    (λ x r q k. search (rules, tests)))) c.enumerate-j-items.ensures.count))
    c.loop-j.yielded _ c.loop-j.yielded_by _ _ (c.in-Some.j, c.in-Some.item) c.in-Some.is c.next.ensures.steps) in
    item_at_here c.args.text.now t.0 c.loop-j.invariant.from t.2 (omega (arith, t.1))

pub overflow_add-start : goal.overflow_add-start
unfolding items
overflow_add-start c =
    let t = nth c.args.text.now (YieldsList-turn (YieldsList-at c.into_iter-j-iterator.ensures.into_iter_gives
    (YieldsList-from_enumerate (YieldsList-at c.enumerate-j-items.ensures.source
    (YieldsList-from_slice_split _ (λ b. eqb b 44) c.args.text.now c.split.ensures.rest c.split.ensures.done c.split.ensures.closure
    (λ x r q k. search (rules, tests)))) c.enumerate-j-items.ensures.count))
    c.loop-j.yielded _ c.loop-j.yielded_by _ _ (c.in-Some.j, c.in-Some.item) c.in-Some.is c.next.ensures.steps) in
    omega (arith, c.well_formed, item_ends c.args.text.now t.0 c.loop-j.invariant.from t.2)

pub loop-j-preserved : goal.loop-j-preserved
unfolding items
loop-j-preserved c =
    let t = nth c.args.text.now (YieldsList-turn (YieldsList-at c.into_iter-j-iterator.ensures.into_iter_gives
    (YieldsList-from_enumerate (YieldsList-at c.enumerate-j-items.ensures.source
    (YieldsList-from_slice_split _ (λ b. eqb b 44) c.args.text.now c.split.ensures.rest c.split.ensures.done c.split.ensures.closure
    (λ x r q k. search (rules, tests)))) c.enumerate-j-items.ensures.count))
    c.loop-j.yielded _ c.loop-j.yielded_by _ _ (c.in-Some.j, c.in-Some.item) c.in-Some.is c.next.ensures.steps) in
    let n = length_push c.loop-j.yielded (c.in-Some.j, c.in-Some.item) in
    record { from = item_next c.args.text.now t.0 c.loop-j.invariant.from t.2 n; before_k = omega (arith, t.1) }

pub returns : goal.returns
unfolding items
returns c =
    let t = YieldsList-end (YieldsList-at c.into_iter-j-iterator.ensures.into_iter_gives
    (YieldsList-from_enumerate (YieldsList-at c.enumerate-j-items.ensures.source
    (YieldsList-from_slice_split _ (λ b. eqb b 44) c.args.text.now c.split.ensures.rest c.split.ensures.done c.split.ensures.closure
    (λ x r q k. search (rules, tests)))) c.enumerate-j-items.ensures.count))
    c.loop-j.yielded _ c.loop-j.yielded_by _ _ c.in-None.is c.next.ensures.steps in
    item_at_none c.args.text.now c.args.k (omega (arith, t.1, length-enumerate_from 0 (items c.args.text.now), c.loop-j.invariant.before_k))
