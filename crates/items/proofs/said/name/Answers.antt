-- `items::said::name` meets its contract: the tests are those of the definition, in its order. Assumes nothing.
use mathlib.Core.Path.{◌≡◌, ap, ◌∙◌}
use Rattle.std.specs.Str.{bytes_eq}
use Rattle.items.specs.Text.{ascii}
use Rattle.items.proofs.Saying.{iteration_named, time_named, motor_named, no_name_named}
use Rattle.items.proofs.said.name.Goals as goal

pub returns-then-eq : goal.returns-then-eq
returns-then-eq c =
    let p : c.eq.result ≡ bytes_eq c.args.item.now (ascii "loopIteration") = c.eq.ensures ∙ ap (bytes_eq c.args.item.now) c.as_slice.ensures in
    iteration_named _ p c.if-eq.true

pub returns-then-eq-2 : goal.returns-then-eq-2
returns-then-eq-2 c =
    let p : c.eq.result ≡ bytes_eq c.args.item.now (ascii "loopIteration") = c.eq.ensures ∙ ap (bytes_eq c.args.item.now) c.as_slice.ensures in
    let q : c.eq-2.result ≡ bytes_eq c.args.item.now (ascii "time") = c.eq-2.ensures ∙ ap (bytes_eq c.args.item.now) c.as_slice-2.ensures in
    time_named _ p c.if-eq.false q c.if-eq-2.true

pub returns-then-eq-3 : goal.returns-then-eq-3
returns-then-eq-3 c =
    let p : c.eq.result ≡ bytes_eq c.args.item.now (ascii "loopIteration") = c.eq.ensures ∙ ap (bytes_eq c.args.item.now) c.as_slice.ensures in
    let q : c.eq-2.result ≡ bytes_eq c.args.item.now (ascii "time") = c.eq-2.ensures ∙ ap (bytes_eq c.args.item.now) c.as_slice-2.ensures in
    let r : c.eq-3.result ≡ bytes_eq c.args.item.now (ascii "motor[0]") = c.eq-3.ensures ∙ ap (bytes_eq c.args.item.now) c.as_slice-3.ensures in
    motor_named _ p c.if-eq.false q c.if-eq-2.false r c.if-eq-3.true

pub returns : goal.returns
returns c =
    let p : c.eq.result ≡ bytes_eq c.args.item.now (ascii "loopIteration") = c.eq.ensures ∙ ap (bytes_eq c.args.item.now) c.as_slice.ensures in
    let q : c.eq-2.result ≡ bytes_eq c.args.item.now (ascii "time") = c.eq-2.ensures ∙ ap (bytes_eq c.args.item.now) c.as_slice-2.ensures in
    let r : c.eq-3.result ≡ bytes_eq c.args.item.now (ascii "motor[0]") = c.eq-3.ensures ∙ ap (bytes_eq c.args.item.now) c.as_slice-3.ensures in
    no_name_named _ p c.if-eq.false q c.if-eq-2.false r c.if-eq-3.false
