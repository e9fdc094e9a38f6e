-- `reader::skip_to_frame` meets its contract: the library finds the first byte that is sought, in the bytes from the point on. Assumes nothing.
use mathlib.Core.Path.{ap, ◌∙◌}
use native.Mathlib.Omega.{arith}
use Rattle.std.proofs.Common.{rules, tests}
use Rattle.std.proofs.lemmas.Iterator.{YieldsList-from_slice}
use Rattle.std.proofs.lemmas.Iterator.Search.{position_from_yields_List}
use Rattle.reader.specs.Search.{ahead}
use Rattle.reader.proofs.Searching.{sought, ahead_position, to_the_end, beyond}
use Rattle.reader.proofs.skip_to_frame.Goals as goal

pub returns-in_err-get : goal.returns-in_err-get
returns-in_err-get c = c.from_residual.ensures ∙ beyond c.args.s.now c.args.from.0 (omega (arith, c.in_err-get.ensures.lookup))

pub returns : goal.returns
returns c =
    position_from_yields_List sought _ _ c.position.result c.position.ensures.ran
    (YieldsList-from_slice _ c.iter.ensures.rest) (λ x b q k. search (rules, tests))
    ∙ ahead_position _ ∙ ap ahead (c.in_ok-get.ensures.lookup.0.2 ∙ to_the_end c.args.s.now c.args.from.0)
