-- `items::said::encoding` meets its contract: the seven digits are encodings, and nothing else is. Assumes nothing.
use mathlib.Core.Path.{refl}
use borrow.Author.Rules.{rules}
use Rattle.plan.specs.Known.{among}
use Rattle.items.proofs.Saying.{encoding_digit, no_encoding, other_encoding}
use Rattle.items.proofs.said.encoding.Goals as goal

pub returns-then-item-ne1 : goal.returns-then-item-ne1
unfolding among
returns-then-item-ne1 c = search no_encoding

pub returns-in-48 : goal.returns-in-48
unfolding among
returns-in-48 c = encoding_digit _ _ c.in-48.is (search rules) refl

pub returns-in-49 : goal.returns-in-49
unfolding among
returns-in-49 c = encoding_digit _ _ c.in-49.is (search rules) refl

pub returns-in-51 : goal.returns-in-51
unfolding among
returns-in-51 c = encoding_digit _ _ c.in-51.is (search rules) refl

pub returns-in-54 : goal.returns-in-54
unfolding among
returns-in-54 c = encoding_digit _ _ c.in-54.is (search rules) refl

pub returns-in-55 : goal.returns-in-55
unfolding among
returns-in-55 c = encoding_digit _ _ c.in-55.is (search rules) refl

pub returns-in-56 : goal.returns-in-56
unfolding among
returns-in-56 c = encoding_digit _ _ c.in-56.is (search rules) refl

pub returns-in-57 : goal.returns-in-57
unfolding among
returns-in-57 c = encoding_digit _ _ c.in-57.is (search rules) refl

pub returns-in_default : goal.returns-in_default
unfolding among
returns-in_default c = other_encoding _ refl (search rules) (search rules)
