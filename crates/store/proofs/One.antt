-- One input admits one answer: any two answers that a promise of this crate admits are equal, and so are the buffers behind them.
use Prim.Native.Nat.{ℕ}
use mathlib.Core.List.{List}
use mathlib.Core.Path.{◌≡◌}
use Rattle.plan.specs.declared.Definition.{Definition}
use Rattle.reader.specs.declared.Kind.{Kind}
use Rattle.reader.proofs.One.{one_answer}
use Rattle.section.specs.declared.Walk.{Walk}
use Rattle.std.specs.Prelude.{Option}
use Rattle.store.specs.Owes.{TakeDefinitionOwes, PutDefinitionOwes, LetterOwes, TakeStateOwes, PutStateOwes}

pub take_definition_one : (bs : List ℕ) (r t : Option Definition) → TakeDefinitionOwes bs r → TakeDefinitionOwes bs t → r ≡ t
take_definition_one bs r t p q = one_answer p q

pub put_definition_one : (d : Definition) (buf a b : List ℕ) → PutDefinitionOwes d buf a → PutDefinitionOwes d buf b → a ≡ b
put_definition_one d buf a b p q = one_answer p q

pub letter_one : (kind : Kind) (r t : ℕ) → LetterOwes kind r → LetterOwes kind t → r ≡ t
letter_one kind r t p q = one_answer p q

pub take_state_one : (bs : List ℕ) (r t : Option Walk) → TakeStateOwes bs r → TakeStateOwes bs t → r ≡ t
take_state_one bs r t p q = one_answer p q

pub put_state_one : (w : Walk) (buf a b : List ℕ) → PutStateOwes w buf a → PutStateOwes w buf b → a ≡ b
put_state_one w buf a b p q = one_answer p q
