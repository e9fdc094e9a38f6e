-- What each public function of this crate owes.
use Rattle.std.specs.Prelude.{ℕ, List, Option, ◌≡◌}
use Rattle.plan.specs.declared.Definition.{Definition}
use Rattle.reader.specs.declared.Kind.{Kind}
use Rattle.reader.specs.Search.{byte_of}
use Rattle.section.specs.declared.Walk.{Walk}
use Rattle.store.specs.Definition.{taken_definition, with_definition}
use Rattle.store.specs.State.{taken_state, with_state}

abbrev pub TakeDefinitionOwes : List ℕ → Option Definition → Type 0
TakeDefinitionOwes bs r = r ≡ taken_definition bs

-- a buffer before and after it
abbrev pub PutDefinitionOwes : Definition → (buf after : List ℕ) → Type 0
PutDefinitionOwes d buf after = after ≡ with_definition d buf

abbrev pub LetterOwes : Kind → ℕ → Type 0
LetterOwes kind r = r ≡ byte_of kind

abbrev pub TakeStateOwes : List ℕ → Option Walk → Type 0
TakeStateOwes bs r = r ≡ taken_state bs

abbrev pub PutStateOwes : Walk → (buf after : List ℕ) → Type 0
PutStateOwes w buf after = after ≡ with_state w buf
