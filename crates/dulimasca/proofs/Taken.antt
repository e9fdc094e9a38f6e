-- What a definition or a walk that was taken from bytes tells of the bytes: they are one, and it is theirs; or they are none.
use Prim.Native.Nat.{ℕ}
use Rattle.std.specs.Prelude.{Option, Some, None, Result, Ok, Err}
use Rattle.std.specs.Option.{ok_or}
use Rattle.std.specs.Result.{IsErrAnd}
use Rattle.std.proofs.lemmas.Result.{err_from_is_err_and}
use mathlib.Core.Bool.{Bool, true, false, cond}
use mathlib.Core.List.{List}
use mathlib.Core.Path.{◌≡◌, refl, ap, ◌∙◌}
use native.Mathlib.Omega.{arith}
use Rattle.plan.specs.declared.Definition.{Definition}
use Rattle.section.specs.declared.Refusal.{Refusal}
use Rattle.section.specs.declared.Refusal.TheVariants.{Unsound}
use Rattle.section.specs.declared.Walk.{Walk}
use Rattle.store.specs.Definition.{definition_at, is_definition, taken_definition}
use Rattle.store.specs.State.{walk_at, is_state, taken_state}

-- the exit of a `?`
pub handed_on : {A E : Type 0} {r : Result A E} {d : E} → IsErrAnd r (λ e. e ≡ d) → r ≡ Err d
handed_on {r = r} h = let p = err_from_is_err_and r h in p.1 ∙ ap Err p.2

-- ## What there may be, or refusal 10

module _ {A : Type 0} where
  pub given : (o : Option A) {x : A} → Ok x ≡ ok_or o Unsound → o ≡ Some x
  given (Some y) e = cc
  given None e = let z : ◌≡◌ {A = ℕ} 0 1 = cc in absurd (omega arith)

  pub missing : (o : Option A) {why : Refusal} → Err why ≡ ok_or o Unsound → (o ≡ None) × (why ≡ Unsound)
  missing (Some y) e = let z : ◌≡◌ {A = ℕ} 0 1 = cc in absurd (omega arith)
  missing None e = (refl, cc)

  one : (t : Bool) {x y : A} → cond t (Some x) None ≡ Some y → (t ≡ true) × (y ≡ x)
  one true e = (refl, cc)
  one false e = let z : ◌≡◌ {A = ℕ} 0 1 = cc in absurd (omega arith)

  none : (t : Bool) (x : A) → cond t (Some x) None ≡ None → t ≡ false
  none true x e = let z : ◌≡◌ {A = ℕ} 0 1 = cc in absurd (omega arith)
  none false x e = refl

-- ## A definition and a walk

module _ (def : List ℕ) where
  pub taken : {d : Definition} → Ok d ≡ ok_or (taken_definition def) Unsound → (is_definition def ≡ true) × (d ≡ definition_at def)
  unfolding taken_definition
  taken e = one (is_definition def) (given _ e)

  pub not_taken : {why : Refusal} → Err why ≡ ok_or (taken_definition def) Unsound → (is_definition def ≡ false) × (why ≡ Unsound)
  unfolding taken_definition
  not_taken e = let p = missing _ e in (none (is_definition def) _ p.0, p.1)

module _ (st : List ℕ) where
  pub walk_taken : {w : Walk} → Ok w ≡ ok_or (taken_state st) Unsound → (is_state st ≡ true) × (w ≡ walk_at st)
  unfolding taken_state
  walk_taken e = one (is_state st) (given _ e)

  pub walk_not_taken : {why : Refusal} → Err why ≡ ok_or (taken_state st) Unsound → (is_state st ≡ false) × (why ≡ Unsound)
  unfolding taken_state
  walk_not_taken e = let p = missing _ e in (none (is_state st) _ p.0, p.1)
