-- Two lists judged field by field, as `known` and `unmet_from` judge them: by index, and as a loop goes about it.
use Prim.Native.Nat.{ℕ, zero, suc, ◌+◌, ◌<◌, ◌≤◌, min}
use mathlib.Core.Bool.{Bool, true, false, cond, ◌&&◌, false≢true, and-eq-true_iff}
use mathlib.Core.List.{List, [], ◌∷◌}
use mathlib.Core.Path.{◌≡◌, refl, sym, ◌∙◌}
use native.Mathlib.Nat.{add-zero, zero-add}
use native.Mathlib.Numerals.{add-one}
use native.Mathlib.Omega.{arith}
use lib.ListN.{length, take, drop, get_or, drop_of_length-le, length-take}
use lib.Seq.{drop-cons, get_or-take}
use Rattle.std.specs.Prelude.{Option, Some, None}
use Rattle.plan.specs.declared.Numbers.{Numbers}
use Rattle.plan.specs.Known.{among, predictors, encodings}
use Rattle.plan.specs.Sound.{met, unmet_from, known}

-- from field i on: the first field of which an item fails its test decides
unfoldable pub judged : {R : Type 0} → (a b : ℕ → ℕ → Bool) → R → (ℕ → R) → ℕ → (ps qs : List ℕ) → R
judged a b done stop i [] qs = done
judged a b done stop i (p ∷ ps) [] = done
judged a b done stop i (p ∷ ps) (q ∷ qs) = cond (a i p && b i q) (judged a b done stop (suc i) ps qs) (stop i)

-- ## By index

module _ {R : Type 0} (a b : ℕ → ℕ → Bool) (done : R) (stop : ℕ → R) (differ : (i : ℕ) → stop i ≡ done → ⊥) where
  decided : (t : Bool) (i : ℕ) {r : R} → cond t r (stop i) ≡ done → (t ≡ true) × (r ≡ done)
  decided true i e = (refl, e)
  decided false i e = absurd (differ i e)

  -- where no field fails, each passes
  judged_at : (j : ℕ) (ps qs : List ℕ) → judged a b done stop j ps qs ≡ done
      → (i : ℕ) → i < length ps → i < length qs → (a (j + i) (get_or ps i 0) ≡ true) × (b (j + i) (get_or qs i 0) ≡ true)
  unfolding judged
  judged_at j [] qs e i h k = absurd (omega arith)
  judged_at j (p ∷ ps) [] e i h k = absurd (omega arith)
  judged_at j (p ∷ ps) (q ∷ qs) e zero h k = rw (add-zero j) ((and-eq-true_iff (a j p) (b j q)).0 (decided (a j p && b j q) j e).0)
  judged_at j (p ∷ ps) (q ∷ qs) e (suc i) h k =
      let on : suc j + i ≡ j + suc i = omega arith in
      rw on at (judged_at (suc j) ps qs (decided (a j p && b j q) j e).1 i (omega arith) (omega arith))

and_cond : (a b c : Bool) → a && (b && c) ≡ cond (a && b) c false
and_cond true true c = refl
and_cond true false c = refl
and_cond false b c = refl

-- `known` and `unmet_from` are such judgements
pub known_is : (i : ℕ) (ps es : List ℕ) → known ps es ≡ judged (λ _. among predictors) (λ _. among encodings) true (λ _. false) i ps es
unfolding known judged
known_is i [] es = refl
known_is i (p ∷ ps) [] = refl
known_is i (p ∷ ps) (e ∷ es) = rw (known_is (suc i) ps es) (and_cond (among predictors p) (among encodings e) _)

module _ (numbers : Numbers) (motor : ℕ) where
  pub unmet_is : (i : ℕ) (ps qs : List ℕ) → unmet_from numbers motor i ps qs ≡ judged (met numbers motor) (met numbers motor) None Some i ps qs
  unfolding unmet_from judged
  unmet_is i [] qs = refl
  unmet_is i (p ∷ ps) [] = refl
  unmet_is i (p ∷ ps) (q ∷ qs) = rw (unmet_is (suc i) ps qs)

-- every field of a known list has a predictor and an encoding that there is
pub known_at : (ps es : List ℕ) → known ps es ≡ true
    → (i : ℕ) → i < length ps → i < length es → (among predictors (get_or ps i 0) ≡ true) × (among encodings (get_or es i 0) ≡ true)
known_at ps es e = judged_at (λ _. among predictors) (λ _. among encodings) true (λ _. false) (λ _. false≢true) 0 ps es (sym (known_is 0 ps es) ∙ e)

-- and the other way round
pub known_all : (ps es : List ℕ)
    → ((i : ℕ) → i < length ps → i < length es → (among predictors (get_or ps i 0) ≡ true) × (among encodings (get_or es i 0) ≡ true))
    → known ps es ≡ true
unfolding known
known_all [] es each = refl
known_all (p ∷ ps) [] each = refl
known_all (p ∷ ps) (e ∷ es) each =
    let first : (among predictors p ≡ true) × (among encodings e ≡ true) = each 0 (omega arith) (omega arith) in
    rw (first.0, first.1) (known_all ps es (λ i h k. each (suc i) (omega arith) (omega arith)))

-- where nothing is unmet, every predictor has what it needs
pub unmet_at_law : (numbers : Numbers) (motor : ℕ) (ps qs : List ℕ) → unmet_from numbers motor 0 ps qs ≡ None
    → (i : ℕ) → i < length ps → i < length qs → (met numbers motor i (get_or ps i 0) ≡ true) × (met numbers motor i (get_or qs i 0) ≡ true)
unmet_at_law numbers motor ps qs e i h k =
    rw (zero-add i) at
    (judged_at (met numbers motor) (met numbers motor) None Some (λ j f. let z : ◌≡◌ {A = ℕ} 0 1 = cc in omega arith) 0 ps qs
    (sym (unmet_is numbers motor 0 ps qs) ∙ e) i h k)

-- a field that lacks something is one of the fields
pub unmet_below : (numbers : Numbers) (motor i : ℕ) (ps qs : List ℕ) {j : ℕ} → unmet_from numbers motor i ps qs ≡ Some j → j < i + length ps
unfolding unmet_from
unmet_below numbers motor i [] qs e = let z : ◌≡◌ {A = ℕ} 0 1 = cc in absurd (omega arith)
unmet_below numbers motor i (p ∷ ps) [] e = let z : ◌≡◌ {A = ℕ} 0 1 = cc in absurd (omega arith)
unmet_below numbers motor i (p ∷ ps) (q ∷ qs) {j} e = either (met numbers motor i p && met numbers motor i q) (unmet_below numbers motor (suc i) ps qs) e
  where
    either : {r : Option ℕ} (t : Bool) → (r ≡ Some j → j < suc i + length ps) → cond t r (Some i) ≡ Some j → j < i + suc (length ps)
    either true f g = omega (arith, f g)
    either false f g = let z : i ≡ j = cc in omega arith

-- ## As a loop goes about it

-- of the first n fields, those before i pass, so that the rest decides
pub record Passed {R : Type 0} (whole : R) (a b : ℕ → ℕ → Bool) (done : R) (stop : ℕ → R) (n : ℕ) (ps qs : List ℕ) (i : ℕ) : Type 0 where
  pub is : whole ≡ judged a b done stop i (drop i (take n ps)) (drop i (take n qs))

module _ {R : Type 0} {whole : R} {a b : ℕ → ℕ → Bool} {done : R} {stop : ℕ → R} {n : ℕ} {ps qs : List ℕ} {i : ℕ}
    (before : Passed whole a b done stop n ps qs i) where
  -- field i, and what lies behind it
  next : i < n → i < length ps → i < length qs
      → whole
      ≡ cond (a i (get_or ps i 0) && b i (get_or qs i 0)) (judged a b done stop (i + 1) (drop (i + 1) (take n ps)) (drop (i + 1) (take n qs))) (stop i)
  unfolding judged
  next h k l =
      before.is
      ∙ rw (
        drop-cons (take n ps) i 0 (omega (arith, length-take n ps)),
        drop-cons (take n qs) i 0 (omega (arith, length-take n qs)),
        get_or-take n ps i 0 h,
        get_or-take n qs i 0 h,
        add-one i,
      )

  -- field i passes
  pub passed_on : {r t : Bool} → r ≡ a i (get_or ps i 0) → r ≡ true → t ≡ b i (get_or qs i 0) → t ≡ true
      → (i < n) × (i < length ps) × (i < length qs) → Passed whole a b done stop n ps qs (i + 1)
  passed_on e f g k h = record { is = next h.0 h.1 h.2 ∙ rw (sym e ∙ f, sym g ∙ k) }

  -- it fails the first test, or the second
  pub first_fails : {r : Bool} → r ≡ a i (get_or ps i 0) → r ≡ false → (i < n) × (i < length ps) × (i < length qs) → stop i ≡ whole
  first_fails e f h = sym (next h.0 h.1 h.2 ∙ rw (sym e ∙ f))

  pub second_fails : {r t : Bool} → r ≡ a i (get_or ps i 0) → r ≡ true → t ≡ b i (get_or qs i 0) → t ≡ false
      → (i < n) × (i < length ps) × (i < length qs) → stop i ≡ whole
  second_fails e f g k h = sym (next h.0 h.1 h.2 ∙ rw (sym e ∙ f, sym g ∙ k))

  -- there is no field i
  pub passed_all : min n (length ps) ≤ i → done ≡ whole
  unfolding judged
  passed_all h = let none_left : length (take n ps) ≤ i = omega (arith, length-take n ps) in sym (before.is ∙ rw (drop_of_length-le (take n ps) none_left))
