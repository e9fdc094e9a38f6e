-- The predictors that there are: the numbers below 12. Header numbers as numbers.
use Prim.Native.Nat.{ℕ, zero, suc, ◌+◌, ◌<◌, ◌≤◌}
use mathlib.Core.Bool.{true}
use mathlib.Core.List.{List, [], ◌∷◌}
use mathlib.Core.Logic.{⊎_elim}
use mathlib.Core.Path.{◌≡◌, refl, sym, ap, ◌∙◌}
use native.Mathlib.Nat.{eq-or-lt_of_le}
use native.Mathlib.Omega.{arith}
use lib.Dec.{ltb}
use borrow.Author.Tests.{ltb-true, lt-ltb, le-ltb, eq-eqb, ne_eqb}
use Rattle.std.specs.Prelude.{Option, Some, None, Result, Ok, Err}
use Rattle.std.specs.Result.{OkIff, result_ok}
use Rattle.plan.specs.Known.{among, predictors}
use Rattle.plan.specs.Plan.{number_code, number_of}

-- k numbers from m on
count_up : (m k : ℕ) → List ℕ
count_up m zero = []
count_up m (suc k) = m ∷ count_up (suc m) k

among_counted : (m k p : ℕ) → m ≤ p → among (count_up m k) p ≡ ltb p (m + k)
unfolding among count_up
among_counted m zero p h = sym (le-ltb p (m + 0) (omega arith))
among_counted m (suc k) p h =
    ⊎_elim
    (λ e. rw (eq-eqb p m (sym e)) (sym (lt-ltb p (m + suc k) (omega arith))))
    (λ l. rw (ne_eqb p m (λ e. omega arith)) (among_counted (suc m) k p l ∙ ap (ltb p) (omega arith)))
    (eq-or-lt_of_le h)

pub predictor_is : (p : ℕ) → ltb p 12 ≡ among predictors p
unfolding count_up
predictor_is p = sym (among_counted 0 12 p (omega arith))

pub predictor_below : (p : ℕ) → among predictors p ≡ true → p < 12
predictor_below p e = ltb-true p 12 (predictor_is p ∙ e)

-- ## Header numbers

pub number_given : (c : ℕ) → c < 65536 → Some c ≡ number_of c
unfolding number_of
number_given c h = simp (lt-ltb c 65536 h)

pub number_absent : (c : ℕ) → 65536 ≤ c → None ≡ number_of c
unfolding number_of
number_absent c h = simp (le-ltb c 65536 h)

-- it has 16 bits, where there is one
abbrev pub NumberSized : Option ℕ → Type 0
NumberSized None = Unit
NumberSized (Some v) = v < 65536

pub number_code_small : (x : Option ℕ) → NumberSized x → number_code x ≤ 65536
unfolding number_code
number_code_small None h = omega arith
number_code_small (Some v) h = omega arith

pub number_of_code : (x : Option ℕ) → NumberSized x → number_of (number_code x) ≡ x
unfolding number_code number_of
number_of_code None h = refl
number_of_code (Some v) h = sym (number_given v h)

-- what `try_from(..).ok()` tells
pub number_told : {E : Type 0} {r : Option ℕ} (c : ℕ) (t : Result ℕ E) → OkIff t (c < 65536) c → r ≡ result_ok t → r ≡ number_of c
number_told c (Ok x) h f = f ∙ ap Some h.1 ∙ number_given c h.0
number_told c (Err d) h f = f ∙ number_absent c (omega arith)
