-- Runs of neighbouring fields of one encoding: how long the first is, as the code finds it, and what stands behind it.
use Prim.Native.Nat.{ℕ, suc, ◌+◌, ◌<◌, ◌≤◌}
use mathlib.Core.Bool.{Bool, true, false, ◌&&◌}
use mathlib.Core.List.{List, [], ◌∷◌}
use mathlib.Core.Path.{◌≡◌, refl, sym, ap, ap₂, ◌∙◌}
use native.Mathlib.Numerals.{add-one}
use native.Mathlib.Omega.{arith}
use lib.Dec.{eqb, ltb}
use lib.ListN.{length, drop, get_or, length-drop, drop_of_length-le}
use lib.Seq.{drop-cons, drop-drop}
use borrow.Author.Tests.{eq-eqb, ne_eqb, lt-ltb, le-ltb, ltb-true}
use Rattle.bits.proofs.Laws.{by_test}
use Rattle.raws.specs.Chunks.{first_run}
use Rattle.raws.specs.Groups.{size, Run, runs_behind, runs}

-- ## Sizes

pub size_some : (e : ℕ) → 1 ≤ size e
unfolding size
size_some e =
    by_test (λ k. 1 ≤ k) (eqb e 6) (λ _. omega arith)
    (λ _. by_test (λ k. 1 ≤ k) (eqb e 7) (λ _. omega arith)
    (λ _. by_test (λ k. 1 ≤ k) (eqb e 8) (λ _. omega arith) (λ _. omega arith)))

pub size_few : (e : ℕ) → size e ≤ 8
unfolding size
size_few e =
    by_test (λ k. k ≤ 8) (eqb e 6) (λ _. omega arith)
    (λ _. by_test (λ k. k ≤ 8) (eqb e 7) (λ _. omega arith)
    (λ _. by_test (λ k. k ≤ 8) (eqb e 8) (λ _. omega arith) (λ _. omega arith)))

-- an encoding whose size is another than 1 has groups
pub size_more : (e : ℕ) {m : ℕ} → m ≡ size e → (m ≡ 1 → ⊥) → 1 < size e
size_more e h k = omega (arith, size_some e)

-- ## What `chunk` finds

-- the n fields from field i on are of encoding e, and belong to one run
pub record Alike (es : List ℕ) (i e n : ℕ) : Type 0 where
  pub few : (1 ≤ n) × (n ≤ size e)
  pub inside : i + n ≤ length es
  pub is : runs (drop i es) ≡ runs_behind e n (drop (i + n) es)

pub alike_first : (es : List ℕ) (i : ℕ) → i < length es → Alike es i (get_or es i 0) 1
unfolding runs
alike_first es i h =
    record {
      few = omega (arith, size_some (get_or es i 0));
      inside = omega arith;
      is = rw (add-one i, drop-cons es i 0 h);
    }

-- no field is left, or one of another encoding is next, or the run has its size
none_left : (e n : ℕ) {fs : List ℕ} → fs ≡ [] → n ≡ first_run (runs_behind e n fs)
unfolding runs_behind first_run
none_left e n h = rw h

stops : (e n f : ℕ) {fs gs : List ℕ} → gs ≡ f ∷ fs → (eqb f e && ltb n (size e)) ≡ false → n ≡ first_run (runs_behind e n gs)
unfolding runs_behind first_run
stops e n f h t = rw (h, t)

full : (b : Bool) (n k : ℕ) → k ≤ n → (b && ltb n k) ≡ false
full true n k h = le-ltb n k h
full false n k h = refl

at_size : (e n : ℕ) (fs : List ℕ) → size e ≤ n → n ≡ first_run (runs_behind e n fs)
at_size e n [] h = none_left e n refl
at_size e n (f ∷ fs) h = stops e n f refl (full (eqb f e) n (size e) h)

module _ {es : List ℕ} {i e n : ℕ} (alike : Alike es i e n) where
  pub alike_end : length es ≤ i + n → n ≡ first_run (runs (drop i es))
  alike_end h = none_left e n (drop_of_length-le es h) ∙ ap first_run (sym alike.is)

  pub alike_other : i + n < length es → (get_or es (i + n) 0 ≡ e → ⊥) → n ≡ first_run (runs (drop i es))
  alike_other h d =
      let test : (eqb (get_or es (i + n) 0) e && ltb n (size e)) ≡ false = rw (ne_eqb (get_or es (i + n) 0) e d) in
      stops e n (get_or es (i + n) 0) (drop-cons es (i + n) 0 h) test ∙ ap first_run (sym alike.is)

  pub alike_full : {most : ℕ} → most ≡ size e → most ≤ n → n ≡ first_run (runs (drop i es))
  alike_full q h = at_size e n (drop (i + n) es) (omega arith) ∙ ap first_run (sym alike.is)

  pub alike_on : {most : ℕ} → most ≡ size e → get_or es (i + n) 0 ≡ e → (n < most) × (i + n < length es) → Alike es i e (n + 1)
  unfolding runs_behind
  alike_on q d h =
      let next : i + (n + 1) ≡ suc (i + n) = omega arith in
      record {
        few = omega (arith, alike.few);
        inside = omega arith;
        is = alike.is ∙ rw (drop-cons es (i + n) 0 h.1, eq-eqb (get_or es (i + n) 0) e d, lt-ltb n (size e) (omega arith), next, add-one n);
      }

-- ## What stands behind the first run

-- these are the runs of n fields of encoding e and the fields fs behind them: the first has `more` of those too
record First (e n : ℕ) (fs : List ℕ) (rs : List Run) : Type 0 where
  more : ℕ
  few : n + more ≤ size e
  inside : more ≤ length fs
  is : rs ≡ record { encoding = e; fields = n + more } ∷ runs (drop more fs)

first_more : (e n f : ℕ) (fs : List ℕ) {rs : List Run} → First e (suc n) fs rs → First e n (f ∷ fs) rs
first_more e n f fs r =
    let shift : suc n + r.more ≡ n + suc r.more = omega arith in
    record {
      more = suc r.more;
      few = omega (arith, r.few);
      inside = omega (arith, r.inside);
      is = r.is ∙ ap (λ k. record { encoding = e; fields = k } ∷ runs (drop r.more fs)) shift;
    }

first_here : (e n : ℕ) (fs : List ℕ) → n ≤ size e → First e n fs (record { encoding = e; fields = n } ∷ runs fs)
first_here e n fs h =
    let none : n ≡ n + 0 = omega arith in
    record { more = 0; few = omega arith; inside = omega arith; is = ap (λ k. record { encoding = e; fields = k } ∷ runs fs) none }

-- what two tests say, the second says
pub both : (a b : Bool) → (a && b) ≡ true → b ≡ true
both true b h = h
both false b h = cc

first_run_law : (e n : ℕ) (fs : List ℕ) → n ≤ size e → First e n fs (runs_behind e n fs)
unfolding runs_behind runs
first_run_law e n [] h = first_here e n [] h
first_run_law e n (f ∷ fs) h =
    by_test (First e n (f ∷ fs)) (eqb f e && ltb n (size e))
    (λ t. first_more e n f fs (first_run_law e (suc n) fs (ltb-true n (size e) (both (eqb f e) (ltb n (size e)) t))))
    (λ t. first_here e n (f ∷ fs) h)

-- the run that field i begins, and the runs behind it
pub record RunAt (es : List ℕ) (i n : ℕ) : Type 0 where
  pub few : (1 ≤ n) × (n ≤ size (get_or es i 0)) × (n ≤ 8)
  pub inside : i + n ≤ length es
  pub is : runs (drop i es) ≡ record { encoding = get_or es i 0; fields = n } ∷ runs (drop (i + n) es)

pub run_at : (es : List ℕ) (i : ℕ) {n : ℕ} → n ≡ first_run (runs (drop i es)) → i < length es → RunAt es i n
unfolding runs first_run
run_at es i {n} e h =
    let c : ℕ = get_or es i 0 in
    let r = first_run_law c 1 (drop (suc i) es) (size_some c) in
    let start : runs (drop i es) ≡ record { encoding = c; fields = 1 + r.more } ∷ runs (drop r.more (drop (suc i) es)) = rw (drop-cons es i 0 h) r.is in
    let count : n ≡ 1 + r.more = e ∙ ap first_run start in
    let place : suc i + r.more ≡ i + n = omega arith in
    record {
      few = omega (arith, r.few, size_few c);
      inside = omega (arith, simp length-drop at r.inside);
      is =
          start
          ∙ ap₂ (λ k fs. record { encoding = c; fields = k } ∷ runs fs) (sym count) (drop-drop r.more (suc i) es ∙ ap (λ k. drop k es) place);
    }

-- a field whose encoding has no groups is a run
pub run_one : (es : List ℕ) (i : ℕ) → size (get_or es i 0) ≡ 1 → i < length es → RunAt es i 1
run_one es i e h =
    let count : 1 ≡ first_run (runs (drop i es)) = omega (arith, (run_at es i {n = first_run (runs (drop i es))} refl h).few) in
    run_at es i count h
