-- Readings put together: the laws of `over`, `after` and `◌>>=◌`, and what they come to at the places of a section.
-- The laws at places are stated over F, what the code answers for a reading at a place, whatever the type of its answer.
use Prim.Native.Nat.{ℕ}
use mathlib.Core.List.{List}
use mathlib.Core.Path.{◌≡◌, refl, sym, ap, ap₂, ◌∙◌}
use native.Mathlib.Nat.{add_assoc, add-zero, zero-add}
use lib.ListN.{drop}
use lib.Seq.{drop-drop}
use Rattle.std.specs.Prelude.{Result, Ok, Err, IsErrAnd}
use Rattle.std.proofs.lemmas.Result.{err_from_is_err_and}
use Rattle.reader.specs.declared.Cursor.{Cursor}
use Rattle.reader.specs.declared.Fault.{Fault}
use Rattle.reader.specs.declared.Fault.TheVariants.{Cut, Corrupt}
use Rattle.reader.specs.declared.Group.{Group}
use Rattle.reader.specs.Got.{Spent, nothing, both, Got, got, cut, corrupt, over, after, Reader, onward, ◌>>=◌, give}
use Rattle.reader.specs.Place.{rest, on, read_at, padded, no_values, group_at}

-- ## Without places

pub spent≡ : {u v : Spent} → u.bytes ≡ v.bytes → u ≡ v
spent≡ e = λ i. record { bytes = e i }

pub over_over : {A B C : Type 0} (f : A → B) (h : B → C) (g : Got A) → over h (over f g) ≡ over (λ a. h (f a)) g
unfolding over
over_over f h (got a u) = refl
over_over f h cut = refl
over_over f h corrupt = refl

pub over_after : {A B : Type 0} (f : A → B) (u : Spent) (g : Got A) → over f (after u g) ≡ after u (over f g)
unfolding over after
over_after f u (got a v) = refl
over_after f u cut = refl
over_after f u corrupt = refl

after_nothing : {A : Type 0} (g : Got A) → after nothing g ≡ g
unfolding after
after_nothing (got a u) = ap (got a) (spent≡ (zero-add u.bytes))
after_nothing cut = refl
after_nothing corrupt = refl

-- a last `give` only changes the value
pub onward_give : {A B : Type 0} (f : A → B) (c : List ℕ) (g : Got A) → onward (λ a. give (f a)) c g ≡ over f g
unfolding onward over after give
onward_give f c (got a u) = ap (got (f a)) (spent≡ (add-zero u.bytes))
onward_give f c cut = refl
onward_give f c corrupt = refl

pub over_map : {A B C : Type 0} (f : B → C) (h : A → B) (r : Reader A) (c : List ℕ) → over f (◌>>=◌ r (λ a. give (h a)) c) ≡ over (λ a. f (h a)) (r c)
unfolding ◌>>=◌
over_map f h r c = ap (over f) (onward_give h c (r c)) ∙ over_over h f (r c)

-- what is read behind is what the continuation comes to
pub onward_same : {A B : Type 0} (k l : A → Reader B) → ((a : A) (d : List ℕ) → k a d ≡ l a d) → (c : List ℕ) (g : Got A) → onward k c g ≡ onward l c g
unfolding onward
onward_same k l same c (got a u) = ap (after u) (same a (drop u.bytes c))
onward_same k l same c cut = refl
onward_same k l same c corrupt = refl

-- the value is changed behind the last reading
pub over_onward : {A B C : Type 0} (f : B → C) (k : A → Reader B) (c : List ℕ) (g : Got A) → over f (onward k c g) ≡ onward (λ a d. over f (k a d)) c g
unfolding onward
over_onward f k c (got a u) = over_after f u (k a (drop u.bytes c))
over_onward f k c cut = unfold over in refl
over_onward f k c corrupt = unfold over in refl

-- what takes no byte stands before a reader as if it were not there
pub give_onward : {A B : Type 0} (a : A) (k : A → Reader B) (c : List ℕ) → ◌>>=◌ (give a) k c ≡ k a c
unfolding ◌>>=◌ give onward
give_onward a k c = after_nothing (k a c)

-- ## At places

pub on_both : (c : Cursor) (u v : Spent) → on c (both u v) ≡ on (on c u) v
on_both c u v = λ i. record { at = sym (add_assoc c.at u.bytes v.bytes) i }

pub on_nothing : (c : Cursor) → on c nothing ≡ c
on_nothing c = λ i. record { at = add-zero c.at i }

pub read_after : {A : Type 0} (c : Cursor) (u : Spent) (g : Got A) → read_at c (after u g) ≡ read_at (on c u) g
unfolding read_at after
read_after c u (got a w) = ap (λ p. Ok (a, p)) (on_both c u w)
read_after c u cut = refl
read_after c u corrupt = refl

group≡ : {n m : Cursor} (vs : List ℕ) → n ≡ m → ◌≡◌ {A = Group} (record { step = Ok n; values = vs }) (record { step = Ok m; values = vs })
group≡ vs e = λ i. record { step = Ok (e i); values = vs }

pub group_after : (c : Cursor) (u : Spent) (g : Got (List ℕ)) → group_at c (after u g) ≡ group_at (on c u) g
unfolding group_at after
group_after c u (got vs w) = group≡ (padded 8 vs) (on_both c u w)
group_after c u cut = refl
group_after c u corrupt = refl

-- behind a value that was got, the rest is read at the next place
pub onward_got : {A B R : Type 0} (F : Cursor → Got B → R) → ((c : Cursor) (u : Spent) (g : Got B) → F c (after u g) ≡ F (on c u) g)
    → (k : A → Reader B) (s : List ℕ) (c : Cursor) (a : A) (u : Spent) → F c (onward k (rest c s) (got a u)) ≡ F (on c u) (k a (rest (on c u) s))
unfolding onward
onward_got F F-after k s c a u = F-after c u (k a (drop u.bytes (rest c s))) ∙ ap (λ d. F (on c u) (k a d)) (drop-drop u.bytes c.at s)

-- ## What the code answers where a reader before it answered a value, or a fault

-- the reading in which a fault was met
abbrev pub met : {A : Type 0} → Fault → Got A
met Cut = cut
met Corrupt = corrupt

pub ok_parts : {A : Type 0} {a b : A} {p q : Cursor} → ◌≡◌ {A = Result (A × Cursor) Fault} (Ok (a, p)) (Ok (b, q)) → (a ≡ b) × (p ≡ q)
ok_parts {A} {a} {b} {p} {q} e = let same : ◌≡◌ {A = A × Cursor} (a, p) (b, q) = cc in (ap (λ x. x.0) same, ap (λ x. x.1) same)

module _ {A B R : Type 0} (F : Cursor → Got B → R) (G : B → Cursor → R) (F-got : (c : Cursor) (b : B) (u : Spent) → F c (got b u) ≡ G b (on c u))
    (f : A → B) (c : Cursor) where
  arm_ok : (g : Got A) {a : A} {n : Cursor} → Ok (a, n) ≡ read_at c g → G (f a) n ≡ F c (over f g)
  unfolding over read_at
  arm_ok (got w u) e = let same = ok_parts e in ap₂ (λ x n. G (f x) n) same.0 same.1 ∙ sym (F-got c (f w) u)
  arm_ok cut e = absurd (cc)
  arm_ok corrupt e = absurd (cc)

  arm_err : (g : Got A) {d : Fault} → Err d ≡ read_at c g → F c (met d) ≡ F c (over f g)
  unfolding over read_at
  arm_err (got w u) e = absurd (cc)
  arm_err cut {d} e = let same : d ≡ Cut = cc in rw same
  arm_err corrupt {d} e = let same : d ≡ Corrupt = cc in rw same

read_got : {A : Type 0} (c : Cursor) (a : A) (u : Spent) → read_at c (got a u) ≡ Ok (a, on c u)
unfolding read_at
read_got c a u = refl

group_got : (c : Cursor) (vs : List ℕ) (u : Spent) → group_at c (got vs u) ≡ record { step = Ok (on c u); values = padded 8 vs }
unfolding group_at
group_got c vs u = refl

pub read_met : {A : Type 0} (c : Cursor) (e : Fault) → read_at {A = A} c (met e) ≡ Err e
unfolding read_at
read_met c Cut = refl
read_met c Corrupt = refl

pub group_met : (c : Cursor) (e : Fault) → group_at c (met e) ≡ no_values (Err e)
unfolding group_at
group_met c Cut = refl
group_met c Corrupt = refl

-- no value, whatever is made of it
pub over_met : {A B : Type 0} (f : A → B) (d : Fault) → over f (met d) ≡ met d
unfolding over
over_met f Cut = refl
over_met f Corrupt = refl

-- a value made of a value
module _ {A B : Type 0} (f : A → B) (c : Cursor) (g : Got A) where
  pub made_ok : {a : A} {b : B} {n : Cursor} → Ok (a, n) ≡ read_at c g → b ≡ f a → Ok (b, n) ≡ read_at c (over f g)
  made_ok {n = n} e h = ap (λ x. Ok (x, n)) h ∙ arm_ok read_at (λ b n. Ok (b, n)) read_got f c g e

  pub made_err : {d : Fault} → Err d ≡ read_at c g → Err d ≡ read_at c (over f g)
  made_err {d} e = sym (read_met c d) ∙ arm_err read_at (λ b n. Ok (b, n)) read_got f c g e

-- a group made of a value
abbrev next : List ℕ → Cursor → Group
next vs n = record { step = Ok n; values = padded 8 vs }

module _ {A : Type 0} (f : A → List ℕ) (c : Cursor) (g : Got A) where
  pub group_ok : {a : A} {n : Cursor} → Ok (a, n) ≡ read_at c g → next (f a) n ≡ group_at c (over f g)
  group_ok e = arm_ok group_at next group_got f c g e

  pub group_err : {d : Fault} → Err d ≡ read_at c g → no_values (Err d) ≡ group_at c (over f g)
  group_err {d} e = sym (group_met c d) ∙ arm_err group_at next group_got f c g e

-- what a `?` hands on is the fault that it met
pub handed_on : {A : Type 0} {r : Result A Fault} {d : Fault} → IsErrAnd r (λ e. e ≡ d) → r ≡ Err d
handed_on {r = r} h = let p = err_from_is_err_and r h in p.1 ∙ ap Err p.2
