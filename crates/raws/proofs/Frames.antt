-- What stands before a frame's fields, and then the fields: the readings of frames at a place, as the code puts them together.
use Prim.Native.Nat.{ℕ}
use mathlib.Core.Bool.{Bool, true, false}
use mathlib.Core.List.{List}
use mathlib.Core.Path.{◌≡◌, refl, sym, ap, ◌∙◌}
use lib.ListN.{length, take}
use lib.Seq.{take_all}
use native.Mathlib.Omega.{arith}
use lib.Dec.{leb}
use borrow.Author.Tests.{eq-eqb, ne_eqb, leb-true, leb-false}
use Rattle.std.specs.Prelude.{Result, Ok, Err, min}
use Rattle.reader.specs.declared.Cursor.{Cursor}
use Rattle.reader.specs.declared.Fault.{Fault}
use Rattle.reader.specs.declared.Fault.TheVariants.{Cut, Corrupt}
use Rattle.reader.specs.Got.{Spent, Got, got, cut, corrupt, over, after, Reader, ◌>>=◌, give, fault}
use Rattle.reader.specs.Place.{rest, on, read_at}
use Rattle.reader.proofs.Behind.{then_ok, then_err}
use Rattle.reader.proofs.Reading.{onward_give, on_both, met}
use Rattle.raws.specs.declared.Front.{Front}
use Rattle.raws.specs.declared.Raw.{Raw}
use Rattle.raws.specs.Chunks.{settled, raw_of}
use Rattle.raws.specs.Groups.{numbers}
use Rattle.raws.specs.Owes.{some_of}
use Rattle.raws.specs.Place.{Lent, beside, stopped, lent_at}
use Rattle.raws.specs.Raws.{raw, slow_raw}

-- ## Behind the reading

ok_err : {f : Front} {d : Fault} → ◌≡◌ {A = Result Front Fault} (Ok f) (Err d) → ⊥
ok_err e = cc

err_ok : {f : Front} {d : Fault} → ◌≡◌ {A = Result Front Fault} (Err d) (Ok f) → ⊥
err_ok e = cc

-- a reading as a value is the reading
pub value_is : (c : Cursor) (g : Got Raw) (r : Result Front Fault) (vs : List ℕ) → settled r vs ≡ lent_at c g → raw_of r vs ≡ read_at c g
unfolding lent_at read_at
value_is c (got x u) (Ok f) vs e =
    let front : ◌≡◌ {A = Result Front Fault} (Ok f) (Ok (record { behind = on c u; iteration = x.iteration; time = x.time })) = ap (λ (l : Lent). l.front) e in
    let same : f ≡ record { behind = on c u; iteration = x.iteration; time = x.time } = cc in
    λ i. Ok (record { iteration = (same i).iteration; time = (same i).time; fields = (e i).fields }, (same i).behind)
value_is c (got x u) (Err d) vs e = absurd (err_ok (ap (λ (l : Lent). l.front) e))
value_is c cut (Ok f) vs e = absurd (ok_err (ap (λ (l : Lent). l.front) e))
value_is c cut (Err d) vs e = let same : ◌≡◌ {A = Result Front Fault} (Err d) (Err Cut) = ap (λ (l : Lent). l.front) e in cc
value_is c corrupt (Ok f) vs e = absurd (ok_err (ap (λ (l : Lent). l.front) e))
value_is c corrupt (Err d) vs e = let same : ◌≡◌ {A = Result Front Fault} (Err d) (Err Corrupt) = ap (λ (l : Lent). l.front) e in cc

-- ## The fields, behind the numbers before them

-- as the code reads them, and as the meaning does
pub fields_is : (es s : List ℕ) (i t : ℕ) (c : Cursor) {x : Lent} → x ≡ lent_at c (over (raw i t) (numbers es (rest c s)))
    → x ≡ lent_at c (◌>>=◌ (numbers es) (λ vs. give (raw i t vs)) (rest c s))
unfolding ◌>>=◌
fields_is es s i t c e = e ∙ ap (lent_at c) (sym (onward_give (raw i t) (rest c s) (numbers es (rest c s))))

as_many : (es : List ℕ) (n : ℕ) {m : ℕ} → m ≡ min n (length es) → take m es ≡ take n es
as_many es n {m} h = either (leb n (length es)) refl
  where
    either : (b : Bool) → leb n (length es) ≡ b → take m es ≡ take n es
    either true t = let same : m ≡ n = omega (arith, leb-true n (length es) t) in rw same
    either false t = take_all m es (omega (arith, leb-false n (length es) t)) ∙ sym (take_all n es (omega (arith, leb-false n (length es) t)))

-- a count over the rooms takes them all
pub all_rooms : (es s : List ℕ) (i t : ℕ) (c : Cursor) (n : ℕ) {m : ℕ} {x : Lent} → m ≡ min n (length es)
    → x ≡ lent_at c (over (raw i t) (numbers (take m es) (rest c s))) → x ≡ lent_at c (over (raw i t) (numbers (take n es) (rest c s)))
all_rooms es s i t c n h e = e ∙ ap (λ fs. lent_at c (over (raw i t) (numbers fs (rest c s)))) (as_many es n h)

-- ## A number, and what is read behind it

lent_after : (c : Cursor) (u : Spent) (g : Got Raw) → lent_at c (after u g) ≡ lent_at (on c u) g
unfolding lent_at after
lent_after c u (got x v) = λ j. beside (Ok (record { behind = on_both c u v j; iteration = x.iteration; time = x.time })) x.fields
lent_after c u cut = refl
lent_after c u corrupt = refl

lent_met : (c : Cursor) (d : Fault) → lent_at c (met d) ≡ stopped d
unfolding lent_at
lent_met c Cut = refl
lent_met c Corrupt = refl

module _ (K : ℕ → Reader Raw) (s : List ℕ) (c : Cursor) (f : Reader ℕ) where
  pub lent_on : {v : ℕ} {q : Cursor} {x : Lent} → Ok (v, q) ≡ read_at c (f (rest c s)) → x ≡ lent_at q (K v (rest q s)) → x ≡ lent_at c (◌>>=◌ f K (rest c s))
  lent_on e y = then_ok lent_at lent_after K s c f e y

  pub lent_stop : {d : Fault} → Err d ≡ read_at c (f (rest c s)) → stopped d ≡ lent_at c (◌>>=◌ f K (rest c s))
  lent_stop {d} e = then_err lent_at lent_after K s c f e (sym (lent_met c d))

-- ## The frames

module _ (n : ℕ) (es s : List ℕ) (c : Cursor) {x : Lent} where
  pub slow_is : x ≡ lent_at c (over (raw 0 0) (numbers (take n es) (rest c s))) → (n ≡ 0 → ⊥) → x ≡ lent_at c (slow_raw (some_of n es) (rest c s))
  unfolding slow_raw
  slow_is y more = rw (ne_eqb n 0 more) (fields_is (take n es) s 0 0 c y)

-- no slow lists
pub slow_none : (n : ℕ) (es s : List ℕ) (c : Cursor) → n ≡ 0 → stopped Corrupt ≡ lent_at c (slow_raw (some_of n es) (rest c s))
unfolding slow_raw fault lent_at
slow_none n es s c h = rw (eq-eqb n 0 h)

-- as many fields as a definition has
pub counted : (R : List ℕ → Reader Raw) (es s : List ℕ) (c : Cursor) {n m : ℕ} {x : Result (Raw × Cursor) Fault} → x ≡ read_at c (R (take n es) (rest c s))
    → n ≡ m → x ≡ read_at c (R (take m es) (rest c s))
counted R es s c e count = e ∙ ap (λ k. read_at c (R (take k es) (rest c s))) count
