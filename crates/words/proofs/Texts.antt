-- The bytes that a text writes, counted and put one after the other, and what a text comes to.
use Rattle.std.proofs.Common.{ℕ, suc, ◌+◌, ◌<◌, ◌≤◌, true, List, [], ◌∷◌, ◌≡◌, Option, Some, None, refl, sym, ap, ◌∙◌, length, arith}
use native.Mathlib.Nat.{zero-add, add-zero}
use native.Mathlib.Numerals.{add-one}
use lib.ListN.{set, length-set}
use lib.Seq.{sets, sets-eq}
use mathlib.Core.Bool.{false≢true}
use Rattle.std.proofs.lemmas.Bool.{leb-true}
use Rattle.std.proofs.lemmas.Option.{none-some}
use Rattle.words.specs.Written.{in_front, counted, over, put_of, fits, stopped}

-- n bytes, and those behind them
unfoldable pub more : ℕ → Option (List ℕ) → Option ℕ
more n None = None
more n (Some bytes) = Some (n + length bytes)

pub more_none : (o : Option (List ℕ)) → more 0 o ≡ counted o
unfolding more counted
more_none None = refl
more_none (Some bytes) = ap Some (zero-add (length bytes))

pub more_one : (n b : ℕ) (o : Option (List ℕ)) → more n (in_front (Some b) o) ≡ more (n + 1) o
unfolding more in_front
more_one n b None = refl
more_one n b (Some bytes) =
    let e : n + suc (length bytes) ≡ n + 1 + length bytes = omega arith in
    ap Some e

pub more_end : (n : ℕ) (s : List ℕ) → length s ≡ 0 → more n (stopped s) ≡ Some n
unfolding more
more_end n [] h = ap Some (add-zero n)
more_end n (b ∷ s) h = absurd (omega arith)

pub more_wrong : (n : ℕ) (s : List ℕ) → 0 < length s → more n (stopped s) ≡ None
unfolding more
more_wrong n [] h = absurd (omega arith)
more_wrong n (b ∷ s) h = refl

-- ## Put

abbrev pub bytes_in : Option (List ℕ) → List ℕ
bytes_in None = []
bytes_in (Some bytes) = bytes

sets_over : (bytes out : List ℕ) → length bytes ≤ length out → sets out 0 bytes ≡ over bytes out
unfolding over
sets_over bytes out h =
    let whole : 0 + length bytes ≤ length out = omega arith in
    sets-eq bytes out 0 whole ∙ rw (zero-add (length bytes))

-- of the bytes o, those before n are put over what was there; the others, p, are right and fit
pub record Laid (o p : Option (List ℕ)) (there out : List ℕ) (n : ℕ) : Type 0 where
  pub room : length out ≡ length there
  pub right : p ≡ Some (bytes_in p)
  pub fit : n + length (bytes_in p) ≤ length there
  pub is : sets out n (bytes_in p) ≡ (put_of o there).1

pub laid_first : (o : Option (List ℕ)) (there : List ℕ) → fits o there ≡ true → Laid o o there there 0
unfolding fits put_of
laid_first None there h = absurd (false≢true h)
laid_first (Some bytes) there h =
    let small : length bytes ≤ length there = leb-true _ _ h in
    record { room = refl; right = refl; fit = omega arith; is = sets_over bytes there small ∙ rw h }

module _ {o p : Option (List ℕ)} {there out : List ℕ} {n : ℕ} (laid : Laid o p there out n) where
  pub laid_on : (b : ℕ) (q : Option (List ℕ)) → p ≡ in_front (Some b) q → Laid o q there (set out n b) (n + 1)
  unfolding in_front
  laid_on b None e = absurd (none-some _ (sym e ∙ laid.right))
  laid_on b (Some bytes) e =
      record {
        room = simp length-set laid.room;
        right = refl;
        fit = omega (arith, laid.fit, ap (λ o. length (bytes_in o)) e);
        is = rw (add-one n) (sym (ap (λ o. sets out n (bytes_in o)) e) ∙ laid.is);
      }

  pub laid_stopped : (s : List ℕ) → p ≡ stopped s → out ≡ (put_of o there).1
  laid_stopped [] e = ap (λ o. sets out n (bytes_in o)) (sym e) ∙ laid.is
  laid_stopped (b ∷ s) e = absurd (none-some _ (sym e ∙ laid.right))

  pub laid_full : length out ≤ n → out ≡ (put_of o there).1
  laid_full h = nothing_more (bytes_in p) (omega (arith, laid.fit, laid.room)) ∙ laid.is
    where
      nothing_more : (bytes : List ℕ) → length bytes ≡ 0 → out ≡ sets out n bytes
      nothing_more [] e = refl
      nothing_more (b ∷ s) e = absurd (omega arith)
