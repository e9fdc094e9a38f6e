-- A value is the rest of a header line behind the prefix, of the last one that begins so, and that line stands before the section.
use Prim.Native.Nat.{ℕ, zero, suc, ◌+◌, ◌-◌, ◌<◌, ◌≤◌}
use mathlib.Core.Bool.{true, false, cond}
use mathlib.Core.List.{List, [], ◌∷◌}
use mathlib.Core.Logic.{◌⊎◌, inl, inr}
use mathlib.Core.Path.{◌≡◌, refl, sym, ap, ap₂, ◌∙◌}
use native.Mathlib.Omega.{arith}
use lib.Dec.{eqb}
use lib.ListN.{length, take, drop, get_or, length-take}
use lib.Seq.{take-nil, take-take, get_or-take, drop-drop}
use borrow.Author.Tests.{le-leb}
use Rattle.std.specs.Prelude.{Option, Some, None}
use Rattle.std.proofs.lemmas.Option.{none-some}
use Rattle.items.specs.declared.Stretch.{Stretch}
use Rattle.items.specs.Items.{given, part}
use Rattle.items.specs.Text.{ascii}
use Rattle.header.specs.Header.{newer, last_from, value_of, header_of}
use Rattle.header.specs.Lines.{lines, bare, begins, headers, total, onto}
use Rattle.header.proofs.Alone.{headers_first}
use Rattle.header.proofs.Within.{section_within, value_within}

-- of some lines that start at p, line k is the last that begins with the prefix, and s is its rest
pub record Lined (prefix : List ℕ) (p : ℕ) (ls : List (List ℕ)) (s : Stretch) : Type 0 where
  pub k : ℕ
  pub there : k < length ls
  pub begun : begins prefix (bare (get_or ls k [])) ≡ true
  pub last : (j : ℕ) → k < j → j < length ls → begins prefix (bare (get_or ls j [])) ≡ false
  pub from : s.start ≡ p + total (take k ls) + length prefix
  pub till : s.end ≡ p + total (take k ls) + length (bare (get_or ls k []))

record Kept (prefix : List ℕ) (ls : List (List ℕ)) (earlier : Option Stretch) (s : Stretch) : Type 0 where
  is : earlier ≡ Some s
  none : (j : ℕ) → j < length ls → begins prefix (bare (get_or ls j [])) ≡ false

module _ (prefix : List ℕ) (p : ℕ) (l : List ℕ) (ls : List (List ℕ)) (s : Stretch) where
  later : Lined prefix (p + length l) ls s → Lined prefix p (l ∷ ls) s
  unfolding total
  later line =
      record {
        k = suc line.k;
        there = omega (arith, line.there);
        begun = line.begun;
        last = λ j. elim j as (λ i. suc line.k < i → i < suc (length ls) → begins prefix (bare (get_or (l ∷ ls) i [])) ≡ false)
            [ zero ↦ λ h. absurd (omega arith) | suc i ↦ λ h g. line.last i (omega arith) (omega arith) ];
        from = omega (arith, line.from);
        till = omega (arith, line.till);
      }

  here : (earlier : Option Stretch) → Kept prefix ls (newer prefix p l earlier) s → Lined prefix p (l ∷ ls) s ⊎ Kept prefix (l ∷ ls) earlier s
  unfolding newer total
  here earlier kept =
      elim (begins prefix (bare l)) as (λ q. begins prefix (bare l) ≡ q
      → cond q (Some (record { start = p + length prefix; end = p + length (bare l) })) earlier ≡ Some s
      → Lined prefix p (l ∷ ls) s ⊎ Kept prefix (l ∷ ls) earlier s) [
        | true ↦ λ b here.
            let same : record { start = p + length prefix; end = p + length (bare l) } ≡ s = cc in
            let start : p + length prefix ≡ s.start = ap (λ t. t.start) same in
            let end : p + length (bare l) ≡ s.end = ap (λ t. t.end) same in
            inl
            (record {
              k = 0;
              there = omega arith;
              begun = b;
              last = λ j. elim j as (λ i. 0 < i → i < suc (length ls) → begins prefix (bare (get_or (l ∷ ls) i [])) ≡ false)
                  [ zero ↦ λ h. absurd (omega arith) | suc i ↦ λ h g. kept.none i (omega arith) ];
              from = omega arith;
              till = omega arith;
            })
        | false ↦ λ b kept_is.
            inr
            (record {
              is = kept_is;
              none = λ j. elim j as (λ i. i < suc (length ls) → begins prefix (bare (get_or (l ∷ ls) i [])) ≡ false)
                  [ zero ↦ λ h. b | suc i ↦ λ h. kept.none i (omega arith) ];
            })
      ]
      refl kept.is

lined : (prefix : List ℕ) (p : ℕ) (ls : List (List ℕ)) (earlier : Option Stretch) (s : Stretch) → last_from prefix p ls earlier ≡ Some s
    → Lined prefix p ls s ⊎ Kept prefix ls earlier s
unfolding last_from
lined prefix p [] earlier s q = inr (record { is = q; none = λ j h. absurd (omega arith) })
lined prefix p (l ∷ ls) earlier s q = by (lined prefix (p + length l) ls (newer prefix p l earlier) s q)
  where
    by : Lined prefix (p + length l) ls s ⊎ Kept prefix ls (newer prefix p l earlier) s → Lined prefix p (l ∷ ls) s ⊎ Kept prefix (l ∷ ls) earlier s
    by (inl line) = inl (later prefix p l ls s line)
    by (inr kept) = here prefix p l ls s earlier kept

-- the line that a value is read from
pub value_line : (text prefix : List ℕ) (s : Stretch) → value_of text prefix ≡ Some s → Lined prefix 0 (headers (lines text)) s
unfolding value_of
value_line text prefix s q = by (lined prefix 0 (headers (lines text)) None s q)
  where
    by : Lined prefix 0 (headers (lines text)) s ⊎ Kept prefix (headers (lines text)) None s → Lined prefix 0 (headers (lines text)) s
    by (inl line) = line
    by (inr kept) = absurd (none-some s kept.is)

-- every line of the header begins with `H` and a space
pub headers_begin : (ls : List (List ℕ)) (k : ℕ) → k < length (headers ls) → begins (ascii "H ") (bare (get_or (headers ls) k [])) ≡ true
unfolding headers
headers_begin [] k h = absurd (omega arith)
headers_begin (l ∷ ls) k h =
    elim (begins (ascii "H ") (bare l)) as (λ q. begins (ascii "H ") (bare l) ≡ q → k < length (cond q (l ∷ headers ls) [])
    → begins (ascii "H ") (bare (get_or (cond q (l ∷ headers ls) []) k [])) ≡ true) [
      | true ↦ λ b. elim k as (λ i. i < suc (length (headers ls)) → begins (ascii "H ") (bare (get_or (l ∷ headers ls) i [])) ≡ true)
          [ zero ↦ λ g. b | suc i ↦ λ g. headers_begin ls i (omega arith) ]
      | false ↦ λ b g. absurd (omega arith)
    ]
    refl h

-- and ends before the section or where it begins
line_within : (ls : List (List ℕ)) (k : ℕ) → k < length ls → total (take k ls) + length (get_or ls k []) ≤ total ls
unfolding total
line_within [] k h = absurd (omega arith)
line_within (l ∷ ls) zero h = omega arith
line_within (l ∷ ls) (suc k) h = omega (arith, line_within ls k (omega arith))

pub headers_end : (text : List ℕ) (k : ℕ) → k < length (headers (lines text))
    → total (take k (headers (lines text))) + length (get_or (headers (lines text)) k []) ≤ (header_of text).section
unfolding header_of
headers_end text k h = line_within (headers (lines text)) k h

-- ## The bytes of a value

drop_take : (n m : ℕ) (s : List ℕ) → n ≤ m → drop n (take m s) ≡ take (m - n) (drop n s)
drop_take zero m s h = let same : m - 0 ≡ m = omega arith in rw same
drop_take (suc n) zero s h = absurd (omega arith)
drop_take (suc n) (suc m) [] h = sym (take-nil (suc m - suc n))
drop_take (suc n) (suc m) (b ∷ s) h = let same : suc m - suc n ≡ m - n = omega arith in rw same (drop_take n m s (omega arith))

-- line k of the lines ls of a text
abbrev Stands : (text : List ℕ) (ls : List (List ℕ)) (k : ℕ) → Type 0
Stands text ls k = take (length (bare (get_or ls k []))) (drop (total (take k ls)) text) ≡ bare (get_or ls k [])

stands_onto : (b : ℕ) (t : List ℕ) (ls : List (List ℕ)) (k : ℕ) → eqb b 10 ≡ false → (k < length ls → Stands t ls k) → k < length (onto b ls)
    → Stands (b ∷ t) (onto b ls) k
unfolding bare total
stands_onto b t [] zero e f h = rw e
stands_onto b t [] (suc k) e f h = absurd (omega arith)
stands_onto b t (l ∷ ls) zero e f h = rw e (ap (λ s. b ∷ s) (f h))
stands_onto b t (l ∷ ls) (suc k) e f h =
    let size : suc (length l) + total (take k ls) ≡ suc (length l + total (take k ls)) = omega arith in
    rw size (f h)

stands : (t : List ℕ) (k : ℕ) → k < length (lines t) → Stands t (lines t) k
unfolding lines bare total
stands [] k h = absurd (omega arith)
stands (b ∷ t) k h =
    elim (eqb b 10) as (λ q. eqb b 10 ≡ q → let ls : List (List ℕ) = cond q ((b ∷ []) ∷ lines t) (onto b (lines t)) in k < length ls → Stands (b ∷ t) ls k) [
      | true ↦ λ e.
          elim k as (λ i. i < suc (length (lines t)) → Stands (b ∷ t) ((b ∷ []) ∷ lines t) i) [
            | zero ↦ λ g. rw e
            | suc i ↦ λ g.
                let size : 1 + total (take i (lines t)) ≡ suc (total (take i (lines t))) = omega arith in
                rw size (stands t i (omega arith))
          ]
      | false ↦ λ e g. stands_onto b t (lines t) k e (stands t k) g
    ]
    refl h

header_stands : (text : List ℕ) (k : ℕ) → k < length (headers (lines text)) → Stands text (headers (lines text)) k
header_stands text k h =
    let m : ℕ = length (headers (lines text)) in
    let first : headers (lines text) ≡ take m (lines text) = headers_first (lines text) in
    let line : get_or (headers (lines text)) k [] ≡ get_or (lines text) k [] = ap (λ ls. get_or ls k []) first ∙ get_or-take m (lines text) k [] h in
    let front : take k (headers (lines text)) ≡ take k (lines text) = ap (take k) first ∙ take-take k m (lines text) (omega arith) in
    rw (line, front) (stands text k (omega (arith, ap length first, length-take m (lines text))))

-- what stands behind the first n of the m bytes at a place
bytes_behind : (text l : List ℕ) (start n : ℕ) → n ≤ length l → take (length l) (drop start text) ≡ l → take (length l - n) (drop (start + n) text) ≡ drop n l
bytes_behind text l start n h e =
    ap (take (length l - n)) (sym (drop-drop n start text)) ∙ sym (drop_take n (length l) (drop start text) h) ∙ ap (drop n) e

-- a value is what its line has behind the prefix
module _ (text prefix : List ℕ) (s : Stretch) (q : value_of text prefix ≡ Some s) where
  pub value_bytes : part text (Some s) ≡ drop (length prefix) (bare (get_or (headers (lines text)) (value_line text prefix s q).k []))
  unfolding part given
  value_bytes =
      let line = value_line text prefix s q in
      let within = value_within text prefix s q in
      let l : List ℕ = bare (get_or (headers (lines text)) line.k []) in
      let start : ℕ = total (take line.k (headers (lines text))) in
      let from : s.start ≡ start + length prefix = omega (arith, line.from) in
      let size : s.end - s.start ≡ length l - length prefix = omega (arith, line.from, line.till) in
      let fits : length prefix ≤ length l = omega (arith, line.from, line.till) in
      rw (le-leb s.start s.end within.0, le-leb s.end (length text) (omega (arith, section_within text)))
      (ap₂ (λ n m. take n (drop m text)) size from ∙ bytes_behind text l start (length prefix) fits (header_stands text line.k line.there))
