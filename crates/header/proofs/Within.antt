-- Laws for later layers: the section begins within the text, and a value stands within the header.
use Prim.Native.Nat.{ℕ, suc, ◌+◌, ◌≤◌}
use mathlib.Core.Bool.{true, false, cond}
use mathlib.Core.List.{List, [], ◌∷◌}
use mathlib.Core.Path.{◌≡◌, refl}
use native.Mathlib.Omega.{arith}
use lib.Dec.{eqb}
use lib.ListN.{length}
use Rattle.std.specs.Prelude.{Option, Some, None}
use Rattle.items.specs.declared.Stretch.{Stretch}
use Rattle.items.specs.Text.{ascii}
use Rattle.header.specs.Header.{newer, last_from, value_of, header_of}
use Rattle.header.specs.Lines.{lines, bare, begins, headers, total, onto}
use Rattle.header.proofs.Lines.{begins_length, bare_within}

total_onto : (b : ℕ) (ls : List (List ℕ)) → total (onto b ls) ≡ suc (total ls)
unfolding total
total_onto b [] = refl
total_onto b (l ∷ ls) = omega arith

-- no byte of a text is lost
total_lines : (t : List ℕ) → total (lines t) ≡ length t
unfolding total lines
total_lines [] = refl
total_lines (b ∷ t) =
    elim (eqb b 10) as (λ q. total (cond q ((b ∷ []) ∷ lines t) (onto b (lines t))) ≡ suc (length t))
    [ true ↦ omega (arith, total_lines t) | false ↦ omega (arith, total_onto b (lines t), total_lines t) ]

headers_within : (ls : List (List ℕ)) → total (headers ls) ≤ total ls
unfolding total headers
headers_within [] = omega arith
headers_within (l ∷ ls) =
    elim (begins (ascii "H ") (bare l)) as (λ q. total (cond q (l ∷ headers ls) []) ≤ length l + total ls)
    [ true ↦ omega (arith, headers_within ls) | false ↦ omega arith ]

pub section_within : (text : List ℕ) → (header_of text).section ≤ length text
unfolding header_of
section_within text = omega (arith, headers_within (lines text), total_lines text)

-- a stretch ends at n or before, if it is given
abbrev Within : ℕ → Option Stretch → Type 0
Within n (Some s) = (s.start ≤ s.end) × (s.end ≤ n)
Within n None = Unit

within_more : (n m : ℕ) (s : Option Stretch) → n ≤ m → Within n s → Within m s
within_more n m (Some s) le h = omega arith
within_more n m None le h = tt

newer_within : (prefix : List ℕ) (p : ℕ) (l : List ℕ) (earlier : Option Stretch) → Within p earlier → Within (p + length l) (newer prefix p l earlier)
unfolding newer
newer_within prefix p l earlier h =
    elim (begins prefix (bare l)) as (λ q. begins prefix (bare l) ≡ q
    → Within (p + length l) (cond q (Some (record { start = p + length prefix; end = p + length (bare l) })) earlier))
    [ true ↦ λ e. omega (arith, begins_length prefix (bare l) e, bare_within l) | false ↦ λ e. within_more p (p + length l) earlier (omega arith) h ] refl

last_within : (prefix : List ℕ) (p : ℕ) (ls : List (List ℕ)) (earlier : Option Stretch) → Within p earlier
    → Within (p + total ls) (last_from prefix p ls earlier)
unfolding total last_from
last_within prefix p [] earlier h = within_more p (p + 0) earlier (omega arith) h
last_within prefix p (l ∷ ls) earlier h =
    within_more (p + length l + total ls) (p + (length l + total ls)) (last_from prefix (p + length l) ls (newer prefix p l earlier)) (omega arith)
    (last_within prefix (p + length l) ls (newer prefix p l earlier) (newer_within prefix p l earlier h))

pub value_within : (text prefix : List ℕ) (s : Stretch) → value_of text prefix ≡ Some s → (s.start ≤ s.end) × (s.end ≤ (header_of text).section)
unfolding value_of header_of
value_within text prefix s q =
    let within : Within (0 + total (headers (lines text))) (Some s) = rw q at (last_within prefix 0 (headers (lines text)) None tt) in
    omega arith
