-- The header alone tells what its lines say: bytes from the section on make no difference.
use Prim.Native.Nat.{ℕ, zero, suc, ◌+◌, ◌-◌, ◌≤◌}
use mathlib.Core.Bool.{Bool, true, false, cond}
use mathlib.Core.List.{List, [], ◌∷◌}
use mathlib.Core.Path.{◌≡◌, refl, sym, ap, ◌∙◌}
use native.Mathlib.Omega.{arith}
use lib.Dec.{eqb}
use lib.ListN.{length, take, drop, length-drop, take-append-drop}
use lib.Seq.{length-take-le, take-nil, take-append-le, drop-append-le}
use borrow.Author.Tests.{le-leb}
use Rattle.std.specs.Prelude.{Option, Some, None}
use Rattle.items.specs.declared.Stretch.{Stretch}
use Rattle.items.specs.Items.{given, part}
use Rattle.items.specs.Text.{ascii}
use Rattle.header.specs.Header.{last_from, value_of, header_of}
use Rattle.header.specs.Lines.{lines, bare, begins, headers, total, onto}
use Rattle.header.proofs.Within.{section_within, value_within}

-- the first lines of a text, as many as you like, are the lines of as many bytes as they have
onto_take : (b k : ℕ) (t : List ℕ) (ls : List (List ℕ)) → eqb b 10 ≡ false → lines (take (total (take (suc k) ls)) t) ≡ take (suc k) ls
    → lines (take (total (take (suc k) (onto b ls))) (b ∷ t)) ≡ take (suc k) (onto b ls)
unfolding lines total
onto_take b k t [] e f = rw (take-nil {A = List ℕ} k, e)
onto_take b k t (l ∷ ls) e f =
    let size : suc (length l) + total (take k ls) ≡ suc (length l + total (take k ls)) = omega arith in
    rw (size, e, f)

lines_by : (b : ℕ) (t : List ℕ) → ((k : ℕ) → lines (take (total (take k (lines t))) t) ≡ take k (lines t)) → (k : ℕ) (q : Bool) → eqb b 10 ≡ q
    → let ls : List (List ℕ) = cond q ((b ∷ []) ∷ lines t) (onto b (lines t)) in lines (take (total (take k ls)) (b ∷ t)) ≡ take k ls
unfolding lines total
lines_by b t more zero q e = refl
lines_by b t more (suc k) true e =
    let size : 1 + total (take k (lines t)) ≡ suc (total (take k (lines t))) = omega arith in
    rw (size, e) (ap (λ ls. (b ∷ []) ∷ ls) (more k))
lines_by b t more (suc k) false e = onto_take b k t (lines t) e (more (suc k))

lines_take : (t : List ℕ) (k : ℕ) → lines (take (total (take k (lines t))) t) ≡ take k (lines t)
unfolding lines total
lines_take [] zero = refl
lines_take [] (suc k) = refl
lines_take (b ∷ t) k = lines_by b t (lines_take t) k (eqb b 10) refl

-- the header lines are the first of all lines, and among themselves header lines alone
pub headers_first : (ls : List (List ℕ)) → headers ls ≡ take (length (headers ls)) ls
unfolding headers
headers_first [] = refl
headers_first (l ∷ ls) =
    elim (begins (ascii "H ") (bare l)) as (λ q. cond q (l ∷ headers ls) [] ≡ take (length (cond q (l ∷ headers ls) [])) (l ∷ ls))
    [ true ↦ ap (λ r. l ∷ r) (headers_first ls) | false ↦ refl ]

headers_twice : (ls : List (List ℕ)) → headers (headers ls) ≡ headers ls
unfolding headers
headers_twice [] = refl
headers_twice (l ∷ ls) =
    elim (begins (ascii "H ") (bare l)) as (λ q. begins (ascii "H ") (bare l) ≡ q → headers (cond q (l ∷ headers ls) []) ≡ cond q (l ∷ headers ls) [])
    [ true ↦ λ e. rw e (ap (λ r. l ∷ r) (headers_twice ls)) | false ↦ λ e. refl ] refl

-- a log's header by itself
abbrev pub alone : List ℕ → List ℕ
alone text = take (header_of text).section text

pub headers_alone : (text : List ℕ) → headers (lines (alone text)) ≡ headers (lines text)
unfolding header_of
headers_alone text =
    let first : headers (lines text) ≡ take (length (headers (lines text))) (lines text) = headers_first (lines text) in
    ap (λ ls. headers (lines (take (total ls) text))) first
    ∙ ap headers (lines_take text (length (headers (lines text))) ∙ sym first)
    ∙ headers_twice (lines text)

-- where a value stands is told by the header alone
pub value_alone : (text prefix : List ℕ) → value_of (alone text) prefix ≡ value_of text prefix
unfolding value_of
value_alone text prefix = ap (λ ls. last_from prefix 0 ls None) (headers_alone text)

-- and so are its bytes
bytes_take : (text : List ℕ) (n a e : ℕ) → a ≤ e → e ≤ n → n ≤ length text → take (e - a) (drop a (take n text)) ≡ take (e - a) (drop a text)
bytes_take text n a e h i j =
    let size : length (take n text) ≡ n = length-take-le n text j in
    let left : length (drop a (take n text)) ≡ length (take n text) - a = length-drop a (take n text) in
    sym
    (ap (λ s. take (e - a) (drop a s)) (sym (take-append-drop n text))
    ∙ ap (take (e - a)) (drop-append-le a (take n text) (drop n text) (omega arith))
    ∙ take-append-le (e - a) (drop a (take n text)) (drop n text) (omega arith))

part_take : (text : List ℕ) (n : ℕ) (s : Stretch) → s.start ≤ s.end → s.end ≤ n → n ≤ length text → part (take n text) (Some s) ≡ part text (Some s)
unfolding part given
part_take text n s h i j =
    let size : length (take n text) ≡ n = length-take-le n text j in
    rw (le-leb s.start s.end h, le-leb s.end (length (take n text)) (omega arith), le-leb s.end (length text) (omega arith))
    (bytes_take text n s.start s.end h i j)

pub part_alone : (text prefix : List ℕ) (s : Option Stretch) → value_of text prefix ≡ s → part (alone text) s ≡ part text s
unfolding part
part_alone text prefix None q = refl
part_alone text prefix (Some s) q =
    let within = value_within text prefix s q in
    part_take text (header_of text).section s within.0 within.1 (section_within text)
