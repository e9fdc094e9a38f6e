-- The header line by line, as both loops go through it.
use Prim.Native.Nat.{ℕ, suc, ◌+◌, ◌-◌, ◌<◌, ◌≤◌, min}
use mathlib.Core.Bool.{Bool, true, false, cond}
use mathlib.Core.List.{List, [], ◌∷◌}
use mathlib.Core.Path.{◌≡◌, refl, sym, ap, ap₂, ◌∙◌}
use native.Mathlib.Omega.{arith}
use native.Mathlib.Decide.{dec_lt}
use lib.Dec.{eqb}
use lib.ListN.{length, drop, take, length-take, length-drop, drop_of_length-le}
use lib.Seq.{drop-drop}
use borrow.Author.Rules.{part_to_end}
use Rattle.std.specs.Prelude.{Option, Some, None}
use Rattle.std.specs.List.{starts_with}
use Rattle.std.proofs.lemmas.Option.{none-some, cond_some}
use Rattle.digits.specs.Digits.{before}
use Rattle.items.specs.declared.Stretch.{Stretch}
use Rattle.items.specs.Text.{ascii}
use Rattle.header.specs.Header.{newer, last_from, value_of}
use Rattle.header.specs.Lines.{lines, bare, begins, headers, total}
use Rattle.header.specs.Walk.{header_line}
use Rattle.header.proofs.Lines.{first_line, lines_first, bare_first, bare_before, take_bare, begins_length, header_bare, end_within}

-- ## The header line at a place

-- `b` says whether the text from there on begins with `H `
module _ (text : List ℕ) (at : ℕ) {b : Bool} (e : b ≡ starts_with eqb (take (length text - at) (drop at text)) (ascii "H ")) where
  begun : begins (ascii "H ") (bare (drop at text)) ≡ b
  unfolding begins
  begun = sym (rw part_to_end at e ∙ header_bare (drop at text))

  pub no_line : b ≡ false → None ≡ header_line text at
  unfolding header_line
  no_line n = rw (begun ∙ n)

  pub line_here : b ≡ true → {n : ℕ} → n ≡ before 10 (take (length text - at) (drop at text)) → Some (record { start = at; end = at + n }) ≡ header_line text at
  unfolding header_line
  line_here n f = rw (begun ∙ n, bare_before (drop at text), ← (rw part_to_end at f))

-- ## The value of a line

-- `b` says whether the line begins with the prefix
module _ (text prefix : List ℕ) (line : Stretch) (earlier : Option Stretch) {b : Bool}
    (e : b ≡ starts_with eqb (take (line.end - line.start) (drop line.start text)) prefix)
    (f : line.end ≡ line.start + length (bare (drop line.start text))) where
  has_prefix : begins prefix (bare (drop line.start text)) ≡ b
  unfolding begins
  has_prefix = let z : line.end - line.start ≡ length (bare (drop line.start text)) = omega arith in sym (rw (z, take_bare) at e)

  pub newer_here : b ≡ true → Some (record { start = line.start + length prefix; end = line.end }) ≡ newer prefix line.start (drop line.start text) earlier
  unfolding newer
  newer_here t = rw (has_prefix ∙ t, ← f)

  pub newer_not : b ≡ false → earlier ≡ newer prefix line.start (drop line.start text) earlier
  unfolding newer
  newer_not t = rw (has_prefix ∙ t)

-- ## What stands before `at`

-- header lines alone
pub record Passed (text : List ℕ) (at : ℕ) : Type 0 where
  pub within : at ≤ length text
  pub is : total (headers (lines text)) ≡ at + total (headers (lines (drop at text)))

-- and the last of them with the prefix gives `found`
pub record Found (text prefix : List ℕ) (at : ℕ) (found : Option Stretch) : Type 0 where
  pub within : at ≤ length text
  pub is : value_of text prefix ≡ last_from prefix at (headers (lines (drop at text))) found

pub passed_first : (text : List ℕ) → Passed text 0
passed_first text = record { within = omega arith; is = omega arith }

pub found_first : (text prefix : List ℕ) → Found text prefix 0 None
unfolding value_of
found_first text prefix = record { within = omega arith; is = refl }

-- the header lines from `at` on, by whether one starts there
headers_here : (text : List ℕ) (at : ℕ) → at < length text
    → headers (lines (drop at text)) ≡ cond (begins (ascii "H ") (bare (drop at text)))
    (first_line (drop at text) ∷ headers (lines (drop (at + length (first_line (drop at text))) text))) []
unfolding headers
headers_here text at h = ap headers (lines_first (drop at text) (omega (arith, length-drop at text))) ∙ rw (bare_first, drop-drop)

-- no header line starts at `at`: none is left, and both are what they are to be
module _ (text : List ℕ) (at : ℕ) (none : None ≡ header_line text at) where
  not_begun : begins (ascii "H ") (bare (drop at text)) ≡ false
  unfolding header_line
  not_begun = by _ (begins (ascii "H ") (bare (drop at text))) none
    where
      by : (s : Stretch) (q : Bool) → None ≡ cond q (Some s) None → q ≡ false
      by s true e = absurd (none-some s e)
      by s false e = refl

  none_left : headers (lines (drop at text)) ≡ []
  unfolding headers lines
  none_left = by (dec_lt at (length text))
    where
      by : Dec (at < length text) → headers (lines (drop at text)) ≡ []
      by (yes h) = headers_here text at h ∙ rw not_begun
      by (no h) = let over : length text ≤ at = omega arith in rw (drop_of_length-le text over)

  pub passed_end : Passed text at → at ≡ total (headers (lines text))
  unfolding total
  passed_end passed = omega (arith, passed.is, ap total none_left)

  pub found_end : (prefix : List ℕ) {found : Option Stretch} → Found text prefix at found → found ≡ value_of text prefix
  unfolding last_from
  found_end prefix found = sym (found.is ∙ rw none_left)

-- a header line starts at `at`
module _ (text : List ℕ) (at : ℕ) {line : Stretch} (here : Some line ≡ header_line text at) (le : at ≤ length text) where
  the_line : (begins (ascii "H ") (bare (drop at text)) ≡ true) × (◌≡◌ {A = Stretch} (record { start = at; end = at + length (bare (drop at text)) }) line)
  unfolding header_line
  the_line = cond_some _ _ _ (sym here)

  pub line_starts : line.start ≡ at
  line_starts = sym (ap (λ s. s.start) the_line.1)

  pub line_ends : line.end ≡ line.start + length (bare (drop line.start text))
  line_ends = rw line_starts (sym (ap (λ s. s.end) the_line.1))

  -- it holds two bytes at least
  pub line_long : (at + 2 ≤ line.end) × (line.end ≤ length text)
  line_long =
      let till : line.end ≡ at + length (bare (drop at text)) = sym (ap (λ s. s.end) the_line.1) in
      omega (arith, begins_length (ascii "H ") (bare (drop at text)) the_line.0, end_within text at till le)

  -- and the next line starts at `next`
  module _ {next : ℕ} (g : next ≡ min (line.end + 1) (length text)) where
    width : at + length (first_line (drop at text)) ≡ next
    width =
        omega (arith, line_long, sym (ap (λ s. s.end) the_line.1), length-take (suc (length (bare (drop at text)))) (drop at text), length-drop at text)

    step : headers (lines (drop at text)) ≡ first_line (drop at text) ∷ headers (lines (drop next text))
    step = headers_here text at (omega (arith, line_long)) ∙ rw (the_line.0, width)

    pub passed_on : Passed text at → Passed text next
    unfolding total
    passed_on passed = record { within = omega arith; is = omega (arith, width, passed.is, ap total step) }

    pub found_on : (prefix : List ℕ) {found more : Option Stretch} → Found text prefix at found
        → more ≡ newer prefix line.start (drop line.start text) found → Found text prefix next more
    unfolding last_from newer
    found_on prefix {found} come m =
        let same : newer prefix at (first_line (drop at text)) found ≡ newer prefix line.start (drop line.start text) found = rw (line_starts, bare_first) in
        record {
          within = omega arith;
          is =
              come.is ∙ ap (λ ls. last_from prefix at ls found) step
              ∙ ap₂ (λ p s. last_from prefix p (headers (lines (drop next text))) s) width (same ∙ sym m);
        }
