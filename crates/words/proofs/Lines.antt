-- The first line of a text, and calls with it and the others.
use Rattle.std.proofs.Common.{ℕ, suc, ◌+◌, ◌<◌, not, true, false, List, [], ◌∷◌, ◌≡◌, refl, sym, ap, subst, length, take, drop, arith}
use Rattle.std.proofs.Common.{Result, Ok, IsErr, eqb, cond, inl, inr}
use Rattle.digits.specs.Digits.{before}
use Rattle.words.specs.Lines.{in_front, lines, Told}

abbrev Parted : List ℕ → Type 0
Parted s = lines s ≡ take (before 10 s) s ∷ lines (drop (suc (before 10 s)) s)

-- a byte in front of the first line
grown : (b : ℕ) (s : List ℕ) → (0 < length s → Parted s) → in_front b (lines s) ≡ (b ∷ take (before 10 s) s) ∷ lines (drop (suc (before 10 s)) s)
unfolding before lines in_front
grown b [] parted = refl
grown b (c ∷ s) parted = ap (in_front b) (parted (omega arith))

pub lines_first : (s : List ℕ) → 0 < length s → Parted s
unfolding before lines
lines_first [] h = absurd (omega arith)
lines_first (b ∷ s) h =
    let more : 1 + before 10 s ≡ suc (before 10 s) = omega arith in
    elim (eqb b 10)
    as (λ q. cond q ([] ∷ lines s) (in_front b (lines s))
    ≡ take (cond (not q) (1 + before 10 s) 0) (b ∷ s) ∷ lines (drop (cond (not q) (1 + before 10 s) 0) s))
    [ true ↦ refl | false ↦ rw more (grown b s (lines_first s)) ]

module _ {F E : Type 0} (called : F → List ℕ → Result Unit E → F → Type 0) where
  pub told_none : (f : F) (s : List ℕ) → length s ≡ 0 → Told called f (lines s) (Ok tt)
  unfolding Told lines
  told_none f [] h = refl
  told_none f (b ∷ s) h = absurd (omega arith)

  pub told_on : {f g : F} {all others : List (List ℕ)} (line : List ℕ) → all ≡ line ∷ others → called f line (Ok tt) g
      → (r : Result Unit E) → Told called g others r → Told called f all r
  unfolding Told
  told_on {f} {g} line parted met r later = subst (λ l. Told called f l r) (sym parted) (g, inr (met, later))

  pub told_last : {f g : F} {all others : List (List ℕ)} (line : List ℕ) → all ≡ line ∷ others → (s r : Result Unit E)
      → called f line s g → IsErr s → IsErr r → Told called f all r
  unfolding Told
  told_last {f} {g} line parted s r met failed all_fail = subst (λ l. Told called f l r) (sym parted) (g, inl (s, met, failed, all_fail))
