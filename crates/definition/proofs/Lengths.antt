-- The lists' lengths, as the code goes about them: the counts in the zips' order, of which it asks one and those before it.
use Rattle.std.proofs.Common.{◌≡◌, ℕ, ◌+◌, ◌<◌, Bool, cond, not, ◌||◌, eqb, List, [], ◌∷◌, length, get_or, take, reverse, refl, sym, ap, ◌∙◌}
use Rattle.std.specs.List.{list_any}
use Rattle.std.proofs.Math.Bool.{or_comm}
use Rattle.std.proofs.lemmas.List.Folds.{list_any_more}
use Rattle.std.proofs.lemmas.List.Sorted.{list_any-IsPermutation, IsPermutation-reverse}
use Rattle.definition.specs.MainLists.{reached, wrong}

reached_any : (n : ℕ) (cs : List ℕ) → reached n cs ≡ list_any (λ c. eqb c n) cs
unfolding reached
reached_any n [] = refl
reached_any n (c ∷ cs) = ap (λ b. eqb c n || b) (reached_any n cs)

reached_reversed : (n : ℕ) (cs : List ℕ) → list_any (λ c. eqb c n) cs ≡ reached n (reverse cs)
reached_reversed n cs = list_any-IsPermutation (λ c. eqb c n) cs (reverse cs) (IsPermutation-reverse cs) ∙ sym (reached_any n (reverse cs))

-- a list and those before it
pub reached_is : (n : ℕ) (counts : List ℕ) (place : ℕ) → place < length counts
    → list_any (λ c. eqb c n) (take (place + 1) counts) ≡ reached n (get_or counts place 0 ∷ reverse (take place counts))
unfolding reached
reached_is n counts place h =
    list_any_more (λ c. eqb c n) counts place 0 h
    ∙ or_comm (list_any (λ c. eqb c n) (take place counts)) (eqb (get_or counts place 0) n)
    ∙ ap (λ b. eqb (get_or counts place 0) n || b) (reached_reversed n (take place counts))

-- its length is judged by whether n is among them
pub wrong_is : (n count : ℕ) (before : List ℕ) {b : Bool} {must : ℕ} → b ≡ reached n (count ∷ before) → must ≡ cond b n (n + 1)
    → not (eqb count must) ≡ wrong n count before
unfolding wrong
wrong_is n count before e is = ap (λ m. not (eqb count m)) (is ∙ ap (λ b. cond b n (n + 1)) e)
