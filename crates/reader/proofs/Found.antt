-- Laws of kinds and of the search for later layers: what it finds stands within the bytes and stays found when bytes are appended;
-- where it finds nothing, no later place has anything to find.
use Prim.Native.Nat.{ℕ, zero, suc, ◌+◌, ◌-◌, ◌<◌, ◌≤◌}
use mathlib.Core.Bool.{Bool, true, false, cond}
use mathlib.Core.List.{List, [], ◌∷◌, ◌++◌}
use mathlib.Core.Path.{◌≡◌, refl, sym, ap, subst, ◌∙◌}
use native.Mathlib.Omega.{arith}
use lib.Dec.{eqb}
use lib.ListN.{length, drop}
use lib.Seq.{drop-drop}
use borrow.Author.Tests.{eqb-true}
use Rattle.std.specs.Prelude.{Option, Some, None}
use Rattle.bits.proofs.Laws.{by_test}
use Rattle.reader.specs.declared.Kind.{Kind}
use Rattle.reader.specs.declared.Kind.TheVariants.{Event, Intra, Inter, Gps, Home, Slow}
use Rattle.reader.specs.Search.{byte_of, letter_of, searched, further, ahead}

-- ## Within the bytes

abbrev Below : ℕ → Option ℕ → Type 0
Below n None = Unit
Below n (Some m) = m < n

below_further : (t : Bool) (n : ℕ) (o : Option ℕ) → Below n o → Below (suc n) (cond t (Some 0) (further o))
below_further true n o h = omega arith
below_further false n None h = tt
below_further false n (Some m) h = omega arith

pub ahead_below : (t : List ℕ) → Below (length t) (ahead t)
unfolding ahead
ahead_below [] = tt
ahead_below (b ∷ t) = below_further (searched (letter_of b)) (length t) (ahead t) (ahead_below t)

pub found_inside : (t : List ℕ) {n : ℕ} → ahead t ≡ Some n → n < length t
found_inside t e = subst (Below (length t)) e (ahead_below t)

-- ## What is found stays found when bytes are appended

abbrev Stays : Option ℕ → Option ℕ → Type 0
Stays None o = Unit
Stays (Some n) o = o ≡ Some n

stays_further : (t : Bool) (o o' : Option ℕ) → Stays o o' → Stays (cond t (Some 0) (further o)) (cond t (Some 0) (further o'))
stays_further true o o' h = refl
stays_further false None o' h = tt
stays_further false (Some m) o' h = ap further h

pub ahead_stays : (t d : List ℕ) → Stays (ahead t) (ahead (t ++ d))
unfolding ahead
ahead_stays [] d = tt
ahead_stays (b ∷ t) d = stays_further (searched (letter_of b)) (ahead t) (ahead (t ++ d)) (ahead_stays t d)

-- ## Nothing found here, nothing to find further on

behind_none : (t : Bool) (o : Option ℕ) → cond t (Some 0) (further o) ≡ None → o ≡ None
behind_none true o e = cc
behind_none false None e = refl
behind_none false (Some m) e = cc

pub none_behind : (n : ℕ) (t : List ℕ) → ahead t ≡ None → ahead (drop n t) ≡ None
unfolding ahead
none_behind zero t e = e
none_behind (suc n) [] e = refl
none_behind (suc n) (b ∷ t) e = none_behind n t (behind_none (searched (letter_of b)) (ahead t) e)

pub none_later : (s : List ℕ) (p q : ℕ) → p ≤ q → ahead (drop p s) ≡ None → ahead (drop q s) ≡ None
none_later s p q h e =
    let z : p + (q - p) ≡ q = omega arith in
    ap (λ n. ahead (drop n s)) (sym z) ∙ ap ahead (sym (drop-drop (q - p) p s)) ∙ none_behind (q - p) (drop p s) e

-- ## A byte stands for a kind just where it is that kind's byte

pub letter_of_byte : (k : Kind) → letter_of (byte_of k) ≡ Some k
unfolding letter_of
letter_of_byte Event = refl
letter_of_byte Intra = refl
letter_of_byte Inter = refl
letter_of_byte Gps = refl
letter_of_byte Home = refl
letter_of_byte Slow = refl

module _ (b : ℕ) (k : Kind) where
  abbrev Right : Option Kind → Type 0
  Right l = l ≡ Some k → b ≡ byte_of k

  right : (j : Kind) → eqb b (byte_of j) ≡ true → Right (Some j)
  right j e p = let q : j ≡ k = cc in eqb-true b (byte_of j) e ∙ ap byte_of q

  other : Right None
  other p = absurd (cc)

  pub byte_of_letter : letter_of b ≡ Some k → b ≡ byte_of k
  unfolding letter_of
  byte_of_letter =
      by_test Right (eqb b 69) (right Event)
      (λ _. by_test Right (eqb b 73) (right Intra)
      (λ _. by_test Right (eqb b 80) (right Inter)
      (λ _. by_test Right (eqb b 71) (right Gps)
      (λ _. by_test Right (eqb b 72) (right Home)
      (λ _. by_test Right (eqb b 83) (right Slow) (λ _. other))))))
