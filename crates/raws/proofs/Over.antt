-- A reading with another value: it keeps to the laws of readers, and its value is the old one, changed.
use Prim.Native.Nat.{ℕ}
use mathlib.Core.List.{List, ◌++◌}
use mathlib.Core.Path.{ap}
use Rattle.reader.specs.Got.{Got, got, cut, corrupt, over, Reader}
use Rattle.reader.proofs.Every.{Every, Reads}
use Rattle.reader.proofs.Lawful.{Within, Kept, Lawful}

module _ {A B : Type 0} (f : A → B) where
  over_within : (l : ℕ) (c : List ℕ) (g : Got A) → Within l c g → Within l c (over f g)
  unfolding over
  over_within l c (got a u) w = w
  over_within l c cut w = tt
  over_within l c corrupt w = tt

  over_kept : (g g' : Got A) → Kept g g' → Kept (over f g) (over f g')
  unfolding over
  over_kept (got a u) g' e = ap (over f) e
  over_kept cut g' e = tt
  over_kept corrupt g' e = ap (over f) e

  -- progress and stability
  pub lawful_over : {l : ℕ} {r : Reader A} → Lawful l r → Lawful l (λ c. over f (r c))
  lawful_over {l} {r} law =
      record { within = λ c. over_within l c (r c) (law.within c); stable = λ c d. over_kept (r c) (r (c ++ d)) (law.stable c d) }

  over_every : (P : A → Type 0) (Q : B → Type 0) → ((a : A) → P a → Q (f a)) → (g : Got A) → Every P g → Every Q (over f g)
  unfolding over
  over_every P Q h (got a u) p = h a p
  over_every P Q h cut p = tt
  over_every P Q h corrupt p = tt

  -- what the values have, of bytes
  pub over_reads : {P : A → Type 0} {Q : B → Type 0} {r : Reader A} → Reads P r → ((a : A) → P a → Q (f a)) → Reads Q (λ c. over f (r c))
  over_reads {P} {Q} {r} p h = record { every = λ c b. over_every P Q h (r c) (p.every c b) }
