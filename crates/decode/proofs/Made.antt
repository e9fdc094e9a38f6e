-- The numbers that are made of another: as patterns they are that reading, with another value.
use Prim.Native.Nat.{ℕ, ◌%◌, ◌^◌}
use mathlib.Core.List.{List, [], ◌∷◌, map}
use mathlib.Core.Path.{◌≡◌, sym, ◌∙◌}
use lib.IntN.{neg_ℤ}
use Rattle.bits.specs.Pattern.{pattern, signed}
use Rattle.reader.specs.Got.{over}
use Rattle.reader.proofs.Reading.{over_map, over_over}
use Rattle.decode.specs.Variable.{encoding0, encoding1, encoding3, zigzag}
use Rattle.decode.specs.TaggedVariable.{alone}

pub encoding0_of : (c : List ℕ) → over pattern (encoding0 c) ≡ over (λ n. pattern (zigzag n)) (encoding1 c)
unfolding encoding0
encoding0_of c = over_map pattern zigzag encoding1 c

pub encoding3_of : (c : List ℕ) → over pattern (encoding3 c) ≡ over (λ n. pattern (neg_ℤ (signed 14 (n % 2 ^ 14)))) (encoding1 c)
unfolding encoding3
encoding3_of c = over_map pattern (λ n. neg_ℤ (signed 14 (n % 2 ^ 14))) encoding1 c

pub alone_of : (c : List ℕ) → over (map pattern) (alone c) ≡ over (λ v. v ∷ []) (over pattern (encoding0 c))
unfolding alone
alone_of c = over_map (map pattern) (λ v. v ∷ []) encoding0 c ∙ sym (over_over pattern (λ v. v ∷ []) (encoding0 c))
