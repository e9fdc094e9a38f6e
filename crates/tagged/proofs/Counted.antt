-- A group of encoding 7 gives three values, and one of encoding 8 gives four.
use Prim.Native.Nat.{ℕ, zero, suc, ◌/◌}
use mathlib.Core.List.{List, [], ◌∷◌}
use mathlib.Core.Path.{◌≡◌, refl, ap, ◌∙◌}
use lib.ListN.{length, drop}
use Rattle.reader.proofs.Every.{Counts, Reads, then_reads, give_reads, any_reads}
use Rattle.tagged.specs.Choose.{pairs}
use Rattle.tagged.specs.Tagged16.{width, unpacked, encoding8}
use Rattle.tagged.specs.Tagged32.{two_bits, four_bits, six_bits, whole_bytes, encoding7}
use Rattle.tagged.proofs.Choice.{by_choice}

pub encoding7_count : Reads (Counts 3) encoding7
unfolding encoding7 two_bits four_bits six_bits whole_bytes
encoding7_count =
    then_reads (any_reads _) λ head _.
    by_choice (Reads (Counts 3)) (head / 64)
    (give_reads _ refl)
    (then_reads (any_reads _) λ b _. give_reads _ refl)
    (then_reads (any_reads _) λ b _. then_reads (any_reads _) λ d _. give_reads _ refl)
    (then_reads (any_reads _) λ x _. then_reads (any_reads _) λ y _. then_reads (any_reads _) λ z _. give_reads _ refl)

pairs_count : (n v : ℕ) → length (pairs n v) ≡ n
unfolding pairs
pairs_count zero v = refl
pairs_count (suc n) v = ap suc (pairs_count n (v / 4))

unpacked_count : (codes hs : List ℕ) → length (unpacked codes hs) ≡ length codes
unfolding unpacked
unpacked_count [] hs = refl
unpacked_count (code ∷ codes) hs = ap suc (unpacked_count codes (drop (width code) hs))

pub encoding8_count : Reads (Counts 4) encoding8
unfolding encoding8
encoding8_count =
    then_reads (any_reads _) λ head _. then_reads (any_reads _) λ bs _. give_reads _ (unpacked_count (pairs 4 head) _ ∙ pairs_count 4 head)
