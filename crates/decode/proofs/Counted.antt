-- A group of encoding 6 gives as many values as it has fields.
use Prim.Native.Nat.{ℕ, zero, suc, ◌/◌, ◌^◌}
use mathlib.Core.Path.{◌≡◌, refl, sym, ap}
use lib.Dec.{ltb, leb, eqb}
use borrow.Author.Tests.{eqb-true}
use Rattle.bits.proofs.Laws.{by_test}
use Rattle.reader.proofs.Every.{Counts, Reads, then_reads, give_reads, fault_reads, any_reads}
use Rattle.decode.specs.TaggedVariable.{fields, headed, alone, encoding6}

fields_count : (n head : ℕ) → Reads (Counts n) (fields n head)
unfolding fields
fields_count zero head = give_reads _ refl
fields_count (suc n) head = then_reads (any_reads _) λ v _. then_reads (fields_count n (head / 2)) λ vs e. give_reads _ (ap suc e)

headed_count : (n : ℕ) → Reads (Counts n) (headed n)
unfolding headed
headed_count n = then_reads (any_reads _) λ head _. by_test (Reads (Counts n)) (ltb head (2 ^ n)) (λ e. fields_count n head) (λ e. fault_reads)

alone_count : (n : ℕ) → n ≡ 1 → Reads (Counts n) alone
unfolding alone
alone_count n e = then_reads (any_reads _) λ v _. give_reads _ (sym e)

pub encoding6_count : (n : ℕ) → Reads (Counts n) (encoding6 n)
unfolding encoding6
encoding6_count n =
    by_test (Reads (Counts n)) (eqb n 0) (λ e. fault_reads)
    (λ _. by_test (Reads (Counts n)) (eqb n 1) (λ e. alone_count n (eqb-true n 1 e))
    (λ _. by_test (Reads (Counts n)) (leb n 8) (λ e. headed_count n) (λ e. fault_reads)))
