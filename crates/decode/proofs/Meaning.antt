-- What the numbers mean: of bytes, each encoding gives only integers that 32 bits can mean, so that nothing is lost where they leave as patterns.
use Prim.Native.Nat.{ℕ, zero, suc, ◌+◌, ◌*◌, ◌/◌, ◌%◌, ◌^◌, ◌<◌}
use mathlib.Core.List.{List, map}
use mathlib.Core.Path.{◌≡◌, ap, ◌∙◌}
use native.Mathlib.Omega.{arith}
use lib.Dec.{ltb, leb, eqb}
use lib.IntN.{pos, neg_ℤ}
use lib.Pow.{pow_pos, pow-add}
use borrow.Author.Tests.{ltb-true, leb-true}
use Rattle.bits.specs.Pattern.{signed, pattern, meant, Fits32}
use Rattle.bits.proofs.Laws.{by_test, by_halves}
use Rattle.reader.specs.Got.{over}
use Rattle.reader.proofs.Every.{Each, Bytes, Reads, then_reads, give_reads, fault_reads, byte_reads, number_meant, group_meant}
use Rattle.decode.specs.Variable.{sevens, encoding1, zigzag, encoding0, encoding3}
use Rattle.decode.specs.TaggedVariable.{marked, fields, headed, alone, encoding6}

-- n groups of seven bits and one of four
pub sevens_below : (n : ℕ) → Reads (λ v. v < 2 ^ (4 + 7 * n)) (sevens n)
unfolding sevens
sevens_below zero =
    then_reads byte_reads λ b hb.
    by_test (Reads _) (leb b 15) (λ e. give_reads _ (omega (arith, leb-true))) (λ e. fault_reads)
sevens_below (suc n) =
    let more : 2 ^ (4 + 7 * suc n) ≡ 2 ^ (4 + 7 * n) * 128 = ap (λ (k : ℕ). 2 ^ k) (omega arith) ∙ pow-add 2 (4 + 7 * n) 7 in
    let some : 0 < 2 ^ (4 + 7 * n) = pow_pos (4 + 7 * n) in
    then_reads byte_reads λ b hb.
    by_test (Reads _) (ltb b 128) (λ e. give_reads _ (omega (arith, ltb-true)))
    (λ e. then_reads (sevens_below n) λ v hv. give_reads _ (omega arith))

-- Encoding 1 gives 32 bits.
pub encoding1_below : Reads (λ n. n < 2 ^ 32) encoding1
unfolding encoding1
encoding1_below = sevens_below 4

-- half of 2 ^ 32 numbers are even, and half odd: encoding 0
zigzag_fits : (n : ℕ) → n < 2 ^ 32 → Fits32 (zigzag n)
unfolding zigzag
zigzag_fits n h = by_test Fits32 (eqb (n % 2) 0) (λ e. omega arith) (λ e. omega arith)

pub encoding0_fits : Reads Fits32 encoding0
unfolding encoding0
encoding0_fits = then_reads encoding1_below λ n h. give_reads _ (zigzag_fits n h)

-- all but -2 ^ 31 can be negated, so all of 14 bits: encoding 3
negated_fits : (v : ℕ) → v < 2 ^ 31 → Fits32 (neg_ℤ (pos v))
negated_fits zero h = h
negated_fits (suc v) h = omega arith

minus14_fits : (v : ℕ) → v < 2 ^ 14 → Fits32 (neg_ℤ (signed 14 v))
unfolding signed
minus14_fits v h = by_halves (λ z. Fits32 (neg_ℤ z)) (2 ^ 14) v h (λ l. negated_fits v (omega arith)) (λ l. omega arith)

pub encoding3_fits : Reads Fits32 encoding3
unfolding encoding3
encoding3_fits = then_reads encoding1_below λ n h. give_reads _ (minus14_fits (n % 2 ^ 14) (omega arith))

-- a group's fields are zeros and numbers of encoding 0: encoding 6
marked_fits : (k : ℕ) → Reads Fits32 (marked k)
unfolding marked
marked_fits zero = give_reads _ (omega arith)
marked_fits (suc k) = encoding0_fits

fields_fit : (n head : ℕ) → Reads (Each Fits32) (fields n head)
unfolding fields
fields_fit zero head = give_reads _ tt
fields_fit (suc n) head =
    then_reads (marked_fits (head % 2)) λ v hv. then_reads (fields_fit n (head / 2)) λ vs hs. give_reads _ (hv, hs)

headed_fit : (n : ℕ) → Reads (Each Fits32) (headed n)
unfolding headed
headed_fit n = then_reads byte_reads λ head h. by_test (Reads _) (ltb head (2 ^ n)) (λ e. fields_fit n head) (λ e. fault_reads)

alone_fits : Reads (Each Fits32) alone
unfolding alone
alone_fits = then_reads encoding0_fits λ v h. give_reads _ (h, tt)

pub encoding6_fit : (n : ℕ) → Reads (Each Fits32) (encoding6 n)
unfolding encoding6
encoding6_fit n =
    by_test (Reads _) (eqb n 0) (λ e. fault_reads)
    (λ e. by_test (Reads _) (eqb n 1) (λ e. alone_fits)
    (λ e. by_test (Reads _) (leb n 8) (λ e. headed_fit n) (λ e. fault_reads)))

-- So each number is had back from its pattern.
pub encoding0_meant : (c : List ℕ) → Bytes c → over meant (over pattern (encoding0 c)) ≡ encoding0 c
encoding0_meant = number_meant encoding0_fits

pub encoding3_meant : (c : List ℕ) → Bytes c → over meant (over pattern (encoding3 c)) ≡ encoding3 c
encoding3_meant = number_meant encoding3_fits

pub encoding6_meant : (n : ℕ) (c : List ℕ) → Bytes c → over (map meant) (over (map pattern) (encoding6 n c)) ≡ encoding6 n c
encoding6_meant n = group_meant (encoding6_fit n)
