-- Progress and stability of encodings 1, 0, 3, 9 and 6.
use Prim.Native.Nat.{ℕ, zero, suc, ◌/◌, ◌%◌, ◌^◌, ◌≤◌}
use mathlib.Core.List.{[], ◌∷◌}
use native.Mathlib.Omega.{arith}
use lib.Count.{ones_in}
use lib.Dec.{ltb, leb, eqb}
use lib.IntN.{pos}
use Rattle.reader.proofs.Lawful.{Lawful, lawful_give, lawful_fault, lawful_byte, lawful_fewer, lawful_cond, lawful_then, lawful_map}
use Rattle.decode.specs.Variable.{sevens, encoding1, zigzag, encoding0, encoding3, encoding9}
use Rattle.decode.specs.TaggedVariable.{marked, fields, headed, alone, encoding6}

sevens_lawful : (n : ℕ) → Lawful 1 (sevens n)
unfolding sevens
sevens_lawful zero = lawful_then lawful_byte (λ b. lawful_cond (leb b 15) (lawful_give b) (lawful_fault 0))
sevens_lawful (suc n) =
    lawful_then lawful_byte (λ b. lawful_cond (ltb b 128) (lawful_give b) (lawful_fewer 0 (omega arith) (lawful_map _ (sevens_lawful n))))

pub encoding1_lawful : Lawful 1 encoding1
unfolding encoding1
encoding1_lawful = sevens_lawful 4

pub encoding0_lawful : Lawful 1 encoding0
unfolding encoding0
encoding0_lawful = lawful_map zigzag encoding1_lawful

pub encoding3_lawful : Lawful 1 encoding3
unfolding encoding3
encoding3_lawful = lawful_map _ encoding1_lawful

pub encoding9_lawful : Lawful 0 encoding9
unfolding encoding9
encoding9_lawful = lawful_give 0

marked_lawful : (bit : ℕ) → bit ≤ 1 → Lawful bit (marked bit)
unfolding marked
marked_lawful zero h = lawful_give (pos 0)
marked_lawful (suc k) h = lawful_fewer (suc k) (omega arith) encoding0_lawful

-- n fields use at least a byte for each one among the head's n lowest bits
pub fields_lawful : (n head : ℕ) → Lawful (ones_in n head) (fields n head)
unfolding fields ones_in
fields_lawful zero head = lawful_give []
fields_lawful (suc n) head =
    lawful_then (marked_lawful (head % 2) (omega arith)) (λ v. lawful_map (λ vs. v ∷ vs) (fields_lawful n (head / 2)))

headed_lawful : (n : ℕ) → Lawful 1 (headed n)
unfolding headed
headed_lawful n =
    lawful_then lawful_byte (λ head. lawful_cond (ltb head (2 ^ n)) (lawful_fewer 0 (omega arith) (fields_lawful n head)) (lawful_fault 0))

alone_lawful : Lawful 1 alone
unfolding alone
alone_lawful = lawful_map (λ v. v ∷ []) encoding0_lawful

pub encoding6_lawful : (n : ℕ) → Lawful 1 (encoding6 n)
unfolding encoding6
encoding6_lawful n =
    lawful_cond (eqb n 0) (lawful_fault 1) (lawful_cond (eqb n 1) alone_lawful (lawful_cond (leb n 8) (headed_lawful n) (lawful_fault 1)))
