-- Progress and stability of events: an event takes a byte at least and no more bytes than there are, and what was got, or is corrupt, stays so
-- when bytes are appended.
use Prim.Native.Nat.{ℕ}
use mathlib.Core.List.{List, [], ◌∷◌}
use native.Mathlib.Omega.{arith}
use lib.Dec.{eqb}
use Rattle.reader.specs.Got.{Reader}
use Rattle.reader.proofs.Lawful.{Lawful, lawful_give, lawful_fault, lawful_byte, lawful_fewer, lawful_cond, lawful_then, lawful_map}
use Rattle.decode.proofs.Lawful.{encoding1_lawful}
use Rattle.event.specs.declared.Event.{Event}
use Rattle.event.specs.Events.{one_number, with_second, two_numbers, exactly, spelled, end_of_log, closing, of_type, event_read}

one_lawful : (t : ℕ) → Lawful 0 (one_number t)
unfolding one_number
one_lawful t = lawful_fewer 0 (omega arith) (lawful_map _ encoding1_lawful)

second_lawful : (t a : ℕ) → Lawful 0 (with_second t a)
unfolding with_second
second_lawful t a = lawful_fewer 0 (omega arith) (lawful_map _ encoding1_lawful)

two_lawful : (t : ℕ) → Lawful 0 (two_numbers t)
unfolding two_numbers
two_lawful t = lawful_fewer 0 (omega arith) (lawful_then encoding1_lawful (second_lawful t))

exactly_lawful : (b : ℕ) {next : Reader Event} → Lawful 0 next → Lawful 0 (exactly b next)
unfolding exactly
exactly_lawful b law = lawful_fewer 0 (omega arith) (lawful_then lawful_byte (λ c. lawful_cond (eqb c b) law (lawful_fault 0)))

spelled_lawful : (bs : List ℕ) {next : Reader Event} → Lawful 0 next → Lawful 0 (spelled bs next)
unfolding spelled
spelled_lawful [] law = law
spelled_lawful (b ∷ bs) law = exactly_lawful b (spelled_lawful bs law)

closing_lawful : Lawful 0 closing
unfolding closing
closing_lawful = spelled_lawful end_of_log (exactly_lawful 0 (lawful_give _))

type_lawful : (t : ℕ) → Lawful 0 (of_type t)
unfolding of_type
type_lawful t =
    lawful_cond (eqb t 0) (one_lawful 0)
    (lawful_cond (eqb t 14) (two_lawful 14)
    (lawful_cond (eqb t 15) (one_lawful 15)
    (lawful_cond (eqb t 30) (two_lawful 30)
    (lawful_cond (eqb t 255) closing_lawful (lawful_fault 0)))))

pub event_lawful : Lawful 1 event_read
unfolding event_read
event_lawful = lawful_then lawful_byte type_lawful
