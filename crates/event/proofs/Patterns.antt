-- The numbers of an event, read from bytes: each is a 32-bit pattern, and the type is a byte.
use Prim.Native.Nat.{ℕ, ◌^◌, ◌<◌}
use mathlib.Core.List.{List, [], ◌∷◌}
use native.Mathlib.Omega.{arith}
use lib.Dec.{eqb}
use Rattle.bits.proofs.Laws.{by_test}
use Rattle.reader.specs.Got.{Reader}
use Rattle.reader.proofs.Every.{Reads, then_reads, give_reads, fault_reads, byte_reads}
use Rattle.decode.proofs.Meaning.{encoding1_below}
use Rattle.event.specs.declared.Event.{Event}
use Rattle.event.specs.Events.{one_number, with_second, two_numbers, exactly, spelled, end_of_log, closing, of_type, event_read}

pub record Patterns (e : Event) : Type 0 where
  pub code_below : e.code < 256
  pub first_below : e.first < 2 ^ 32
  pub second_below : e.second < 2 ^ 32

module _ (t : ℕ) (low : t < 256) where
  one_patterns : Reads Patterns (one_number t)
  unfolding one_number
  one_patterns = then_reads encoding1_below λ a h. give_reads _ (record { code_below = low; first_below = h; second_below = omega arith })

  second_patterns : (a : ℕ) → a < 2 ^ 32 → Reads Patterns (with_second t a)
  unfolding with_second
  second_patterns a h = then_reads encoding1_below λ b k. give_reads _ (record { code_below = low; first_below = h; second_below = k })

  two_patterns : Reads Patterns (two_numbers t)
  unfolding two_numbers
  two_patterns = then_reads encoding1_below second_patterns

exactly_patterns : (b : ℕ) {next : Reader Event} → Reads Patterns next → Reads Patterns (exactly b next)
unfolding exactly
exactly_patterns b p = then_reads byte_reads λ c _. by_test (Reads Patterns) (eqb c b) (λ _. p) (λ _. fault_reads)

spelled_patterns : (bs : List ℕ) {next : Reader Event} → Reads Patterns next → Reads Patterns (spelled bs next)
unfolding spelled
spelled_patterns [] p = p
spelled_patterns (b ∷ bs) p = exactly_patterns b (spelled_patterns bs p)

closing_patterns : Reads Patterns closing
unfolding closing
closing_patterns =
    spelled_patterns end_of_log (exactly_patterns 0 (give_reads _ (record { code_below = omega arith; first_below = omega arith; second_below = omega arith })))

type_patterns : (t : ℕ) → Reads Patterns (of_type t)
unfolding of_type
type_patterns t =
    by_test (Reads Patterns) (eqb t 0) (λ _. one_patterns 0 (omega arith))
    (λ _. by_test (Reads Patterns) (eqb t 14) (λ _. two_patterns 14 (omega arith))
    (λ _. by_test (Reads Patterns) (eqb t 15) (λ _. one_patterns 15 (omega arith))
    (λ _. by_test (Reads Patterns) (eqb t 30) (λ _. two_patterns 30 (omega arith))
    (λ _. by_test (Reads Patterns) (eqb t 255) (λ _. closing_patterns) (λ _. fault_reads)))))

pub event_patterns : Reads Patterns event_read
unfolding event_read
event_patterns = then_reads byte_reads λ t _. type_patterns t
