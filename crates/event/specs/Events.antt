-- Events: the bytes behind the letter E (document 01, "Predictors", Event).
use Rattle.std.specs.Prelude.{ℕ, cond, List, [], ◌∷◌, eqb}
use Rattle.reader.specs.Got.{Reader, ◌>>=◌, give, fault, byte}
use Rattle.decode.specs.Variable.{encoding1}
use Rattle.event.specs.declared.Event.{Event}

-- a type and two numbers, absent ones as 0
abbrev pub event : (code first second : ℕ) → Event
event t a b = record { code = t; first = a; second = b }

-- one encoding 1 number
unfoldable pub one_number : (code : ℕ) → Reader Event
one_number t = do
  a ← encoding1
  give (event t a 0)

-- two of them
unfoldable pub with_second : (code first : ℕ) → Reader Event
with_second t a = do
  b ← encoding1
  give (event t a b)

unfoldable pub two_numbers : (code : ℕ) → Reader Event
two_numbers t = do
  a ← encoding1
  with_second t a

-- a byte that must be this one, and what is read behind it: another byte is corrupt
unfoldable pub exactly : {A : Type 0} → ℕ → Reader A → Reader A
exactly b next = do
  c ← byte
  cond (eqb c b) next fault

-- a text, compared byte by byte, and what is read behind it
unfoldable pub spelled : {A : Type 0} → List ℕ → Reader A → Reader A
spelled [] next = next
spelled (b ∷ bs) next = exactly b (spelled bs next)

-- `End of log`
abbrev pub end_of_log : List ℕ
end_of_log = 0x45 ∷ 0x6E ∷ 0x64 ∷ 0x20 ∷ 0x6F ∷ 0x66 ∷ 0x20 ∷ 0x6C ∷ 0x6F ∷ 0x67 ∷ []

-- type 255: the text and a zero byte
unfoldable pub closing : Reader Event
closing = spelled end_of_log (exactly 0 (give (event 255 0 0)))

-- type 0 has one number (time), 14 two, 15 one, 30 two; other types are corrupt
unfoldable pub of_type : (code : ℕ) → Reader Event
of_type t =
    cond (eqb t 0) (one_number 0)
    (cond (eqb t 14) (two_numbers 14)
    (cond (eqb t 15) (one_number 15)
    (cond (eqb t 30) (two_numbers 30)
    (cond (eqb t 255) closing fault))))

unfoldable pub event_read : Reader Event
event_read = do
  t ← byte
  of_type t
