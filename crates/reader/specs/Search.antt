-- The bytes that frames begin with, and the search for the next of them (document 01, "The walk").
use Rattle.std.specs.Prelude.{ℕ, suc, Bool, true, false, cond, List, [], ◌∷◌, eqb, Option, Some, None}
use Rattle.reader.specs.declared.Kind.{Kind}
use Rattle.reader.specs.declared.Kind.TheVariants.{Event, Intra, Inter, Gps, Home, Slow}

-- the byte of each kind: E I P G H S
abbrev pub byte_of : Kind → ℕ
byte_of Event = 69
byte_of Intra = 73
byte_of Inter = 80
byte_of Gps = 71
byte_of Home = 72
byte_of Slow = 83

-- the kind that a byte stands for, if any
unfoldable pub letter_of : ℕ → Option Kind
letter_of b =
    cond (eqb b (byte_of Event)) (Some Event)
    (cond (eqb b (byte_of Intra)) (Some Intra)
    (cond (eqb b (byte_of Inter)) (Some Inter)
    (cond (eqb b (byte_of Gps)) (Some Gps)
    (cond (eqb b (byte_of Home)) (Some Home)
    (cond (eqb b (byte_of Slow)) (Some Slow) None)))))

-- a search goes to the next of E I S G H, not P
unfoldable pub searched : Option Kind → Bool
searched (Some Event) = true
searched (Some Intra) = true
searched (Some Inter) = false
searched (Some Gps) = true
searched (Some Home) = true
searched (Some Slow) = true
searched None = false

abbrev pub further : Option ℕ → Option ℕ
further None = None
further (Some n) = Some (suc n)

-- how far ahead the next of them stands, if one is left
unfoldable pub ahead : List ℕ → Option ℕ
ahead [] = None
ahead (b ∷ t) = cond (searched (letter_of b)) (Some 0) (further (ahead t))
