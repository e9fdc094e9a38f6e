-- Checks, first that applies, and what a refusal says in the rules' own numbers (document 01, "Definition lists", the table).
use Rattle.std.specs.Prelude.{ℕ, zero, suc, Bool, cond, Option, Some, None, Result, Ok, Err, List, [], ◌∷◌}
use Rattle.items.specs.Said.{unknown}
use Rattle.definition.specs.declared.Paper.{Paper}
use Rattle.definition.specs.declared.Refusal.{Refusal}
use Rattle.definition.specs.declared.Refusal.TheVariants.{Absent, TooMany, Unknown, NotIteration, NotTime}
use Rattle.definition.specs.declared.Refusal.TheVariants.{WrongLength, WrongLengthInter, Unmet, Interval}

-- a refusal's number and place; only refusal 3 has a round beside its place
abbrev pub refusal : (number place round : ℕ) → Paper
refusal number place round = record { number = number; place = place; round = round }

-- the number and place of each refusal in the table
abbrev pub paper_of : Refusal → Paper
paper_of (Absent list) = refusal 1 list 0
paper_of (TooMany n) = refusal 2 n 0
paper_of (Unknown list round) = refusal 3 list round
paper_of NotIteration = refusal 4 0 0
paper_of NotTime = refusal 5 1 0
paper_of (WrongLength n) = refusal 6 n 0
paper_of (WrongLengthInter n) = refusal 7 n 0
paper_of (Unmet field) = refusal 8 field 0
paper_of Interval = refusal 9 0 0

-- what is found: no refusal, or one
abbrev pub Finding : Type 0
Finding = Option Paper

abbrev pub found : {A : Type 0} → Result A Refusal → Finding
found (Ok _) = None
found (Err r) = Some (paper_of r)

-- a check: the refusal's number and place, where it applies
abbrev pub check : Bool → (number place : ℕ) → Finding
check applies number place = cond applies (Some (refusal number place 0)) None

-- the first that applies
infixr 20 ◌or_else◌
unfoldable pub ◌or_else◌ : Finding → Finding → Finding
None or_else y = y
Some x or_else y = Some x

-- check 3 in round k: the first of some lists, each with its number and what its item says, whose item is unknown
unfoldable pub unknown_in : ℕ → List (ℕ × Option ℕ) → Finding
unknown_in k [] = None
unknown_in k (l ∷ ls) = cond (unknown l.1) (Some (refusal 3 l.0 k)) (unknown_in k ls)

-- check 3 in m rounds from round k on
unfoldable pub unknown_from : (ℕ → List (ℕ × Option ℕ)) → (k m : ℕ) → Finding
unknown_from said k zero = None
unknown_from said k (suc m) = unknown_in k (said k) or_else unknown_from said (suc k) m
