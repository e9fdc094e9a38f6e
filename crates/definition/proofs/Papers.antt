-- The rules' numbers tell the refusals apart: a refusal, and a verdict, can be read back from what it says in them.
use Prim.Native.Nat.{◌-◌}
use mathlib.Core.List.{[], ◌∷◌}
use Rattle.std.specs.Prelude.{None, Some, Result, Ok, Err}
use mathlib.Core.Path.{◌≡◌, refl, ap}
use lib.ListN.{get_or}
use Rattle.plan.proofs.Papers.{read_back}
use Rattle.definition.specs.declared.Paper.{Paper}
use Rattle.definition.specs.declared.Refusal.{Refusal}
use Rattle.definition.specs.declared.Refusal.TheVariants.{Absent, TooMany, Unknown, NotIteration, NotTime}
use Rattle.definition.specs.declared.Refusal.TheVariants.{WrongLength, WrongLengthInter, Unmet, Interval}
use Rattle.definition.specs.Checks.{paper_of, Finding, found}

-- refusals 1 to 9 in their order
refusal_of : Paper → Refusal
refusal_of p =
    get_or
    (Absent p.place
    ∷ TooMany p.place
    ∷ Unknown p.place p.round
    ∷ NotIteration
    ∷ NotTime
    ∷ WrongLength p.place
    ∷ WrongLengthInter p.place
    ∷ Unmet p.place
    ∷ Interval
    ∷ [])
    (p.number - 1) Interval

refusal_back : (r : Refusal) → refusal_of (paper_of r) ≡ r
unfolding refusal_of
refusal_back (Absent list) = refl
refusal_back (TooMany n) = refl
refusal_back (Unknown list round) = refl
refusal_back NotIteration = refl
refusal_back NotTime = refl
refusal_back (WrongLength n) = refl
refusal_back (WrongLengthInter n) = refl
refusal_back (Unmet field) = refl
refusal_back Interval = refl

pub paper_injective : (r s : Refusal) → paper_of r ≡ paper_of s → r ≡ s
paper_injective = read_back paper_of refusal_of refusal_back

verdict_of : Finding → Result (Unit {0}) Refusal
verdict_of None = Ok tt
verdict_of (Some p) = Err (refusal_of p)

verdict_back : (v : Result (Unit {0}) Refusal) → verdict_of (found v) ≡ v
unfolding verdict_of
verdict_back (Ok _) = refl
verdict_back (Err r) = ap Err (refusal_back r)

pub found_injective : (v w : Result (Unit {0}) Refusal) → found v ≡ found w → v ≡ w
found_injective = read_back found verdict_of verdict_back
