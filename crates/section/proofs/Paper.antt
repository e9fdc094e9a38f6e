-- The numbers tell answers apart, and verdicts: each can be read back from what it says in them.
use Prim.Native.Nat.{ℕ}
use Rattle.std.specs.Prelude.{None, Some, Ok, Err, unwrap_or}
use mathlib.Core.Bool.{cond}
use mathlib.Core.List.{List, [], ◌∷◌}
use mathlib.Core.Path.{◌≡◌, refl, ap}
use lib.Dec.{eqb}
use lib.ListN.{get_or}
use Rattle.plan.proofs.Papers.{read_back}
use Rattle.reader.specs.declared.Kind.{Kind}
use Rattle.reader.specs.declared.Kind.TheVariants as kind
use Rattle.reader.specs.Search.{byte_of, letter_of}
use Rattle.section.specs.declared.Answer.{Answer}
use Rattle.section.specs.declared.Answer.TheVariants.{Passed, Rejected, Event, Intra, Inter, Slow, Over, Refused}
use Rattle.section.specs.declared.Ending.TheVariants.{Going, Done, Out, Cut}
use Rattle.section.specs.declared.MainAnswer.{MainAnswer}
use Rattle.section.specs.declared.Refusal.TheVariants.{Unsound, TooShort}
use Rattle.section.specs.Refusals.{Check, pass}
use Rattle.section.specs.Answers.{Paper, paper_of, Finding, found}

-- ## Kinds

abbrev spelt : ℕ → Kind
spelt b = unwrap_or (letter_of b) kind.Event

spelt_back : (k : Kind) → spelt (byte_of k) ≡ k
unfolding letter_of
spelt_back kind.Event = refl
spelt_back kind.Intra = refl
spelt_back kind.Inter = refl
spelt_back kind.Gps = refl
spelt_back kind.Home = refl
spelt_back kind.Slow = refl

-- ## Answers

-- the value at a place
abbrev at : List ℕ → ℕ → ℕ
at vs i = get_or vs i 0

abbrev main_in : List ℕ → MainAnswer
main_in vs = record { at = at vs 0; iteration = at vs 1; time = at vs 2 }

-- a look in vain
abbrev vain_in : List ℕ → Answer
vain_in [] = Passed
vain_in (k ∷ vs) = Rejected (spelt k) (at vs 0)

-- by the number
answer_of : Paper → Answer
answer_of p =
    let n = p.number in
    let vs = p.values in
    cond (eqb n 69) (Event (record { at = at vs 0; event = record { code = at vs 1; first = at vs 2; second = at vs 3 } }))
    (cond (eqb n 73) (Intra (main_in vs))
    (cond (eqb n 80) (Inter (main_in vs))
    (cond (eqb n 83) (Slow (record { at = at vs 0 }))
    (cond (eqb n 10) (Refused Unsound)
    (cond (eqb n 11) (Refused (TooShort (at vs 0)))
    (cond (eqb n 1) (Over Out)
    (cond (eqb n 2) (Over (Cut (spelt (at vs 0)) (at vs 1)))
    (cond (eqb n 3) (Over Done)
    (cond (eqb n 4) (Over Going) (vain_in vs))))))))))

answer_back : (a : Answer) → answer_of (paper_of a) ≡ a
unfolding paper_of answer_of
answer_back (Event x) = refl
answer_back (Intra x) = refl
answer_back (Inter x) = refl
answer_back (Slow x) = refl
answer_back (Refused Unsound) = refl
answer_back (Refused (TooShort n)) = refl
answer_back (Over Out) = refl
answer_back (Over (Cut k p)) = ap (λ j. Over (Cut j p)) (spelt_back k)
answer_back (Over Done) = refl
answer_back (Over Going) = refl
answer_back Passed = refl
answer_back (Rejected k p) = ap (λ j. Rejected j p) (spelt_back k)

pub paper_injective : (a b : Answer) → paper_of a ≡ paper_of b → a ≡ b
paper_injective = read_back paper_of answer_of answer_back

-- ## Verdicts

verdict_of : Finding → Check
verdict_of None = pass
verdict_of (Some p) = cond (eqb p.number 10) (Err Unsound) (Err (TooShort (at p.values 0)))

verdict_back : (c : Check) → verdict_of (found c) ≡ c
unfolding found paper_of verdict_of
verdict_back (Ok u) = refl
verdict_back (Err Unsound) = refl
verdict_back (Err (TooShort n)) = refl

pub found_injective : (a b : Check) → found a ≡ found b → a ≡ b
found_injective = read_back found verdict_of verdict_back
