-- One input admits one answer: any two answers that a promise of this crate admits are equal.
use Prim.Native.Nat.{ℕ}
use mathlib.Core.List.{List}
use mathlib.Core.Path.{◌≡◌, ap}
use Rattle.items.specs.declared.Lists.{Lists}
use Rattle.plan.proofs.One.{one_answer}
use Rattle.plan.specs.declared.Numbers.{Numbers}
use Rattle.plan.specs.declared.Settings.{Settings}
use Rattle.definition.specs.declared.Defined.{Defined}
use Rattle.definition.specs.declared.Paper.{Paper}
use Rattle.definition.specs.declared.Refusal.{Refusal}
use Rattle.definition.specs.Defined.{Answer, told}
use Rattle.definition.specs.Owes.{PaperOwes, DefineOwes}
use Rattle.definition.proofs.Papers.{found_injective}

pub paper_one : (refusal : Refusal) {r t : Paper} → PaperOwes refusal r → PaperOwes refusal t → r ≡ t
paper_one refusal = one_answer

-- an answer told in the rules' numbers is the answer of one value
told_injective : (r t : Defined) → told r ≡ told t → r ≡ t
told_injective r t e i =
    record {
      verdict = found_injective r.verdict t.verdict (ap (λ (a : Answer). a.finding) e) i;
      definition = (e i).definition;
    }

pub define_one : (text : List ℕ) (lists : Lists) (numbers : Numbers) (settings : Settings) {r t : Defined}
    → DefineOwes text lists numbers settings r → DefineOwes text lists numbers settings t → r ≡ t
define_one text lists numbers settings {r} {t} p q = told_injective r t (one_answer p q)
