-- What `each_answer` owes: the counts of the whole walk. What is printed is compared, and not proved.
use Rattle.std.specs.Prelude.{List, ℕ, ◌≡◌, Result, IfOk}
use Rattle.plan.specs.declared.Definition.{Definition}
use Rattle.section.specs.declared.Tally.{Tally}
use Rattle.section.specs.Walk.{start}
use Rattle.walks.specs.declared.Goal.TheVariants.{End}
use Rattle.walks.specs.Walks.{walked}

abbrev pub EachAnswerOwes : {E : Type 0} → Definition → List ℕ → Result Tally E → Type 0
EachAnswerOwes d s r = IfOk r (λ t. t ≡ (walked End d s start).walk.tally)
