-- The statuses of a count: 1, 2 or 3, since every walk ends.
use Prim.Native.Nat.{ℕ, ◌<◌, ◌≤◌}
use mathlib.Core.Bool.{false, true≢false}
use mathlib.Core.List.{List}
use mathlib.Core.Path.{◌≡◌, sym, ap, ◌∙◌, subst}
use native.Mathlib.Omega.{arith}
use lib.Dec.{leb}
use lib.ListN.{length}
use Rattle.bits.proofs.Laws.{by_test}
use Rattle.plan.specs.declared.Definition.{Definition}
use Rattle.plan.specs.Sound.{sound}
use Rattle.section.specs.declared.Ending.{Ending}
use Rattle.section.specs.declared.Ending.TheVariants.{Going, Done, Out, Cut}
use Rattle.section.specs.Answers.{is_over}
use Rattle.section.specs.Walk.{start}
use Rattle.section.proofs.Alike.{is_going}
use Rattle.rows.proofs.Ended.{called_ends}
use Rattle.walks.specs.declared.Goal.TheVariants.{End}
use Rattle.walks.specs.Walks.{walked}
use Rattle.walks.proofs.Walks.{walk_first, walk_ends}
use Rattle.store.specs.Definition.{is_definition, definition_at}
use Rattle.dulimasca.specs.Calls.{count_reply, count_by, count_of}
use Rattle.dulimasca.specs.Owes.{CountOwes}
use Rattle.dulimasca.specs.Told.{Reply, told_length, packed, if_room, status_by}
use Rattle.dulimasca.proofs.Packing.{refused_from_256}

-- a walk that has ended says how
ended_status : (e : Ending) → is_going e ≡ false → (1 ≤ status_by e) × (status_by e ≤ 3)
unfolding status_by
ended_status Going h = absurd (true≢false h)
ended_status Out h = (omega arith, omega arith)
ended_status (Cut k p) h = (omega arith, omega arith)
ended_status Done h = (omega arith, omega arith)

walk_ended : (d : Definition) (s : List ℕ) → is_going (walked End d s start).walk.tally.ending ≡ false
walk_ended d s =
    let f = walk_first End d s start in
    ap (λ o. is_going o.walk.tally.ending) f.is ∙ called_ends d s _ (ap (λ o. is_over o.answer) (sym f.is) ∙ walk_ends d s start)

abbrev Ended : Reply → Type 0
Ended r = r.answer < 256 → (1 ≤ r.answer) × (r.answer ≤ 3)

refused : (number place round : ℕ) → packed number place round < 256 → (1 ≤ packed number place round) × (packed number place round ≤ 3)
refused number place round h = let no = refused_from_256 number place round in absurd (omega arith)

-- a count that is not refused says out of data, cut or done
pub count_ended : (def s told : List ℕ) {r : ℕ} {told' : List ℕ} → CountOwes def s told r told' → r < 256 → (1 ≤ r) × (r ≤ 3)
unfolding count_of count_by count_reply if_room
count_ended def s told owes =
    subst Ended (sym owes)
    (by_test Ended (is_definition def)
    (λ _. by_test Ended (sound (definition_at def))
    (λ _. by_test Ended (leb told_length (length told)) (λ _ _. ended_status _ (walk_ended (definition_at def) s)) (λ _. refused 11 told_length 0))
    (λ _. refused 10 0 0))
    (λ _. refused 10 0 0))
