-- A REFUSAL WRITES NOTHING AT ALL: whatever a function is lent, where it answers 256 or more, all that was lent holds what it held.
use Prim.Native.Nat.{ℕ, ◌<◌, ◌≤◌}
use mathlib.Core.Bool.{◌&&◌}
use Rattle.std.specs.Prelude.{Option, Some, None, Result, Ok, Err}
use mathlib.Core.List.{List, []}
use mathlib.Core.Path.{◌≡◌, refl, sym, subst}
use native.Mathlib.Omega.{arith}
use lib.Dec.{leb}
use lib.ListN.{length}
use Rattle.bits.proofs.Laws.{by_test}
use Rattle.plan.specs.declared.Definition.{Definition}
use Rattle.plan.specs.declared.Sort.{Sort}
use Rattle.items.specs.declared.Stretch.{Stretch}
use Rattle.header.specs.declared.Header.{Header}
use Rattle.definition.specs.Checks.{Finding}
use Rattle.names.specs.Names.{name_at}
use Rattle.settings.specs.Stored.{settings_length, are_settings}
use Rattle.plan.specs.Sound.{sound}
use Rattle.section.specs.declared.Answer.{Answer}
use Rattle.section.specs.declared.Answer.TheVariants.{Passed, Rejected, Event, Intra, Inter, Slow, Over, Refused}
use Rattle.section.specs.Refusals.{Check}
use Rattle.section.specs.declared.Ending.{Ending}
use Rattle.section.specs.declared.Ending.TheVariants.{Going, Done, Out, Cut}
use Rattle.section.specs.declared.Refusal.TheVariants.{Unsound, TooShort}
use Rattle.section.specs.Answers.{paper_of}
use Rattle.section.specs.Walk.{Outcome}
use Rattle.rows.specs.declared.Laid.{Laid}
use Rattle.rows.specs.declared.Unlaid.{Unlaid}
use Rattle.store.specs.Definition.{definition_length, is_definition, definition_at}
use Rattle.store.specs.State.{state_length, is_state}
use Rattle.dulimasca.specs.Calls.{RowsReply, count_reply, count_by, count_of, filled, checked_fill, fill_by, fill_of}
use Rattle.dulimasca.specs.Calls.{rows_reply, checked_reply, rows_by, rows_of}
use Rattle.dulimasca.specs.Define.{settings_of, defined_reply, judged_reply, defined_by, define_of, start_of, name_reply, name_by, name_of}
use Rattle.dulimasca.specs.Owes.{SettingsOwes, DefineOwes, StartOwes, CountOwes, FillOwes, RowsOwes, NameOwes}
use Rattle.dulimasca.specs.Told.{Reply, reply, told_length, if_room, status_by, sort_for}

-- ## A reply that is a status, or writes nothing

abbrev Strict : (lent told : List ℕ) → Reply → Type 0
Strict lent told r = 256 ≤ r.answer → (r.lent ≡ lent) × (r.told ≡ told)

module _ {lent told : List ℕ} where
  refused : (a : ℕ) → Strict lent told (reply a lent told)
  refused a h = (refl, refl)

  stated : {a : ℕ} {x y : List ℕ} → a < 256 → Strict lent told (reply a x y)
  stated small h = absurd (omega arith)

  either : (r : Reply) → Strict lent told r → Strict lent told (if_room r lent told)
  unfolding if_room
  either r s = by_test (Strict lent told) (leb told_length (length told)) (λ _. s) (λ _. refused _)

-- ## Statuses

pub status_small : (e : Ending) → status_by e < 256
unfolding status_by
status_small Going = omega arith
status_small Out = omega arith
status_small (Cut k p) = omega arith
status_small Done = omega arith

number_small : (a : Answer) → (paper_of a).number < 256
unfolding paper_of
number_small Passed = omega arith
number_small (Rejected k p) = omega arith
number_small (Event x) = omega arith
number_small (Intra x) = omega arith
number_small (Inter x) = omega arith
number_small (Slow x) = omega arith
number_small (Over Going) = omega arith
number_small (Over Out) = omega arith
number_small (Over (Cut k p)) = omega arith
number_small (Over Done) = omega arith
number_small (Refused Unsound) = omega arith
number_small (Refused (TooShort n)) = omega arith

-- ## Each function

defined_strict : (h : Header) (d : Definition) (f : Finding) (buf told : List ℕ) → Strict buf told (defined_reply h d f buf told)
unfolding defined_reply
defined_strict h d None buf told = stated (omega arith)
defined_strict h d (Some p) buf told = refused _

pub settings_strict : (log buf : List ℕ) {r : ℕ} {buf' : List ℕ} → SettingsOwes log buf r buf' → 256 ≤ r → buf' ≡ buf
unfolding settings_of
settings_strict log buf owes h =
    (subst (Strict buf []) (sym owes) (by_test (Strict buf []) (leb settings_length (length buf)) (λ _. stated (omega arith)) (λ _. refused _)) h).0

pub define_strict : (log chosen buf told : List ℕ) {r : ℕ} {buf' told' : List ℕ} → DefineOwes log chosen buf told r buf' told' → 256 ≤ r →
    (buf' ≡ buf) × (told' ≡ told)
unfolding define_of defined_by judged_reply
define_strict log chosen buf told owes =
    subst (Strict buf told) (sym owes)
    (by_test (Strict buf told) (are_settings chosen)
    (λ _. by_test (Strict buf told) (leb definition_length (length buf)) (λ _. either _ (defined_strict _ _ _ buf told)) (λ _. refused _))
    (λ _. refused _))

pub start_strict : (st told : List ℕ) {r : ℕ} {st' told' : List ℕ} → StartOwes st told r st' told' → 256 ≤ r → (st' ≡ st) × (told' ≡ told)
unfolding start_of
start_strict st told owes =
    subst (Strict st told) (sym owes) (by_test (Strict st told) (leb state_length (length st)) (λ _. either _ (stated (omega arith))) (λ _. refused _))

named_strict : (s : Option Stretch) (told : List ℕ) → Strict [] told (name_reply s told)
unfolding name_reply
named_strict (Some name) told = stated (omega arith)
named_strict None told = stated (omega arith)

sorted_strict : (of : Option Sort) (d : Definition) (main slow : List ℕ) (k : ℕ) (told : List ℕ) → Strict [] told (name_by of d main slow k told)
unfolding name_by
sorted_strict None d main slow k told = refused _
sorted_strict (Some of) d main slow k told = either _ (named_strict (name_at d of main slow k) told)

pub name_strict : (def : List ℕ) (kind : ℕ) (main slow : List ℕ) (k : ℕ) (told : List ℕ) {r : ℕ} {told' : List ℕ} →
    NameOwes def kind main slow k told r told' → 256 ≤ r → told' ≡ told
unfolding name_of
name_strict def kind main slow k told owes h =
    (subst (Strict [] told) (sym owes)
    (by_test (Strict [] told) (is_definition def) (λ _. sorted_strict (sort_for kind) (definition_at def) main slow k told) (λ _. refused _))
    h).1

pub count_strict : (def s told : List ℕ) {r : ℕ} {told' : List ℕ} → CountOwes def s told r told' → 256 ≤ r → told' ≡ told
unfolding count_of count_by count_reply
count_strict def s told owes h =
    (subst (Strict [] told) (sym owes)
    (by_test (Strict [] told) (is_definition def)
    (λ _. by_test (Strict [] told) (sound (definition_at def)) (λ _. either _ (stated (status_small _))) (λ _. refused _))
    (λ _. refused _))
    h).1

checked_strict : (v : Check) (o : Outcome) (out told : List ℕ) → Strict out told (checked_fill v o out told)
unfolding checked_fill filled
checked_strict (Ok u) o out told = either _ (stated (number_small o.answer))
checked_strict (Err why) o out told = refused _

filled_strict : (of : Option Sort) (d : Definition) (s : List ℕ) (k : ℕ) (out told : List ℕ) → Strict out told (fill_by of d s k out told)
unfolding fill_by
filled_strict None d s k out told = refused _
filled_strict (Some of) d s k out told = checked_strict _ _ out told

pub fill_strict : (def s : List ℕ) (kind k : ℕ) (out told : List ℕ) {r : ℕ} {out' told' : List ℕ} → FillOwes def s kind k out told r out' told' → 256 ≤ r →
    (out' ≡ out) × (told' ≡ told)
unfolding fill_of
fill_strict def s kind k out told owes =
    subst (Strict out told) (sym owes)
    (by_test (Strict out told) (is_definition def) (λ _. filled_strict (sort_for kind) (definition_at def) s k out told) (λ _. refused _))

-- ## Rows

abbrev StrictRows : (st out told : List ℕ) → RowsReply → Type 0
StrictRows st out told r = 256 ≤ r.answer → (r.state ≡ st) × (r.out ≡ out) × (r.told ≡ told)

rows_checked : (x : Result Laid Unlaid) (lent st out told : List ℕ) → StrictRows st out told (checked_reply x lent st out told)
unfolding checked_reply rows_reply
rows_checked (Ok x) lent st out told =
    by_test (StrictRows st out told) (leb told_length (length told))
    (λ _ h. let small = status_small x.walk.tally.ending in absurd (omega arith))
    (λ _ h. (refl, refl, refl))
rows_checked (Err r) lent st out told = λ h. (refl, refl, refl)

pub rows_strict : (def st s out told : List ℕ) {r : ℕ} {st' out' told' : List ℕ} → RowsOwes def st s out told r st' out' told' → 256 ≤ r →
    (st' ≡ st) × (out' ≡ out) × (told' ≡ told)
unfolding rows_of rows_by
rows_strict def st s out told owes =
    subst (StrictRows st out told) (sym owes)
    (by_test (StrictRows st out told) (is_definition def && is_state st) (λ _. rows_checked _ _ st out told) (λ _ h. (refl, refl, refl)))
