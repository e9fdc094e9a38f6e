-- What each public function of this crate owes.
use Rattle.std.specs.Prelude.{ℕ, Bool, List, ◌≡◌, length, take, replicate}
use Rattle.std.proofs.lemmas.List.Edits.{sets}
use Rattle.plan.specs.declared.Definition.{Definition}
use Rattle.extent.specs.declared.Glance.{Glance}
use Rattle.extent.specs.declared.Look.{Look}
use Rattle.extent.specs.declared.Seen.{Seen}
use Rattle.extent.specs.Sight.{beside}
use Rattle.section.specs.declared.Answer.{Answer}
use Rattle.section.specs.declared.Looked.{Looked}
use Rattle.section.specs.declared.quick.Light.{Light}
use Rattle.section.specs.declared.quick.Settled.{Settled}
use Rattle.section.specs.declared.quick.Values.{Values}
use Rattle.section.specs.declared.Refusal.{Refusal}
use Rattle.section.specs.declared.Tally.{Tally}
use Rattle.section.specs.declared.Walk.{Walk}
use Rattle.section.specs.Answers.{found, refusal_for, is_over, paper_of, hands_out, told, handed, Tells, refusing, checked_first}
use Rattle.section.specs.Lent.{light_of, values_of, walk_of, told_beside}
use Rattle.section.specs.Refusals.{Check, admitted, needed, checked}
use Rattle.section.specs.Tally.{tally_after}
use Rattle.section.specs.Walk.{start, settled, over, tick}

abbrev pub StartOwes : Walk → Type 0
StartOwes r = r ≡ start

abbrev pub IsOverOwes : Answer → Bool → Type 0
IsOverOwes answer r = r ≡ is_over answer

abbrev pub AdmitsOwes : Definition → Walk → (length : ℕ) → Bool → Type 0
AdmitsOwes d w z r = r ≡ admitted d z w

abbrev pub RoomNeededOwes : Definition → ℕ → Type 0
RoomNeededOwes d r = r ≡ needed d

abbrev pub CheckOwes : Definition → Walk → (length room : ℕ) → Check → Type 0
CheckOwes d w z room r = found r ≡ refusal_for (needed d) d w z room

abbrev pub PutOwes : (values out after : List ℕ) → Type 0
PutOwes values out after = after ≡ sets out 0 values

abbrev pub FieldsOfOwes : Definition → Answer → ℕ → Type 0
FieldsOfOwes d answer r = r ≡ hands_out d answer

abbrev pub RefusedOwes : Refusal → Walk → Looked → Type 0
RefusedOwes why w r = (out : List ℕ) → told r out ≡ refusing why w out

abbrev pub OverOwes : Walk → Looked → Type 0
OverOwes w r = Tells r (over w)

-- the inside of a whole walk: what a look does to the tally, and to the walk with a buffer before and after it
abbrev pub AfterOwes : Tally → Seen → (length : ℕ) → Tally → Type 0
AfterOwes t x z r = r ≡ tally_after x z t

abbrev pub SettleOwes : Definition → Walk → Look → (length : ℕ) → (out : List ℕ) → Looked → (after : List ℕ) → Type 0
SettleOwes d w l z out r after = told r after ≡ handed (settled d l z w) out

-- in lent rooms: a walk in parts, and what a look does to it; the rooms for the fields hold them, and 0 behind the last, whatever they held before
abbrev pub LightOwes : Walk → Light → Type 0
LightOwes w r = r ≡ light_of w

abbrev pub ValuesOwes : Walk → Values → Type 0
ValuesOwes w r = r ≡ values_of w

abbrev pub WithOwes : Light → Values → Walk → Type 0
WithOwes w v r = r ≡ walk_of w v

abbrev pub SettleInOwes : Definition → Light → Glance → (raws : List ℕ) → (length : ℕ) → Values → Settled → (after : Values) → Type 0
SettleInOwes d w g raws z v r after = told_beside r after ≡ handed (settled d (beside g raws) z (walk_of w v)) (replicate 62 0)

-- the whole walk with its values, and of its fields as many as the answer hands out in a buffer
abbrev pub HandOutOwes : Definition → Settled → Values → (out : List ℕ) → Looked → (after : List ℕ) → Type 0
HandOutOwes d x v out r after =
    told r after ≡ record {
      said = paper_of x.answer;
      trials = x.walk.tally.trials;
      walk = walk_of x.walk v;
      out = sets out 0 (take (hands_out d x.answer) v.fields);
    }

-- one look at a section, and a buffer before and after it
abbrev pub LookOwes : Definition → Walk → List ℕ → (out : List ℕ) → Looked → (after : List ℕ) → Type 0
LookOwes d w s out r after = told r after ≡ checked_first (checked d w (length s) (length out)) (tick d s w) w out
