-- What an accepted frame does, by its kind.
use Prim.Native.Nat.{ℕ}
use mathlib.Core.List.{List, []}
use mathlib.Core.Path.{◌≡◌, refl, sym, ap, ◌∙◌}
use lib.ListN.{take}
use lib.Seq.{sets}
use Rattle.plan.specs.declared.Definition.{Definition}
use Rattle.plan.specs.Plan.{fields, shape, rules}
use Rattle.raws.specs.declared.Raw.{Raw}
use Rattle.frame.specs.declared.MainFrame.{MainFrame}
use Rattle.frame.specs.Frames.{slow_values}
use Rattle.frame.specs.Owes as frame
use Rattle.frame.specs.Past.{body_of}
use Rattle.history.specs.declared.History.{History}
use Rattle.history.specs.History.{pushed, past}
use Rattle.event.specs.declared.Event as event
use Rattle.extent.specs.declared.Found.{Found}
use Rattle.extent.specs.declared.Found.TheVariants.{Event, Intra, Inter, Slow}
use Rattle.section.specs.declared.Answer.{Answer}
use Rattle.section.specs.declared.Answer.TheVariants as answer
use Rattle.section.specs.declared.MainAnswer.{MainAnswer}
use Rattle.section.specs.declared.Tally.{Tally}
use Rattle.section.specs.Answers.{paper_of, Told, handed}
use Rattle.section.specs.Walk.{intra_of, inter_of, main_answer, history_with, answer_with, fields_with, outcome}

-- an answer without fields, behind fields that are put
hands : (t : Tally) (vs out : List ℕ) {a b : Answer} {g h : History} {after : List ℕ} → a ≡ b → g ≡ h → after ≡ sets out 0 vs
    → handed (outcome a [] t g) after ≡ handed (outcome b vs t h) out
unfolding handed
hands t vs out same past put = λ i. record { said = paper_of (same i); trials = t.trials; walk = record { tally = t; history = past i }; out = put i }

-- ## An accepted frame

module _ (d : Definition) (f : Found) (x : Raw) (p : ℕ) (t : Tally) (h : History) (out : List ℕ) where
  abbrev accepted_as : Found → Told
  accepted_as g = handed (outcome (answer_with d g p x h) (fields_with d g x h) t (history_with d g x h)) out

  accepted_is : {g : Found} → f ≡ g → accepted_as g ≡ accepted_as f
  accepted_is e = sym (ap accepted_as e)

  module _ {r : Told} where
    pub accept_event : {e : event.Event} → f ≡ Event e → r ≡ handed (outcome (answer.Event (record { at = p; event = e })) [] t h) out → r ≡ accepted_as f
    unfolding answer_with fields_with history_with
    accept_event e tells = tells ∙ accepted_is e

    module _ {m : MainFrame} {a : MainAnswer} {g : History} {n : ℕ} {after : List ℕ} where
      pub accept_intra : f ≡ Intra → frame.IntraOwes d h.last x m → n ≡ fields d.main → after ≡ sets out 0 (take n m.values) → a ≡ main_answer p m
          → g ≡ pushed h m → r ≡ handed (outcome (answer.Intra a) [] t g) after → r ≡ accepted_as f
      unfolding answer_with fields_with history_with past
      accept_intra e made count put shown push tells =
          let is = made (body_of h.older) in
          tells
          ∙ hands t (take (fields d.main) (intra_of d x h).values) out (ap answer.Intra shown ∙ ap (λ m. answer.Intra (main_answer p m)) is)
          (push ∙ ap (pushed h) is) (put ∙ (λ i. sets out 0 (take (count i) (is i).values)))
          ∙ accepted_is e

      pub accept_inter : f ≡ Inter → frame.InterOwes d h.last h.older x m → n ≡ fields d.main → after ≡ sets out 0 (take n m.values)
          → a ≡ main_answer p m → g ≡ pushed h m → r ≡ handed (outcome (answer.Inter a) [] t g) after → r ≡ accepted_as f
      unfolding answer_with fields_with history_with past
      accept_inter e is count put shown push tells =
          tells
          ∙ hands t (take (fields d.main) (inter_of d x h).values) out (ap answer.Inter shown ∙ ap (λ m. answer.Inter (main_answer p m)) is)
          (push ∙ ap (pushed h) is) (put ∙ (λ i. sets out 0 (take (count i) (is i).values)))
          ∙ accepted_is e

    pub accept_slow : {vs after : List ℕ} → f ≡ Slow → frame.SlowOwes d x vs → after ≡ sets out 0 (take d.slow.n vs)
        → r ≡ handed (outcome (answer.Slow (record { at = p })) [] t h) after → r ≡ accepted_as f
    unfolding answer_with fields_with history_with
    accept_slow e is put tells =
        tells
        ∙ hands t (take d.slow.n (slow_values (shape d) (rules d) x)) out refl refl (put ∙ ap (λ vs. sets out 0 (take d.slow.n vs)) is)
        ∙ accepted_is e
