-- What one look shows of two walks that stand before the same bytes, and what later frames read behind it:
-- a main frame, made in both of the same raw numbers and of what each has read before, or anything else, which is the same in both and changes neither history.
use Prim.Native.Nat.{ℕ, ◌+◌}
use mathlib.Core.Bool.{false}
use mathlib.Core.List.{List, []}
use mathlib.Core.Path.{◌≡◌, refl, ap, ◌∙◌}
use lib.ListN.{take}
use Rattle.plan.specs.declared.Definition.{Definition}
use Rattle.plan.specs.Plan.{fields, shape, rules}
use Rattle.raws.specs.declared.Raw.{Raw}
use Rattle.frame.specs.declared.MainFrame.{MainFrame}
use Rattle.frame.specs.Frames.{intra_frame, inter_frame}
use Rattle.frame.specs.Past.{Past, past_of, body_of}
use Rattle.history.specs.declared.History.{History}
use Rattle.history.specs.History.{past}
use Rattle.extent.specs.declared.Found.{Found}
use Rattle.extent.specs.declared.Found.TheVariants as found
use Rattle.extent.specs.declared.Look.{Look}
use Rattle.extent.specs.declared.Seen.{Seen}
use Rattle.extent.specs.declared.Seen.TheVariants as seen
use Rattle.section.specs.declared.Answer.{Answer}
use Rattle.section.specs.declared.Answer.TheVariants.{Passed, Rejected, Event, Intra, Inter, Slow, Over}
use Rattle.section.specs.declared.Ending.TheVariants.{Out, Cut}
use Rattle.section.specs.declared.MainAnswer.{MainAnswer}
use Rattle.section.specs.declared.Walk.{Walk}
use Rattle.section.specs.Walk.{Outcome, main_answer, history_with, answer_with, fields_with, history_after, answer_after, fields_after, settled, over}
use Rattle.section.proofs.Alike.{intra_past, inter_past}
use Rattle.resync.specs.From.{ending_from, answer_from, from, Same, SameEnding, AsMuch}
use Rattle.resync.specs.Runs.{Shown, shown_by, is_intra, is_inter}

-- what a step shows of a main frame
abbrev pub framed : (fields : ℕ) → (tell : MainAnswer → Answer) → (at : ℕ) → MainFrame → Shown
framed n tell p f = record { answer = tell (main_answer p f); fields = take n f.values }

-- the same main frame in both, from the pasts g and g' to h and h'
pub record Made (n : ℕ) (make : Past → Raw → MainFrame) (tell : MainAnswer → Answer) (b b' : ℕ) (g g' : Past) (e e' : Shown) (h h' : Past) : Type 0 where
  pub at : ℕ
  pub raw : Raw
  pub shows : e ≡ from b (framed n tell at (make g raw))
  pub shows' : e' ≡ from b' (framed n tell at (make g' raw))
  pub pushes : h ≡ past_of (body_of (make g raw)) g.last
  pub pushes' : h' ≡ past_of (body_of (make g' raw)) g'.last

-- anything else
pub record Other (b b' : ℕ) (g g' : Past) (e e' : Shown) (h h' : Past) : Type 0 where
  pub same : Same b b' e e'
  pub no_intra : is_intra e.answer ≡ false
  pub no_inter : is_inter e.answer ≡ false
  pub keeps : h ≡ g
  pub keeps' : h' ≡ g'

pub data Both (d : Definition) (b b' : ℕ) (g g' : Past) (e e' : Shown) (h h' : Past) : Type 0 where
  other : Other b b' g g' e e' h h' → Both d b b' g g' e e' h h'
  intra : Made (fields d.main) (intra_frame (shape d) (rules d)) Intra b b' g g' e e' h h' → Both d b b' g g' e e' h h'
  inter : Made (fields d.main) (inter_frame (shape d) (rules d)) Inter b b' g g' e e' h h' → Both d b b' g g' e e' h h'

-- ## A look

module _ (d : Definition) (b b' n p p' : ℕ) (here : p ≡ b + n) (there : p' ≡ b' + n) (x : Raw) (h h' : History) where
  abbrev BothAt : (a a' : Answer) → (vs vs' : List ℕ) → (k k' : History) → Type 0
  BothAt a a' vs vs' k k' =
      Both d b b' (past h) (past h') (record { answer = a; fields = vs }) (record { answer = a'; fields = vs' }) (past k) (past k')

  -- an answer that names its place, if any, and no history
  untouched : (a : ℕ → Answer) → (vs : List ℕ) → ((m q : ℕ) → a (m + q) ≡ answer_from m (a q))
      → is_intra (a p) ≡ false → is_inter (a p) ≡ false → BothAt (a p) (a p') vs vs h h'
  untouched a vs moves no_intra no_inter =
      other (record {
        same = (
          record { answer = a n; fields = vs },
          λ i. record { answer = (ap a here ∙ moves b n) i; fields = vs },
          λ i. record { answer = (ap a there ∙ moves b' n) i; fields = vs },
        );
        no_intra = no_intra;
        no_inter = no_inter;
        keeps = refl;
        keeps' = refl;
      })

  with_both : (f : Found)
      → BothAt (answer_with d f p x h) (answer_with d f p' x h') (fields_with d f x h) (fields_with d f x h') (history_with d f x h) (history_with d f x h')
  unfolding answer_with fields_with history_with answer_from is_intra is_inter
  with_both (found.Event e) = untouched (λ q. Event (record { at = q; event = e })) [] (λ m q. refl) refl refl
  with_both found.Intra =
      intra (record {
        at = n;
        raw = x;
        shows = ap (λ q. framed (fields d.main) Intra q (intra_frame (shape d) (rules d) (past h) x)) here;
        shows' = ap (λ q. framed (fields d.main) Intra q (intra_frame (shape d) (rules d) (past h') x)) there;
        pushes = intra_past d x h;
        pushes' = intra_past d x h';
      })
  with_both found.Inter =
      inter (record {
        at = n;
        raw = x;
        shows = ap (λ q. framed (fields d.main) Inter q (inter_frame (shape d) (rules d) (past h) x)) here;
        shows' = ap (λ q. framed (fields d.main) Inter q (inter_frame (shape d) (rules d) (past h') x)) there;
        pushes = inter_past d x h;
        pushes' = inter_past d x h';
      })
  with_both found.Slow = untouched (λ q. Slow (record { at = q })) (fields_with d found.Slow x h) (λ m q. refl) refl refl

  after_both : (y : Seen)
      → BothAt (answer_after d y p x h) (answer_after d y p' x h') (fields_after d y x h) (fields_after d y x h')
      (history_after d y x h) (history_after d y x h')
  unfolding answer_after fields_after history_after answer_from ending_from is_intra is_inter
  after_both seen.Nothing = untouched (λ q. Over Out) [] (λ m q. refl) refl refl
  after_both (seen.Passed s) = untouched (λ q. Passed) [] (λ m q. refl) refl refl
  after_both (seen.Rejected k s) = untouched (λ q. Rejected k q) [] (λ m q. refl) refl refl
  after_both (seen.Cutoff k) = untouched (λ q. Over (Cut k q)) [] (λ m q. refl) refl refl
  after_both (seen.Accepted f m) = with_both f

abbrev pub past_in : Walk → Past
past_in w = past w.history

-- two outcomes, of walks with these pasts before
abbrev pub BothOf : Definition → (b b' : ℕ) → (g g' : Past) → (o o' : Outcome) → Type 0
BothOf d b b' g g' o o' = Both d b b' g g' (shown_by o) (shown_by o') (past_in o.walk) (past_in o'.walk)

pub settled_both : (d : Definition) (b b' : ℕ) (l : Look) (z z' : ℕ) (v w : Walk) → AsMuch b v.tally.place b' w.tally.place
    → BothOf d b b' (past_in v) (past_in w) (settled d l z v) (settled d l z' w)
unfolding settled
settled_both d b b' l z z' v w (n, here, there) =
    after_both d b b' n v.tally.place w.tally.place here there l.raw v.history w.history l.seen

pub over_both : (d : Definition) (b b' : ℕ) (v w : Walk) → SameEnding b b' v.tally.ending w.tally.ending
    → BothOf d b b' (past_in v) (past_in w) (over v) (over w)
unfolding over answer_from is_intra is_inter
over_both d b b' v w (e, here, there) =
    other (record {
      same =
          (record { answer = Over e; fields = [] }, λ i. record { answer = Over (here i); fields = [] }, λ i. record { answer = Over (there i); fields = [] });
      no_intra = refl;
      no_inter = refl;
      keeps = refl;
      keeps' = refl;
    })
