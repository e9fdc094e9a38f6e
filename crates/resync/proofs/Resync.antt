-- DEMAND 3: two runs from the same bytes, look by look and call by call. Assumes nothing.
use Prim.Native.Nat.{ℕ, zero, suc, ◌+◌, ◌<◌}
use mathlib.Core.Bool.{false}
use mathlib.Core.List.{List, ◌++◌}
use mathlib.Core.Path.{◌≡◌, refl, sym, ap, ◌∙◌, fun_ext}
use native.Mathlib.Nat.{add-zero}
use native.Mathlib.Omega.{arith}
use lib.ListN.{length, get_or}
use Rattle.plan.specs.declared.Definition.{Definition}
use Rattle.frame.specs.Past.{Past}
use Rattle.section.specs.declared.Ending.{Ending}
use Rattle.section.specs.declared.Ending.TheVariants.{Going}
use Rattle.section.specs.declared.Tally.{Tally}
use Rattle.section.specs.declared.Walk.{Walk}
use Rattle.section.specs.Walk.{Outcome, tick}
use Rattle.calls.specs.Call.{after, says, called}
use Rattle.calls.proofs.Ticks.{call_vain}
use Rattle.calls.proofs.Until.{after_suc}
use Rattle.resync.specs.Demand3.{Tries, Resynced, ResyncedBy, Demand3}
use Rattle.resync.specs.From.{ending_from}
use Rattle.resync.specs.Runs.{shown_by, shown, behind}
use Rattle.resync.proofs.Both.{Both, past_in}
use Rattle.resync.proofs.Bytes.{bytes_same}
use Rattle.resync.proofs.InStep.{Abreast, InStep, looks_in_step, calls_in_step}
use Rattle.resync.proofs.Later.{outlines, others_same, intra_same, two_intra, one_intra}

-- ## Two runs in step

module _ (d : Definition) (pre pre' c : List ℕ) (t t' : Tally) (step step' : Walk → Outcome) (in_step : InStep d pre pre' c t t' step step')
    (v w : Walk) (begin : Abreast d pre pre' c t t' v w) where
  abreast_at : (n : ℕ) → Abreast d pre pre' c t t' (after step n v) (after step' n w)
  unfolding after
  abreast_at zero = begin
  abreast_at (suc n) = rw (after_suc step n v, after_suc step' n w) (in_step (after step n v) (after step' n w) (abreast_at n)).abreast

  goes : (n : ℕ) → Both d (length pre) (length pre') (past_in (after step n v)) (past_in (after step' n w)) (shown step v n) (shown step' w n)
      (past_in (after step (suc n) v)) (past_in (after step' (suc n) w))
  unfolding shown
  goes n = rw (after_suc step n v, after_suc step' n w) (in_step (after step n v) (after step' n w) (abreast_at n)).both

  pub in_step_resynced : (k : ℕ) → Resynced d pre pre' c t t' k (shown step v) (shown step' w) (behind step v) (behind step' w)
  in_step_resynced k =
      let b = length pre in
      let b' = length pre' in
      let e = shown step v in
      let e' = shown step' w in
      let g : ℕ → Past = λ n. past_in (after step n v) in
      let g' : ℕ → Past = λ n. past_in (after step' n w) in
      let alike = outlines d b b' e e' g g' goes in
      record {
        alike = λ n _. alike n;
        bytes =
            λ n _. bytes_same pre pre' c (e n) (e' n) (alike n) (behind step v n).tally.place
            (behind step' w n).tally.place (abreast_at (suc n)).level.place;
        level = λ n _. (abreast_at (suc n)).level;
        others = λ n _. others_same d b b' e e' g g' goes n;
        intra = λ alone n _. intra_same d b b' e e' g g' goes alone n;
        two = λ alone i j n before later _. two_intra d b b' e e' g g' goes alone i j n before later;
        one = λ alone by_Last i n later _. one_intra d b b' e e' g g' goes alone by_Last i n later;
      }

-- ## Where both try a frame

none_more : (a : ℕ) → a ≡ a + 0
none_more a = sym (add-zero a)

module _ (d : Definition) (pre pre' c : List ℕ) (w w' : Walk) (t : Tries d (pre ++ c) w (length pre)) (t' : Tries d (pre' ++ c) w' (length pre')) where
  abbrev here : Tally
  here = t.there.tally

  abbrev there : Tally
  there = t'.there.tally

  going_from : (n : ℕ) (e : Ending) → e ≡ Going → e ≡ ending_from n Going
  unfolding ending_from
  going_from n e is = is

  begin : Abreast d pre pre' c here there t.there t'.there
  begin =
      record {
        level = record {
          place = (0, t.place ∙ none_more (length pre), t'.place ∙ none_more (length pre'));
          ending = (Going, going_from (length pre) here.ending t.going, going_from (length pre') there.ending t'.going);
          trials = (0, none_more here.trials, none_more there.trials);
          counts = λ i. (0, none_more (get_or here.counts i 0), none_more (get_or there.counts i 0));
        };
        four = t.four;
        four' = t'.four;
      }

  looks : ResyncedBy d pre pre' c here there (tick d) t.there t'.there
  looks = in_step_resynced d pre pre' c here there (tick d (pre ++ c)) (tick d (pre' ++ c)) (looks_in_step d pre pre' c here there) t.there t'.there begin

  calls : ResyncedBy d pre pre' c here there (called d) t.there t'.there
  calls =
      in_step_resynced d pre pre' c here there (called d (pre ++ c)) (called d (pre' ++ c)) (calls_in_step d pre pre' c here there) t.there t'.there begin

-- ## The call that makes the trial

-- looks in vain leave a call as it is
vain_call : (d : Definition) (s : List ℕ) (n : ℕ) (w : Walk) → ((m : ℕ) → m < n → says (shown (tick d s) w m).answer ≡ false)
    → called d s w ≡ called d s (after (tick d s) n w)
unfolding after shown
vain_call d s zero w vain = refl
vain_call d s (suc n) w vain = call_vain d s w (vain 0 (omega arith)) ∙ vain_call d s n (tick d s w).walk (λ m h. vain (suc m) (omega arith))

module _ (d : Definition) (s : List ℕ) (w : Walk) (p : ℕ) (t : Tries d s w p) where
  same_call : called d s w ≡ called d s t.there
  same_call = vain_call d s t.looks w t.vain ∙ ap (called d s) t.comes

  same_behind : (n : ℕ) → behind (called d s) w n ≡ behind (called d s) t.there n
  unfolding after
  same_behind n = ap (λ (o : Outcome). after (called d s) n o.walk) same_call

  same_shown : (n : ℕ) → shown (called d s) w n ≡ shown (called d s) t.there n
  unfolding shown after
  same_shown zero = ap shown_by same_call
  same_shown (suc n) = ap (λ u. shown_by (called d s u)) (same_behind n)

pub demand3 : (d : Definition) (pre pre' c : List ℕ) (w w' : Walk) (t : Tries d (pre ++ c) w (length pre)) (t' : Tries d (pre' ++ c) w' (length pre'))
    → Demand3 d pre pre' c w w' t t'
demand3 d pre pre' c w w' t t' =
    let s = pre ++ c in
    let s' = pre' ++ c in
    let b = length pre in
    let b' = length pre' in
    record {
      looks = looks d pre pre' c w w' t t';
      calls =
          rw (fun_ext (same_shown d s w b t), fun_ext (same_shown d s' w' b' t'), fun_ext (same_behind d s w b t), fun_ext (same_behind d s' w' b' t'))
          (calls d pre pre' c w w' t t');
    }
