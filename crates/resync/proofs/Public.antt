-- Demand 3 of the library's own functions, out of demand 3 over the definition: below k, what a run shows is what the definition's steps show.
use Prim.Native.Nat.{ℕ, suc, ◌<◌}
use mathlib.Core.Bool.{Bool, true}
use mathlib.Core.List.{List, ◌++◌}
use mathlib.Core.Path.{◌≡◌, refl, sym, ap, ◌∙◌}
use native.Mathlib.Omega.{arith}
use lib.ListN.{length}
use Rattle.plan.specs.declared.Definition.{Definition}
use Rattle.plan.specs.Sound.{sound}
use Rattle.section.specs.declared.Answer.{Answer}
use Rattle.section.specs.declared.Tally.{Tally}
use Rattle.section.specs.declared.Walk.{Walk}
use Rattle.section.specs.Refusals.{admitted}
use Rattle.section.specs.Walk.{Outcome, start, tick}
use Rattle.section.proofs.Stays.{tick_counts, start_admitted}
use Rattle.calls.specs.Call.{after, called}
use Rattle.calls.proofs.Calls.{called_counts}
use Rattle.calls.proofs.Until.{after_keeps}
use Rattle.walks.specs.Walks.{counts_of, through_of}
use Rattle.section.proofs.Fields.{Full, tick_full}
use Rattle.calls.proofs.Fields.{called_full}
use Rattle.calls.proofs.Turns.{Kept, tick_kept, called_kept}
use Rattle.walks.proofs.Kept.{after_admitted}
use Rattle.walks.proofs.Over.{through_later}
use Rattle.walks.proofs.Walks.{Through, through_calls}
use Rattle.resync.specs.Code.{RunsResynced, ComesTo, Demand3Code}
use Rattle.resync.specs.Demand3.{Tries, Level, Resynced, ResyncedBy}
use Rattle.resync.specs.From.{Same, outline}
use Rattle.resync.specs.Runs.{Shown, shown, behind, is_intra, is_inter}
use Rattle.resync.proofs.Promised.{Owes, run_walk, run_shows, run_reports}
use Rattle.resync.proofs.Resync.{demand3}
use Rattle.resync.proofs.Through.{through_last, count_last, end_alike}

-- ## Sequences that agree in their first k

module _ (d : Definition) (pre pre' c : List ℕ) (t t' : Tally) (k : ℕ) (e e' f f' : ℕ → Shown) (x x' y y' : ℕ → Walk) (shows : (n : ℕ) → n < k → e n ≡ f n)
    (shows' : (n : ℕ) → n < k → e' n ≡ f' n) (walks : (n : ℕ) → n < k → x n ≡ y n) (walks' : (n : ℕ) → n < k → x' n ≡ y' n) where
  same_by : (n : ℕ) → n < k → Same (length pre) (length pre') (f n) (f' n) → Same (length pre) (length pre') (e n) (e' n)
  same_by n h same = rw (shows n h, shows' n h) same

  -- the kind of what is shown
  shown_by : (is : Answer → Bool) (n : ℕ) → n < k → {q : Bool} → is (e n).answer ≡ q → is (f n).answer ≡ q
  shown_by is n h a = sym (ap (λ (s : Shown). is s.answer) (shows n h)) ∙ a

  resynced_by : Resynced d pre pre' c t t' k f f' y y' → Resynced d pre pre' c t t' k e e' x x'
  resynced_by r =
      record {
        alike = λ n h. rw (shows n h, shows' n h) (r.alike n h);
        bytes = λ n h. rw (shows n h, shows' n h, walks n h, walks' n h) (r.bytes n h);
        level = λ n h. rw (walks n h, walks' n h) (r.level n h);
        others = λ n h a b. same_by n h (r.others n h (shown_by is_intra n h a) (shown_by is_inter n h b));
        intra = λ alone n h a. same_by n h (r.intra alone n h (shown_by is_intra n h a));
        two = λ alone i j n before later h a b between. same_by n h
            (r.two alone i j n before later h (shown_by is_intra i (omega arith) a) (shown_by is_intra j (omega arith) b)
            (λ m low high. shown_by is_inter m (omega arith) (between m low high)));
        one = λ alone by_Last i n later h a. same_by n h (r.one alone by_Last i n later h (shown_by is_intra i (omega arith) a));
      }

-- ## Runs of `call` and of `look`

module _ (step : Definition → List ℕ → Walk → Outcome)
    (keeps : (d : Definition) (s : List ℕ) (w : Walk) → Kept d s w → Kept d s (step d s w).walk)
    (full : (d : Definition) → sound d ≡ true → (s : List ℕ) (w : Walk) → Full d (step d s w))
    (d : Definition) (pre pre' c : List ℕ) (t t' : Tally) (w w' : Walk) (four : length w.tally.counts ≡ 4) (four' : length w'.tally.counts ≡ 4) where
  runs_code : ResyncedBy d pre pre' c t t' (step d) w w' → RunsResynced (λ d s. Owes d s (step d s)) d pre pre' c t t' w w'
  runs_code demand =
      let s = pre ++ c in
      let s' = pre' ++ c in
      record {
        resynced = λ k r r'. resynced_by d pre pre' c t t' k _ _ _ _ _ _ _ _
            (run_shows d s (step d s) (keeps d s) (λ h. full d h s) w four k r) (run_shows d s' (step d s') (keeps d s') (λ h. full d h s') w' four' k r')
            (run_walk d s (step d s) (keeps d s) (λ h. full d h s) w four k r)
            (run_walk d s' (step d s') (keeps d s') (λ h. full d h s') w' four' k r') (demand k);
        reports = run_reports d s (step d s) (keeps d s) (λ h. full d h s) w four;
        reports' = run_reports d s' (step d s') (keeps d s') (λ h. full d h s') w' four';
      }

-- an array of four behind steps is one before them
module _ (step : Walk → Outcome) (counts : (w : Walk) → length (step w).walk.tally.counts ≡ length w.tally.counts) where
  four_before : (n : ℕ) (v w : Walk) → after step n v ≡ w → length w.tally.counts ≡ 4 → length v.tally.counts ≡ 4
  four_before n v w comes four =
      sym (after_keeps step (λ u. length u.tally.counts ≡ length v.tally.counts) (λ u e. counts u ∙ e) n v refl)
      ∙ ap (λ (u : Walk). length u.tally.counts) comes
      ∙ four

four_first : (d : Definition) (s : List ℕ) (w : Walk) {p : ℕ} → Tries d s w p → length w.tally.counts ≡ 4
four_first d s w t = four_before (tick d s) (tick_counts d s) t.looks w t.there t.comes t.four

-- ## Whole walks that come to a walk

module _ (d : Definition) (s : List ℕ) (v w : Walk) (n : ℕ) (comes : ComesTo d s n v w)
    (h : admitted d (length s) v ≡ true) (four : length w.tally.counts ≡ 4) where
  kept_first : Kept d s v
  kept_first = record { so = h; four = four_before (called d s) (called_counts d s) n v w comes four }

  same_through : through_of d s v ≡ through_of d s w
  same_through = sym (through_later d s n v kept_first) ∙ ap (through_of d s) comes

  through_from : Through d s w
  through_from = through_calls d s w (ap (admitted d (length s)) (sym comes) ∙ after_admitted d s n v h kept_first.four)

-- ## The theorem

pub demand3_code : (d : Definition) (pre pre' c : List ℕ) (w w' : Walk) (t : Tries d (pre ++ c) w (length pre)) (t' : Tries d (pre' ++ c) w' (length pre'))
    → Demand3Code d pre pre' c w w' t t'
demand3_code d pre pre' c w w' t t' =
    let s = pre ++ c in
    let s' = pre' ++ c in
    let x = t.there.tally in
    let x' = t'.there.tally in
    let four = four_first d s w t in
    let four' = four_first d s' w' t' in
    let demand = demand3 d pre pre' c w w' t t' in
    let alike : (n : ℕ) → Same (length pre) (length pre') (outline (shown (called d s) w n)) (outline (shown (called d s') w' n)) =
    λ n. (demand.calls (suc n)).alike n (omega arith) in
    let level : (n : ℕ) → Level (length pre) (length pre') x x' (behind (called d s) w n).tally (behind (called d s') w' n).tally =
    λ n. (demand.calls (suc n)).level n (omega arith) in
    record {
      calls = runs_code called called_kept called_full d pre pre' c x x' w w' four four' demand.calls;
      looks = runs_code tick tick_kept tick_full d pre pre' c x x' t.there t'.there t.four t'.four demand.looks;
      through = λ v v' n n' comes comes' h h' r r' owes owes'.
          let f = through_from d s v w n comes h four in
          let f' = through_from d s' v' w' n' comes' h' four' in
          end_alike d s s' w w' f f' (length pre) (length pre') x x' alike level
          (through_last d s w f r (owes ∙ same_through d s v w n comes h four))
          (through_last d s' w' f' r' (owes' ∙ same_through d s' v' w' n' comes' h' four'));
      count = λ n n' comes comes' sound r r' owes owes'.
          let h = start_admitted d (length s) sound in
          let h' = start_admitted d (length s') sound in
          let f = through_from d s start w n comes h four in
          let f' = through_from d s' start w' n' comes' h' four' in
          end_alike d s s' w w' f f' (length pre) (length pre') x x' alike level
          (count_last d s w f r (owes ∙ ap counts_of (same_through d s start w n comes h four)))
          (count_last d s' w' f' r' (owes' ∙ ap counts_of (same_through d s' start w' n' comes' h' four')));
    }
