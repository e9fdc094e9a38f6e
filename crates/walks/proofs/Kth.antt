-- A walk from the start that comes to a frame has counted k frames of its sort before it, and the frame is of that sort: it is the k-th, from 0.
-- So is every answer that the promise of `fill` admits, unless it is over.
use Prim.Native.Nat.{ℕ, zero, suc, ◌+◌, ◌≤◌, ◌<◌}
use Rattle.std.specs.Prelude.{Ok, Err}
use mathlib.Core.Bool.{Bool, true, false, ◌||◌, true≢false}
use mathlib.Core.List.{List}
use mathlib.Core.Logic.{◌⊎◌, inl, inr, ⊎_elim}
use mathlib.Core.Path.{◌≡◌, refl, sym, ap, ◌∙◌}
use native.Mathlib.Omega.{arith}
use lib.Dec.{ltb}
use lib.ListN.{length, get_or, set}
use lib.Seq.{get_or-set_same, get_or-set_other, set_out}
use borrow.Author.Tests.{ltb-true, ltb-false}
use Rattle.plan.specs.declared.Definition.{Definition}
use Rattle.raws.specs.declared.Raw.{Raw}
use Rattle.history.specs.declared.History.{History}
use Rattle.extent.specs.declared.Found.{Found}
use Rattle.extent.specs.declared.Found.TheVariants as found
use Rattle.extent.specs.declared.Look.{Look}
use Rattle.extent.specs.declared.Seen.{Seen}
use Rattle.extent.specs.declared.Seen.TheVariants as seen
use Rattle.section.specs.declared.Answer.{Answer}
use Rattle.section.specs.declared.Answer.TheVariants.{Passed, Rejected, Event, Intra, Inter, Slow, Over, Refused}
use Rattle.section.specs.declared.Looked.{Looked}
use Rattle.section.specs.declared.Walk.{Walk}
use Rattle.section.specs.Tally.{part_of, one_more, counts_after, tally_after}
use Rattle.section.specs.Walk.{Outcome, start, answer_with, answer_after, settled, over, tick}
use Rattle.section.specs.Answers.{Told, checked_first, handed, is_over, refusing, told}
use Rattle.section.specs.Refusals.{Check, checked}
use Rattle.section.proofs.Paper.{paper_injective}
use Rattle.section.proofs.Stays.{tick_by}
use Rattle.calls.specs.Call.{after, says, is_said, called}
use Rattle.calls.proofs.Ticks.{tick_moves, tick_end}
use Rattle.calls.proofs.Until.{after_suc, until_by}
use Rattle.walks.specs.declared.Goal.TheVariants.{Frame}
use Rattle.plan.specs.declared.Sort.{Sort}
use Rattle.plan.specs.declared.Sort.TheVariants as sort
use Rattle.walks.specs.Owes.{FillOwes}
use Rattle.walks.specs.Walks.{counted_at, is_reached, is_last, after_calls, walked, filled_of}
use Rattle.walks.proofs.Walks.{walk_first, walked_is_last}

-- a frame of a sort
unfoldable pub is_of : Sort → Answer → Bool
is_of of Passed = false
is_of of (Rejected k p) = false
is_of of (Event x) = false
is_of sort.Main (Intra x) = true
is_of sort.Main (Inter x) = true
is_of sort.Main (Slow x) = false
is_of sort.Slow (Intra x) = false
is_of sort.Slow (Inter x) = false
is_of sort.Slow (Slow x) = true
is_of of (Over e) = false
is_of of (Refused why) = false

-- how many frames of a sort are counted
abbrev pub count_of : Sort → Walk → ℕ
count_of of w = get_or w.tally.counts (counted_at of) 0

-- ## A look counts one frame of the sort, or none

-- what was counted before and behind an answer
abbrev Counts : Sort → (before behind : ℕ) → Answer → Type 0
Counts of c b a = (b ≡ c) ⊎ ((b ≤ c + 1) × (is_of of a ≡ true))

other : (l : List ℕ) (i j : ℕ) → (j ≡ i → ⊥) → get_or (one_more l i) j 0 ≡ get_or l j 0
unfolding one_more
other l i j n = get_or-set_other l i j _ 0 n

own : (l : List ℕ) (i : ℕ) → get_or (one_more l i) i 0 ≤ get_or l i 0 + 1
unfolding one_more
own l i = either (ltb i (length l)) refl
  where
    either : (t : Bool) → ltb i (length l) ≡ t → get_or (set l i (get_or l i 0 + 1)) i 0 ≤ get_or l i 0 + 1
    either true e = omega (arith, get_or-set_same l i (get_or l i 0 + 1) 0 (ltb-true i (length l) e))
    either false e = rw (set_out l i (get_or l i 0 + 1) (ltb-false i (length l) e)) (omega arith)

module _ (d : Definition) (p : ℕ) (x : Raw) (h : History) (l : List ℕ) where
  frame_counts : (of : Sort) (f : Found) → Counts of (get_or l (counted_at of) 0) (get_or (one_more l (part_of f)) (counted_at of) 0) (answer_with d f p x h)
  unfolding counted_at part_of answer_with is_of
  frame_counts sort.Main (found.Event e) = inl (other l 1 0 (λ e. omega arith))
  frame_counts sort.Main found.Intra = inr (own l 0, refl)
  frame_counts sort.Main found.Inter = inr (own l 0, refl)
  frame_counts sort.Main found.Slow = inl (other l 2 0 (λ e. omega arith))
  frame_counts sort.Slow (found.Event e) = inl (other l 1 2 (λ e. omega arith))
  frame_counts sort.Slow found.Intra = inl (other l 0 2 (λ e. omega arith))
  frame_counts sort.Slow found.Inter = inl (other l 0 2 (λ e. omega arith))
  frame_counts sort.Slow found.Slow = inr (own l 2, refl)

  seen_counts : (of : Sort) (y : Seen) → Counts of (get_or l (counted_at of) 0) (get_or (counts_after y l) (counted_at of) 0) (answer_after d y p x h)
  unfolding counts_after answer_after counted_at
  seen_counts of seen.Nothing = inl refl
  seen_counts of (seen.Passed k) = inl refl
  seen_counts sort.Main (seen.Rejected k j) = inl (other l 3 0 (λ e. omega arith))
  seen_counts sort.Slow (seen.Rejected k j) = inl (other l 3 2 (λ e. omega arith))
  seen_counts of (seen.Cutoff k) = inl refl
  seen_counts of (seen.Accepted f m) = frame_counts of f

-- a frame says something
of_says : (of : Sort) (a : Answer) → is_of of a ≡ true → says a ≡ true
unfolding is_of says
of_says of Passed e = e
of_says of (Rejected k p) e = e
of_says of (Event x) e = refl
of_says of (Intra x) e = refl
of_says of (Inter x) e = refl
of_says of (Slow x) e = refl
of_says of (Over x) e = refl
of_says of (Refused why) e = refl

module _ (d : Definition) (s : List ℕ) (of : Sort) where
  settled_counts : (l : Look) (w : Walk) → Counts of (count_of of w) (count_of of (settled d l (length s) w).walk) (settled d l (length s) w).answer
  unfolding settled tally_after
  settled_counts l w = seen_counts d w.tally.place l.raw w.history w.tally.counts of l.seen

  look_counts : (w : Walk) → Counts of (count_of of w) (count_of of (tick d s w).walk) (tick d s w).answer
  unfolding over
  look_counts w = tick_by d s (λ o. Counts of (count_of of w) (count_of of o.walk) o.answer) w (λ _. settled_counts _ w) (λ _. inl refl)

  vain_counts : (w : Walk) → says (tick d s w).answer ≡ false → count_of of (tick d s w).walk ≡ count_of of w
  vain_counts w e = ⊎_elim (λ q. q) (λ q. absurd (true≢false (sym (of_says of (tick d s w).answer q.1) ∙ e))) (look_counts w)

  call_counts : (w : Walk) → Counts of (count_of of w) (count_of of (called d s w).walk) (called d s w).answer
  unfolding called
  call_counts w =
      until_by (tick d s) is_said (length s) (tick_moves d s) (tick_end d s)
      (λ v. count_of of v ≡ count_of of w) (λ o. Counts of (count_of of w) (count_of of o.walk) o.answer)
      (λ v same e. vain_counts v e ∙ same) (λ v same e. rw (← same) (look_counts v)) w refl

-- ## A walk

second_false : (a b : Bool) → (a || b) ≡ false → b ≡ false
second_false true b e = absurd (true≢false e)
second_false false b e = e

second_true : (a b : Bool) → (a || b) ≡ true → a ≡ false → b ≡ true
second_true true b e f = absurd (true≢false f)
second_true false b e f = e

module _ (d : Definition) (s : List ℕ) (of : Sort) (k : ℕ) where
  not_yet : (o : Outcome) → is_last (Frame of k) o ≡ false → count_of of o.walk ≤ k
  unfolding is_last is_reached
  not_yet o e = ltb-false k (count_of of o.walk) (second_false (is_over o.answer) _ e)

  there : (o : Outcome) → is_last (Frame of k) o ≡ true → is_over o.answer ≡ false → k < count_of of o.walk
  unfolding is_last is_reached
  there o e going = ltb-true k (count_of of o.walk) (second_true (is_over o.answer) _ e going)

  module _ (w : Walk) (few : count_of of w ≤ k) where
    few_before : (n : ℕ) → ((j : ℕ) → j < n → is_last (Frame of k) (called d s (after_calls j d s w)) ≡ false) → count_of of (after_calls n d s w) ≤ k
    unfolding after
    few_before zero before = few
    few_before (suc n) before = rw (after_suc (called d s) n w) (not_yet (called d s (after_calls n d s w)) (before n (omega arith)))

    -- it has counted k and one more of the sort, and its answer is of it
    pub kth_frame : is_over (walked (Frame of k) d s w).answer ≡ false
        → (count_of of (walked (Frame of k) d s w).walk ≡ k + 1) × (is_of of (walked (Frame of k) d s w).answer ≡ true)
    kth_frame going =
        let o = walked (Frame of k) d s w in
        let f = walk_first (Frame of k) d s w in
        let v = after_calls f.n d s w in
        let late : k < count_of of o.walk = there o (walked_is_last (Frame of k) d s w) going in
        let early : count_of of v ≤ k = few_before f.n f.before in
        let counts : Counts of (count_of of v) (count_of of o.walk) o.answer = rw f.is (call_counts d s of v) in
        ⊎_elim (λ same. absurd (omega arith)) (λ more. (omega (arith, more.0), more.1)) counts

-- from the start nothing is counted
pub start_few : (of : Sort) (k : ℕ) → count_of of start ≤ k
unfolding start counted_at
start_few sort.Main k = omega arith
start_few sort.Slow k = omega arith

-- ## What `fill` answers

pub fill_kth : (d : Definition) (s : List ℕ) (of : Sort) (k : ℕ) (out : List ℕ) (r : Looked) {after : List ℕ} → FillOwes d s of k out r after
    → is_over r.answer ≡ false → (is_of of r.answer ≡ true) × (count_of of r.walk ≡ k + 1)
unfolding filled_of handed refusing checked_first is_over
fill_kth d s of k out r {after} owes going = by_check (checked d start (length s) (length out)) owes
  where
    by_check : (c : Check) → told r after ≡ checked_first c (walked (Frame of k) d s start) start out
        → (is_of of r.answer ≡ true) × (count_of of r.walk ≡ k + 1)
    by_check (Ok u) e =
        let o = walked (Frame of k) d s start in
        let answer = paper_injective r.answer o.answer (ap (λ (x : Told). x.said) e) in
        let kth = kth_frame d s of k start (start_few of k) (sym (ap is_over answer) ∙ going) in
        (ap (is_of of) answer ∙ kth.1, ap (λ (x : Told). count_of of x.walk) e ∙ kth.0)
    by_check (Err why) e =
        let answer = paper_injective r.answer (Refused why) (ap (λ (x : Told). x.said) e) in absurd (true≢false (sym (ap is_over answer) ∙ going))
