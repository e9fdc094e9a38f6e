-- An admitted walk stays admitted, and the place of its tally never falls; a walk that has ended stays as it is.
use Prim.Native.Nat.{ℕ, zero, suc, ◌+◌, ◌≤◌, ◌<◌}
use mathlib.Core.Bool.{Bool, true, false, cond, true≢false}
use mathlib.Core.List.{List, [], ◌∷◌}
use mathlib.Core.Path.{◌≡◌, refl, ap}
use native.Mathlib.Omega.{arith}
use lib.Dec.{eqb}
use lib.ListN.{length, drop, get_or, length-set}
use Rattle.plan.specs.declared.Definition.{Definition}
use Rattle.plan.specs.Plan.{shape}
use Rattle.plan.specs.Sound.{sound}
use Rattle.raws.specs.declared.Raw.{Raw}
use Rattle.frame.specs.Frames.{intra_frame, inter_frame}
use Rattle.frame.specs.Past.{no_frame}
use Rattle.history.specs.declared.History.{History}
use Rattle.history.specs.History as history
use Rattle.extent.specs.declared.Found.{Found}
use Rattle.extent.specs.declared.Found.TheVariants.{Event, Intra, Inter, Slow}
use Rattle.extent.specs.declared.Look.{Look}
use Rattle.extent.specs.declared.Seen.{Seen}
use Rattle.extent.specs.declared.Seen.TheVariants.{Nothing, Passed, Rejected, Cutoff, Accepted}
use Rattle.extent.specs.Extent.{look, span}
use Rattle.extent.proofs.Reach.{look_reaches}
use Rattle.section.specs.declared.Ending.{Ending}
use Rattle.section.specs.declared.Ending.TheVariants.{Going, Done, Out, Cut}
use Rattle.section.specs.declared.Tally.{Tally}
use Rattle.section.specs.declared.Walk.{Walk}
use Rattle.section.specs.Refusals.{cuts, parts_of, admitted}
use Rattle.section.specs.Tally.{place_after, ended_by, ending_after, part_of, one_more, counts_after, trials_after, tally_after}
use Rattle.section.specs.Walk.{Outcome, start, history_with, history_after, settled, over, if_going, tick}
use Rattle.section.proofs.Admitted.{admits, admitted_place, admitted_few, admitted_sum, admitted_history, admitted_sound}
use Rattle.section.proofs.Alike.{is_going}

-- ## The tally

abbrev total : List ℕ → ℕ
total l = get_or l 0 0 + get_or l 1 0 + get_or l 2 0 + get_or l 3 0

more_total : (l : List ℕ) (i : ℕ) → length l ≡ 4 → i < 4 → total (one_more l i) ≡ total l + 1
unfolding one_more
more_total [] i four h = absurd (omega arith)
more_total (a ∷ []) i four h = absurd (omega arith)
more_total (a ∷ b ∷ []) i four h = absurd (omega arith)
more_total (a ∷ b ∷ c ∷ []) i four h = absurd (omega arith)
more_total (a ∷ b ∷ c ∷ e ∷ l) zero four h = omega arith
more_total (a ∷ b ∷ c ∷ e ∷ l) (suc zero) four h = omega arith
more_total (a ∷ b ∷ c ∷ e ∷ l) (suc (suc zero)) four h = omega arith
more_total (a ∷ b ∷ c ∷ e ∷ l) (suc (suc (suc zero))) four h = omega arith
more_total (a ∷ b ∷ c ∷ e ∷ l) (suc (suc (suc (suc i)))) four h = absurd (omega arith)

pub part_below : (f : Found) → part_of f < 4
unfolding part_of
part_below (Event e) = omega arith
part_below Intra = omega arith
part_below Inter = omega arith
part_below Slow = omega arith

-- an accepted frame is no cut
no_cut : (f : Found) → cuts (ended_by f) ≡ 0
unfolding cuts ended_by
no_cut (Event e) = either (eqb e.code 255)
  where
    either : (q : Bool) → cuts (cond q Done Going) ≡ 0
    either true = refl
    either false = refl
no_cut Intra = refl
no_cut Inter = refl
no_cut Slow = refl

-- the parts behind a look sum up to the trials behind it
parts_after : (x : Seen) (c : List ℕ) (p t : ℕ) → length c ≡ 4 → t ≡ total c → trials_after x t ≡ total (counts_after x c) + cuts (ending_after x p)
unfolding trials_after counts_after ending_after cuts
parts_after Nothing c p t four e = omega arith
parts_after (Passed s) c p t four e = omega arith
parts_after (Rejected k s) c p t four e = omega (arith, more_total c 3 four (omega arith))
parts_after (Cutoff k) c p t four e = omega arith
parts_after (Accepted f m) c p t four e = omega (arith, more_total c (part_of f) four (part_below f), no_cut f)

place_within : (x : Seen) (z p : ℕ) → p + span x ≤ z → place_after x z p ≤ z
unfolding place_after span
place_within Nothing z p h = omega arith
place_within (Passed s) z p h = omega arith
place_within (Rejected k s) z p h = omega arith
place_within (Cutoff k) z p h = omega arith
place_within (Accepted f m) z p h = omega arith

few_after : (x : Seen) (z p t : ℕ) → p + span x ≤ z → t ≤ p → trials_after x t ≤ place_after x z p
unfolding place_after trials_after span
few_after Nothing z p t h few = few
few_after (Passed s) z p t h few = omega arith
few_after (Rejected k s) z p t h few = omega arith
few_after (Cutoff k) z p t h few = omega arith
few_after (Accepted f m) z p t h few = omega arith

place_grows : (x : Seen) (z p : ℕ) → p ≤ z → p ≤ place_after x z p
unfolding place_after
place_grows Nothing z p h = omega arith
place_grows (Passed s) z p h = omega arith
place_grows (Rejected k s) z p h = omega arith
place_grows (Cutoff k) z p h = h
place_grows (Accepted f m) z p h = omega arith

-- there are four counts behind a look where there were before it
more_counts : (l : List ℕ) (i : ℕ) → length (one_more l i) ≡ length l
unfolding one_more
more_counts l i = length-set l i (get_or l i 0 + 1)

counts_after_law : (x : Seen) (c : List ℕ) → length (counts_after x c) ≡ length c
unfolding counts_after
counts_after_law Nothing c = refl
counts_after_law (Passed s) c = refl
counts_after_law (Rejected k s) c = more_counts c 3
counts_after_law (Cutoff k) c = refl
counts_after_law (Accepted f m) c = more_counts c (part_of f)

pub after_counts : (x : Seen) (z : ℕ) (t : Tally) → length (tally_after x z t).counts ≡ length t.counts
unfolding tally_after
after_counts x z t = counts_after_law x t.counts

pub after_place : (x : Seen) (z : ℕ) (t : Tally) → t.place ≤ z → t.place ≤ (tally_after x z t).place
unfolding tally_after
after_place x z t h = place_grows x z t.place h

-- ## The history

history_with_law : (d : Definition) (f : Found) (x : Raw) (h : History) → history.sound h ≡ true → history.sound (history_with d f x h) ≡ true
unfolding history_with history.sound history.pushed history.in_order intra_frame inter_frame
history_with_law d (Event e) x h p = p
history_with_law d Intra x h p = refl
history_with_law d Inter x h p = refl
history_with_law d Slow x h p = p

history_after_law : (d : Definition) (y : Seen) (x : Raw) (h : History) → history.sound h ≡ true → history.sound (history_after d y x h) ≡ true
unfolding history_after
history_after_law d Nothing x h p = p
history_after_law d (Passed s) x h p = p
history_after_law d (Rejected k s) x h p = p
history_after_law d (Cutoff k) x h p = p
history_after_law d (Accepted f m) x h p = history_with_law d f x h p

-- ## A look

-- a walk that goes on has no cut among its trials
no_cut_yet : (t : Tally) → t.ending ≡ Going → t.trials ≡ parts_of t → t.trials ≡ total t.counts
unfolding parts_of cuts
no_cut_yet t going e = let none : cuts t.ending ≡ 0 = ap cuts going in omega arith

-- the tally behind a look, with any sound history
pub after_admitted : (d : Definition) (x : Seen) (z : ℕ) (w : Walk) (g : History) → admitted d z w ≡ true
    → w.tally.ending ≡ Going → w.tally.place + span x ≤ z → history.sound g ≡ true → length w.tally.counts ≡ 4
    → admitted d z (record { tally = tally_after x z w.tally; history = g }) ≡ true
unfolding tally_after parts_of
after_admitted d x z w g h going reaches p four =
    let t = w.tally in
    admits d z (record { tally = tally_after x z t; history = g }) (place_within x z t.place reaches)
    (few_after x z t.place t.trials reaches (admitted_few d z w h))
    (parts_after x t.counts t.place t.trials four (no_cut_yet t going (admitted_sum d z w h))) p (admitted_sound d z w h)

module _ (d : Definition) (l : Look) (z : ℕ) (w : Walk) where
  pub settled_admitted : admitted d z w ≡ true → w.tally.ending ≡ Going → w.tally.place + span l.seen ≤ z → length w.tally.counts ≡ 4
      → admitted d z (settled d l z w).walk ≡ true
  unfolding settled
  settled_admitted h going reaches four =
      after_admitted d l.seen z w (history_after d l.seen l.raw w.history) h going reaches
      (history_after_law d l.seen l.raw w.history (admitted_history d z w h)) four

-- ## One look, going on or not

-- what holds of the outcome of a look and of one that has ended holds of a tick
pub tick_by : (d : Definition) (s : List ℕ) (Q : Outcome → Type 0) (w : Walk)
    → (w.tally.ending ≡ Going → Q (settled d (look (shape d) (drop w.tally.place s)) (length s) w)) → (tick d s w ≡ over w → Q (over w)) → Q (tick d s w)
unfolding tick
tick_by d s Q w on off = each w.tally.ending refl
  where
    each : (e : Ending) → w.tally.ending ≡ e → Q (if_going e (settled d (look (shape d) (drop w.tally.place s)) (length s) w) (over w))
    each Going e = on e
    each Done e = off (rw e)
    each Out e = off (rw e)
    each (Cut k p) e = off (rw e)

module _ (d : Definition) (s : List ℕ) (w : Walk) where
  -- what the look of a walk that goes on sees
  abbrev sees : Look
  sees = look (shape d) (drop w.tally.place s)

  pub tick_going : w.tally.ending ≡ Going → tick d s w ≡ settled d (look (shape d) (drop w.tally.place s)) (length s) w
  unfolding tick
  tick_going e = rw e

  pub over_lasts : is_going w.tally.ending ≡ false → tick d s w ≡ over w
  unfolding tick
  over_lasts e = go w.tally.ending e
    where
      go : (e : Ending) → is_going e ≡ false → if_going e (settled d sees (length s) w) (over w) ≡ over w
      go Going e = absurd (true≢false e)
      go Done e = refl
      go Out e = refl
      go (Cut k p) e = refl

  pub tick_counts : length (tick d s w).walk.tally.counts ≡ length w.tally.counts
  unfolding settled over
  tick_counts = tick_by d s (λ o. length o.walk.tally.counts ≡ length w.tally.counts) w (λ _. after_counts sees.seen (length s) w.tally) (λ _. refl)

  module _ (h : admitted d (length s) w ≡ true) where
    look_fits : w.tally.place + span sees.seen ≤ length s
    look_fits = look_reaches (shape d) s w.tally.place (admitted_place d (length s) w h)

    pub tick_admitted : length w.tally.counts ≡ 4 → admitted d (length s) (tick d s w).walk ≡ true
    unfolding over
    tick_admitted four =
        tick_by d s (λ o. admitted d (length s) o.walk ≡ true) w (λ going. settled_admitted d sees (length s) w h going look_fits four) (λ _. h)

-- ## The start

pub start_admitted : (d : Definition) (z : ℕ) → sound d ≡ true → admitted d z start ≡ true
unfolding start parts_of cuts history.sound history.empty history.in_order no_frame
start_admitted d z h = admits d z start (omega arith) (omega arith) refl refl h
