-- A look or a call that shows a trial, accepted, rejected or cut, tried a frame there: so whoever has the answers has the premise of demand 3.
use Rattle.std.specs.Prelude.{Option, Some, None, is_some}
use Prim.Native.Nat.{ℕ, suc, ◌<◌}
use mathlib.Core.Bool.{Bool, true, false, true≢false}
use mathlib.Core.List.{List, [], ◌∷◌}
use mathlib.Core.Path.{◌≡◌, refl, sym, ap, ◌∙◌}
use native.Mathlib.Decide.{dec_lt}
use native.Mathlib.Omega.{arith}
use lib.ListN.{length, drop, get_or}
use lib.Seq.{get_or-drop}
use Rattle.plan.specs.declared.Definition.{Definition}
use Rattle.plan.specs.Plan.{Shape, shape}
use Rattle.reader.specs.declared.Kind.{Kind}
use Rattle.reader.specs.Search.{letter_of}
use Rattle.raws.specs.declared.Raw.{Raw}
use Rattle.history.specs.declared.History.{History}
use Rattle.extent.specs.declared.Found.{Found}
use Rattle.extent.specs.declared.Found.TheVariants.{Event, Intra, Inter, Slow}
use Rattle.extent.specs.declared.Look.{Look}
use Rattle.extent.specs.declared.Seen.{Seen}
use Rattle.extent.specs.declared.Seen.TheVariants.{Nothing, Passed, Rejected, Cutoff, Accepted}
use Rattle.extent.specs.Extent.{begun, look}
use Rattle.section.specs.declared.Ending.TheVariants.{Going}
use Rattle.section.specs.declared.Walk.{Walk}
use Rattle.section.specs.Walk.{Outcome, answer_with, answer_after, settled, tick}
use Rattle.section.specs.Tally.{ending_after, tally_after}
use Rattle.section.proofs.Stays.{tick_going, tick_counts}
use Rattle.calls.specs.Call.{after, says, is_said, called}
use Rattle.calls.proofs.Ticks.{tick_moves, tick_end}
use Rattle.calls.proofs.Until.{after_suc, after_keeps, until_by}
use Rattle.resync.specs.Code.{SeenTrying, looking, calling}
use Rattle.resync.specs.Demand3.{Tries}
use Rattle.resync.specs.From.{tried_at}
use Rattle.resync.specs.Runs.{shown}
use Rattle.resync.proofs.Promised.{Owes, answer_is}

-- ## A look that shows a trial

module _ (d : Definition) (x : Raw) (h : History) (q p : ℕ) where
  frame_place : (f : Found) → tried_at (answer_with d f q x h) ≡ Some p → q ≡ p
  unfolding answer_with tried_at
  frame_place (Event e) is = cc
  frame_place Intra is = cc
  frame_place Inter is = cc
  frame_place Slow is = cc

  -- it stands where the look was
  seen_place : (e : Seen) → tried_at (answer_after d e q x h) ≡ Some p → q ≡ p
  unfolding answer_after tried_at
  seen_place Nothing is = absurd (cc)
  seen_place (Passed k) is = absurd (cc)
  seen_place (Rejected k j) is = cc
  seen_place (Cutoff k) is = cc
  seen_place (Accepted f m) is = frame_place f is

  begun_kind : (y : Shape) (l : Option Kind) (c : List ℕ) → tried_at (answer_after d (begun y l c).seen q x h) ≡ Some p → is_some l ≡ true
  unfolding begun answer_after tried_at
  begun_kind y (Some k) c is = refl
  begun_kind y None c is = absurd (cc)

  -- and its first byte is one of the six
  look_kind : (y : Shape) (c : List ℕ) → tried_at (answer_after d (look y c).seen q x h) ≡ Some p → is_some (letter_of (get_or c 0 0)) ≡ true
  unfolding look answer_after tried_at
  look_kind y [] is = absurd (cc)
  look_kind y (b ∷ c) is = begun_kind y (letter_of b) c is

-- an accepted frame says something
frame_says : (d : Definition) (f : Found) (x : Raw) (h : History) (q : ℕ) → says (answer_with d f q x h) ≡ true
unfolding answer_with says
frame_says d (Event e) x h q = refl
frame_says d Intra x h q = refl
frame_says d Inter x h q = refl
frame_says d Slow x h q = refl

-- and a look in vain ends no walk
seen_vain : (d : Definition) (e : Seen) (x : Raw) (h : History) (q : ℕ) → says (answer_after d e q x h) ≡ false → ending_after e q ≡ Going
unfolding answer_after says ending_after
seen_vain d Nothing x h q vain = absurd (true≢false vain)
seen_vain d (Passed k) x h q vain = refl
seen_vain d (Rejected k j) x h q vain = refl
seen_vain d (Cutoff k) x h q vain = absurd (true≢false vain)
seen_vain d (Accepted f m) x h q vain = absurd (true≢false (sym (frame_says d f x h q) ∙ vain))

-- a walk that goes on stands at p, at one of the six bytes
record Trying (s : List ℕ) (v : Walk) (p : ℕ) : Type 0 where
  place : v.tally.place ≡ p
  kind : is_some (letter_of (get_or s p 0)) ≡ true

module _ (d : Definition) (s : List ℕ) (v : Walk) (going : v.tally.ending ≡ Going) where
  abbrev seen : Look
  seen = look (shape d) (drop v.tally.place s)

  goes : tick d s v ≡ settled d seen (length s) v
  goes = tick_going d s v going

  tick_tries : (p : ℕ) → tried_at (tick d s v).answer ≡ Some p → Trying s v p
  unfolding settled
  tick_tries p shows =
      let is : tried_at (answer_after d seen.seen v.tally.place seen.raw v.history) ≡ Some p =
      sym (ap (λ (o : Outcome). tried_at o.answer) goes) ∙ shows in
      let at : v.tally.place ≡ p = seen_place d seen.raw v.history v.tally.place p seen.seen is in
      let byte : get_or (drop v.tally.place s) 0 0 ≡ get_or s p 0 = get_or-drop v.tally.place s 0 0 ∙ ap (λ i. get_or s i 0) (omega arith) in
      record { place = at; kind = rw byte at (look_kind d seen.raw v.history v.tally.place p (shape d) (drop v.tally.place s) is) }

  vain_going : says (tick d s v).answer ≡ false → (tick d s v).walk.tally.ending ≡ Going
  unfolding settled tally_after
  vain_going vain =
      rw goes (seen_vain d seen.seen seen.raw v.history v.tally.place (sym (ap (λ (o : Outcome). says o.answer) goes) ∙ vain))

-- ## A call is the look behind looks in vain

-- a number of looks from w, in vain, to v, which goes on
record InVain (d : Definition) (s : List ℕ) (w v : Walk) : Type 0 where
  looks : ℕ
  vain : (m : ℕ) → m < looks → says (shown (tick d s) w m).answer ≡ false
  comes : after (tick d s) looks w ≡ v
  going : v.tally.ending ≡ Going

one_more : (q : ℕ → Bool) (n : ℕ) → ((m : ℕ) → m < n → q m ≡ false) → q n ≡ false → (m : ℕ) → m < suc n → q m ≡ false
one_more q n before e m h = go (dec_lt m n)
  where
    go : Dec (m < n) → q m ≡ false
    go (yes k) = before m k
    go (no k) = ap q (omega arith) ∙ e

module _ (d : Definition) (s : List ℕ) (w : Walk) where
  vain_none : w.tally.ending ≡ Going → InVain d s w w
  unfolding after
  vain_none going = record { looks = 0; vain = λ m h. absurd (omega arith); comes = refl; going = going }

  vain_more : (v : Walk) → InVain d s w v → says (tick d s v).answer ≡ false → InVain d s w (tick d s v).walk
  unfolding shown
  vain_more v i e =
      record {
        looks = suc i.looks;
        vain = one_more (λ m. says (shown (tick d s) w m).answer) i.looks i.vain (ap (λ u. says (tick d s u).answer) i.comes ∙ e);
        comes = after_suc (tick d s) i.looks w ∙ ap (λ u. (tick d s u).walk) i.comes;
        going = vain_going d s v i.going e;
      }

  called_look : w.tally.ending ≡ Going → (v : Walk) × InVain d s w v × (called d s w ≡ tick d s v)
  unfolding called
  called_look going =
      until_by (tick d s) is_said (length s) (tick_moves d s) (tick_end d s) (InVain d s w) (λ o. (v : Walk) × InVain d s w v × (o ≡ tick d s v))
      vain_more (λ v i e. (v, i, refl)) w (vain_none going)

-- ## The premise

module _ (d : Definition) (s : List ℕ) (w : Walk) (p : ℕ) (four : length w.tally.counts ≡ 4) (going : w.tally.ending ≡ Going) where
  four_after : (n : ℕ) (v : Walk) → after (tick d s) n w ≡ v → length v.tally.counts ≡ 4
  four_after n v comes =
      ap (λ (u : Walk). length u.tally.counts) (sym comes)
      ∙ after_keeps (tick d s) (λ u. length u.tally.counts ≡ 4) (λ u e. tick_counts d s u ∙ e) n w four

  from_vain : (v : Walk) → InVain d s w v → tried_at (tick d s v).answer ≡ Some p → Tries d s w p
  from_vain v i is =
      let st = tick_tries d s v i.going p is in
      record {
        looks = i.looks;
        vain = i.vain;
        there = v;
        comes = i.comes;
        place = st.place;
        going = i.going;
        kind = st.kind;
        four = four_after i.looks v i.comes;
      }

  pub look_tries : tried_at (tick d s w).answer ≡ Some p → Tries d s w p
  look_tries = from_vain w (vain_none d s w going)

  pub call_tries : tried_at (called d s w).answer ≡ Some p → Tries d s w p
  call_tries is = let c = called_look d s w going in from_vain c.0 c.1 (sym (ap (λ (o : Outcome). tried_at o.answer) c.2) ∙ is)

-- read off the code
promise_tries : (step : Definition → List ℕ → Walk → Outcome)
    → ((d : Definition) (s : List ℕ) (w : Walk) (p : ℕ) → length w.tally.counts ≡ 4
    → w.tally.ending ≡ Going → tried_at (step d s w).answer ≡ Some p → Tries d s w p)
    → SeenTrying (λ d s. Owes d s (step d s))
promise_tries step tries d s w p out r after h four going roomy owes is =
    tries d s w p four going (sym (ap tried_at (answer_is d s (step d s) w h out roomy r after owes)) ∙ is)

pub calls_tried : SeenTrying calling
calls_tried = promise_tries called call_tries

pub looks_tried : SeenTrying looking
looks_tried = promise_tries tick look_tries
