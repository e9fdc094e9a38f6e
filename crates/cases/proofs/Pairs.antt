-- The worked pairs: what comes before the common bytes is computed, and so is each difference; what comes from there on is demand 3's.
use Prim.Native.Nat.{ℕ, zero, suc}
use mathlib.Core.Bool.{true≢false}
use mathlib.Core.List.{[], ◌∷◌}
use mathlib.Core.Path.{◌≡◌, refl, sym, ap, ◌∙◌}
use lib.ListN.{length, get_or}
use native.Mathlib.Omega.{arith}
use Rattle.std.specs.Prelude.{Some}
use Rattle.section.specs.declared.Ending.TheVariants.{Going}
use Rattle.calls.specs.Call.{after}
use Rattle.resync.specs.Demand3.{IntraAlone, InterByLast, Demand3}
use Rattle.resync.specs.From.{tried_at}
use Rattle.resync.specs.Runs.{shown}
use Rattle.resync.proofs.Frames.{call_tries}
use Rattle.resync.proofs.Public.{demand3_code}
use Rattle.resync.proofs.Resync.{demand3}
use Rattle.cases.specs.Pairs.{Pair, Try, AllEqual, Differ, Equal, IntraAt, section, section', walk, walk', shows, shows'}
use Rattle.cases.specs.Pairs.{BothRules, newer_older, cut_older, CommonEarlier, intra_by_one, AloneNeeded}
use Rattle.cases.specs.Pairs.{parted, NoneBetweenNeeded, together, single, ByLastNeeded, Worked}
use Rattle.cases.proofs.Unfolded.{runs_open, whole_open}

-- ## By computation

-- both calls of a pair answer a frame at the first common byte, so both tried one there
by_answers : (p : Pair) → (length (walk p).tally.counts ≡ 4) × ((walk p).tally.ending ≡ Going) × (tried_at (shows p 0).answer ≡ Some (length p.pre))
    → (length (walk' p).tally.counts ≡ 4) × ((walk' p).tally.ending ≡ Going) × (tried_at (shows' p 0).answer ≡ Some (length p.pre')) → Try p
unfolding shown after
by_answers p (four, going, at) (four', going', at') =
    record {
      tries = call_tries p.definition (section p) (walk p) (length p.pre) four going at;
      tries' = call_tries p.definition (section' p) (walk' p) (length p.pre') four' going' at';
    }

newer_try : Try newer_older
unfolding runs_open
newer_try = by_answers newer_older (refl, refl, refl) (refl, refl, refl)

cut_try : Try cut_older
unfolding runs_open
cut_try = by_answers cut_older (refl, refl, refl) (refl, refl, refl)

together_try : Try together
unfolding runs_open
together_try = by_answers together (refl, refl, refl) (refl, refl, refl)

both_rules : BothRules
unfolding runs_open
both_rules = (refl, refl)

common_earlier : CommonEarlier
unfolding runs_open
common_earlier = record { ends = refl; ends' = refl; rejects = refl; searches = refl; accepts = (refl, refl) }

-- ## Differences

module _ (p : Pair) (n : ℕ) where
  equal_fields : Equal p n → (shows p n).fields ≡ (shows' p n).fields
  equal_fields (x, e, e') = ap (λ y. y.fields) e ∙ sym (ap (λ y. y.fields) e')

  other_field : (v v' : ℕ) → (v ≡ v' → ⊥) → Try p → (shows p n).fields ≡ v ∷ [] → (shows' p n).fields ≡ v' ∷ [] → Differ p n (v ∷ []) (v' ∷ [])
  other_field v v' other t here there =
      record { try = t; fields = here; fields' = there; differ = λ same. other (ap (λ vs. get_or vs 0 0) (sym here ∙ equal_fields same ∙ there)) }

alone_needed : AloneNeeded
unfolding runs_open
alone_needed = (
  (λ e. true≢false (sym e)),
  refl,
  other_field intra_by_one 0 6 11 (λ e. absurd (omega (arith, e))) (by_answers intra_by_one (refl, refl, refl) (refl, refl, refl)) refl refl,
)

none_between_needed : NoneBetweenNeeded
unfolding runs_open
none_between_needed = (
  refl,
  refl,
  refl,
  refl,
  other_field parted 3 21 22 (λ e. absurd (omega (arith, e))) (by_answers parted (refl, refl, refl) (refl, refl, refl)) refl refl,
)

by_last_needed : ByLastNeeded
unfolding runs_open
by_last_needed = (
  refl,
  (λ e. true≢false (sym e)),
  refl,
  other_field single 1 12 15 (λ e. absurd (omega (arith, e))) (by_answers single (refl, refl, refl) (refl, refl, refl)) refl refl,
)

-- ## By demand 3

module _ (p : Pair) (t : Try p) (alone : IntraAlone p.definition) (first : IntraAt p 0) where
  given : Demand3 p.definition p.pre p.pre' p.c (walk p) (walk' p) t.tries t.tries'
  given = demand3 p.definition p.pre p.pre' p.c (walk p) (walk' p) t.tries t.tries'

  -- the first call accepts an intra frame, and inter frames read the last frame alone
  by_one : InterByLast p.definition → AllEqual p
  by_one by_Last =
      record {
        try = t;
        demand3 = given;
        code = demand3_code p.definition p.pre p.pre' p.c (walk p) (walk' p) t.tries t.tries';
        equal = every;
      }
    where
      every : (n : ℕ) → Equal p n
      every zero = (given.calls 1).intra alone 0 (omega arith) first
      every (suc n) = (given.calls (suc (suc n))).one alone by_Last 0 (suc n) (omega arith) (omega arith) first

  -- the first two calls accept intra frames
  by_two : IntraAt p 1 → AllEqual p
  by_two next =
      record {
        try = t;
        demand3 = given;
        code = demand3_code p.definition p.pre p.pre' p.c (walk p) (walk' p) t.tries t.tries';
        equal = every;
      }
    where
      every : (n : ℕ) → Equal p n
      every zero = (given.calls 1).intra alone 0 (omega arith) first
      every (suc zero) = (given.calls 2).intra alone 1 (omega arith) next
      every (suc (suc n)) =
          (given.calls (suc (suc (suc n)))).two alone 0 1 (suc (suc n))
          (omega arith) (omega arith) (omega arith) first next (λ m h k. absurd (omega (arith, h, k)))

pub pairs_worked : Worked
unfolding runs_open whole_open
pairs_worked =
    record {
      rules = both_rules;
      newer_flight = (refl, refl, refl, refl, (refl, refl), by_one newer_older newer_try refl refl refl);
      power_cut = (refl, refl, refl, refl, (refl, refl), by_one cut_older cut_try refl refl refl);
      common_earlier = common_earlier;
      alone_needed = alone_needed;
      none_between_needed = none_between_needed;
      none_between = (refl, refl, refl, by_two together together_try refl refl refl);
      by_last_needed = by_last_needed;
    }
