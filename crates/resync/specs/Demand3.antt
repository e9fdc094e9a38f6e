-- Demand 3, as a statement over the definition of demand 2: two sections, `pre ++ c` and `pre' ++ c`, end in the same bytes `c`, and both walks,
-- in any states, try a frame at the first byte of `c`.
-- By itself it would hold of a walk that always gives the same answer too; that `tick` and `called` are the rules' walk, and the code's, is demand 2.
use Rattle.std.specs.Prelude.{ℕ, ◌<◌, true, false, List, ◌++◌, ◌≡◌, length, get_or, is_some}
use Rattle.reader.specs.Search.{letter_of}
use Rattle.plan.specs.declared.Definition.{Definition}
use Rattle.plan.specs.Plan.{rules}
use Rattle.predictor.specs.Histories.{reads_last, reads_older, none_reads}
use Rattle.section.specs.declared.Ending.TheVariants.{Going}
use Rattle.section.specs.declared.Tally.{Tally}
use Rattle.section.specs.declared.Walk.{Walk}
use Rattle.section.specs.Walk.{Outcome, tick}
use Rattle.calls.specs.Call.{after, says, called}
use Rattle.resync.specs.From.{Same, SameEnding, AsMuch, outline, bytes_of}
use Rattle.resync.specs.Runs.{Shown, shown, behind, is_intra, is_inter}

-- "let both walks try a frame at the first of these": the call from w looks in vain, `looks` times, until it stands at p,
-- and tries a frame there; `there` is the state in which it does
pub record Tries (d : Definition) (s : List ℕ) (w : Walk) (p : ℕ) : Type 0 where
  pub looks : ℕ
  pub vain : (m : ℕ) → m < looks → says (shown (tick d s) w m).answer ≡ false
  pub there : Walk
  pub comes : after (tick d s) looks w ≡ there
  pub place : there.tally.place ≡ p
  pub going : there.tally.ending ≡ Going
  pub kind : is_some (letter_of (get_or s p 0)) ≡ true
  -- an array of four, which the type of lists does not say
  pub four : length there.tally.counts ≡ 4

-- "the intra lists use none of predictors 1, 2, 3 and 6"
abbrev pub IntraAlone : Definition → Type 0
IntraAlone d = none_reads reads_last (rules d).intra ≡ true

-- "the inter lists use 2 and 3 in no field after time"
abbrev pub InterByLast : Definition → Type 0
InterByLast d = none_reads reads_older (rules d).inter ≡ true

-- Two tallies x and x': their places are as far behind b and b', they end alike, and the trials and every count have grown as much since t and t'.
pub record Level (b b' : ℕ) (t t' x x' : Tally) : Type 0 where
  pub place : AsMuch b x.place b' x'.place
  pub ending : SameEnding b b' x.ending x'.ending
  pub trials : AsMuch t.trials x.trials t'.trials x'.trials
  pub counts : (i : ℕ) → AsMuch (get_or t.counts i 0) (get_or x.counts i 0) (get_or t'.counts i 0) (get_or x'.counts i 0)

-- Two runs of k steps, from tallies t and t' on: e n and e' n are what their n-th steps show, from 0, and x n and x' n the states behind these steps.
pub record Resynced (d : Definition) (pre pre' c : List ℕ) (t t' : Tally) (k : ℕ) (e e' : ℕ → Shown) (x x' : ℕ → Walk) : Type 0 where
  -- "from there both try the same places, accept the same kinds over the same bytes and end alike, with any history before"
  pub alike : (n : ℕ) → n < k → Same (length pre) (length pre') (outline (e n)) (outline (e' n))
  pub bytes : (n : ℕ) → n < k → bytes_of (pre ++ c) (e n).answer (x n).tally.place ≡ bytes_of (pre' ++ c) (e' n).answer (x' n).tally.place
  pub level : (n : ℕ) → n < k → Level (length pre) (length pre') t t' (x n).tally (x' n).tally
  -- events, slow frames, rejected trials and the ending are equal from the start
  pub others : (n : ℕ) → n < k → is_intra (e n).answer ≡ false → is_inter (e n).answer ≡ false → Same (length pre) (length pre') (e n) (e' n)
  -- "If the intra lists use none of predictors 1, 2, 3 and 6, every intra frame from there is equal."
  pub intra : IntraAlone d → (n : ℕ) → n < k → is_intra (e n).answer ≡ true → Same (length pre) (length pre') (e n) (e' n)
  -- "Under that rule, once two intra frames were accepted there with no inter frame between, all later frames are equal."
  pub two : IntraAlone d → (i j n : ℕ) → i < j → j < n → n < k → is_intra (e i).answer ≡ true → is_intra (e j).answer ≡ true
      → ((m : ℕ) → i < m → m < j → is_inter (e m).answer ≡ false) → Same (length pre) (length pre') (e n) (e' n)
  -- "If the inter lists use 2 and 3 in no field after time, one intra frame suffices."
  pub one : IntraAlone d → InterByLast d → (i n : ℕ) → i < n → n < k → is_intra (e i).answer ≡ true → Same (length pre) (length pre') (e n) (e' n)

-- The same of runs of one and the same step over both sections, however long.
abbrev pub ResyncedBy : (d : Definition) → (pre pre' c : List ℕ) → (t t' : Tally) → (step : List ℕ → Walk → Outcome) → (w w' : Walk) → Type 0
ResyncedBy d pre pre' c t t' step w w' =
    (k : ℕ) → Resynced d pre pre' c t t' k (shown (step (pre ++ c)) w) (shown (step (pre' ++ c)) w') (behind (step (pre ++ c)) w) (behind (step (pre' ++ c)) w')

-- DEMAND 3: look by look from the trial on, rejected trials too; and call by call, from the calls that make these trials on.
pub record Demand3 (d : Definition) (pre pre' c : List ℕ) (w w' : Walk) (t : Tries d (pre ++ c) w (length pre))
    (t' : Tries d (pre' ++ c) w' (length pre')) : Type 0 where
  pub looks : ResyncedBy d pre pre' c t.there.tally t'.there.tally (tick d) t.there t'.there
  pub calls : ResyncedBy d pre pre' c t.there.tally t'.there.tally (called d) w w'
