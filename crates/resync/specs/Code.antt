-- Demand 3, said of the code: of runs of the library's own `look` and `call`, and of whole walks by `through` and `count`,
-- of which nothing is known but their promises.
use Rattle.std.specs.Prelude.{Some, ℕ, suc, ◌<◌, ◌≤◌, true, List, [], ◌++◌, ◌≡◌, length, take}
use Rattle.plan.specs.declared.Definition.{Definition}
use Rattle.plan.specs.Sound.{sound}
use Rattle.section.specs.declared.Answer.{Answer}
use Rattle.section.specs.declared.Ending.TheVariants.{Going}
use Rattle.section.specs.declared.Looked.{Looked}
use Rattle.section.specs.declared.Tally.{Tally}
use Rattle.section.specs.declared.Walk.{Walk}
use Rattle.section.specs.Answers.{hands_out}
use Rattle.section.specs.Owes.{LookOwes}
use Rattle.section.specs.Refusals.{admitted, needed}
use Rattle.section.specs.Walk.{start}
use Rattle.calls.specs.Call.{after, called}
use Rattle.calls.specs.Owes.{CallOwes}
use Rattle.walks.specs.declared.Counted.{Counted}
use Rattle.walks.specs.Owes.{ThroughOwes, CountOwes}
use Rattle.resync.specs.Demand3.{Tries, Level, Resynced}
use Rattle.resync.specs.From.{Same, tried_at}
use Rattle.resync.specs.Runs.{Shown}

-- what a function owes for a walk, the lent buffer before it, its answer and the buffer after it
abbrev pub Promise : Type 1
Promise = Walk → (out : List ℕ) → Looked → (after : List ℕ) → Type 0

-- `section::look` over a section, and `calls::call`
abbrev pub looking : Definition → (section : List ℕ) → Promise
looking d s w out r after = LookOwes d w s out r after

abbrev pub calling : Definition → (section : List ℕ) → Promise
calling d s w out r after = CallOwes d w s out r after

-- A run of k calls of a function, from a walk that is not refused (10):
-- each time it is lent a buffer that is long enough, and handed the walk that it gave back the time before.
pub record Run (Owes : Promise) (d : Definition) (s : List ℕ) (w : Walk) (k : ℕ) : Type 0 where
  pub admits : admitted d (length s) w ≡ true
  pub answer : (n : ℕ) → Looked
  pub lent : (n : ℕ) → List ℕ
  pub after : (n : ℕ) → List ℕ
  pub roomy : (n : ℕ) → n < k → needed d ≤ length (lent n)
  pub first : 0 < k → Owes w (lent 0) (answer 0) (after 0)
  pub later : (n : ℕ) → suc n < k → Owes (answer n).walk (lent (suc n)) (answer (suc n)) (after (suc n))

module _ {Owes : Promise} {d : Definition} {s : List ℕ} {w : Walk} {k : ℕ} (r : Run Owes d s w k) where
  -- what its n-th answer shows, with the fields that the buffer begins with, and the walk that it gave back
  abbrev pub shown_in : (n : ℕ) → Shown
  shown_in n = record { answer = (r.answer n).answer; fields = take (hands_out d (r.answer n).answer) (r.after n) }

  abbrev pub walk_in : (n : ℕ) → Walk
  walk_in n = (r.answer n).walk

  -- the trials that it reports are those of that walk
  abbrev pub Reports : Type 0
  Reports = (n : ℕ) → n < k → (r.answer n).trials ≡ (walk_in n).tally.trials

-- two runs of a function over two sections, from tallies t and t' on
pub record RunsResynced (Owes : Definition → List ℕ → Promise) (d : Definition) (pre pre' c : List ℕ) (t t' : Tally) (w w' : Walk) : Type 0 where
  pub resynced : (k : ℕ) (r : Run (Owes d (pre ++ c)) d (pre ++ c) w k) (r' : Run (Owes d (pre' ++ c)) d (pre' ++ c) w' k)
      → Resynced d pre pre' c t t' k (shown_in r) (shown_in r') (walk_in r) (walk_in r')
  pub reports : (k : ℕ) (r : Run (Owes d (pre ++ c)) d (pre ++ c) w k) → Reports r
  pub reports' : (k : ℕ) (r : Run (Owes d (pre' ++ c)) d (pre' ++ c) w' k) → Reports r

-- an answer by itself, as that of a whole walk, which hands out no fields
abbrev pub alone : Answer → Shown
alone a = record { answer = a; fields = [] }

-- two whole walks end alike: their last answers a and a', and the tallies x and x' behind them
abbrev pub EndAlike : (b b' : ℕ) → (t t' : Tally) → (a a' : Answer) → (x x' : Tally) → Type 0
EndAlike b b' t t' a a' x x' = Same b b' (alone a) (alone a') × Level b b' t t' x x'

-- a walk comes to another after n calls
abbrev pub ComesTo : Definition → (section : List ℕ) → (n : ℕ) → (v w : Walk) → Type 0
ComesTo d s n v w = after (called d s) n v ≡ w

-- DEMAND 3, SAID OF THE CODE
pub record Demand3Code (d : Definition) (pre pre' c : List ℕ) (w w' : Walk)
    (t : Tries d (pre ++ c) w (length pre)) (t' : Tries d (pre' ++ c) w' (length pre')) : Type 0 where
  -- runs of `call`, from the calls that make the trials on, and of `look`, from the trials on
  pub calls : RunsResynced calling d pre pre' c t.there.tally t'.there.tally w w'
  pub looks : RunsResynced looking d pre pre' c t.there.tally t'.there.tally t.there t'.there
  -- whole walks by `through`, from walks that are not refused (10) and come to w and w'
  pub through : (v v' : Walk) (n n' : ℕ) → ComesTo d (pre ++ c) n v w → ComesTo d (pre' ++ c) n' v' w'
      → admitted d (length (pre ++ c)) v ≡ true → admitted d (length (pre' ++ c)) v' ≡ true
      → (r r' : Looked) → ThroughOwes d v (pre ++ c) r → ThroughOwes d v' (pre' ++ c) r'
      → EndAlike (length pre) (length pre') t.there.tally t'.there.tally r.answer r'.answer r.walk.tally r'.walk.tally
  -- whole walks by `count`, from the start of both sections
  pub count : (n n' : ℕ) → ComesTo d (pre ++ c) n start w → ComesTo d (pre' ++ c) n' start w' → sound d ≡ true
      → (r r' : Counted) → CountOwes d (pre ++ c) r → CountOwes d (pre' ++ c) r'
      → EndAlike (length pre) (length pre') t.there.tally t'.there.tally r.answer r'.answer r.tally r'.tally

-- Its premise, read off the code: a look or a call from a walk that goes on, of which the answer shows a trial at p, tried a frame there.
abbrev pub SeenTrying : (Definition → List ℕ → Promise) → Type 0
SeenTrying Owes =
    (d : Definition) (s : List ℕ) (w : Walk) (p : ℕ) (out : List ℕ) (r : Looked) (after : List ℕ)
    → admitted d (length s) w ≡ true → length w.tally.counts ≡ 4 → w.tally.ending ≡ Going → needed d ≤ length out
    → Owes d s w out r after → tried_at r.answer ≡ Some p → Tries d s w p
