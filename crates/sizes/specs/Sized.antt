-- What fits the room that it is given: numbers of 32 and 64 bits, 62 values, four counts.
use Rattle.std.specs.Prelude.{ℕ, ◌<◌, List, [], ◌∷◌, ◌≡◌, length}
use Rattle.frame.specs.declared.MainFrame.{MainFrame}
use Rattle.section.specs.declared.Ending.{Ending}
use Rattle.section.specs.declared.Ending.TheVariants.{Going, Done, Out, Cut}
use Rattle.section.specs.declared.Tally.{Tally}
use Rattle.section.specs.declared.Walk.{Walk}

abbrev pub Is32 : ℕ → Type 0
Is32 v = v < 4294967296

abbrev pub Is64 : ℕ → Type 0
Is64 v = v < 18446744073709551616

-- every number of a list
abbrev pub Each : (ℕ → Type 0) → List ℕ → Type 0
Each P [] = Unit
Each P (v ∷ vs) = P v × Each P vs

abbrev pub EndingSized : Ending → Type 0
EndingSized Going = Unit
EndingSized Done = Unit
EndingSized Out = Unit
EndingSized (Cut k p) = Is64 p

pub record FrameSized (f : MainFrame) : Type 0 where
  pub iteration : Is32 f.iteration
  pub time : Is64 f.time
  pub long : length f.values ≡ 62
  pub small : Each Is32 f.values

pub record TallySized (t : Tally) : Type 0 where
  pub place : Is64 t.place
  pub ending : EndingSized t.ending
  pub four : length t.counts ≡ 4
  pub counts : Each Is64 t.counts
  pub trials : Is64 t.trials

pub record WalkSized (w : Walk) : Type 0 where
  pub tally : TallySized w.tally
  pub last : FrameSized w.history.last
  pub older : FrameSized w.history.older
