-- How long the lists are: the values of a frame, and the counts of a walk, out of what owning it tells.
use Prim.Native.Nat.{ℕ}
use mathlib.Core.List.{List}
use Rattle.std.specs.Prelude.{None}
use mathlib.Core.Path.{◌≡◌, ap, ◌∙◌}
use mir.Val.{Val}
use denote.Laws.{Is}
use denote.Struct.Declared as declared
use lib.ListN.{length}
use lib.Seq.{length-sets}
use Rattle.plan.specs.declared.Definition.{Definition}
use Rattle.raws.specs.declared.Raw.{Raw}
use Rattle.frame.specs.declared.MainFrame.{MainFrame}
use Rattle.frame.specs.Frames.{intra_frame, inter_frame, slow_values}
use Rattle.frame.specs.Owes as frame
use Rattle.section.specs.declared.Tally.{Tally}
use Rattle.section.specs.declared.Walk.{Walk}
use Rattle.section.specs.contracts.Tally as tally
use Rattle.section.specs.contracts.Walk as walk

-- ## Values stand in 62 rooms

module _ (d : Definition) (x : Raw) where
  pub intra_rooms : (last : MainFrame) {m : MainFrame} → frame.IntraOwes d last x m → length m.values ≡ 62
  unfolding intra_frame
  intra_rooms last e = ap (λ (m : MainFrame). length m.values) (e None) ∙ simp length-sets

  pub inter_rooms : (last older : MainFrame) {m : MainFrame} → frame.InterOwes d last older x m → length m.values ≡ 62
  unfolding inter_frame
  inter_rooms last older e = ap (λ (m : MainFrame). length m.values) e ∙ simp length-sets

  pub slow_rooms : {vs : List ℕ} → frame.SlowOwes d x vs → length vs ≡ 62
  unfolding slow_values
  slow_rooms e = ap length e ∙ simp length-sets

-- ## A tally has four counts

-- `c.well_formed` has such a part for each parameter
pub tally_counts : (t : Tally) {vs : List Val} → Is (declared.row tally.the_type) t vs → length t.counts ≡ 4
tally_counts t g = g.1.1.1.1.0.1.0.1

pub walk_counts : (w : Walk) {vs : List Val} → Is (declared.row walk.the_type) w vs → length w.tally.counts ≡ 4
walk_counts w g = tally_counts w.tally g.1.1.0
