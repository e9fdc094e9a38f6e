-- The tally of an admitted walk keeps to its room where its ending does: no place is behind the section, and no count is more than the trials.
use Prim.Native.Nat.{ℕ, ◌<◌}
use mathlib.Core.Bool.{true}
use mathlib.Core.Path.{◌≡◌}
use native.Mathlib.Omega.{arith}
use lib.Dec.{eqb}
use lib.ListN.{length, get_or}
use Rattle.bits.proofs.Laws.{by_test}
use Rattle.plan.specs.declared.Definition.{Definition}
use Rattle.extent.specs.declared.Found.{Found}
use Rattle.extent.specs.declared.Found.TheVariants.{Event, Intra, Inter, Slow}
use Rattle.extent.specs.declared.Seen.{Seen}
use Rattle.extent.specs.declared.Seen.TheVariants.{Nothing, Passed, Rejected, Cutoff, Accepted}
use Rattle.extent.specs.Extent.{span}
use Rattle.section.specs.declared.Walk.{Walk}
use Rattle.section.specs.Refusals.{admitted}
use Rattle.section.specs.Tally.{ended_by, ending_after}
use Rattle.section.proofs.Admitted.{admitted_place, admitted_few, admitted_fits}
use Rattle.sizes.specs.Sized.{Is64, EndingSized, TallySized}
use Rattle.sizes.proofs.Lists.{each_below}

-- ## The ending behind a look

ended_sized : (f : Found) → EndingSized (ended_by f)
unfolding ended_by
ended_sized (Event e) = by_test EndingSized (eqb e.code 255) (λ _. tt) (λ _. tt)
ended_sized Intra = tt
ended_sized Inter = tt
ended_sized Slow = tt

pub ending_sized : (x : Seen) (p : ℕ) → Is64 p → EndingSized (ending_after x p)
unfolding ending_after
ending_sized Nothing p h = tt
ending_sized (Passed s) p h = tt
ending_sized (Rejected k s) p h = tt
ending_sized (Cutoff k) p h = h
ending_sized (Accepted f m) p h = ended_sized f

-- ## The rest

module _ (d : Definition) (z : ℕ) (w : Walk) (h : admitted d z w ≡ true) (four : length w.tally.counts ≡ 4) (short : z < 18446744073709551616) where
  part_sized : (i : ℕ) → Is64 (get_or w.tally.counts i 0)
  unfolding span
  part_sized i =
      let place = admitted_place d z w h in
      omega (arith, (admitted_fits d z w h Nothing (omega arith) four).part i, admitted_few d z w h)

  pub tally_sized : EndingSized w.tally.ending → TallySized w.tally
  tally_sized ending =
      let place = admitted_place d z w h in
      record {
        place = omega arith;
        ending = ending;
        four = four;
        counts = each_below w.tally.counts part_sized;
        trials = omega (arith, admitted_few d z w h);
      }
