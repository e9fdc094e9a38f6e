-- How long a definition's arrays are, out of what owning it tells, and that a count over their rooms takes them all.
use Prim.Native.Nat.{ℕ, zero, suc, ◌<◌, min}
use mathlib.Core.List.{List, [], ◌∷◌}
use mathlib.Core.Path.{◌≡◌, sym, ap, ◌∙◌}
use native.Mathlib.Nat.{zero-min, suc-min-suc}
use native.Mathlib.Omega.{arith}
use mir.Val.{Val}
use denote.Laws.{Is}
use denote.Struct.Declared as declared
use denote.Struct.Field.{u8-field, array_field}
use lib.ListN.{length, take, length-take}
use lib.Seq.{take-nil}
use Rattle.plan.specs.declared.Main.{Main}
use Rattle.std.specs.Prelude.{Option, Some}
use Rattle.plan.specs.declared.Numbers.{Numbers}
use Rattle.plan.specs.declared.Slow.{Slow}
use Rattle.plan.specs.Sound.{unmet_from}
use Rattle.plan.proofs.Needs.{unmet_below}
use Rattle.plan.specs.contracts.Main as main
use Rattle.plan.specs.contracts.Slow as slow

-- ## Lengths

-- of a field that is an array of n bytes
rooms : (n : ℕ) (l : List ℕ) {vs : List Val} → Is (array_field u8-field n).row l vs → length l ≡ n
rooms n l g = g.1.0.1

pub record MainRooms (m : Main) : Type 0 where
  pub intra_predictors : length m.intra_predictors ≡ 62
  pub inter_predictors : length m.inter_predictors ≡ 62
  pub intra_encodings : length m.intra_encodings ≡ 62
  pub inter_encodings : length m.inter_encodings ≡ 62
  pub signs : length m.signs ≡ 62

-- `c.well_formed` has such a part for each parameter
pub main_rooms : (m : Main) {vs : List Val} → Is (declared.row main.the_type) m vs → MainRooms m
main_rooms m g =
    record {
      intra_predictors = rooms 62 m.intra_predictors g.1.1.1.1.0;
      inter_predictors = rooms 62 m.inter_predictors g.1.1.1.1.1.0;
      intra_encodings = rooms 62 m.intra_encodings g.1.1.1.1.1.1.0;
      inter_encodings = rooms 62 m.inter_encodings g.1.1.1.1.1.1.1.0;
      signs = rooms 62 m.signs g.1.1.1.1.1.1.1.1.0;
    }

pub record SlowRooms (s : Slow) : Type 0 where
  pub slow_predictors : length s.predictors ≡ 16
  pub slow_encodings : length s.encodings ≡ 16

pub slow_rooms : (s : Slow) {vs : List Val} → Is (declared.row slow.the_type) s vs → SlowRooms s
slow_rooms s g =
    record {
      slow_predictors = rooms 16 s.predictors g.1.1.1.0;
      slow_encodings = rooms 16 s.encodings g.1.1.1.1.0;
    }

-- ## Counts over the rooms

take_rooms : (f : ℕ) (l : List ℕ) → take (min f (length l)) l ≡ take f l
take_rooms zero l = rw (zero-min (length l))
take_rooms (suc f) [] = take-nil (min (suc f) 0)
take_rooms (suc f) (x ∷ l) = rw (suc-min-suc f (length l)) (ap (λ t. x ∷ t) (take_rooms f l))

pub front_all : (k f n : ℕ) (l : List ℕ) → k ≡ min f n → length l ≡ n → take k l ≡ take f l
front_all k f n l e rooms = ap (λ x. take x l) (e ∙ ap (min f) (sym rooms)) ∙ take_rooms f l

-- a field that lacks something stands in one of the rooms
pub unmet_inside : (numbers : Numbers) (motor k : ℕ) (ps qs : List ℕ) {r : Option ℕ} {i : ℕ}
    → r ≡ unmet_from numbers motor 0 (take k ps) qs → r ≡ Some i → i < length ps
unmet_inside numbers motor k ps qs e is = omega (arith, unmet_below numbers motor 0 (take k ps) qs (sym e ∙ is), length-take k ps)
