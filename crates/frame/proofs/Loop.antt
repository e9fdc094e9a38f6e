-- The loop over the fields: the values so far, and the rest of the raw numbers, make the values of all.
use Rattle.std.proofs.Common.{◌≡◌, ℕ, ◌+◌, ◌-◌, ◌<◌, ◌≤◌, min, Bool, true, false, ltb, List, [], ◌∷◌, ◌++◌, length, get_or, take, Option}
use Rattle.std.proofs.Common.{drop, set, replicate, sym, refl, ap, ◌∙◌, ap₂, zero-add, add-one, arith, length-set}
use Rattle.std.proofs.Common.{take-append-drop, drop_of_length-le, length-take, length-take-le, get_or-drop, drop-cons}
use Rattle.std.proofs.Common.{get_or-take, drop-drop, take-suc-set, drop-set-lt, ltb-false, ltb-true}
use lib.ListN.{get_or-replicate, get_or-eq_default}
use lib.Seq.{sets-eq}
use Rattle.predictor.specs.Predictors.{prediction, applied}
use Rattle.predictor.specs.Sign.{is_signed}
use Rattle.reader.specs.Place.{padded}
use Rattle.frame.specs.Values.{Fields, nth, prediction_at, values_behind, values_of}

abbrev rooms : List ℕ
rooms = replicate 62 0

-- the fields before i have their values, and the rooms from i on are still 0
pub record Stands (f : Fields) (last older : Option (List ℕ)) (raws : List ℕ) (i : ℕ) (values : List ℕ) : Type 0 where
  pub is : values_behind f last older (take i values) (drop i (take (length f.predictors) raws)) ≡ values_of f last older raws
  pub zeros : drop i values ≡ drop i rooms
  pub long : length values ≡ 62

pub stands_first : (f : Fields) (last older : Option (List ℕ)) (raws : List ℕ) {values : List ℕ} → values ≡ rooms → Stands f last older raws 0 values
unfolding values_of
stands_first f last older raws e = record { is = refl; zeros = ap (drop 0) e; long = ap length e }

-- motor[0] is read where it has its value, or where there is still 0
motor_read : (values : List ℕ) (i motor : ℕ) → drop i values ≡ drop i rooms → i < 62 → length values ≡ 62
    → get_or values (min motor 61) 0 ≡ get_or (take i values) motor 0
motor_read values i motor z h long = either (ltb motor i) refl
  where
    either : (t : Bool) → ltb motor i ≡ t → get_or values (min motor 61) 0 ≡ get_or (take i values) motor 0
    either true e =
        let k : motor < i = ltb-true motor i e in
        let same : min motor 61 ≡ motor = omega arith in
        rw same (sym (get_or-take i values motor 0 k))
    either false e =
        let k : i ≤ motor = ltb-false motor i e in
        let at : min motor 61 ≡ i + (min motor 61 - i) = omega arith in
        ap (λ n. get_or values n 0) at
        ∙ sym (get_or-drop i values (min motor 61 - i) 0)
        ∙ ap (λ vs. get_or vs (min motor 61 - i) 0) z
        ∙ get_or-drop i rooms (min motor 61 - i) 0
        ∙ ap (λ n. get_or rooms n 0) (sym at)
        ∙ get_or-replicate 62 (min motor 61) 0 0 (omega arith)
        ∙ sym (get_or-eq_default (take i values) 0 (omega (arith, length-take i values)))

module _ (f : Fields) (last older : Option (List ℕ)) (raws : List ℕ) {i : ℕ} {values : List ℕ} (so : Stands f last older raws i values) where
  -- field i gets its value
  stands_next : {x : ℕ} → x ≡ applied (get_or raws i 0) (prediction_at f last older (take i values) i)
      → (i < length f.predictors) × (length f.predictors ≤ 62) × (length raws ≡ 62) → Stands f last older raws (i + 1) (set values i x)
  unfolding values_behind
  stands_next {x} e h =
      let n : ℕ = length f.predictors in
      let own : length (take i values) ≡ i = length-take-le i values (omega (arith, so.long)) in
      let here : i < length (take n raws) = omega (arith, length-take n raws) in
      let rest : drop i (take n raws) ≡ get_or raws i 0 ∷ drop (i + 1) (take n raws) =
      drop-cons (take n raws) i 0 here ∙ ap₂ (λ v m. v ∷ drop m (take n raws)) (get_or-take n raws i 0 h.0) (sym (add-one i))
      in
      let now : take (i + 1) (set values i x)
      ≡ take i values ++ (applied (get_or raws i 0) (prediction_at f last older (take i values) (length (take i values))) ∷ []) =
      rw (add-one i, take-suc-set values i x (omega (arith, so.long)), own, e)
      in
      record {
        is = ap (λ vs. values_behind f last older vs (drop (i + 1) (take n raws))) now ∙ (rw rest at so.is);
        zeros = drop-set-lt (i + 1) values i x (omega arith) ∙ sym (drop-drop 1 i values) ∙ ap (drop 1) so.zeros ∙ drop-drop 1 i rooms;
        long = length-set values i x ∙ so.long;
      }

  -- all have theirs
  pub stands_last : (length f.predictors ≤ i) × (i ≤ 62) → values ≡ padded 62 (values_of f last older raws)
  unfolding values_behind
  stands_last h =
      let done : take i values ≡ values_of f last older raws =
      rw (drop_of_length-le (take (length f.predictors) raws) {i = i} (omega (arith, length-take (length f.predictors) raws))) at so.is
      in
      let own : length (take i values) ≡ i = length-take-le i values (omega (arith, so.long)) in
      sym (take-append-drop i values) ∙ ap (λ vs. take i values ++ vs) (so.zeros ∙ ap (λ m. drop m rooms) (sym own ∙ sym (zero-add _)))
      ∙ sym (sets-eq (take i values) rooms 0 (omega (arith, own)))
      ∙ ap (padded 62) done

-- what `apply` gives for field i is its value
pub stands_on : (f : Fields) (last older : Option (List ℕ)) {raws : List ℕ} {i room : ℕ} {values : List ℕ} {signed : Bool} {l o : Option ℕ} {x : ℕ}
    → Stands f last older raws i values → room ≡ min f.motor 61 → signed ≡ is_signed (get_or f.encodings i 0) → l ≡ nth i last → o ≡ nth i older
    → x ≡ applied (get_or raws i 0) (prediction signed f.around l o (get_or values room 0) (get_or f.predictors i 0))
    → (i < length f.predictors) × (length f.predictors ≤ 62) × (length raws ≡ 62) → Stands f last older raws (i + 1) (set values i x)
unfolding prediction_at
stands_on f last older {raws} {i} {room} {values} so r s a b e bounds =
    let motor = motor_read values i f.motor so.zeros (omega arith) so.long in
    stands_next f _ _ raws so (rw (← s, ← a, ← b, ← motor, ← r) e) bounds
