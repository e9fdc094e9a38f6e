-- The rooms of a frame's values: 0 behind the last field, so that they are the fields laid over empty rooms.
use Prim.Native.Nat.{ℕ, zero, suc, ◌+◌, ◌<◌, ◌≤◌}
use mathlib.Core.List.{List, [], ◌∷◌, ◌++◌}
use Rattle.std.specs.Prelude.{Option, None}
use mathlib.Core.Path.{◌≡◌, refl, sym, ap, ◌∙◌}
use native.Mathlib.Omega.{arith}
use lib.ListN.{length, take, drop, set, replicate, length-take, length-append, length-replicate, take-append-drop}
use lib.Seq.{sets, sets-eq, length-sets, length-take-le}
use Rattle.plan.specs.declared.Definition.{Definition}
use Rattle.plan.specs.Plan.{fields, shape, rules}
use Rattle.reader.specs.Place.{padded}
use Rattle.raws.specs.declared.Raw.{Raw}
use Rattle.predictor.specs.Predictors.{applied}
use Rattle.frame.specs.declared.MainFrame.{MainFrame}
use Rattle.frame.specs.Frames.{intra_fields, inter_fields, slow_fields, intra_frame, inter_frame, slow_values}
use Rattle.frame.specs.Owes as frame
use Rattle.frame.specs.Values.{Fields, prediction_at, values_behind, values_of}

-- ## No more values than fields

length_behind : (f : Fields) (last older : Option (List ℕ)) (own raws : List ℕ) → length (values_behind f last older own raws) ≡ length own + length raws
unfolding values_behind
length_behind f last older own [] = omega arith
length_behind f last older own (x ∷ xs) =
    let one = applied x (prediction_at f last older own (length own)) ∷ [] in
    length_behind f last older (own ++ one) xs
    ∙ (let e : length (own ++ one) + length xs ≡ length own + suc (length xs) = omega (arith, length-append own one) in e)

few : (f : Fields) (last older : Option (List ℕ)) (raws : List ℕ) → length (values_of f last older raws) ≤ length f.predictors
unfolding values_of
few f last older raws =
    omega (arith, length_behind f last older [] (take (length f.predictors) raws), length-take (length f.predictors) raws)

-- ## Laid over empty rooms

drop_set : (l : List ℕ) (i n v : ℕ) → i < n → drop n (set l i v) ≡ drop n l
drop_set [] i n v h = refl
drop_set (x ∷ l) i zero v h = absurd (omega arith)
drop_set (x ∷ l) zero (suc n) v h = refl
drop_set (x ∷ l) (suc i) (suc n) v h = drop_set l i n v (omega arith)

drop_sets : (vs l : List ℕ) (i n : ℕ) → i + length vs ≤ n → drop n (sets l i vs) ≡ drop n l
drop_sets [] l i n h = refl
drop_sets (v ∷ vs) l i n h = drop_sets vs (set l i v) (suc i) n (omega arith) ∙ drop_set l i n v (omega arith)

cut_padded : (vs : List ℕ) (n : ℕ) → length vs ≤ n → n ≤ 62 → padded 62 vs ≡ sets (replicate 62 0) 0 (take n (padded 62 vs))
cut_padded vs n h most =
    let rooms : length (padded 62 vs) ≡ 62 = length-sets (replicate 62 0) 0 vs ∙ length-replicate {A = ℕ} 62 0 in
    let long : length (take n (padded 62 vs)) ≡ n = length-take-le n (padded 62 vs) (omega arith) in
    sym (take-append-drop n (padded 62 vs))
    ∙ ap (λ r. take n (padded 62 vs) ++ r)
    (drop_sets vs (replicate 62 0) 0 n (omega arith) ∙ ap (λ k. drop k (replicate 62 0)) (let e : n ≡ 0 + length (take n (padded 62 vs)) = omega arith in e))
    ∙ sym (sets-eq (take n (padded 62 vs)) (replicate 62 0) 0 (omega (arith, length-replicate {A = ℕ} 62 0)))

cut_values : (f : Fields) (last older : Option (List ℕ)) (raws : List ℕ) (n : ℕ) → length f.predictors ≤ n → n ≤ 62
    → padded 62 (values_of f last older raws) ≡ sets (replicate 62 0) 0 (take n (padded 62 (values_of f last older raws)))
cut_values f last older raws n h most = cut_padded (values_of f last older raws) n (omega (arith, few f last older raws)) most

-- ## The frames

front : (n : ℕ) (ps : List ℕ) → length (take n ps) ≤ n
front n ps = omega (arith, length-take n ps)

module _ (d : Definition) (x : Raw) where
  pub intra_padded : (last : MainFrame) {m : MainFrame} → frame.IntraOwes d last x m → fields d.main ≤ 62
      → m.values ≡ sets (replicate 62 0) 0 (take (fields d.main) m.values)
  unfolding intra_frame intra_fields rules
  intra_padded last e h =
      rw (e None) (cut_values (intra_fields (shape d) (rules d)) _ None x.fields
      (fields d.main) (front (fields d.main) d.main.intra_predictors) h)

  pub inter_padded : (last older : MainFrame) {m : MainFrame} → frame.InterOwes d last older x m → fields d.main ≤ 62
      → m.values ≡ sets (replicate 62 0) 0 (take (fields d.main) m.values)
  unfolding inter_frame inter_fields rules
  inter_padded last older e h =
      rw e (cut_values (inter_fields (shape d) (rules d) _) _ _ x.fields (fields d.main) (front (fields d.main) d.main.inter_predictors) h)

  pub slow_padded : {vs : List ℕ} → frame.SlowOwes d x vs → d.slow.n ≤ 16 → vs ≡ sets (replicate 62 0) 0 (take d.slow.n vs)
  unfolding slow_values slow_fields rules
  slow_padded e h =
      rw e (cut_values (slow_fields (shape d) (rules d)) None None x.fields d.slow.n (front d.slow.n d.slow.predictors) (omega arith))
