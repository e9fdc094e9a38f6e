-- What a frame takes from the frames before it: a history that none of its fields' predictors reads has no part in it.
use Rattle.std.proofs.Common.{◌≡◌, ℕ, true, false, List, [], ◌∷◌, ◌++◌, length, take, refl, ap, ◌∙◌, ap₂, Option, None, Some}
use Rattle.plan.specs.Plan.{Shape, Rules}
use Rattle.predictor.specs.Histories.{reads_last, reads_older, none_reads}
use Rattle.predictor.specs.Predictors.{applied}
use Rattle.predictor.proofs.Histories.{last_unread_at, older_unread_at}
use Rattle.raws.specs.declared.Raw.{Raw}
use Rattle.frame.specs.declared.Mark.TheVariants.{Intra, Inter}
use Rattle.frame.specs.Frames.{values_in, intra_fields, inter_fields, intra_frame, inter_frame}
use Rattle.frame.specs.Past.{Body, Past, past_of, main_frame}
use Rattle.frame.specs.Time.{behind_inter, skipped_after, iteration_after, time_after}
use Rattle.frame.specs.Values.{Fields, prediction_at, values_behind, values_of}

-- ## The fields

-- where two pasts give the same predictions, they give the same values
module _ (f : Fields) (l o l' o' : Option (List ℕ)) (same : (own : List ℕ) (i : ℕ) → prediction_at f l o own i ≡ prediction_at f l' o' own i) where
  behind_same : (own xs : List ℕ) → values_behind f l o own xs ≡ values_behind f l' o' own xs
  unfolding values_behind
  behind_same own [] = refl
  behind_same own (x ∷ xs) =
      ap (λ p. values_behind f l o (own ++ (applied x p ∷ [])) xs) (same own (length own))
      ∙ behind_same (own ++ (applied x (prediction_at f l' o' own (length own)) ∷ [])) xs

  values_same : (xs : List ℕ) → values_of f l o xs ≡ values_of f l' o' xs
  unfolding values_of
  values_same xs = behind_same [] (take (length f.predictors) xs)

-- predictors that do not read last read no history
pub values_last_unread : (f : Fields) (l o l' o' : Option (List ℕ)) (xs : List ℕ) → none_reads reads_last f.predictors ≡ true
    → values_of f l o xs ≡ values_of f l' o' xs
unfolding prediction_at
values_last_unread f l o l' o' xs e = values_same f l o l' o' (λ own i. last_unread_at f.predictors e i _ _ _ _ _ _ _) xs

pub values_older_unread : (f : Fields) (l o o' : Option (List ℕ)) (xs : List ℕ) → none_reads reads_older f.predictors ≡ true
    → values_of f l o xs ≡ values_of f l o' xs
unfolding prediction_at
values_older_unread f l o o' xs e = values_same f l o l o' (λ own i. older_unread_at f.predictors e i _ _ _ _ _ _) xs

-- ## Frames

-- intra lists that use none of predictors 1, 2, 3 and 6: the past has no part in an intra frame
pub intra_alone : (h : Shape) (r : Rules) (p p' : Past) (x : Raw) → none_reads reads_last r.intra ≡ true → intra_frame h r p x ≡ intra_frame h r p' x
unfolding intra_frame intra_fields
intra_alone h r p p' x e =
    ap (main_frame Intra x.iteration x.time)
    (values_last_unread (intra_fields h r) (values_in p.last) None (values_in p'.last) None x.fields e)

-- the frame before the last has no part in an intra frame, whatever its lists
pub intra_no_older : (h : Shape) (r : Rules) (l o o' : Option Body) (x : Raw)
    → intra_frame h r (past_of l o) x ≡ intra_frame h r (past_of l o') x
unfolding intra_frame
intra_no_older h r l o o' x = refl

-- behind an intra frame the time goes by that frame alone
pub time_behind_intra : (l : Body) (o o' : Option Body) (x : ℕ) → l.inter ≡ false
    → time_after (past_of (Some l) o) x ≡ time_after (past_of (Some l) o') x
unfolding time_after behind_inter
time_behind_intra l o o' x e = rw e

-- so the older one has no part in an inter frame there, if the inter lists use 2 and 3 in no field after time
pub inter_behind_intra : (h : Shape) (r : Rules) (l : Body) (o o' : Option Body) (x : Raw) → none_reads reads_older r.inter ≡ true → l.inter ≡ false
    → inter_frame h r (past_of (Some l) o) x ≡ inter_frame h r (past_of (Some l) o') x
unfolding inter_frame inter_fields iteration_after skipped_after
inter_behind_intra h r l o o' x e f =
    let p = past_of (Some l) o in
    let times = time_behind_intra l o o' x.time f in
    let values = values_older_unread (inter_fields h r p) (values_in (Some l)) (values_in o) (values_in o') x.fields e in
    ap₂ (main_frame Inter (iteration_after r p)) times values
