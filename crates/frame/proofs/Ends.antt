-- Where a frame ends: its encodings and its bytes alone decide, whatever the predictors, the header numbers and the past.
use Rattle.std.proofs.Common.{◌≡◌, ℕ, List, sym, ap, ◌∙◌}
use Rattle.plan.specs.Plan.{Shape, Rules}
use Rattle.raws.specs.Raws.{intra_raw, inter_raw, slow_raw}
use Rattle.reader.specs.Got.{Got, over}
use Rattle.reader.proofs.Reading.{over_over}
use Rattle.frame.specs.Frames.{intra_frame, inter_frame, slow_values, intra_read, inter_read, slow_read}
use Rattle.frame.specs.Past.{Past}

-- a reading without its value: how many bytes it takes, or that it is cut or corrupt
abbrev pub ends : {A : Type 0} → Got A → Got (Unit {0})
ends g = over (λ _. tt) g

module _ (h : Shape) (r : Rules) (p : Past) (c : List ℕ) where
  pub intra_ends : ends (intra_read h r p c) ≡ ends (intra_raw h.intra c)
  unfolding intra_read
  intra_ends = over_over (intra_frame h r p) (λ _. tt) (intra_raw h.intra c)

  pub inter_ends : ends (inter_read h r p c) ≡ ends (inter_raw h.inter c)
  unfolding inter_read
  inter_ends = over_over (inter_frame h r p) (λ _. tt) (inter_raw h.inter c)

pub slow_ends : (h : Shape) (r : Rules) (c : List ℕ) → ends (slow_read h r c) ≡ ends (slow_raw h.slow c)
unfolding slow_read
slow_ends h r c = over_over (slow_values h r) (λ _. tt) (slow_raw h.slow c)

-- so that two definitions with the same encodings, and any two pasts, end frames alike
module _ (h h' : Shape) (r r' : Rules) (c : List ℕ) where
  pub intra_ends_alike : (p p' : Past) → h.intra ≡ h'.intra → ends (intra_read h r p c) ≡ ends (intra_read h' r' p' c)
  intra_ends_alike p p' e = intra_ends h r p c ∙ ap (λ es. ends (intra_raw es c)) e ∙ sym (intra_ends h' r' p' c)

  pub inter_ends_alike : (p p' : Past) → h.inter ≡ h'.inter → ends (inter_read h r p c) ≡ ends (inter_read h' r' p' c)
  inter_ends_alike p p' e = inter_ends h r p c ∙ ap (λ es. ends (inter_raw es c)) e ∙ sym (inter_ends h' r' p' c)

  pub slow_ends_alike : h.slow ≡ h'.slow → ends (slow_read h r c) ≡ ends (slow_read h' r' c)
  slow_ends_alike e = slow_ends h r c ∙ ap (λ es. ends (slow_raw es c)) e ∙ sym (slow_ends h' r' c)
