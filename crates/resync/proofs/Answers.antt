-- What of an answer is the same n bytes further on, and what of it stays in its outline: all but its place, and all but a main frame's numbers.
use Rattle.std.specs.Prelude.{option_map}
use Prim.Native.Nat.{ℕ, ◌+◌}
use mathlib.Core.Bool.{true, false, false≢true}
use mathlib.Core.List.{List}
use mathlib.Core.Path.{◌≡◌, refl}
use Rattle.reader.specs.declared.Kind.{Kind}
use Rattle.section.specs.declared.Answer.{Answer}
use Rattle.section.specs.declared.Answer.TheVariants.{Passed, Rejected, Event, Intra, Inter, Slow, Over, Refused}
use Rattle.section.specs.declared.Ending.{Ending}
use Rattle.section.specs.declared.EventAnswer.{EventAnswer}
use Rattle.section.specs.declared.MainAnswer.{MainAnswer}
use Rattle.section.specs.declared.Refusal.{Refusal}
use Rattle.section.specs.declared.SlowAnswer.{SlowAnswer}
use Rattle.section.specs.Answers.{is_over}
use Rattle.calls.specs.Call.{says}
use Rattle.resync.specs.From.{answer_from, from, outline_of, outline, frame_at}
use Rattle.resync.specs.Runs.{Shown, is_intra, is_inter}

-- what holds of each answer, main frames apart from the others
module _ (P : Answer → Type 0) (intra : (x : MainAnswer) → P (Intra x)) (inter : (x : MainAnswer) → P (Inter x))
    (passed : P Passed) (rejected : (k : Kind) (p : ℕ) → P (Rejected k p)) (event : (x : EventAnswer) → P (Event x)) (slow : (x : SlowAnswer) → P (Slow x))
    (over : (e : Ending) → P (Over e)) (refused : (why : Refusal) → P (Refused why)) where
  by_answer : (a : Answer) → P a
  by_answer Passed = passed
  by_answer (Rejected k p) = rejected k p
  by_answer (Event x) = event x
  by_answer (Intra x) = intra x
  by_answer (Inter x) = inter x
  by_answer (Slow x) = slow x
  by_answer (Over e) = over e
  by_answer (Refused why) = refused why

-- ## n bytes further on

module _ (n : ℕ) where
  pub from_says : (a : Answer) → says (answer_from n a) ≡ says a
  unfolding says answer_from
  from_says = by_answer (λ a. says (answer_from n a) ≡ says a) (λ x. refl) (λ x. refl) refl (λ k p. refl) (λ x. refl) (λ x. refl) (λ e. refl) (λ why. refl)

  pub from_over : (a : Answer) → is_over (answer_from n a) ≡ is_over a
  unfolding is_over answer_from
  from_over =
      by_answer (λ a. is_over (answer_from n a) ≡ is_over a) (λ x. refl) (λ x. refl) refl (λ k p. refl) (λ x. refl) (λ x. refl) (λ e. refl) (λ why. refl)

  pub from_frame : (a : Answer) → frame_at (answer_from n a) ≡ option_map (λ q. n + q) (frame_at a)
  unfolding frame_at answer_from
  from_frame =
      by_answer (λ a. frame_at (answer_from n a) ≡ option_map (λ q. n + q) (frame_at a))
      (λ x. refl) (λ x. refl) refl (λ k p. refl) (λ x. refl) (λ x. refl) (λ e. refl) (λ why. refl)

  pub outline_from : (x : Shown) → outline (from n x) ≡ from n (outline x)
  unfolding outline_of answer_from
  outline_from x =
      by_answer (λ a. outline_of (answer_from n a) x.fields ≡ from n (outline_of a x.fields))
      (λ m. refl) (λ m. refl) refl (λ k p. refl) (λ m. refl) (λ m. refl) (λ e. refl) (λ why. refl) x.answer

-- ## In outline

module _ (vs : List ℕ) where
  pub outline_frame : (a : Answer) → frame_at (outline_of a vs).answer ≡ frame_at a
  unfolding frame_at outline_of
  outline_frame =
      by_answer (λ a. frame_at (outline_of a vs).answer ≡ frame_at a)
      (λ x. refl) (λ x. refl) refl (λ k p. refl) (λ x. refl) (λ x. refl) (λ e. refl) (λ why. refl)

  pub outline_over : (a : Answer) → is_over (outline_of a vs).answer ≡ is_over a
  unfolding is_over outline_of
  outline_over =
      by_answer (λ a. is_over (outline_of a vs).answer ≡ is_over a) (λ x. refl) (λ x. refl) refl (λ k p. refl) (λ x. refl) (λ x. refl) (λ e. refl) (λ why. refl)

  -- what is over is left whole
  pub outline_whole : (a : Answer) → is_over a ≡ true → (outline_of a vs).answer ≡ a
  unfolding is_over outline_of
  outline_whole =
      by_answer (λ a. is_over a ≡ true → (outline_of a vs).answer ≡ a) (λ x e. absurd (false≢true e)) (λ x e. absurd (false≢true e))
      (λ _. refl) (λ k p _. refl) (λ x _. refl) (λ x _. refl) (λ x _. refl) (λ why _. refl)

-- ## Kinds

pub intra_no_inter : (a : Answer) → is_intra a ≡ true → is_inter a ≡ false
unfolding is_intra is_inter
intra_no_inter =
    by_answer (λ a. is_intra a ≡ true → is_inter a ≡ false) (λ x _. refl) (λ x e. absurd (false≢true e))
    (λ _. refl) (λ k p _. refl) (λ x _. refl) (λ x _. refl) (λ x _. refl) (λ why _. refl)
