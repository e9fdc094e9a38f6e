-- What each public function of this crate owes.
use Rattle.std.specs.Prelude.{◌≡◌, ℕ, List, take, Option, Result}
use Rattle.plan.specs.declared.Definition.{Definition}
use Rattle.plan.specs.Plan.{shape, rules}
use Rattle.raws.specs.declared.Raw.{Raw}
use Rattle.reader.specs.declared.Cursor.{Cursor}
use Rattle.frame.specs.declared.fields.Context.{Context}
use Rattle.frame.specs.declared.fields.FieldValues.{FieldValues}
use Rattle.frame.specs.declared.fields.Unread.{Unread}
use Rattle.frame.specs.declared.Head.{Head}
use Rattle.frame.specs.declared.MainFrame.{MainFrame}
use Rattle.frame.specs.Frames.{intra_frame, inter_frame, slow_values}
use Rattle.frame.specs.Lists.{refusal_of, by_lists}
use Rattle.frame.specs.Parts.{head_of, frame_of, raw_of}
use Rattle.frame.specs.Past.{Body, past_of, body_of, no_frame}

abbrev pub AbsentOwes : MainFrame → Type 0
AbsentOwes r = r ≡ no_frame

abbrev pub HeadOwes : MainFrame → Head → Type 0
HeadOwes f r = r ≡ head_of f

abbrev pub WithOwes : Head → (values : List ℕ) → MainFrame → Type 0
WithOwes h vs r = r ≡ frame_of h vs

-- whatever the older frame was
abbrev pub IntraOwes : Definition → MainFrame → Raw → MainFrame → Type 0
IntraOwes d last x r = (older : Option Body) → r ≡ intra_frame (shape d) (rules d) (past_of (body_of last) older) x

abbrev pub InterOwes : Definition → MainFrame → MainFrame → Raw → MainFrame → Type 0
InterOwes d last older x r = r ≡ inter_frame (shape d) (rules d) (past_of (body_of last) (body_of older)) x

abbrev pub SlowOwes : Definition → Raw → List ℕ → Type 0
SlowOwes d x r = r ≡ slow_values (shape d) (rules d) x

-- in lent rooms: the head is handed back, and the values stand in the rooms
abbrev pub IntraInOwes : Definition → Head → (last_values : List ℕ) → (iteration time : ℕ) → (raws : List ℕ) → Head → (after : List ℕ) → Type 0
IntraInOwes d last lasts i t xs r after = IntraOwes d (frame_of last lasts) (raw_of i t xs) (frame_of r after)

-- an inter frame's raw numbers have no iteration, so that its promise is for any
abbrev pub InterInOwes : Definition → Head → (last_values : List ℕ) → Head → (older_values : List ℕ)
    → (time : ℕ) → (raws : List ℕ) → Head → (after : List ℕ) → Type 0
InterInOwes d last lasts older olders t xs r after = (k : ℕ) → InterOwes d (frame_of last lasts) (frame_of older olders) (raw_of k t xs) (frame_of r after)

-- a slow frame's have no time either
abbrev pub SlowInOwes : Definition → (raws after : List ℕ) → Type 0
SlowInOwes d xs after = (k t : ℕ) → SlowOwes d (raw_of k t xs) after

-- the first n of 62 encodings and predictors
abbrev pub ReadFieldsOwes : (n : ℕ) → (encodings predictors : List ℕ) → Context → (section : List ℕ) → Cursor
    → Result (FieldValues × Cursor) Unread → Type 0
ReadFieldsOwes n es ps x s from r = r ≡ by_lists n (take n es) (take n ps) x s from

abbrev pub RefusalOwes : Unread → Option (ℕ × ℕ) → Type 0
RefusalOwes e r = r ≡ refusal_of e
