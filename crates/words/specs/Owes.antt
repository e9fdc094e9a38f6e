-- What each public function of this crate owes.
use Rattle.std.specs.Prelude.{ℕ, suc, Bool, List, ◌≡◌, Option, Result, OnOk, true, [], ◌∷◌, ◌++◌, take, drop}
use Rattle.std.specs.Io.KnownBytes.{Appends}
use Rattle.digits.specs.Digits.{before}
use Rattle.plan.specs.declared.FrameInterval.{FrameInterval}
use Rattle.plan.specs.declared.Numbers.{Numbers}
use Rattle.words.specs.Escapes.{bytes_of, word_of}
use Rattle.words.specs.Interval.{interval_of}
use Rattle.words.specs.Sections.{section_of}
use Rattle.words.specs.Lines.{lines, Told}
use Rattle.words.specs.Three.{numbers_of}
use Rattle.words.specs.Written.{put_of}
use Rattle.words.specs.Words.{first_word, other_words, heading, hex_of}

abbrev pub SplitOwes : List ℕ → (b : ℕ) → (r behind : List ℕ) → Type 0
SplitOwes s b r behind = (r ≡ take (before b s) s) × (behind ≡ drop (suc (before b s)) s)

abbrev pub FirstOwes : List ℕ → List ℕ → Type 0
FirstOwes s r = r ≡ first_word s

abbrev pub BehindOwes : List ℕ → List ℕ → Type 0
BehindOwes s r = r ≡ other_words s

abbrev pub IsHeadingOwes : List ℕ → Bool → Type 0
IsHeadingOwes s r = r ≡ heading s

abbrev pub HexOwes : (high low : ℕ) → Option ℕ → Type 0
HexOwes high low r = r ≡ hex_of high low

abbrev pub BytesOwes : (text out : List ℕ) → Option ℕ → (after : List ℕ) → Type 0
BytesOwes text out r after = (r, after) ≡ section_of text out

abbrev pub UnescapeOwes : (text out : List ℕ) → Option ℕ → (after : List ℕ) → Type 0
UnescapeOwes text out r after = (r, after) ≡ put_of (bytes_of text) out

abbrev pub WordOwes : (text out : List ℕ) → Option ℕ → (after : List ℕ) → Type 0
WordOwes text out r after = (r, after) ≡ put_of (word_of text) out

abbrev pub NumbersOwes : List ℕ → Option Numbers → Type 0
NumbersOwes s r = r ≡ numbers_of s

abbrev pub IntervalOwes : List ℕ → Option FrameInterval → Type 0
IntervalOwes s r = r ≡ interval_of s

abbrev pub BehindThreeOwes : List ℕ → List ℕ → Type 0
BehindThreeOwes s r = r ≡ other_words (other_words (other_words s))

abbrev pub EachLineOwes : {F E : Type 0} (called : F → List ℕ → Result Unit E → F → Type 0) → F → (text : List ℕ) → Result Unit E → Type 0
EachLineOwes called each text r = Told called each (lines text) r

abbrev pub AnswerLineOwes : {E : Type 0} → (line : List ℕ) (before after : Option (List ℕ)) → Result Unit E → Type 0
AnswerLineOwes line before after r = heading line ≡ true → OnOk r (Appends before after (line ++ 10 ∷ []))
