-- What stands at a place: a function of the definition's shape and of the bytes from there on (document 01, "The walk").
-- No predictor, no header number and no history has a part in it.
use Rattle.std.specs.Prelude.{ℕ, ◌+◌, Bool, true, cond, List, [], ◌∷◌, drop, Option, Some, None, is_some, unwrap_or}
use Rattle.plan.specs.Plan.{Shape}
use Rattle.raws.specs.declared.Raw.{Raw}
use Rattle.raws.specs.Raws.{raw, intra_raw, inter_raw, slow_raw}
use Rattle.reader.specs.declared.Kind.{Kind}
use Rattle.reader.specs.declared.Kind.TheVariants.{Event, Intra, Inter, Gps, Home, Slow}
use Rattle.reader.specs.Got.{Got, got, cut, corrupt, Reader, over, fault}
use Rattle.reader.specs.Search.{letter_of, ahead}
use Rattle.event.specs.declared.Event as event
use Rattle.event.specs.Events.{event_read}
use Rattle.extent.specs.declared.Found.{Found}
use Rattle.extent.specs.declared.Found.TheVariants as found
use Rattle.extent.specs.declared.Look.{Look}
use Rattle.extent.specs.declared.Seen.{Seen}
use Rattle.extent.specs.declared.Seen.TheVariants.{Nothing, Passed, Rejected, Cutoff, Accepted}

-- no raw numbers
abbrev pub no_raw : Raw
no_raw = raw 0 0 []

-- what a frame holds: an event's type and numbers, or the raw numbers of a main or slow frame
pub record Content : Type 0 where
  pub frame : Found
  pub raw : Raw

abbrev pub content : Found → Raw → Content
content f x = record { frame = f; raw = x }

abbrev pub told : event.Event → Content
told e = content (found.Event e) no_raw

-- what is read behind each kind byte; G and H are corrupt at once
unfoldable pub trial : Shape → Kind → Reader Content
trial h Event c = over told (event_read c)
trial h Intra c = over (content found.Intra) (intra_raw h.intra c)
trial h Inter c = over (content found.Inter) (inter_raw h.inter c)
trial h Gps c = fault c
trial h Home c = fault c
trial h Slow c = over (content found.Slow) (slow_raw h.slow c)

-- a trial that decodes must be followed by end of data or one of the six bytes
unfoldable pub closed : List ℕ → Bool
closed [] = true
closed (b ∷ c) = is_some (letter_of b)

-- a look without raw numbers
abbrev pub bare : Seen → Look
bare x = record { seen = x; raw = no_raw }

-- what becomes of a trial of the bytes `c` behind a kind byte; where it is rejected the search starts there, behind its first byte
unfoldable pub judged : Kind → List ℕ → Got Content → Look
judged k c (got x u) = cond (closed (drop u.bytes c)) (record { seen = Accepted x.frame u.bytes; raw = x.raw }) (bare (Rejected k (ahead c)))
judged k c cut = bare (Cutoff k)
judged k c corrupt = bare (Rejected k (ahead c))

-- a byte outside the six starts a search behind it, a byte inside a trial
unfoldable pub begun : Shape → Option Kind → List ℕ → Look
begun h None c = bare (Passed (ahead c))
begun h (Some k) c = judged k c (trial h k c)

-- WHAT STANDS AT A PLACE, of which these are the bytes from there on
unfoldable pub look : Shape → List ℕ → Look
look h [] = bare Nothing
look h (b ∷ c) = begun h (letter_of b) c

-- how many bytes it reaches over: a search that finds nothing stays behind the first byte
unfoldable pub span : Seen → ℕ
span Nothing = 0
span (Passed n) = 1 + unwrap_or n 0
span (Rejected k n) = 1 + unwrap_or n 0
span (Cutoff k) = 1
span (Accepted f m) = 1 + m
