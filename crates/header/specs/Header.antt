-- What a log's header lines tell: where each list stands, and where the section begins.
use Rattle.std.specs.Prelude.{ℕ, ◌+◌, cond, List, [], ◌∷◌, Option, Some, None, length}
use Rattle.items.specs.declared.Lists.{Lists}
use Rattle.items.specs.declared.Stretch.{Stretch}
use Rattle.items.specs.Text.{ascii}
use Rattle.header.specs.declared.Header.{Header}
use Rattle.header.specs.Lines.{lines, bare, begins, headers, total}

-- the value that the line from place p on has behind a prefix; what an earlier line gave, where it does not begin so
unfoldable pub newer : (prefix : List ℕ) (p : ℕ) (line : List ℕ) → Option Stretch → Option Stretch
newer prefix p line earlier = cond (begins prefix (bare line)) (Some (record { start = p + length prefix; end = p + length (bare line) })) earlier

-- the last line that begins with a prefix counts; the lines start at place p
unfoldable pub last_from : (prefix : List ℕ) (p : ℕ) → List (List ℕ) → Option Stretch → Option Stretch
last_from prefix p [] earlier = earlier
last_from prefix p (l ∷ ls) earlier = last_from prefix (p + length l) ls (newer prefix p l earlier)

-- where a log's value for a prefix stands
unfoldable pub value_of : List ℕ → List ℕ → Option Stretch
value_of text prefix = last_from prefix 0 (headers (lines text)) None

-- the ten lines that carry lists; every other header line is skipped
unfoldable pub lists_of : List ℕ → Lists
lists_of text =
    record {
      main =
          record {
            names = value_of text (ascii "H Field I name:");
            intra_predictors = value_of text (ascii "H Field I predictor:");
            inter_predictors = value_of text (ascii "H Field P predictor:");
            intra_encodings = value_of text (ascii "H Field I encoding:");
            inter_encodings = value_of text (ascii "H Field P encoding:");
            signs = value_of text (ascii "H Field I signed:");
          };
      slow =
          record {
            names = value_of text (ascii "H Field S name:");
            predictors = value_of text (ascii "H Field S predictor:");
            encodings = value_of text (ascii "H Field S encoding:");
            signs = value_of text (ascii "H Field S signed:");
          };
    }

unfoldable pub header_of : List ℕ → Header
header_of text = record { lists = lists_of text; section = total (headers (lines text)) }
