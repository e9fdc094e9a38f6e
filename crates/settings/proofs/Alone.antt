-- Settings are read from header lines before the section: the header alone tells them, whatever stands in the section.
use Prim.Native.Nat.{ℕ}
use mathlib.Core.List.{List}
use mathlib.Core.Path.{◌≡◌, refl, sym, ap, ◌∙◌}
use Rattle.header.specs.Header.{value_of}
use Rattle.header.proofs.Alone.{alone, value_alone, part_alone}
use Rattle.items.specs.declared.Stretch.{Stretch}
use Rattle.items.specs.Text.{ascii}
use Rattle.std.specs.Prelude.{Option, Some, None}
use Rattle.settings.specs.declared.Said.{Said}
use Rattle.settings.specs.Owes.{ReadOwes}
use Rattle.settings.specs.Said.{said_at, line_of, numbers_of, inter_of, intra_of, interval_of, said_of}
use Rattle.settings.specs.Texts.{header_number_of, first_of_two, whole_of, ratio_of}
use Rattle.settings.proofs.Settling.{interval_made}

module _ (log : List ℕ) where
  module _ {A : Type 0} (prefix : List ℕ) (says : List ℕ → A) (without : A) where
    at_alone : (s : Option Stretch) → value_of log prefix ≡ s → said_at (alone log) says without s ≡ said_at log says without s
    at_alone None q = refl
    at_alone (Some s) q = ap says (part_alone log prefix (Some s) q)

    line_alone : line_of (alone log) prefix says without ≡ line_of log prefix says without
    unfolding line_of
    line_alone = ap (said_at (alone log) says without) (value_alone log prefix) ∙ at_alone (value_of log prefix) refl

  numbers_alone : numbers_of (alone log) ≡ numbers_of log
  unfolding numbers_of
  numbers_alone = λ j.
      record {
        min_throttle = line_alone (ascii "H minthrottle:") header_number_of None j;
        vbat_reference = line_alone (ascii "H vbatref:") header_number_of None j;
        min_motor = line_alone (ascii "H motorOutput:") first_of_two None j;
      }

  inter_alone : inter_of (alone log) ≡ inter_of log
  unfolding inter_of
  inter_alone = line_alone (ascii "H P interval:") ratio_of _

  intra_alone : (n d : ℕ) → intra_of (alone log) n d ≡ intra_of log n d
  unfolding intra_of
  intra_alone n d = line_alone (ascii "H I interval:") whole_of _

  interval_alone : interval_of (alone log) ≡ interval_of log
  unfolding interval_of
  interval_alone = interval_made log inter_alone (intra_alone (inter_of (alone log)).numerator (inter_of (alone log)).denominator)

  pub said_alone : said_of (alone log) ≡ said_of log
  unfolding said_of
  said_alone = λ j. record { numbers = numbers_alone j; interval = interval_alone j }

-- of any two runs: logs with one header have the same settings
pub read_alone : (log other : List ℕ) {r t : Said} → alone log ≡ alone other → ReadOwes log r → ReadOwes other t → r ≡ t
read_alone log other e p q = p ∙ sym (said_alone log) ∙ ap said_of e ∙ said_alone other ∙ sym q
