-- What lines say, by whether a log has them.
use Prim.Native.Nat.{ℕ}
use mathlib.Core.Bool.{cond}
use mathlib.Core.List.{List, []}
use mathlib.Core.Path.{◌≡◌, refl, sym, ap, ◌∙◌}
use lib.Dec.{eqb}
use borrow.Author.Tests.{eq-eqb, ne_eqb}
use Rattle.header.specs.Header.{value_of}
use Rattle.items.specs.declared.Stretch.{Stretch}
use Rattle.items.specs.Items.{part}
use Rattle.items.specs.Text.{ascii}
use Rattle.std.specs.Prelude.{Option, Some, None}
use Rattle.settings.specs.declared.Ratio.{Ratio}
use Rattle.settings.specs.Said.{said_at, line_of, numbers_of, inter_of, intra_of, interval_of}
use Rattle.settings.specs.Texts.{header_number_of, first_of_two, whole_of, ratio_of}
use Rattle.settings.proofs.Texts.{header_none, two_none}

module _ {A : Type 0} (log prefix : List ℕ) (says : List ℕ → A) (without : A) where
  -- `line` is where the value stands
  module _ {line : Option Stretch} (found : line ≡ value_of log prefix) where
    line_by : {l : Option Stretch} → line ≡ l → said_at log says without l ≡ line_of log prefix says without
    unfolding line_of
    line_by e = ap (said_at log says without) (sym e ∙ found)

    line_there : {l : Stretch} {t : List ℕ} {r : A} → line ≡ Some l → t ≡ part log line → r ≡ says t → r ≡ line_of log prefix says without
    line_there f g h = h ∙ ap says (g ∙ ap (part log) f) ∙ line_by f

    line_missing : line ≡ None → without ≡ line_of log prefix says without
    line_missing e = line_by e

  -- an empty text stands for no line, where it says the same
  text_at : says [] ≡ without → (s : Option Stretch) → says (part log s) ≡ said_at log says without s
  unfolding part
  text_at e None = e
  text_at e (Some s) = refl

  text_says : says [] ≡ without → {t : List ℕ} {r : A} → t ≡ part log (value_of log prefix) → r ≡ says t → r ≡ line_of log prefix says without
  unfolding line_of
  text_says e f g = g ∙ ap says f ∙ text_at e (value_of log prefix)

-- ## Header numbers

module _ (log : List ℕ) {t b m : List ℕ} {x y z : Option ℕ} where
  pub numbers_made : t ≡ part log (value_of log (ascii "H minthrottle:")) → x ≡ header_number_of t → b ≡ part log (value_of log (ascii "H vbatref:"))
      → y ≡ header_number_of b → m ≡ part log (value_of log (ascii "H motorOutput:")) → z ≡ first_of_two m
      → record { min_throttle = x; vbat_reference = y; min_motor = z } ≡ numbers_of log
  unfolding numbers_of
  numbers_made e f g h i j = λ k.
      record {
        min_throttle = text_says log (ascii "H minthrottle:") header_number_of None header_none e f k;
        vbat_reference = text_says log (ascii "H vbatref:") header_number_of None header_none g h k;
        min_motor = text_says log (ascii "H motorOutput:") first_of_two None two_none i j k;
      }

-- ## Intervals

module _ (log : List ℕ) {line : Option Stretch} (found : line ≡ value_of log (ascii "H P interval:")) where
  pub inter_line : {l : Stretch} {t : List ℕ} {r : Ratio} → line ≡ Some l → t ≡ part log line → r ≡ ratio_of t → r ≡ inter_of log
  unfolding inter_of
  inter_line = line_there log _ ratio_of _ found

  pub inter_none : line ≡ None → record { numerator = 1; denominator = 1 } ≡ inter_of log
  unfolding inter_of
  inter_none = line_missing log _ ratio_of _ found

module _ (log : List ℕ) (n d : ℕ) {line : Option Stretch} (found : line ≡ value_of log (ascii "H I interval:")) where
  pub intra_line : {l : Stretch} {r : ℕ} {t : List ℕ} → line ≡ Some l → t ≡ part log line → r ≡ whole_of t → r ≡ intra_of log n d
  unfolding intra_of
  intra_line = line_there log _ whole_of _ found

  intra_none : line ≡ None → cond (eqb n d) 1 0 ≡ intra_of log n d
  unfolding intra_of
  intra_none = line_missing log _ whole_of _ found

  pub intra_one : line ≡ None → n ≡ d → 1 ≡ intra_of log n d
  intra_one e f = rw (eq-eqb n d f) at (intra_none e)

  pub intra_zero : line ≡ None → (n ≡ d → ⊥) → 0 ≡ intra_of log n d
  intra_zero e f = rw (ne_eqb n d f) at (intra_none e)

module _ (log : List ℕ) {v : Ratio} {i : ℕ} where
  pub interval_made : v ≡ inter_of log → i ≡ intra_of log v.numerator v.denominator
      → record { intra = i; numerator = v.numerator; denominator = v.denominator } ≡ interval_of log
  unfolding interval_of
  interval_made e f = λ k.
      record {
        intra = (f ∙ ap (λ (w : Ratio). intra_of log w.numerator w.denominator) e) k;
        numerator = (e k).numerator;
        denominator = (e k).denominator;
      }
