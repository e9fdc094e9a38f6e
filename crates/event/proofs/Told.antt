-- What the code answers for an event at a place: where nothing more is read, and which reader a type has.
use Prim.Native.Nat.{ℕ}
use mathlib.Core.List.{List}
use mathlib.Core.Path.{◌≡◌, sym, ap, ◌∙◌}
use borrow.Author.Tests.{ne_eqb}
use Rattle.std.specs.Prelude.{Result, Ok, Err}
use Rattle.reader.specs.declared.Cursor.{Cursor}
use Rattle.reader.specs.declared.Fault.{Fault}
use Rattle.reader.specs.declared.Fault.TheVariants.{Corrupt}
use Rattle.reader.specs.Got.{Reader, give, fault, byte}
use Rattle.reader.specs.Place.{rest, read_at}
use Rattle.reader.proofs.Behind.{read_on}
use Rattle.reader.proofs.Reading.{on_nothing}
use Rattle.event.specs.declared.Event.{Event}
use Rattle.event.specs.Events.{of_type, event_read}

-- nothing more is read
pub told_here : (e : Event) (c : Cursor) (d : List ℕ) → Ok (e, c) ≡ read_at c (give e d)
unfolding read_at give
told_here e c d = sym (ap (λ p. Ok (e, p)) (on_nothing c))

-- ## By the type

-- the type k has this reader
pub of_type_law : (f : ℕ → Reader Event) (k : ℕ) → f k ≡ of_type k → (s : List ℕ) (c : Cursor) {t : ℕ} {q : Cursor} {x : Result (Event × Cursor) Fault}
    → Ok (t, q) ≡ read_at c (byte (rest c s)) → t ≡ k → x ≡ read_at q (f t (rest q s)) → x ≡ read_at c (event_read (rest c s))
unfolding event_read
of_type_law f k has s c {q = q} here same y = read_on of_type s c byte here (y ∙ rw same (ap (λ g. read_at q (g (rest q s))) has))

-- every other type is corrupt
pub of_none : (s : List ℕ) (c : Cursor) {t : ℕ} {q : Cursor} → Ok (t, q) ≡ read_at c (byte (rest c s))
    → (t ≡ 0 → ⊥) × (t ≡ 14 → ⊥) × (t ≡ 15 → ⊥) × (t ≡ 30 → ⊥) × (t ≡ 255 → ⊥) → Err Corrupt ≡ read_at c (event_read (rest c s))
unfolding event_read of_type fault read_at
of_none s c {t = t} here n = read_on of_type s c byte here (rw (ne_eqb t 0 n.0, ne_eqb t 14 n.1, ne_eqb t 15 n.2, ne_eqb t 30 n.3, ne_eqb t 255 n.4))
