-- A text, compared byte by byte: what is left of it, read at the place that the code has come to.
use Prim.Native.Nat.{ℕ, ◌+◌, ◌<◌, ◌≤◌}
use mathlib.Core.List.{List, []}
use mathlib.Core.Path.{◌≡◌, refl, sym, ap, ◌∙◌}
use native.Mathlib.Numerals.{add-one}
use lib.ListN.{length, drop, get_or, drop_of_length-le}
use lib.Seq.{drop-cons}
use borrow.Author.Tests.{eq-eqb, ne_eqb}
use Rattle.std.specs.Prelude.{Ok, Err}
use Rattle.reader.specs.declared.Cursor.{Cursor}
use Rattle.reader.specs.declared.Fault.{Fault}
use Rattle.reader.specs.declared.Fault.TheVariants.{Corrupt}
use Rattle.reader.specs.Got.{Reader, give, fault, byte}
use Rattle.reader.specs.Place.{rest, read_at}
use Rattle.reader.proofs.Behind.{read_on, read_stop}
use Rattle.event.specs.declared.Event.{Event}
use Rattle.event.specs.Events.{exactly, spelled}
use Rattle.event.proofs.Told.{told_here}

-- ## One byte of it

module _ (next : Reader Event) (s : List ℕ) (c : Cursor) (t : ℕ) where
  met : {b : ℕ} {q : Cursor} → Ok (b, q) ≡ read_at c (byte (rest c s)) → b ≡ t → read_at q (next (rest q s)) ≡ read_at c (exactly t next (rest c s))
  unfolding exactly
  met {b} e same = read_on _ s c byte e (rw (eq-eqb b t same))

  other : {b : ℕ} {q : Cursor} → Ok (b, q) ≡ read_at c (byte (rest c s)) → (b ≡ t → ⊥) → Err Corrupt ≡ read_at c (exactly t next (rest c s))
  unfolding exactly fault read_at
  other {b} e differs = read_on _ s c byte e (rw (ne_eqb b t differs))

  ended : {d : Fault} → Err d ≡ read_at c (byte (rest c s)) → Err d ≡ read_at c (exactly t next (rest c s))
  unfolding exactly
  ended e = read_stop _ s c byte e

-- ## The text from its i-th byte on

-- where i bytes are met and the code has come to c: what is left, read there, is the whole, read from the start
pub record Come (text s : List ℕ) (from : Cursor) (event : Event) (i : ℕ) (c : Cursor) : Type 0 where
  pub is : read_at c (spelled (drop i text) (give event) (rest c s)) ≡ read_at from (spelled text (give event) (rest from s))

spelled_at : (text : List ℕ) (next : Reader Event) (i : ℕ) → i < length text
    → spelled (drop i text) next ≡ exactly (get_or text i 0) (spelled (drop (i + 1) text) next)
unfolding spelled
spelled_at text next i h = rw (add-one i, drop-cons text i 0 h)

module _ (text s : List ℕ) (from : Cursor) (event : Event) where
  pub come_here : Come text s from event 0 from
  come_here = record { is = refl }

  module _ (i : ℕ) (c : Cursor) (come : Come text s from event i c) (lt : i < length text) where
    abbrev next : Reader Event
    next = spelled (drop (i + 1) text) (give event)

    -- the byte at i before what is left
    whole : read_at c (exactly (get_or text i 0) next (rest c s)) ≡ read_at from (spelled text (give event) (rest from s))
    whole = ap (λ f. read_at c (f (rest c s))) (sym (spelled_at text (give event) i lt)) ∙ come.is

    pub come_on : {b : ℕ} {q : Cursor} → Ok (b, q) ≡ read_at c (byte (rest c s)) → b ≡ get_or text i 0 → Come text s from event (i + 1) q
    come_on e same = record { is = met next s c (get_or text i 0) e same ∙ whole }

    pub come_other : {b : ℕ} {q : Cursor} → Ok (b, q) ≡ read_at c (byte (rest c s)) → (b ≡ get_or text i 0 → ⊥)
        → Err Corrupt ≡ read_at from (spelled text (give event) (rest from s))
    come_other e differs = other next s c (get_or text i 0) e differs ∙ whole

    pub come_stop : {d : Fault} → Err d ≡ read_at c (byte (rest c s)) → Err d ≡ read_at from (spelled text (give event) (rest from s))
    come_stop e = ended next s c (get_or text i 0) e ∙ whole

  pub come_end : (i : ℕ) (c : Cursor) → Come text s from event i c → length text ≤ i → Ok (event, c) ≡ read_at from (spelled text (give event) (rest from s))
  unfolding spelled
  come_end i c come le =
      let over : drop i text ≡ [] = drop_of_length-le text le in
      told_here event c (rest c s) ∙ ap (λ l. read_at c (spelled l (give event) (rest c s))) (sym over) ∙ come.is
