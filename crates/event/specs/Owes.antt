-- What the public function of this crate owes for a section and the place behind a letter E.
use Rattle.std.specs.Prelude.{ℕ, List, ◌≡◌, Result}
use Rattle.reader.specs.declared.Cursor.{Cursor}
use Rattle.reader.specs.declared.Fault.{Fault}
use Rattle.reader.specs.Place.{rest, read_at}
use Rattle.event.specs.declared.Event.{Event}
use Rattle.event.specs.Events.{event_read}

abbrev pub ReadOwes : List ℕ → Cursor → Result (Event × Cursor) Fault → Type 0
ReadOwes s from r = r ≡ read_at from (event_read (rest from s))
