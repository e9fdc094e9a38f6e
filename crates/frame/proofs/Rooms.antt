-- How many numbers a raw frame, a main frame and the two frames of a context hold, out of what owning them tells.
use Rattle.std.proofs.Common.{◌≡◌, ℕ, List, length, w32}
use mir.Val.{Val}
use denote.Laws.{Is}
use denote.Struct.Declared as declared
use denote.Struct.Field.{uint_field, array_field}
use Rattle.raws.specs.declared.Raw.{Raw}
use Rattle.raws.specs.contracts.Raw as raw
use Rattle.frame.specs.declared.fields.Context.{Context}
use Rattle.frame.specs.declared.MainFrame.{MainFrame}
use Rattle.frame.specs.contracts.MainFrame as frame
use Rattle.frame.specs.contracts.fields.Context as context

rooms : (l : List ℕ) {vs : List Val} → Is (array_field (uint_field w32) 62).row l vs → length l ≡ 62
rooms l g = g.1.0.1

-- `c.well_formed` has such a part for each parameter
pub raw_rooms : (x : Raw) {vs : List Val} → Is (declared.row raw.the_type) x vs → length x.fields ≡ 62
raw_rooms x g = rooms x.fields g.1.1.1.1.0

pub frame_rooms : (f : MainFrame) {vs : List Val} → Is (declared.row frame.the_type) f vs → length f.values ≡ 62
frame_rooms f g = rooms f.values g.1.1.1.1.1.0

pub context_rooms : (x : Context) {vs : List Val} → Is (declared.row context.the_type) x vs → (length x.last.values ≡ 62) × (length x.older.values ≡ 62)
context_rooms x g = (frame_rooms x.last g.1.1.1.1.0, frame_rooms x.older g.1.1.1.1.1.0)
