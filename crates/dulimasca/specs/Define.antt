-- A log's settings and its definition for C, each from its `H` lines into a lent buffer; a walk's first state; the names of fields.
use Rattle.std.specs.Prelude.{ℕ, cond, Option, Some, None, Err, List, [], ◌∷◌, leb, length}
use Rattle.plan.specs.declared.Definition.{Definition}
use Rattle.plan.specs.declared.Sort.{Sort}
use Rattle.items.specs.declared.Stretch.{Stretch}
use Rattle.header.specs.declared.Header.{Header}
use Rattle.header.specs.Header.{header_of}
use Rattle.definition.specs.Checks.{Finding}
use Rattle.definition.specs.Defined.{Answer, defined}
use Rattle.names.specs.Names.{name_at}
use Rattle.section.specs.declared.Refusal.TheVariants.{Unsound, TooShort}
use Rattle.section.specs.Refusals.{Check}
use Rattle.section.specs.Walk.{start}
use Rattle.rows.specs.Rows.{row_length}
use Rattle.settings.specs.Said.{said_of}
use Rattle.settings.specs.Stored.{settings_length, are_settings, numbers_in, settings_in, with_settings}
use Rattle.store.specs.Definition.{definition_length, with_definition, is_definition, definition_at}
use Rattle.store.specs.State.{state_length, with_state}
use Rattle.dulimasca.specs.Told.{Reply, packed, roomy, told_length, reply, telling, refuse, refuse10, if_room, sort_for, stretch_start, stretch_end}

-- ## What a log says of itself

-- the header numbers and the interval of its own header lines, as bytes that `define_of` takes
unfoldable pub settings_of : (log buf : List ℕ) → Reply
settings_of log buf =
    cond (leb settings_length (length buf))
    (reply 0 (with_settings (said_of log).numbers (record { interval = (said_of log).interval }) buf) [])
    (refuse 11 settings_length buf [])

-- ## The definition

-- Where the section begins, the items of the main and of the slow lists, where the two lists of names begin and end, and the length of a row.
unfoldable pub about_log : Header → Definition → List ℕ
about_log h d =
    h.section
    ∷ d.main.n ∷ d.slow.n
    ∷ stretch_start h.lists.main.names ∷ stretch_end h.lists.main.names
    ∷ stretch_start h.lists.slow.names ∷ stretch_end h.lists.slow.names
    ∷ row_length d ∷ []

-- a definition goes into the buffer; refusals 1 to 9 write nothing
unfoldable pub defined_reply : Header → Definition → Finding → (buf told : List ℕ) → Reply
defined_reply h d None buf told = reply 0 (with_definition d buf) (telling (about_log h d) told)
defined_reply h d (Some p) buf told = reply (packed p.number p.place p.round) buf told

unfoldable pub judged_reply : Header → Answer → (buf told : List ℕ) → Reply
judged_reply h a buf told = defined_reply h a.definition a.finding buf told

-- what the log's lists give, with the header numbers and the settings that were chosen
unfoldable pub defined_by : (log chosen buf told : List ℕ) → Reply
defined_by log chosen buf told =
    judged_reply (header_of log) (defined log (header_of log).lists (numbers_in chosen) (settings_in chosen)) buf told

-- what is lent: settings, and room for a definition and for the numbers
unfoldable pub lent_for : (chosen buf told : List ℕ) → Check
lent_for chosen buf told =
    cond (are_settings chosen) (cond (leb definition_length (length buf)) (roomy told told_length) (Err (TooShort definition_length))) (Err Unsound)

-- bytes that are no settings, and buffers that are too short, are refused before the log is looked at
unfoldable pub define_of : (log chosen buf told : List ℕ) → Reply
define_of log chosen buf told =
    cond (are_settings chosen)
    (cond (leb definition_length (length buf)) (if_room (defined_by log chosen buf told) buf told) (refuse 11 definition_length buf told))
    (refuse10 buf told)

-- ## A walk's first state

unfoldable pub start_of : (state told : List ℕ) → Reply
start_of st told =
    cond (leb state_length (length st))
    (if_room (reply 0 (with_state start st) (telling [] told)) st told)
    (refuse 11 state_length st told)

-- ## A field's name

-- where it begins and ends in the list of its kind; status 4 where the definition has no such field, or the list no such item
unfoldable pub name_reply : Option Stretch → (told : List ℕ) → Reply
name_reply (Some name) told = reply 0 [] (telling (name.start ∷ name.end ∷ []) told)
name_reply None told = reply 4 [] (telling [] told)

unfoldable pub name_by : Option Sort → Definition → (main slow : List ℕ) → (k : ℕ) → (told : List ℕ) → Reply
name_by None d main slow k told = refuse10 [] told
name_by (Some of) d main slow k told = if_room (name_reply (name_at d of main slow k) told) [] told

unfoldable pub name_of : (def : List ℕ) → (kind : ℕ) → (main slow : List ℕ) → (k : ℕ) → (told : List ℕ) → Reply
name_of def which main slow k told =
    cond (is_definition def) (name_by (sort_for which) (definition_at def) main slow k told) (refuse10 [] told)
