-- A log's definition and its settings come back from their bytes: what a log gives fits its places, and what was put into a buffer is read again.
use Prim.Native.Nat.{ℕ, zero, suc, ◌+◌, ◌-◌, ◌≤◌}
use mathlib.Core.Bool.{Bool, true, false, cond}
use mathlib.Core.List.{List}
use Rattle.std.specs.Prelude.{None, Some}
use mathlib.Core.Path.{◌≡◌, refl, ap, ◌∙◌}
use native.Mathlib.Omega.{arith}
use lib.ListN.{length}
use borrow.Author.Tests.{le-leb}
use Rattle.items.specs.declared.Lists.{Lists}
use Rattle.items.specs.declared.SlowLists.{SlowLists}
use Rattle.items.specs.Items.{at}
use Rattle.items.specs.Text.{ascii, same}
use Rattle.items.proofs.Tables.{length_table}
use Rattle.plan.specs.declared.Numbers.{Numbers}
use Rattle.plan.specs.declared.Settings.{Settings}
use Rattle.plan.specs.Plan.{no_slow, nothing}
use Rattle.plan.proofs.Rooms.{MainRooms}
use Rattle.header.specs.Header.{header_of}
use Rattle.definition.specs.Checks.{Finding}
use Rattle.definition.specs.Defined.{Answer, main_items, no_slow_lists, slow_items, slow_fields, fields_of, defined}
use Rattle.definition.specs.MainLists.{Items, MainItems, rounds, fields_from, motor_from, main_of}
use Rattle.definition.specs.SlowLists.{slow_rounds, slow_of}
use Rattle.definition.proofs.Sound.{defined_refused_has_no_fields, defined_accepted_has_its_fields, defined_counts}
use Rattle.octets.proofs.Round.{Bytes}
use Rattle.settings.specs.Said.{said_of}
use Rattle.settings.specs.Stored.{settings_length, are_settings, numbers_in, settings_in, settings_bytes}
use Rattle.settings.proofs.Kept.{Sized, chosen_sized, said_sized, are_settings_kept, numbers_kept, settings_kept, with_settings_law}
use Rattle.store.specs.Definition.{definition_length, with_definition, definition_at, is_definition}
use Rattle.store.proofs.Definitions.{SlowLists as SlowSized}
use Rattle.store.proofs.KeptDefinition.{DefinitionSized, stored_definition, stored_is_definition}
use Rattle.dulimasca.specs.Define.{settings_of, defined_reply, judged_reply, defined_by, define_of}
use Rattle.dulimasca.specs.Told.{told_length, if_room}

-- ## The parts of a definition

either_below : (t : Bool) (x y z : ℕ) → (x ≤ z) × (y ≤ z) → cond t x y ≤ z
either_below true x y z h = h.0
either_below false x y z h = h.1

motor_below : (names : Items) (i m : ℕ) → motor_from names i m ≤ i + m
unfolding motor_from
motor_below names i zero = omega arith
motor_below names i (suc m) =
    either_below (same (at names (i + 2)) (ascii "motor[0]")) i (motor_from names (suc i) m) (i + suc m) (omega (arith, motor_below names (suc i) m))

fields_long : (first rooms n : ℕ) (code : List ℕ → ℕ) (l : Items) → length (fields_from first rooms n code l) ≡ rooms
unfolding fields_from
fields_long first rooms n code l = length_table rooms _

main_long : (l : MainItems) (n : ℕ) → MainRooms (main_of l n)
unfolding main_of
main_long l n =
    record {
      intra_predictors = fields_long 2 62 n _ l.intra_predictors;
      inter_predictors = fields_long 2 62 n _ l.inter_predictors;
      intra_encodings = fields_long 2 62 n _ l.intra_encodings;
      inter_encodings = fields_long 2 62 n _ l.inter_encodings;
      signs = fields_long 2 62 n _ l.signs;
    }

no_slow_long : SlowSized no_slow
no_slow_long = record { rooms = record { slow_predictors = refl; slow_encodings = refl }; slow_signs = refl }

slow_long : (text : List ℕ) (l : SlowLists) → SlowSized (slow_fields text l)
unfolding slow_of
slow_long text l = by (no_slow_lists l)
  where
    by : (t : Bool) → SlowSized (cond t no_slow (slow_of (slow_items text l) (slow_rounds (slow_items text l))))
    by true = no_slow_long
    by false =
        let n = slow_rounds (slow_items text l) in
        record {
          rooms =
              record {
                slow_predictors = fields_long 0 16 n _ (slow_items text l).predictors;
                slow_encodings = fields_long 0 16 n _ (slow_items text l).encodings;
              };
          slow_signs = fields_long 0 16 n _ (slow_items text l).signs;
        }

-- ## All of it

nothing_sized : DefinitionSized nothing
unfolding nothing
nothing_sized =
    record {
      n = omega arith;
      motor = omega arith;
      slow_n = omega arith;
      main_lists = record { intra_predictors = refl; inter_predictors = refl; intra_encodings = refl; inter_encodings = refl; signs = refl };
      slow_lists = no_slow_long;
      throttle = tt;
      battery = tt;
      least = tt;
      settings = record { intra = omega arith; numerator = omega arith; denominator = omega arith };
    }

module _ (text : List ℕ) (l : Lists) (n : Numbers) (s : Settings) (z : Sized n s) where
  fields_sized : let d = fields_of text l n s in (2 ≤ d.main.n) × (d.main.n ≤ 64) × (d.slow.n ≤ 16) → DefinitionSized d
  unfolding fields_of main_of
  fields_sized h =
      record {
        n = omega (arith, h);
        motor = omega (arith, h, motor_below (main_items text l.main).names 0 (rounds (main_items text l.main) - 2));
        slow_n = omega (arith, h);
        main_lists = main_long _ _;
        slow_lists = slow_long text l.slow;
        throttle = z.throttle;
        battery = z.battery;
        least = z.least;
        settings = record { intra = z.intra; numerator = z.numerator; denominator = z.denominator };
      }

  -- whatever the log is
  pub defined_sized : DefinitionSized (defined text l n s).definition
  defined_sized = by (defined text l n s).finding refl
    where
      by : (f : Finding) → (defined text l n s).finding ≡ f → DefinitionSized (defined text l n s).definition
      by None e =
          let is = defined_accepted_has_its_fields text l n s e in
          rw is (fields_sized (rw is at (defined_counts text l n s e)))
      by (Some p) e = rw (defined_refused_has_no_fields text l n s e) nothing_sized

-- ## In a buffer, where a log is accepted

module _ (log chosen buf told : List ℕ) (bytes : Bytes chosen) (is : are_settings chosen ≡ true) where
  abbrev answer : Answer
  answer = defined log (header_of log).lists (numbers_in chosen) (settings_in chosen)

  module _ (accepted : answer.finding ≡ None) (long : definition_length ≤ length buf) (room : told_length ≤ length told) where
    lent_definition : (define_of log chosen buf told).lent ≡ with_definition answer.definition buf
    unfolding define_of defined_by if_room judged_reply defined_reply
    lent_definition = simp (is, le-leb definition_length (length buf) long, le-leb told_length (length told) room, accepted)

    sized : DefinitionSized answer.definition
    sized = defined_sized log (header_of log).lists (numbers_in chosen) (settings_in chosen) (chosen_sized chosen bytes)

    pub kept_definition : definition_at (define_of log chosen buf told).lent ≡ answer.definition
    kept_definition = ap definition_at lent_definition ∙ stored_definition _ buf sized long

    pub kept_is_definition : is_definition (define_of log chosen buf told).lent ≡ true
    kept_is_definition = ap is_definition lent_definition ∙ stored_is_definition _ buf sized long

-- ## What a log says of itself, handed on as it is

module _ (log buf : List ℕ) (long : length buf ≡ settings_length) where
  lent_settings : (settings_of log buf).lent ≡ settings_bytes (said_of log).numbers (record { interval = (said_of log).interval })
  unfolding settings_of
  lent_settings = simp (le-leb settings_length (length buf) (omega arith)) (with_settings_law _ _ buf long)

  pub kept_numbers : numbers_in (settings_of log buf).lent ≡ (said_of log).numbers
  kept_numbers = ap numbers_in lent_settings ∙ numbers_kept _ _ (said_sized log)

  pub kept_interval : settings_in (settings_of log buf).lent ≡ record { interval = (said_of log).interval }
  kept_interval = ap settings_in lent_settings ∙ settings_kept _ _ (said_sized log)

  pub kept_are_settings : are_settings (settings_of log buf).lent ≡ true
  kept_are_settings = ap are_settings lent_settings ∙ are_settings_kept _ _
