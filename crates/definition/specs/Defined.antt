-- The definition that a log's lists give, or the refusal (document 01, "Definition lists"): main lists to 8, slow ones next, then 9.
use Rattle.std.specs.Prelude.{ℕ, Bool, cond, not, ◌&&◌, Some, None, List}
use Rattle.items.specs.declared.Lists.{Lists}
use Rattle.items.specs.declared.MainLists.{MainLists}
use Rattle.items.specs.declared.SlowLists.{SlowLists}
use Rattle.items.specs.Items.{items, absent, given, part}
use Rattle.plan.specs.declared.Definition.{Definition}
use Rattle.plan.specs.declared.Main.{Main}
use Rattle.plan.specs.declared.Numbers.{Numbers}
use Rattle.plan.specs.declared.Settings.{Settings}
use Rattle.plan.specs.declared.Slow.{Slow}
use Rattle.plan.specs.Plan.{no_slow, nothing}
use Rattle.plan.specs.Sound.{is_interval}
use Rattle.definition.specs.declared.Defined.{Defined}
use Rattle.definition.specs.Checks.{Finding, found, check, ◌or_else◌}
use Rattle.definition.specs.MainLists.{MainItems, rounds, main_of, judged_main}
use Rattle.definition.specs.SlowLists.{SlowItems, slow_rounds, slow_of, judged_slow}

-- the items of lists that are stretches of a text; where one is absent, check 1 applies before any item is looked at
unfoldable pub main_items : List ℕ → MainLists → MainItems
main_items text l =
    record {
      names = items (part text l.names);
      intra_predictors = items (part text l.intra_predictors);
      inter_predictors = items (part text l.inter_predictors);
      intra_encodings = items (part text l.intra_encodings);
      inter_encodings = items (part text l.inter_encodings);
      signs = items (part text l.signs);
    }

unfoldable pub slow_items : List ℕ → SlowLists → SlowItems
slow_items text l =
    record {
      names = items (part text l.names);
      predictors = items (part text l.predictors);
      encodings = items (part text l.encodings);
      signs = items (part text l.signs);
    }

-- check 1: the lowest list that is not there: absent, or no stretch of the text
unfoldable pub main_absent : List ℕ → MainLists → Finding
main_absent text l =
    check (not (given text l.names)) 1 0
    or_else check (not (given text l.intra_predictors)) 1 1
    or_else check (not (given text l.inter_predictors)) 1 2
    or_else check (not (given text l.intra_encodings)) 1 3
    or_else check (not (given text l.inter_encodings)) 1 4
    or_else check (not (given text l.signs)) 1 5

unfoldable pub slow_absent : List ℕ → SlowLists → Finding
slow_absent text l =
    check (not (given text l.names)) 1 0
    or_else check (not (given text l.predictors)) 1 1
    or_else check (not (given text l.encodings)) 1 3
    or_else check (not (given text l.signs)) 1 5

-- all four absent means no slow frames; one that is no stretch of the text is not absent
unfoldable pub no_slow_lists : SlowLists → Bool
no_slow_lists l = absent l.names && (absent l.predictors && (absent l.encodings && absent l.signs))

unfoldable pub main_finding : List ℕ → MainLists → Numbers → Finding
main_finding text l numbers = main_absent text l or_else judged_main (main_items text l) numbers

unfoldable pub slow_finding : List ℕ → SlowLists → Numbers → Finding
slow_finding text l numbers =
    cond (no_slow_lists l) None (slow_absent text l or_else judged_slow (slow_items text l) numbers)

abbrev pub main_fields : List ℕ → MainLists → Main
main_fields text l = main_of (main_items text l) (rounds (main_items text l))

abbrev pub slow_fields : List ℕ → SlowLists → Slow
slow_fields text l = cond (no_slow_lists l) no_slow (slow_of (slow_items text l) (slow_rounds (slow_items text l)))

unfoldable pub fields_of : List ℕ → Lists → Numbers → Settings → Definition
fields_of text l numbers settings =
    record {
      main = main_fields text l.main;
      slow = slow_fields text l.slow;
      numbers = numbers;
      settings = settings;
    }

-- check 9, over the finished definition: a frame interval other than 1/1
unfoldable pub in_interval : Definition → Finding
in_interval d = check (not (is_interval d.settings.interval)) 9 0

-- checks 1 to 9
unfoldable pub judged : List ℕ → Lists → Numbers → Settings → Finding
judged text l numbers settings =
    main_finding text l.main numbers
    or_else slow_finding text l.slow numbers
    or_else in_interval (fields_of text l numbers settings)

-- refusals 1 to 9 give a definition with no fields
unfoldable pub definition_of : Finding → Definition → Definition
definition_of None d = d
definition_of (Some refused) d = nothing

-- an answer: what is found, in the rules' numbers, and the definition
pub record Answer : Type 0 where
  pub finding : Finding
  pub definition : Definition

abbrev pub told : Defined → Answer
told r = record { finding = found r.verdict; definition = r.definition }

unfoldable pub defined : List ℕ → Lists → Numbers → Settings → Answer
defined text l numbers settings =
    record {
      finding = judged text l numbers settings;
      definition = definition_of (judged text l numbers settings) (fields_of text l numbers settings);
    }
