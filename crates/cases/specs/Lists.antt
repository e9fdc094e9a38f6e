-- Logs whose lists the rules accept or refuse (document 01, "Definition lists" and "Sessions to reproduce"), from their header lines on.
use Rattle.std.specs.Prelude.{ℕ, zero, suc, true, List, [], ◌∷◌, ◌≡◌, Some, None}
use Prim.Native.String.{String, ◌++◌}
use Rattle.header.specs.Header.{header_of}
use Rattle.items.specs.Text.{ascii}
use Rattle.plan.specs.declared.Numbers.{Numbers}
use Rattle.plan.specs.declared.Settings.{Settings}
use Rattle.plan.specs.Plan.{Core, core, no_numbers, plain}
use Rattle.definition.specs.Checks.{Finding, refusal}
use Rattle.definition.specs.Defined.{Answer, defined}

-- a log's main lists, in the rules' order: names, predictors, encodings, signs
abbrev main : (names intra_predictors inter_predictors intra_encodings inter_encodings signs : String) → String
main names ip pp ie pe signs =
    "H Field I name:" ++ names ++ "\nH Field I predictor:" ++ ip ++ "\nH Field P predictor:" ++ pp
    ++ "\nH Field I encoding:" ++ ie ++ "\nH Field P encoding:" ++ pe ++ "\nH Field I signed:" ++ signs ++ "\n"

-- a log, the header numbers and the settings, and what is found
pub record ListCase : Type 0 where
  pub log : String
  pub numbers : Numbers
  pub settings : Settings
  pub finding : Finding

abbrev pub defined_by : ListCase → Answer
defined_by c = defined (ascii c.log) (header_of (ascii c.log)).lists c.numbers c.settings

-- without header numbers, and with plain settings
abbrev judged : Finding → String → ListCase
judged finding log = record { log = log; numbers = no_numbers; settings = plain; finding = finding }

abbrev passes : String → ListCase
passes = judged None

abbrev refused : (number place : ℕ) → String → ListCase
refused number place = judged (Some (refusal number place 0))

-- with an interval
abbrev chosen : Finding → (intra numerator denominator : ℕ) → String → ListCase
chosen finding i n d log =
    record { log = log; numbers = no_numbers; settings = record { interval = record { intra = i; numerator = n; denominator = d } }; finding = finding }

-- refusal 3 has a list and a round
abbrev unknown : (list round : ℕ) → String → ListCase
unknown list round = judged (Some (refusal 3 list round))

-- the lists of section A; four items with other predictors; slow lists behind those of section A
abbrev pub lists_a : String
lists_a = main "loopIteration,time,motor[0]" "0,0,8" "6,2,1" "1,1,0" "9,0,0" "0,0,0"

abbrev with_predictors : (intra inter : String) → String
with_predictors intra inter = main "loopIteration,time,motor[0],x" intra inter "1,1,0,0" "9,0,0,0" "0,0,0,0"

-- n times the same item behind
abbrev more : ℕ → String → String
more zero item = ""
more (suc n) item = "," ++ item ++ more n item

-- loopIteration, time and n fields
abbrev with_fields : ℕ → String
with_fields n =
    main ("loopIteration,time" ++ more n "a") ("0,0" ++ more n "0") ("6,2" ++ more n "0") ("1,1" ++ more n "0") ("9,0" ++ more n "0") ("0,0" ++ more n "0")

abbrev pub with_slow : (predictors encodings signs : String) → String
with_slow p e signs = lists_a ++ "H Field S name:a,b\nH Field S predictor:" ++ p ++ "\nH Field S encoding:" ++ e ++ "\nH Field S signed:" ++ signs ++ "\n"

unfoldable pub list_cases : List ListCase
list_cases =
    passes lists_a
    -- names 4, others 3; names 5; signs 4; the last list 4
    ∷ passes (main "loopIteration,time,motor[0],x" "0,0,8" "6,2,1" "1,1,0" "9,0,0" "0,0,0")
    ∷ refused 6 3 (main "loopIteration,time,motor[0],x,y" "0,0,8" "6,2,1" "1,1,0" "9,0,0" "0,0,0")
    ∷ refused 6 3 (main "loopIteration,time,motor[0]" "0,0,8" "6,2,1" "1,1,0" "9,0,0" "0,0,0,0")
    ∷ refused 7 3 (main "loopIteration,time,motor[0]" "0,0,8" "6,2,1" "1,1,0" "9,0,0,0" "0,0,0")
    -- all lists before the last have an item more, which the zips swallow unread
    ∷ passes (main "loopIteration,time,motor[0],x" "0,0,8,?" "6,2,1,?" "1,1,0,?" "9,0,0" "0,0,0,?")
    -- round 0 passes 3, then 4, before round 1 is looked at; round 1 passes 3, then 5
    ∷ refused 4 0 (main "loop,tim" "0,0" "6,02" "1,1" "9,0" "0,0")
    ∷ unknown 2 1 (main "loopIteration,tim" "0,0" "6,02" "1,1" "9,0" "0,0")
    ∷ refused 5 1 (main "loopIteration,tim" "0,0" "6,2" "1,1" "9,0" "0,0")
    ∷ refused 5 1 (main "loopIteration" "0,0" "6,2" "1,1" "9,0" "0,0")
    ∷ unknown 3 2 (main "loopIteration,time,a" "0,0,0" "6,2,0" "1,1,2" "9,0,0" "0,0,0")
    -- predictor 5 at motor[0] itself, and behind it; 4 without its number
    ∷ refused 8 2 (with_predictors "0,0,5,0" "6,2,0,0")
    ∷ passes (with_predictors "0,0,0,5" "6,2,0,5")
    ∷ refused 8 3 (with_predictors "0,0,0,0" "6,2,0,4")
    -- the same with its number; another interval
    ∷ (record {
      log = with_predictors "0,0,0,0" "6,2,0,4";
      numbers = record { min_throttle = Some 1150; vbat_reference = no_numbers.vbat_reference; min_motor = no_numbers.min_motor };
      settings = plain;
      finding = None;
    })
    ∷ chosen (Some (refusal 9 0 0)) 1 1 2 lists_a
    -- 64 rounds pass, 65 give 2
    ∷ passes (with_fields 62)
    ∷ refused 2 65 (with_fields 63)
    -- slow lists: nothing is swallowed, 5 is always refused, one absent list is refusal 1
    ∷ passes (with_slow "0,0" "1,1" "0,0")
    ∷ refused 6 2 (with_slow "0,0" "1,1" "0,0,0")
    ∷ refused 8 1 (with_slow "0,5" "1,1" "0,0")
    ∷ refused 1 3 (lists_a ++ "H Field S name:a\nH Field S predictor:0\nH Field S signed:0\n")
    -- no lists at all; a repeated list by its last line; names of P frames are no list
    ∷ refused 1 0 ""
    ∷ refused 4 0 (lists_a ++ "H Field I name:\n")
    ∷ passes (lists_a ++ "H Field P name:a,b\n")
    -- an intra interval of 32, and of 0; 2/2, and 0/0; 9 comes behind 8
    ∷ chosen None 32 1 1 lists_a
    ∷ chosen (Some (refusal 9 0 0)) 0 1 1 lists_a
    ∷ chosen (Some (refusal 9 0 0)) 1 2 2 lists_a
    ∷ chosen (Some (refusal 9 0 0)) 1 0 0 lists_a
    ∷ chosen (Some (refusal 8 3 0)) 1 1 2 (with_predictors "0,0,0,0" "6,2,0,4")
    ∷ []

abbrev pub Judged : ListCase → Type 0
Judged c = (defined_by c).finding ≡ c.finding

-- what the lists of section A give: one field behind loopIteration and time, its predictors 8 and 1, its encodings 0
unfoldable pub core_a : Core
core_a =
    record {
      items = 3;
      slow_items = 0;
      shape = record { intra = 0 ∷ []; inter = 0 ∷ []; slow = None };
      rules = record { intra = 8 ∷ []; inter = 1 ∷ []; slow = []; motor = 0; numbers = no_numbers; interval = plain.interval };
      unsigned = true ∷ [];
      slow_unsigned = [];
    }

abbrev pub DefinesA : Type 0
DefinesA = core (defined_by (passes lists_a)).definition ≡ core_a

abbrev pub AllJudged : List ListCase → Type 0
AllJudged [] = Unit
AllJudged (c ∷ cs) = Judged c × AllJudged cs
