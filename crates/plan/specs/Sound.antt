-- What a definition's fields must be (document 01, checks 3, 8 and 9): known predictors and encodings, what predictors need, and an interval of 1/1.
use Rattle.std.specs.Prelude.{ℕ, suc, ◌+◌, Bool, true, cond, ◌&&◌, Option, Some, None, List, [], ◌∷◌, eqb, ltb, leb, take}
use Rattle.std.specs.Option.{is_some, is_none, option_map}
use Rattle.plan.specs.declared.Definition.{Definition}
use Rattle.plan.specs.declared.FrameInterval.{FrameInterval}
use Rattle.plan.specs.declared.Main.{Main}
use Rattle.plan.specs.declared.Numbers.{Numbers}
use Rattle.plan.specs.declared.Slow.{Slow}
use Rattle.plan.specs.Known.{among, predictors, encodings}
use Rattle.plan.specs.Plan.{fields}

-- predictors 4, 9 and 11 need their header number, 5 a `motor[0]` strictly before the field
unfoldable pub met : Numbers → (motor i p : ℕ) → Bool
met numbers motor i p =
    cond (eqb p 4) (is_some numbers.min_throttle)
    (cond (eqb p 9) (is_some numbers.vbat_reference)
    (cond (eqb p 11) (is_some numbers.min_motor)
    (cond (eqb p 5) (ltb motor i) true)))

-- the first field, from field i on, with a predictor that lacks something: by field, intra first; the two lists have one length
unfoldable pub unmet_from : Numbers → (motor i : ℕ) → (intra inter : List ℕ) → Option ℕ
unmet_from numbers motor i [] qs = None
unmet_from numbers motor i (p ∷ ps) [] = None
unmet_from numbers motor i (p ∷ ps) (q ∷ qs) =
    cond (met numbers motor i p && met numbers motor i q) (unmet_from numbers motor (suc i) ps qs) (Some i)

-- fields are numbered from the list's first item
abbrev pub behind_time : Option ℕ → Option ℕ
behind_time = option_map (λ i. i + 2)

unfoldable pub unmet_main : Main → Numbers → Option ℕ
unmet_main m numbers =
    behind_time
    (unmet_from numbers m.motor 0 (take (fields m) m.intra_predictors) (take (fields m) m.inter_predictors))

-- slow frames have no `motor[0]`: it is put at n, behind every field, so that 5 is never met
unfoldable pub unmet_slow : Slow → Numbers → Option ℕ
unmet_slow s numbers = unmet_from numbers s.n 0 (take s.n s.predictors) (take s.n s.predictors)

-- every field's predictor and encoding is one that there is; the two lists have one length
unfoldable pub known : (ps es : List ℕ) → Bool
known [] es = true
known (p ∷ ps) [] = true
known (p ∷ ps) (e ∷ es) = among predictors p && (among encodings e && known ps es)

-- n fields of one kind by their lists: no more than there are rooms, and what 3 and 8 ask of them
abbrev pub sound_fields : (rooms : ℕ) → Numbers → (motor n : ℕ) → (ps es : List ℕ) → Bool
sound_fields rooms numbers motor n ps es = leb n rooms && (known ps es && is_none (unmet_from numbers motor 0 ps ps))

unfoldable pub sound_main : Main → Numbers → Bool
sound_main m numbers =
    leb (fields m) 62
    && (known (take (fields m) m.intra_predictors) (take (fields m) m.intra_encodings)
    && (known (take (fields m) m.inter_predictors) (take (fields m) m.inter_encodings)
    && is_none (unmet_main m numbers)))

unfoldable pub sound_slow : Slow → Numbers → Bool
sound_slow s numbers = sound_fields 16 numbers s.n s.n (take s.n s.predictors) (take s.n s.encodings)

-- a frame interval of 1/1, beside any intra interval but 0, which stands for one that could not be read
unfoldable pub is_interval : FrameInterval → Bool
is_interval v = leb 1 v.intra && (eqb v.numerator 1 && eqb v.denominator 1)

-- a field count over 62 (slow: 16), or a predictor, encoding, need or interval that 3, 8 or 9 refuses, is not sound
unfoldable pub sound : Definition → Bool
sound d = sound_main d.main d.numbers && (sound_slow d.slow d.numbers && is_interval d.settings.interval)
