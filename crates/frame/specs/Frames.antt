-- Main and slow frames: their values from the raw numbers and the past, and whole frames from the bytes behind a kind byte (document 01, "Predictors").
use Rattle.std.specs.Prelude.{ℕ, List, [], length, Option, None, Some, option_map}
use Rattle.plan.specs.Plan.{Shape, Rules}
use Rattle.predictor.specs.declared.Surroundings.{Surroundings}
use Rattle.raws.specs.declared.Raw.{Raw}
use Rattle.raws.specs.Raws.{intra_raw, inter_raw, slow_raw}
use Rattle.reader.specs.Got.{Reader, over}
use Rattle.reader.specs.Place.{padded}
use Rattle.frame.specs.declared.MainFrame.{MainFrame}
use Rattle.frame.specs.declared.Mark.TheVariants.{Intra, Inter}
use Rattle.frame.specs.Past.{Body, Past, main_frame}
use Rattle.frame.specs.Time.{skipped_after, iteration_after, time_after}
use Rattle.frame.specs.Values.{Fields, values_of}

abbrev pub around : Rules → (skipped : ℕ) → Surroundings
around r n = record { numbers = r.numbers; skipped = n }

-- skipped is 0 outside inter
unfoldable pub intra_fields : Shape → Rules → Fields
intra_fields h r = record { predictors = r.intra; encodings = h.intra; motor = r.motor; around = around r 0 }

unfoldable pub inter_fields : Shape → Rules → Past → Fields
inter_fields h r p = record { predictors = r.inter; encodings = h.inter; motor = r.motor; around = around r (skipped_after r p) }

abbrev pub or_none : Option (List ℕ) → List ℕ
or_none None = []
or_none (Some es) = es

-- slow frames have no `motor[0]`: it is put behind every field
unfoldable pub slow_fields : Shape → Rules → Fields
slow_fields h r = record { predictors = r.slow; encodings = or_none h.slow; motor = length r.slow; around = around r 0 }

abbrev pub values_in : Option Body → Option (List ℕ)
values_in b = option_map (λ x. x.values) b

-- Intra: only last is given, never older.
unfoldable pub intra_frame : Shape → Rules → Past → Raw → MainFrame
intra_frame h r p x =
    main_frame Intra x.iteration x.time (values_of (intra_fields h r) (values_in p.last) None x.fields)

-- Inter: fields get last and older, older also behind an intra frame.
unfoldable pub inter_frame : Shape → Rules → Past → Raw → MainFrame
inter_frame h r p x =
    main_frame Inter (iteration_after r p) (time_after p x.time)
    (values_of (inter_fields h r p) (values_in p.last) (values_in p.older) x.fields)

-- Slow: fields with no history.
unfoldable pub slow_values : Shape → Rules → Raw → List ℕ
slow_values h r x = padded 62 (values_of (slow_fields h r) None None x.fields)

-- Whole frames: the raw numbers are read first, and the values made from them.
unfoldable pub intra_read : Shape → Rules → Past → Reader MainFrame
intra_read h r p c = over (intra_frame h r p) (intra_raw h.intra c)

unfoldable pub inter_read : Shape → Rules → Past → Reader MainFrame
inter_read h r p c = over (inter_frame h r p) (inter_raw h.inter c)

unfoldable pub slow_read : Shape → Rules → Reader (List ℕ)
slow_read h r c = over (slow_values h r) (slow_raw h.slow c)
