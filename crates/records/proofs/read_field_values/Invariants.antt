-- The loop of `records::read_field_values`: the first i records are gathered.
use Rattle.std.proofs.Common.{◌≡◌, take}
use Rattle.reader.specs.Place.{padded}
use Rattle.records.specs.Records.{encodings_of, predictors_of}
use Rattle.records.proofs.read_field_values.Given as goal

abbrev pub invariant-loop-i : goal.invariant-loop-i
invariant-loop-i l = (l.encodings ≡ padded 62 (encodings_of (take l.i l.fields))) × (l.predictors ≡ padded 62 (predictors_of (take l.i l.fields)))
