-- `octets::put_values` meets its contract. The invariant: the values so far are stored. It requires room for all.
use Rattle.std.proofs.Common.{◌≡◌, take}
use Rattle.std.specs.List.{flat_map}
use Rattle.std.proofs.lemmas.List.Edits.{sets}
use Rattle.octets.proofs.put_values.Given as goal

abbrev pub invariant-loop-i : goal.invariant-loop-i
invariant-loop-i g l = l.buf ≡ sets l.initial.buf l.at (flat_map g.T.Number.bytes (take l.i l.values))
