-- `terminal::large_buffer`: each of as many equal bytes is that byte.
use Rattle.std.proofs.Common.{ℕ, arith}
use lib.ListN.{length-replicate}
use Rattle.std.proofs.lemmas.List.{get_or-replicate}
use Rattle.terminal.proofs.large_buffer.Goals as goal

pub returns-clause-zeros : goal.returns-clause-zeros
returns-clause-zeros g c = λ i h. get_or-replicate g.row.N i 0 0 (omega (arith, h, length-replicate {A = ℕ} g.row.N 0))
