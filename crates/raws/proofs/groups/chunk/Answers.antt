-- `raws::groups::chunk` meets its contract: n fields from field i on are alike. Assumes that field i is there, as its `requires` says.
use mathlib.Core.Path.{◌≡◌, ◌∙◌}
use native.Mathlib.Omega.{arith}
use Rattle.raws.proofs.Runs.{alike_first, alike_end, alike_other, alike_full, alike_on}
use Rattle.raws.proofs.groups.chunk.Goals as goal

pub loop-n-init : goal.loop-n-init
loop-n-init c = search alike_first

pub returns-then-encodings-next : goal.returns-then-encodings-next
returns-then-encodings-next c = search alike_end

pub returns-then-encodings-next-2 : goal.returns-then-encodings-next-2
returns-then-encodings-next-2 c = search alike_other

pub loop-n-preserved : goal.loop-n-preserved
loop-n-preserved c = alike_on c.loop-n.invariant c.max_chunk_size-most.ensures c.if-encodings-next-2.false (omega arith)

pub returns : goal.returns
returns c =
    let all : c.max_chunk_size-most.result ≡ c.loop-n.n = omega (arith, c.loop-n.invariant.few) in
    all ∙ alike_full c.loop-n.invariant c.max_chunk_size-most.ensures (omega arith)
