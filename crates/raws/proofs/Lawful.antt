-- Progress and stability of the numbers of fields and of frames: they take no more bytes than there are, and what was got, or is corrupt, stays so
-- when bytes are appended.
use Prim.Native.Nat.{ℕ}
use mathlib.Core.List.{List, [], ◌∷◌, map}
use native.Mathlib.Omega.{arith}
use lib.Dec.{eqb}
use lib.IntN.{ℤ}
use Rattle.std.specs.Prelude.{Option, Some, None}
use Rattle.bits.specs.Pattern.{pattern}
use Rattle.reader.specs.Got.{Reader}
use Rattle.reader.proofs.Lawful.{Lawful, lawful_give, lawful_fault, lawful_fewer, lawful_cond, lawful_then, lawful_map}
use Rattle.decode.proofs.Lawful.{encoding0_lawful, encoding1_lawful, encoding3_lawful, encoding6_lawful, encoding9_lawful}
use Rattle.tagged.proofs.Lawful.{encoding7_lawful, encoding8_lawful}
use Rattle.raws.specs.Groups.{Run, runs, alone, patterned, patterns, group, of_runs, numbers}
use Rattle.raws.specs.Raws.{raw, timed, intra_raw, inter_raw, slow_raw}
use Rattle.raws.proofs.Over.{lawful_over}

-- another value takes the same bytes
alone_lawful : {l : ℕ} {r : Reader ℕ} → Lawful l r → Lawful l (alone r)
unfolding alone
alone_lawful law = lawful_over (λ v. v ∷ []) law

patterned_lawful : {l : ℕ} {r : Reader ℤ} → Lawful l r → Lawful l (patterned r)
unfolding patterned
patterned_lawful law = lawful_over pattern law

patterns_lawful : {l : ℕ} {r : Reader (List ℤ)} → Lawful l r → Lawful l (patterns r)
unfolding patterns
patterns_lawful law = lawful_over (map pattern) law

-- a group: encoding 9 takes no byte, every other one at least one
group_lawful : (e n : ℕ) → Lawful 0 (group e n)
unfolding group
group_lawful e n =
    lawful_cond (eqb e 0) (lawful_fewer 0 (omega arith) (alone_lawful (patterned_lawful encoding0_lawful)))
    (lawful_cond (eqb e 1) (lawful_fewer 0 (omega arith) (alone_lawful encoding1_lawful))
    (lawful_cond (eqb e 3) (lawful_fewer 0 (omega arith) (alone_lawful (patterned_lawful encoding3_lawful)))
    (lawful_cond (eqb e 6) (lawful_fewer 0 (omega arith) (patterns_lawful (encoding6_lawful n)))
    (lawful_cond (eqb e 7) (lawful_fewer 0 (omega arith) (patterns_lawful encoding7_lawful))
    (lawful_cond (eqb e 8) (lawful_fewer 0 (omega arith) (patterns_lawful encoding8_lawful))
    (lawful_cond (eqb e 9) (alone_lawful encoding9_lawful) (lawful_fault 0)))))))

runs_lawful : (rs : List Run) → Lawful 0 (of_runs rs)
unfolding of_runs
runs_lawful [] = lawful_give []
runs_lawful (r ∷ rs) = lawful_then (group_lawful r.encoding r.fields) (λ vs. lawful_map _ (runs_lawful rs))

-- The fields: none may take a byte.
pub numbers_lawful : (es : List ℕ) → Lawful 0 (numbers es)
unfolding numbers
numbers_lawful es = runs_lawful (runs es)

timed_lawful : (es : List ℕ) (i : ℕ) → Lawful 1 (timed es i)
unfolding timed
timed_lawful es i = lawful_then encoding1_lawful (λ t. lawful_map (raw i t) (numbers_lawful es))

-- An intra frame takes two bytes at least behind its kind byte, an inter frame one, a slow frame perhaps none.
pub intra_lawful : (es : List ℕ) → Lawful 2 (intra_raw es)
unfolding intra_raw
intra_lawful es = lawful_then encoding1_lawful (timed_lawful es)

pub inter_lawful : (es : List ℕ) → Lawful 1 (inter_raw es)
unfolding inter_raw
inter_lawful es = lawful_then (patterned_lawful encoding0_lawful) (λ t. lawful_map (raw 0 t) (numbers_lawful es))

pub slow_lawful : (es : Option (List ℕ)) → Lawful 0 (slow_raw es)
unfolding slow_raw
slow_lawful None = lawful_fault 0
slow_lawful (Some es) = lawful_map (raw 0 0) (numbers_lawful es)
