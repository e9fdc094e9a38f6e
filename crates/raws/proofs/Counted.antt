-- How many numbers are read, and that each is a 32-bit pattern: of bytes, as many numbers as there are fields.
use Prim.Native.Nat.{ℕ, zero, suc, ◌+◌, ◌^◌, ◌<◌, ◌≤◌}
use mathlib.Core.Bool.{true, ◌&&◌}
use mathlib.Core.List.{List, [], ◌∷◌, ◌++◌, map}
use mathlib.Core.Path.{◌≡◌, refl, ap}
use native.Mathlib.Omega.{arith}
use lib.Dec.{eqb, ltb}
use lib.IntN.{ℤ}
use lib.ListN.{length, take, set, replicate, length-append, length-map}
use lib.Seq.{sets, length-sets, length-take-le}
use borrow.Author.Tests.{eqb-true, ltb-true}
use Rattle.std.specs.Prelude.{Option, Some, None}
use Rattle.bits.specs.Pattern.{pattern}
use Rattle.bits.proofs.Laws.{by_test, pattern_below}
use Rattle.reader.specs.Got.{Reader}
use Rattle.reader.proofs.Every.{Each, Counts, Reads, then_reads, give_reads, fault_reads, any_reads, take_each}
use Rattle.decode.specs.TaggedVariable.{encoding6}
use Rattle.decode.specs.Variable.{encoding0, encoding3, encoding9}
use Rattle.decode.proofs.Counted.{encoding6_count}
use Rattle.decode.proofs.Meaning.{encoding1_below}
use Rattle.tagged.specs.Tagged16.{encoding8}
use Rattle.tagged.specs.Tagged32.{encoding7}
use Rattle.tagged.proofs.Counted.{encoding7_count, encoding8_count}
use Rattle.raws.specs.declared.Raw.{Raw}
use Rattle.raws.specs.Groups.{size, Run, runs_behind, runs, alone, patterned, patterns, group, of_runs, numbers}
use Rattle.raws.specs.Raws.{raw, timed, intra_raw, inter_raw, slow_raw}
use Rattle.raws.proofs.Over.{over_reads}
use Rattle.raws.proofs.Runs.{size_some, both}

-- ## A group has a number for each of its fields, and no more than eight

-- n numbers at least, and room for all in eight
abbrev pub Enough : ℕ → List ℕ → Type 0
Enough n vs = (n ≤ length vs) × (length vs ≤ 8)

alone_enough : (n : ℕ) (r : Reader ℕ) → n ≤ 1 → Reads (Enough n) (alone r)
unfolding alone
alone_enough n r h = over_reads _ (any_reads r) (λ v _. omega arith)

patterns_enough : (n k : ℕ) {r : Reader (List ℤ)} → Reads (Counts k) r → (n ≤ k) × (k ≤ 8) → Reads (Enough n) (patterns r)
unfolding patterns
patterns_enough n k p h = over_reads _ p (λ zs e. omega (arith, length-map zs pattern))

-- the size of an encoding, where it is known
sized : (e k : ℕ) → eqb e k ≡ true → size e ≡ size k
sized e k t = ap size (eqb-true e k t)

pub group_enough : (e n : ℕ) → n ≤ size e → Reads (Enough n) (group e n)
unfolding group size
group_enough e n h =
    by_test (Reads (Enough n)) (eqb e 0) (λ t. alone_enough n _ (omega (arith, sized e 0 t)))
    (λ _. by_test (Reads (Enough n)) (eqb e 1) (λ t. alone_enough n _ (omega (arith, sized e 1 t)))
    (λ _. by_test (Reads (Enough n)) (eqb e 3) (λ t. alone_enough n _ (omega (arith, sized e 3 t)))
    (λ _. by_test (Reads (Enough n)) (eqb e 6) (λ t. patterns_enough n n (encoding6_count n) (omega (arith, sized e 6 t)))
    (λ _. by_test (Reads (Enough n)) (eqb e 7) (λ t. patterns_enough n 3 encoding7_count (omega (arith, sized e 7 t)))
    (λ _. by_test (Reads (Enough n)) (eqb e 8) (λ t. patterns_enough n 4 encoding8_count (omega (arith, sized e 8 t)))
    (λ _. by_test (Reads (Enough n)) (eqb e 9) (λ t. alone_enough n _ (omega (arith, sized e 9 t))) (λ _. fault_reads)))))))

-- ## The runs of fields have a field for each encoding

-- a run is no longer than its size
abbrev Fit : Run → Type 0
Fit r = r.fields ≤ size r.encoding

-- the fields of all runs
abbrev total : List Run → ℕ
total [] = 0
total (r ∷ rs) = r.fields + total rs

-- these runs part k fields
record Parts (k : ℕ) (rs : List Run) : Type 0 where
  fit : Each Fit rs
  all : total rs ≡ k

parts_behind : (e n k : ℕ) (fs : List ℕ) → n ≤ size e → n + length fs ≡ k → Parts k (runs_behind e n fs)
unfolding runs_behind
parts_behind e n k [] h c = record { fit = (h, tt); all = omega arith }
parts_behind e n k (f ∷ fs) h c =
    by_test (Parts k) (eqb f e && ltb n (size e))
    (λ t. parts_behind e (suc n) k fs (ltb-true n (size e) (both (eqb f e) (ltb n (size e)) t)) (omega arith))
    (λ t. let p = parts_behind f 1 (1 + length fs) fs (size_some f) refl in record { fit = (h, p.fit); all = omega (arith, p.all) })

parts : (es : List ℕ) → Parts (length es) (runs es)
unfolding runs
parts [] = record { fit = tt; all = refl }
parts (e ∷ es) = parts_behind e 1 (suc (length es)) es (size_some e) (omega arith)

runs_count : (k : ℕ) (rs : List Run) → Parts k rs → Reads (Counts k) (of_runs rs)
unfolding of_runs
runs_count k [] p = give_reads _ p.all
runs_count k (r ∷ rs) p =
    then_reads (group_enough r.encoding r.fields p.fit.0) λ vs h.
    then_reads (runs_count (total rs) rs (record { fit = p.fit.1; all = refl })) λ ws c.
    give_reads _ (omega (arith, p.all, length-append (take r.fields vs) ws, length-take-le r.fields vs h.0))

-- Each field has a number, and there are no others.
pub numbers_count : (es : List ℕ) → Reads (Counts (length es)) (numbers es)
unfolding numbers
numbers_count es = runs_count (length es) (runs es) (parts es)

-- ## Each number is a 32-bit pattern

-- a number of 32 bits
abbrev pub Pattern : ℕ → Type 0
Pattern v = v < 2 ^ 32

alone_below : {r : Reader ℕ} → Reads Pattern r → Reads (Each Pattern) (alone r)
unfolding alone
alone_below p = over_reads _ p (λ v h. (h, tt))

patterned_below : (r : Reader ℤ) → Reads Pattern (patterned r)
unfolding patterned
patterned_below r = over_reads _ (any_reads r) (λ z _. pattern_below z)

each_below : (zs : List ℤ) → Each Pattern (map pattern zs)
each_below [] = tt
each_below (z ∷ zs) = (pattern_below z, each_below zs)

patterns_below : (r : Reader (List ℤ)) → Reads (Each Pattern) (patterns r)
unfolding patterns
patterns_below r = over_reads _ (any_reads r) (λ zs _. each_below zs)

null_below : Reads Pattern encoding9
unfolding encoding9
null_below = give_reads 0 (omega arith)

group_below : (e n : ℕ) → Reads (Each Pattern) (group e n)
unfolding group
group_below e n =
    by_test (Reads (Each Pattern)) (eqb e 0) (λ _. alone_below (patterned_below encoding0))
    (λ _. by_test (Reads (Each Pattern)) (eqb e 1) (λ _. alone_below encoding1_below)
    (λ _. by_test (Reads (Each Pattern)) (eqb e 3) (λ _. alone_below (patterned_below encoding3))
    (λ _. by_test (Reads (Each Pattern)) (eqb e 6) (λ _. patterns_below (encoding6 n))
    (λ _. by_test (Reads (Each Pattern)) (eqb e 7) (λ _. patterns_below encoding7)
    (λ _. by_test (Reads (Each Pattern)) (eqb e 8) (λ _. patterns_below encoding8)
    (λ _. by_test (Reads (Each Pattern)) (eqb e 9) (λ _. alone_below null_below) (λ _. fault_reads)))))))

append_each : (vs ws : List ℕ) → Each Pattern vs → Each Pattern ws → Each Pattern (vs ++ ws)
append_each [] ws h k = k
append_each (v ∷ vs) ws h k = (h.0, append_each vs ws h.1 k)

runs_below : (rs : List Run) → Reads (Each Pattern) (of_runs rs)
unfolding of_runs
runs_below [] = give_reads _ tt
runs_below (r ∷ rs) =
    then_reads (group_below r.encoding r.fields) λ vs h.
    then_reads (runs_below rs) λ ws k.
    give_reads _ (append_each (take r.fields vs) ws (take_each Pattern r.fields vs h) k)

-- The fields' numbers have 32 bits.
pub numbers_below : (es : List ℕ) → Reads (Each (λ v. v < 2 ^ 32)) (numbers es)
unfolding numbers
numbers_below es = runs_below (runs es)

-- ## So it is in a frame: 62 rooms, and a 32-bit pattern in each

set_each : (l : List ℕ) (i v : ℕ) → Each Pattern l → Pattern v → Each Pattern (set l i v)
set_each [] i v h p = tt
set_each (x ∷ l) zero v h p = (p, h.1)
set_each (x ∷ l) (suc i) v h p = (h.0, set_each l i v h.1 p)

sets_each : (l : List ℕ) (i : ℕ) (vs : List ℕ) → Each Pattern l → Each Pattern vs → Each Pattern (sets l i vs)
sets_each l i [] h k = h
sets_each l i (v ∷ vs) h k = sets_each (set l i v) (suc i) vs (set_each l i v h k.0) k.1

zeros_each : (n : ℕ) → Each Pattern (replicate n 0)
zeros_each zero = tt
zeros_each (suc n) = (omega arith, zeros_each n)

-- the numbers of a frame have 32 bits, and its fields stand in 62 rooms
pub record Patterns (r : Raw) : Type 0 where
  pub iteration_below : r.iteration < 2 ^ 32
  pub time_below : r.time < 2 ^ 32
  pub rooms : length r.fields ≡ 62
  pub fields_below : Each (λ v. v < 2 ^ 32) r.fields

raw_patterns : (i t : ℕ) (vs : List ℕ) → Pattern i → Pattern t → Each Pattern vs → Patterns (raw i t vs)
unfolding raw
raw_patterns i t vs h k p =
    record {
      iteration_below = h;
      time_below = k;
      rooms = length-sets (replicate 62 0) 0 vs;
      fields_below = sets_each (replicate 62 0) 0 vs (zeros_each 62) p;
    }

timed_patterns : (es : List ℕ) (i : ℕ) → Pattern i → Reads Patterns (timed es i)
unfolding timed
timed_patterns es i h = then_reads encoding1_below λ t k. then_reads (numbers_below es) λ vs p. give_reads _ (raw_patterns i t vs h k p)

-- So do those of each frame that is read: an intra frame, an inter frame, a slow frame.
pub intra_patterns : (es : List ℕ) → Reads Patterns (intra_raw es)
unfolding intra_raw
intra_patterns es = then_reads encoding1_below (timed_patterns es)

pub inter_patterns : (es : List ℕ) → Reads Patterns (inter_raw es)
unfolding inter_raw
inter_patterns es = then_reads (patterned_below encoding0) λ t k. then_reads (numbers_below es) λ vs p. give_reads _ (raw_patterns 0 t vs (omega arith) k p)

pub slow_patterns : (es : Option (List ℕ)) → Reads Patterns (slow_raw es)
unfolding slow_raw
slow_patterns None = fault_reads
slow_patterns (Some es) = then_reads (numbers_below es) λ vs p. give_reads _ (raw_patterns 0 0 vs (omega arith) (omega arith) p)
