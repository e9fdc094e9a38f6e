-- The loop over the fields: what it has in hand, and each way on from there.
use Prim.Native.Nat.{ℕ, suc, ◌+◌, ◌-◌, ◌<◌, ◌≤◌}
use mathlib.Core.List.{List, [], ◌∷◌, ◌++◌, append_assoc}
use mathlib.Core.Path.{◌≡◌, refl, sym, ap, ap₂, ◌∙◌}
use native.Mathlib.Nat.{add-zero}
use native.Mathlib.Omega.{arith}
use lib.ListN.{length, take, drop, get_or, set, replicate, length-drop, length-set, drop_of_length-le}
use lib.Seq.{sets, sets-eq, length-sets, length-take-le, take-append-le, drop-drop}
use Rattle.std.specs.Prelude.{Ok, Err}
use Rattle.reader.specs.declared.Cursor.{Cursor}
use Rattle.reader.specs.declared.Fault.{Fault}
use Rattle.reader.specs.declared.Fault.TheVariants.{Cut, Corrupt}
use Rattle.reader.specs.declared.Group.{Group}
use Rattle.reader.specs.Got.{Spent, Got, got, cut, corrupt, over, after, onward, ◌>>=◌, give}
use Rattle.reader.specs.Place.{rest, on, read_at, padded, group_at}
use Rattle.reader.proofs.Every.{Bytes, Every, drop_each}
use Rattle.reader.proofs.Reading.{ok_parts, onward_give, onward_got, on_both, on_nothing}
use Rattle.raws.specs.Chunks.{first_run, single}
use Rattle.raws.specs.Groups.{size, Run, runs, alone, group, of_runs, numbers}
use Rattle.raws.specs.Place.{Lent, beside, stopped, lent_at}
use Rattle.raws.specs.Raws.{raw}
use Rattle.raws.proofs.Counted.{Enough, group_enough}
use Rattle.raws.proofs.Encodings.{lone_group}
use Rattle.raws.proofs.Runs.{run_at, run_one}

-- a reading of fields, laid over the values `vs` from field i on; k and t are the iteration and the time that stand before them
unfoldable pub laid_at : (k t : ℕ) → List ℕ → ℕ → Cursor → Got (List ℕ) → Lent
laid_at k t vs i c (got ws u) = beside (Ok (record { behind = on c u; iteration = k; time = t })) (sets vs i ws)
laid_at k t vs i c cut = stopped Cut
laid_at k t vs i c corrupt = stopped Corrupt

laid_after : (k t : ℕ) (vs : List ℕ) (i : ℕ) (c : Cursor) (u : Spent) (g : Got (List ℕ)) → laid_at k t vs i c (after u g) ≡ laid_at k t vs i (on c u) g
unfolding laid_at after
laid_after k t vs i c u (got ws v) = λ j. beside (Ok (record { behind = on_both c u v j; iteration = k; time = t })) (sets vs i ws)
laid_after k t vs i c u cut = refl
laid_after k t vs i c u corrupt = refl

-- over zeros, from the first on: all fields
laid_fields : (k t : ℕ) (c : Cursor) (g : Got (List ℕ)) → lent_at c (over (raw k t) g) ≡ laid_at k t (replicate 62 0) 0 c g
unfolding lent_at over raw laid_at
laid_fields k t c (got ws u) = refl
laid_fields k t c cut = refl
laid_fields k t c corrupt = refl

-- more numbers in front are laid first
sets_append : (vs : List ℕ) (i : ℕ) (xs ws : List ℕ) → sets vs i (xs ++ ws) ≡ sets (sets vs i xs) (i + length xs) ws
sets_append vs i [] ws = rw (add-zero i)
sets_append vs i (x ∷ xs) ws =
    let behind : suc i + length xs ≡ i + suc (length xs) = omega arith in
    sets_append (set vs i x) (suc i) xs ws ∙ ap (λ k. sets (sets (set vs i x) (suc i) xs) k ws) behind

laid_append : (k t : ℕ) (vs : List ℕ) (i : ℕ) (c : Cursor) (xs : List ℕ) (g : Got (List ℕ))
    → laid_at k t vs i c (over (λ ws. xs ++ ws) g) ≡ laid_at k t (sets vs i xs) (i + length xs) c g
unfolding laid_at over
laid_append k t vs i c xs (got ws u) = λ j. beside (Ok (record { behind = on c u; iteration = k; time = t })) (sets_append vs i xs ws j)
laid_append k t vs i c xs cut = refl
laid_append k t vs i c xs corrupt = refl

-- ## A number or a group, and what is read behind it

-- the numbers of n fields are found in a group's eight rooms
take_padded : (n : ℕ) (vs : List ℕ) → Enough n vs → take n (padded 8 vs) ≡ take n vs
take_padded n vs h = ap (take n) (sets-eq vs (replicate 8 0) 0 (omega arith)) ∙ take-append-le n vs _ h.0

-- what is read behind the numbers of n fields
abbrev Behind : List Run → ℕ → List ℕ → List ℕ → Got (List ℕ)
Behind rs n vs = ◌>>=◌ (of_runs rs) (λ ws. give (take n vs ++ ws))

-- the answers for a number by itself, and for a group
module _ (k t : ℕ) (s values : List ℕ) (i : ℕ) (p : Cursor) (rs : List Run) where
  -- n numbers are laid, and the rest is read behind them
  got_next : (n : ℕ) (vs : List ℕ) (u : Spent) → n ≤ length vs
      → laid_at k t values i p (onward (Behind rs n) (rest p s) (got vs u))
      ≡ laid_at k t (sets values i (take n vs)) (i + n) (on p u) (of_runs rs (rest (on p u) s))
  unfolding ◌>>=◌
  got_next n vs u h =
      onward_got (laid_at k t values i) (laid_after k t values i) (Behind rs n) s p vs u
      ∙ ap (laid_at k t values i (on p u)) (onward_give (λ ws. take n vs ++ ws) (rest (on p u) s) (of_runs rs (rest (on p u) s)))
      ∙ laid_append k t values i (on p u) (take n vs) (of_runs rs (rest (on p u) s))
      ∙ ap (λ m. laid_at k t (sets values i (take n vs)) (i + m) (on p u) (of_runs rs (rest (on p u) s))) (length-take-le n vs h)

  number_next : (g : Got ℕ) {v : ℕ} {q : Cursor} → Ok (v, q) ≡ read_at p g
      → laid_at k t values i p (onward (Behind rs 1) (rest p s) (over (λ w. w ∷ []) g)) ≡ laid_at k t (set values i v) (i + 1) q (of_runs rs (rest q s))
  unfolding read_at over
  number_next (got w u) e =
      let same = ok_parts e in
      got_next 1 (w ∷ []) u (omega arith) ∙ sym (ap₂ (λ x c. laid_at k t (set values i x) (i + 1) c (of_runs rs (rest c s))) same.0 same.1)
  number_next cut e = absurd (cc)
  number_next corrupt e = absurd (cc)

  number_stop : (g : Got ℕ) {d : Fault} → Err d ≡ read_at p g → stopped d ≡ laid_at k t values i p (onward (Behind rs 1) (rest p s) (over (λ w. w ∷ []) g))
  unfolding read_at over onward laid_at
  number_stop (got w u) e = absurd (cc)
  number_stop cut {d} e = let same : d ≡ Cut = cc in rw same
  number_stop corrupt {d} e = let same : d ≡ Corrupt = cc in rw same

  group_next : (n : ℕ) (g : Got (List ℕ)) {q : Cursor} → Ok q ≡ (group_at p g).step → Every (Enough n) g
      → laid_at k t values i p (onward (Behind rs n) (rest p s) g) ≡ laid_at k t (sets values i (take n (group_at p g).values)) (i + n) q
      (of_runs rs (rest q s))
  unfolding group_at
  group_next n (got vs u) {q} e h =
      let place : on p u ≡ q = cc in
      got_next n vs u h.0
      ∙ ap₂ (λ xs c. laid_at k t (sets values i xs) (i + n) c (of_runs rs (rest c s))) (sym (take_padded n vs h)) place
  group_next n cut e h = absurd (cc)
  group_next n corrupt e h = absurd (cc)

  group_stop : (n : ℕ) (g : Got (List ℕ)) {d : Fault} → Err d ≡ (group_at p g).step → stopped d ≡ laid_at k t values i p (onward (Behind rs n) (rest p s) g)
  unfolding group_at onward laid_at
  group_stop n (got vs u) e = absurd (cc)
  group_stop n cut {d} e = let same : d ≡ Cut = cc in rw same
  group_stop n corrupt {d} e = let same : d ≡ Corrupt = cc in rw same

-- a group's rooms are eight
group_rooms : (c : Cursor) (g : Got (List ℕ)) → length (group_at c g).values ≡ 8
unfolding group_at
group_rooms c (got vs u) = length-sets (replicate 8 0) 0 vs
group_rooms c cut = refl
group_rooms c corrupt = refl

-- the values with the first n numbers of a group in a part of them
laid_part : (values gs : List ℕ) (i n : ℕ) {ys : List ℕ} → ys ≡ take (length (take (i + n - i) (drop i values))) gs → (i + n ≤ length values) × (n ≤ length gs)
    → take i values ++ (ys ++ drop (i + n - i) (drop i values)) ≡ sets values i (take n gs)
laid_part values gs i n {ys} e h =
    let count : i + n - i ≡ n = omega arith in
    let rooms : length (take n (drop i values)) ≡ n = length-take-le n (drop i values) (omega (arith, length-drop i values)) in
    let laid : ys ≡ take n gs = e ∙ rw (count, rooms) in
    let taken : length (take n gs) ≡ n = length-take-le n gs h.1 in
    rw (count, laid, drop-drop n i values, sets-eq (take n gs) values i (omega arith), taken, append_assoc)

-- ## The loop

-- i fields are laid; with those behind them, read from `next` on, they are all fields
pub record Held (es s : List ℕ) (from : Cursor) (k t : ℕ) (values : List ℕ) (next : Cursor) (i : ℕ) : Type 0 where
  pub fit : (i ≤ length es) × (length es ≤ 62)
  pub room : length values ≡ 62
  pub is : lent_at from (over (raw k t) (numbers es (rest from s))) ≡ laid_at k t values i next (numbers (drop i es) (rest next s))

pub held_first : (es s : List ℕ) (from : Cursor) (k t : ℕ) → length es ≤ 62 → {values : List ℕ} → values ≡ replicate 62 0 → Held es s from k t values from 0
held_first es s from k t h e =
    record {
      fit = omega arith;
      room = ap length e;
      is = laid_fields k t from (numbers es (rest from s)) ∙ ap (λ vs. laid_at k t vs 0 from (numbers es (rest from s))) (sym e);
    }

-- the fields of the group at hand: there is room for their numbers, in the group and in the values
pub held_run : {es s : List ℕ} {from : Cursor} {k t : ℕ} {values : List ℕ} {next : Cursor} {i n : ℕ} → Held es s from k t values next i
    → n ≡ first_run (runs (drop i es)) → i < length es → (1 ≤ n) × (n ≤ 8) × (i + n ≤ length es) × (length es ≤ 62) × (length values ≡ 62)
held_run {es} {i = i} held count more = let run = run_at es i count more in omega (arith, run.few, run.inside, held.fit, held.room)

-- a section is made of bytes
pub bytes_of : (s : List ℕ) → ((j : ℕ) → get_or s j 0 < 256) → Bytes s
bytes_of [] h = tt
bytes_of (b ∷ s) h = (h 0, bytes_of s (λ j. h (suc j)))

-- a field that stands in no group
module _ {es s : List ℕ} {from : Cursor} {k t : ℕ} {values : List ℕ} {next : Cursor} {i most : ℕ} (held : Held es s from k t values next i)
    (sized : most ≡ size (get_or es i 0)) (lone : most ≡ 1) (more : i < length es) where
  -- the number at hand, before those behind it
  one_split : lent_at from (over (raw k t) (numbers es (rest from s)))
      ≡ laid_at k t values i next (onward (Behind (runs (drop (i + 1) es)) 1) (rest next s) (over (λ v. v ∷ []) (single (get_or es i 0) (rest next s))))
  unfolding numbers of_runs ◌>>=◌ alone
  one_split =
      held.is ∙ ap (λ rs. laid_at k t values i next (of_runs rs (rest next s))) (run_one es i (sym sized ∙ lone) more).is
      ∙ ap (λ g. laid_at k t values i next (onward (Behind (runs (drop (i + 1) es)) 1) (rest next s) g))
      (lone_group (get_or es i 0) 1 (rest next s) (sym sized ∙ lone))

  pub one_on : {v : ℕ} {q : Cursor} → Ok (v, q) ≡ read_at next (single (get_or es i 0) (rest next s)) → Held es s from k t (set values i v) q (i + 1)
  unfolding numbers
  one_on {v} e =
      record {
        fit = omega (arith, held.fit);
        room = length-set values i v ∙ held.room;
        is = one_split ∙ number_next k t s values i next (runs (drop (i + 1) es)) (single (get_or es i 0) (rest next s)) e;
      }

  pub one_stop : {d : Fault} → Err d ≡ read_at next (single (get_or es i 0) (rest next s))
      → stopped d ≡ lent_at from (over (raw k t) (numbers es (rest from s)))
  one_stop e = number_stop k t s values i next (runs (drop (i + 1) es)) (single (get_or es i 0) (rest next s)) e ∙ sym one_split

-- a group
module _ {es s : List ℕ} {from : Cursor} {k t : ℕ} {values : List ℕ} {next : Cursor} {i n : ℕ} {r : Group} (held : Held es s from k t values next i)
    (count : n ≡ first_run (runs (drop i es))) (e : r ≡ group_at next (group (get_or es i 0) n (rest next s))) (more : i < length es) where
  -- the group at hand, before those behind it
  split : lent_at from (over (raw k t) (numbers es (rest from s)))
      ≡ laid_at k t values i next (onward (Behind (runs (drop (i + n) es)) n) (rest next s) (group (get_or es i 0) n (rest next s)))
  unfolding numbers of_runs ◌>>=◌
  split = held.is ∙ ap (λ rs. laid_at k t values i next (of_runs rs (rest next s))) (run_at es i count more).is

  pub held_on : {q : Cursor} {ys : List ℕ} → r.step ≡ Ok q → ys ≡ take (length (take (i + n - i) (drop i values))) r.values → ((j : ℕ) → get_or s j 0 < 256)
      → Held es s from k t (take i values ++ (ys ++ drop (i + n - i) (drop i values))) q (i + n)
  unfolding numbers
  held_on {q} {ys} f y bytes =
      let run = run_at es i count more in
      let g : Got (List ℕ) = group (get_or es i 0) n (rest next s) in
      let enough : Every (Enough n) g =
      (group_enough (get_or es i 0) n run.few.1).every (rest next s) (drop_each (λ b. b < 256) next.at s (bytes_of s bytes)) in
      let rooms : length r.values ≡ 8 = ap (λ x. length x.values) e ∙ group_rooms next g in
      let laid : take i values ++ (ys ++ drop (i + n - i) (drop i values)) ≡ sets values i (take n r.values) =
      laid_part values r.values i n y (omega (arith, run.few, run.inside, held.fit, held.room)) in
      record {
        fit = omega (arith, run.inside, held.fit);
        room = ap length laid ∙ length-sets values i (take n r.values) ∙ held.room;
        is =
            split
            ∙ group_next k t s values i next (runs (drop (i + n) es)) n g (sym f ∙ ap (λ x. x.step) e) enough
            ∙ ap (λ x. laid_at k t (sets values i (take n x.values)) (i + n) q (of_runs (runs (drop (i + n) es)) (rest q s))) (sym e)
            ∙ ap (λ vs. laid_at k t vs (i + n) q (of_runs (runs (drop (i + n) es)) (rest q s))) (sym laid);
      }

  pub held_stop : {d : Fault} → r.step ≡ Err d → stopped d ≡ lent_at from (over (raw k t) (numbers es (rest from s)))
  held_stop f =
      group_stop k t s values i next (runs (drop (i + n) es)) n (group (get_or es i 0) n (rest next s)) (sym f ∙ ap (λ x. x.step) e) ∙ sym split

pub held_end : {es s : List ℕ} {from : Cursor} {k t : ℕ} {values : List ℕ} {next : Cursor} {i : ℕ} → Held es s from k t values next i → length es ≤ i
    → ◌≡◌ {A = Lent} (beside (Ok (record { behind = next; iteration = k; time = t })) values)
    (lent_at from (over (raw k t) (numbers es (rest from s))))
unfolding numbers runs of_runs give laid_at
held_end {es} {s} {from} {k} {t} {values} {next} {i} held h =
    let none : numbers (drop i es) (rest next s) ≡ numbers [] (rest next s) = ap (λ fs. numbers fs (rest next s)) (drop_of_length-le es h) in
    let place : laid_at k t values i next (numbers [] (rest next s)) ≡ beside (Ok (record { behind = next; iteration = k; time = t })) values =
    λ j. beside (Ok (record { behind = on_nothing next j; iteration = k; time = t })) values in
    sym (held.is ∙ ap (laid_at k t values i next) none ∙ place)
