-- The fields of a frame in groups, and the raw numbers of each (document 01, "Numbers in a section").
use Rattle.std.specs.Prelude.{ℕ, suc, cond, ◌&&◌, List, [], ◌∷◌, ◌++◌, map, eqb, ltb, ℤ, take}
use Rattle.bits.specs.Pattern.{pattern}
use Rattle.reader.specs.Got.{Reader, over, ◌>>=◌, give, fault}
use Rattle.decode.specs.TaggedVariable.{encoding6}
use Rattle.decode.specs.Variable.{encoding0, encoding1, encoding3, encoding9}
use Rattle.tagged.specs.Tagged16.{encoding8}
use Rattle.tagged.specs.Tagged32.{encoding7}

-- how many fields a group has at the most: 6 to 8, 7 to 3, 8 to 4; the other encodings are no groups
unfoldable pub size : ℕ → ℕ
size e = cond (eqb e 6) 8 (cond (eqb e 7) 3 (cond (eqb e 8) 4 1))

-- a run of neighbouring fields of one encoding
pub record Run : Type 0 where
  pub encoding : ℕ
  pub fields : ℕ

-- the encodings of the fields as runs up to their size, where n fields of encoding e stand before them
unfoldable pub runs_behind : (e n : ℕ) → List ℕ → List Run
runs_behind e n [] = record { encoding = e; fields = n } ∷ []
runs_behind e n (f ∷ fs) = cond (eqb f e && ltb n (size e)) (runs_behind e (suc n) fs) (record { encoding = e; fields = n } ∷ runs_behind f 1 fs)

unfoldable pub runs : List ℕ → List Run
runs [] = []
runs (e ∷ es) = runs_behind e 1 es

-- a number by itself
unfoldable pub alone : Reader ℕ → Reader (List ℕ)
alone r c = over (λ v. v ∷ []) (r c)

-- an integer leaves as its 32-bit pattern
unfoldable pub patterned : Reader ℤ → Reader ℕ
patterned r c = over pattern (r c)

unfoldable pub patterns : Reader (List ℤ) → Reader (List ℕ)
patterns r c = over (map pattern) (r c)

-- the numbers that a group of n fields of encoding e reads; what is no encoding is refused with the definition, and is corrupt
unfoldable pub group : (e n : ℕ) → Reader (List ℕ)
group e n =
    cond (eqb e 0) (alone (patterned encoding0))
    (cond (eqb e 1) (alone encoding1)
    (cond (eqb e 3) (alone (patterned encoding3))
    (cond (eqb e 6) (patterns (encoding6 n))
    (cond (eqb e 7) (patterns encoding7)
    (cond (eqb e 8) (patterns encoding8)
    (cond (eqb e 9) (alone encoding9) fault))))))

-- one run after the other, so that the fault met first decides; short groups of 7 and 8 still read 3 or 4 values and drop the rest
unfoldable pub of_runs : List Run → Reader (List ℕ)
of_runs [] = give []
of_runs (r ∷ rs) = do
  vs ← group r.encoding r.fields
  ws ← of_runs rs
  give (take r.fields vs ++ ws)

-- the raw numbers of fields with these encodings
unfoldable pub numbers : List ℕ → Reader (List ℕ)
numbers es = of_runs (runs es)
