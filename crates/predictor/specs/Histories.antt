-- Which histories each predictor reads (document 01, "Predictors"): 1, 2, 3 and 6 read last, 2 and 3 read older, and no other reads any.
use Rattle.std.specs.Prelude.{ℕ, Bool, true, not, ◌&&◌, List, [], ◌∷◌}
use Rattle.plan.specs.Known.{among}

unfoldable pub reads_last : ℕ → Bool
reads_last p = among (1 ∷ 2 ∷ 3 ∷ 6 ∷ []) p

unfoldable pub reads_older : ℕ → Bool
reads_older p = among (2 ∷ 3 ∷ []) p

-- a list of predictors of which none reads
unfoldable pub none_reads : (reads : ℕ → Bool) → List ℕ → Bool
none_reads reads [] = true
none_reads reads (p ∷ ps) = not (reads p) && none_reads reads ps
