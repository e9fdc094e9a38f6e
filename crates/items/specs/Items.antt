-- The items of a comma-separated text (document 01, "Definition lists"), and where each stands.
use Rattle.std.specs.Prelude.{ℕ, zero, suc, ◌+◌, ◌-◌, Bool, false, cond, ◌&&◌, List, [], ◌∷◌, Option, Some, None, eqb, ltb, leb, length, get_or, take, drop}
use Rattle.std.specs.List.{slice_split}
use Rattle.std.specs.Option.{is_none}
use Rattle.items.specs.declared.Stretch.{Stretch}

-- an empty text is one empty item; a comma ends an item, any other byte belongs to one
unfoldable pub items : List ℕ → List (List ℕ)
items t = slice_split (λ b. eqb b 44) t

-- item k, and an empty one where there is none
abbrev pub at : List (List ℕ) → ℕ → List ℕ
at l k = get_or l k []

-- where item k starts: behind k items, each with its comma
unfoldable pub start_of : List (List ℕ) → ℕ → ℕ
start_of [] k = 0
start_of (i ∷ r) zero = 0
start_of (i ∷ r) (suc k) = length i + 1 + start_of r k

-- where item k stands, if there is one
unfoldable pub item_at : List ℕ → ℕ → Option Stretch
item_at text k =
    cond (ltb k (length (items text)))
    (Some (record { start = start_of (items text) k; end = start_of (items text) k + length (at (items text) k) }))
    None

-- a stretch is absent if there is none, whatever the text
unfoldable pub absent : Option Stretch → Bool
absent s = is_none s

-- a stretch is given if there is one and it lies in the text
unfoldable pub given : List ℕ → Option Stretch → Bool
given text None = false
given text (Some s) = leb s.start s.end && leb s.end (length text)

-- the bytes of a stretch that lies in the text, and none for any other
unfoldable pub part : List ℕ → Option Stretch → List ℕ
part text None = []
part text (Some s) = cond (given text (Some s)) (take (s.end - s.start) (drop s.start text)) []
