-- A row in parts: its values stand beside what comes before them.
-- No part of the meaning: only contracts of private functions cite it.
use Rattle.std.specs.Prelude.{ℕ, List}
use Rattle.rows.specs.declared.Heading.{Heading}
use Rattle.rows.specs.Rows.{Row, row}

abbrev pub row_beside : Heading → (values : List ℕ) → Row
row_beside h vs = row h.letter h.iteration h.place h.time vs
