-- How the code goes through a header: line by line, each without its line feed.
-- No part of the meaning: only contracts of private functions cite it.
use Rattle.std.specs.Prelude.{ℕ, ◌+◌, cond, List, Option, Some, None, length, drop}
use Rattle.items.specs.declared.Stretch.{Stretch}
use Rattle.items.specs.Text.{ascii}
use Rattle.header.specs.Lines.{bare, begins}

-- the header line that starts at a place, if one does
unfoldable pub header_line : List ℕ → ℕ → Option Stretch
header_line text at =
    cond (begins (ascii "H ") (bare (drop at text))) (Some (record { start = at; end = at + length (bare (drop at text)) })) None
