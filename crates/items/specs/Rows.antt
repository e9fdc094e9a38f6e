-- A list as a row: how many items it has, and what each of the first 64 says, as a byte.
-- No part of the rules: how lists travel from the texts to the checks.
use Rattle.std.specs.Prelude.{ℕ, cond, List, length}
use Rattle.items.specs.declared.Of.{Of}
use Rattle.items.specs.declared.Of.TheVariants.{Names, Predictors, Encodings, Signs}
use Rattle.items.specs.declared.Row.{Row}
use Rattle.items.specs.Items.{at}
use Rattle.items.specs.Said.{predictor_of, numbered, encoding_of, sign_code}
use Rattle.items.specs.Table.{table}
use Rattle.items.specs.Text.{ascii, same}

-- the names that the rules speak of; any other is 0
unfoldable pub name_code : List ℕ → ℕ
name_code item =
    cond (same item (ascii "loopIteration")) 1
    (cond (same item (ascii "time")) 2
    (cond (same item (ascii "motor[0]")) 3 0))

unfoldable pub code_of : Of → List ℕ → ℕ
code_of Names item = name_code item
code_of Predictors item = numbered (predictor_of item)
code_of Encodings item = numbered (encoding_of item)
code_of Signs item = sign_code item

-- an item that is not there says what an empty one says
unfoldable pub row_of : Of → List (List ℕ) → Row
row_of of l = record { count = length l; codes = table 64 (λ k. code_of of (at l k)) }
