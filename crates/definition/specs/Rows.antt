-- The lists as the code has them in hand, read into rows.
-- No part of the meaning: only contracts of private functions cite it.
use Rattle.std.specs.Prelude.{ℕ, ◌+◌, Bool, cond, ◌&&◌, List, ◌≡◌, eqb, ltb, get_or}
use Rattle.items.specs.declared.MainLists.{MainLists}
use Rattle.items.specs.declared.Of.TheVariants.{Names, Predictors, Encodings, Signs}
use Rattle.items.specs.declared.Row.{Row}
use Rattle.items.specs.declared.SlowLists.{SlowLists}
use Rattle.items.specs.Rows.{row_of}
use Rattle.items.specs.Table.{table}
use Rattle.definition.specs.declared.Rows.{Rows}
use Rattle.definition.specs.Defined.{main_items, slow_items}
use Rattle.definition.specs.MainLists.{Items, MainItems}
use Rattle.definition.specs.SlowLists.{SlowItems}

unfoldable pub rows_of : MainItems → Rows
rows_of l =
    record {
      names = row_of Names l.names;
      intra_predictors = row_of Predictors l.intra_predictors;
      inter_predictors = row_of Predictors l.inter_predictors;
      intra_encodings = row_of Encodings l.intra_encodings;
      inter_encodings = row_of Encodings l.inter_encodings;
      signs = row_of Signs l.signs;
    }

-- a slow field has one predictor and one encoding: they stand for both
unfoldable pub both : SlowItems → MainItems
both l =
    record {
      names = l.names;
      intra_predictors = l.predictors;
      inter_predictors = l.predictors;
      intra_encodings = l.encodings;
      inter_encodings = l.encodings;
      signs = l.signs;
    }

-- round k has this name, and these numbers in lists 1 to 4, by its codes
abbrev pub is_coded : Rows → (k name : ℕ) → List ℕ → Bool
is_coded rows k name numbers =
    eqb (get_or rows.names.codes k 0) name
    && (eqb (get_or rows.intra_predictors.codes k 0) (get_or numbers 0 0)
    && (eqb (get_or rows.inter_predictors.codes k 0) (get_or numbers 1 0)
    && (eqb (get_or rows.intra_encodings.codes k 0) (get_or numbers 2 0)
    && eqb (get_or rows.inter_encodings.codes k 0) (get_or numbers 3 0))))

-- what the codes of a row say of its fields: field i is item i + first, and 0 stands behind the last of n items
abbrev pub cut_to : (first rooms n : ℕ) → Row → List ℕ
cut_to first rooms n row = table rooms (λ i. cond (ltb (i + first) n) (get_or row.codes (i + first) 0) 0)

-- what holds of all lists that read so
abbrev pub ForMain : Rows → (MainItems → Type 0) → Type 0
ForMain rows P = (l : MainItems) → rows ≡ rows_of l → P l

abbrev pub ForSlow : Rows → (SlowItems → Type 0) → Type 0
ForSlow rows P = (l : SlowItems) → rows ≡ rows_of (both l) → P l

abbrev pub ForNames : Row → (Items → Type 0) → Type 0
ForNames row P = (l : Items) → row ≡ row_of Names l → P l

-- main lists that read as slow ones do, with their predictors and encodings in both places
abbrev pub Twice : SlowLists → MainLists → Type 0
Twice slow main = (text : List ℕ) → main_items text main ≡ both (slow_items text slow)
