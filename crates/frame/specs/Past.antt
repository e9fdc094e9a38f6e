-- What a later frame reads of the two main frames before it (document 01, "Predictors": the two histories, last and older).
use Rattle.std.specs.Prelude.{ℕ, Bool, true, false, List, [], Option, None, Some}
use Rattle.reader.specs.Place.{padded}
use Rattle.frame.specs.declared.MainFrame.{MainFrame}
use Rattle.frame.specs.declared.Mark.{Mark}
use Rattle.frame.specs.declared.Mark.TheVariants.{Absent, Intra, Inter}

pub record Body : Type 0 where
  pub inter : Bool
  pub iteration : ℕ
  pub time : ℕ
  pub values : List ℕ

pub record Past : Type 0 where
  pub last : Option Body
  pub older : Option Body

abbrev pub past_of : (last older : Option Body) → Past
past_of last older = record { last = last; older = older }

abbrev body : Bool → MainFrame → Body
body inter f = record { inter = inter; iteration = f.iteration; time = f.time; values = f.values }

abbrev marked : Mark → MainFrame → Option Body
marked Absent f = None
marked Intra f = Some (body false f)
marked Inter f = Some (body true f)

unfoldable pub body_of : MainFrame → Option Body
body_of f = marked f.mark f

-- a frame, with its fields in 62 rooms, 0 behind the last
abbrev pub main_frame : Mark → (iteration time : ℕ) → (values : List ℕ) → MainFrame
main_frame m i t vs = record { mark = m; iteration = i; time = t; values = padded 62 vs }

-- no frame
unfoldable pub no_frame : MainFrame
no_frame = main_frame Absent 0 0 []
