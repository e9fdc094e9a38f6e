-- In outline the past has no part in a main frame.
use Prim.Native.Nat.{ℕ}
use mathlib.Core.Path.{◌≡◌, refl}
use Rattle.plan.specs.declared.Definition.{Definition}
use Rattle.plan.specs.Plan.{fields, shape, rules}
use Rattle.raws.specs.declared.Raw.{Raw}
use Rattle.frame.specs.Frames.{intra_frame, inter_frame}
use Rattle.frame.specs.Past.{Past}
use Rattle.section.specs.declared.Answer.TheVariants.{Intra, Inter}
use Rattle.resync.specs.From.{outline_of, outline}
use Rattle.resync.proofs.Both.{framed}

pub intra_bare : (d : Definition) (p : ℕ) (g g' : Past) (x : Raw)
    → outline (framed (fields d.main) Intra p (intra_frame (shape d) (rules d) g x))
    ≡ outline (framed (fields d.main) Intra p (intra_frame (shape d) (rules d) g' x))
unfolding outline_of intra_frame
intra_bare d p g g' x = refl

pub inter_bare : (d : Definition) (p : ℕ) (g g' : Past) (x : Raw)
    → outline (framed (fields d.main) Inter p (inter_frame (shape d) (rules d) g x))
    ≡ outline (framed (fields d.main) Inter p (inter_frame (shape d) (rules d) g' x))
unfolding outline_of
inter_bare d p g g' x = refl
