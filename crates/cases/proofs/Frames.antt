-- Every worked frame is what it says, by computation.
use mathlib.Core.Path.{refl}
use Rattle.cases.specs.Frames.{Hold, worked}
use Rattle.cases.proofs.Row.{◌&◌}
use Rattle.cases.proofs.Unfolded.{frames_open}

pub frames_worked : Hold worked
unfolding worked frames_open
frames_worked =
    refl & refl & refl & refl & refl & refl & refl & refl & refl & refl & refl
    & refl & refl & refl & refl & refl & refl & refl & refl & refl & refl & refl & tt
