-- What can be read back is told apart: how definitions in the rules' numbers are shown to lose nothing.
use Rattle.std.proofs.Common.{◌≡◌, sym, ap, ◌∙◌}

pub read_back : {A B : Type 0} (f : A → B) (g : B → A) → ((x : A) → g (f x) ≡ x) → (x y : A) → f x ≡ f y → x ≡ y
read_back f g back x y e = sym (back x) ∙ ap g e ∙ back y
