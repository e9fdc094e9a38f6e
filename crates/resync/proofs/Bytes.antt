-- An accepted frame lies over the same bytes in both sections: its kind byte and the place behind it are as far from where the common bytes begin.
use Rattle.std.specs.Prelude.{Option, None, Some, option_map}
use Prim.Native.Nat.{ℕ, ◌+◌}
use mathlib.Core.List.{List, ◌++◌}
use mathlib.Core.Path.{◌≡◌, refl, sym, ap, ap₂, ◌∙◌}
use lib.ListN.{length, take, drop}
use lib.Seq.{take-append-add, drop-append-add}
use Rattle.resync.specs.From.{from, Same, AsMuch, outline, frame_at, stretch, bytes_of}
use Rattle.resync.specs.Runs.{Shown}
use Rattle.resync.proofs.Answers.{from_frame, outline_frame}

-- a stretch of the section is the same stretch of its end
moved_stretch : (pre c : List ℕ) (n : ℕ) (a : Option ℕ) → stretch (pre ++ c) (length pre + n) (option_map (λ q. length pre + q) a) ≡ stretch c n a
moved_stretch pre c n None = refl
moved_stretch pre c n (Some q) = ap (drop (length pre + q)) (take-append-add pre c n) ∙ drop-append-add pre (take n c) q

frame_bytes : (pre c : List ℕ) (e x : Shown) (p n : ℕ) → outline e ≡ from (length pre) x → p ≡ length pre + n
    → bytes_of (pre ++ c) e.answer p ≡ stretch c n (frame_at x.answer)
frame_bytes pre c e x p n shows far =
    let frame : frame_at e.answer ≡ option_map (λ q. length pre + q) (frame_at x.answer) =
    sym (outline_frame e.fields e.answer) ∙ ap (λ (s : Shown). frame_at s.answer) shows ∙ from_frame (length pre) x.answer in
    ap₂ (stretch (pre ++ c)) far frame ∙ moved_stretch pre c n (frame_at x.answer)

pub bytes_same : (pre pre' c : List ℕ) (e e' : Shown) → Same (length pre) (length pre') (outline e) (outline e') → (p p' : ℕ)
    → AsMuch (length pre) p (length pre') p' → bytes_of (pre ++ c) e.answer p ≡ bytes_of (pre' ++ c) e'.answer p'
bytes_same pre pre' c e e' (x, here, there) p p' (n, far, far') = frame_bytes pre c e x p n here far ∙ sym (frame_bytes pre' c e' x p' n there far')
