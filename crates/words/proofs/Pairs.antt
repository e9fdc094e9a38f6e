-- Pairs of hexadecimal digits: how many bytes they write, so that a text of more pairs than a buffer has places leaves it as it is.
use Rattle.std.proofs.Common.{ℕ, suc, ◌/◌, ◌<◌, List, [], ◌∷◌, ◌≡◌, Option, Some, None, refl, length, arith}
use borrow.Author.Tests.{lt-leb}
use Rattle.words.specs.Words.{hex_of}
use Rattle.words.specs.Written.{in_front, dashed, put_of}
use Rattle.words.specs.Sections.{pairs}

-- bytes that are right are n
abbrev Many : ℕ → Option (List ℕ) → Type 0
Many n None = Unit
Many n (Some bytes) = length bytes ≡ n

many_more : {n m : ℕ} → m ≡ suc n → (first : Option ℕ) (others : Option (List ℕ)) → Many n others → Many m (in_front first others)
unfolding in_front
many_more e None others h = tt
many_more e (Some b) None h = tt
many_more e (Some b) (Some bytes) h = omega arith

pairs_many : (s : List ℕ) → Many (length s / 2) (pairs s)
unfolding pairs
pairs_many [] = refl
pairs_many (b ∷ []) = tt
pairs_many (b ∷ c ∷ s) = many_more (omega arith) (hex_of b c) (pairs s) (pairs_many s)

none_put : {n : ℕ} (o : Option (List ℕ)) (out : List ℕ) → Many n o → length out < n → (None, out) ≡ put_of o out
unfolding put_of
none_put None out e h = refl
none_put (Some bytes) out e h = rw (lt-leb (length bytes) (length out) (omega arith))

pub no_room : (text out : List ℕ) → length out < length text / 2 → (None, out) ≡ put_of (dashed pairs text) out
unfolding dashed
no_room [] out h = absurd (omega arith)
no_room (b ∷ []) out h = absurd (omega arith)
no_room (b ∷ c ∷ s) out h = none_put (pairs (b ∷ c ∷ s)) out (pairs_many (b ∷ c ∷ s)) h
