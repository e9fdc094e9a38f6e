-- The frame interval of a case: three words, each a number of 32 bits.
use Rattle.std.specs.Prelude.{ℕ, List, Option}
use Rattle.digits.specs.Digits.{decimal_of}
use Rattle.plan.specs.declared.FrameInterval.{FrameInterval}
use Rattle.words.specs.Words.{up_to, three_of}

unfoldable pub interval_of : List ℕ → Option FrameInterval
interval_of s = three_of (λ word. up_to 4294967295 (decimal_of word)) (λ i n d. record { intra = i; numerator = n; denominator = d }) s
