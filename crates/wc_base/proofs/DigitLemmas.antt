-- Digits are ASCII, and so a text.
use Rattle.std.proofs.Common.{ℕ, zero, suc, ◌<◌, ◌≤◌, List, [], ◌∷◌, arith}
use Rattle.std.specs.Char.{digit_value}
use Rattle.std.specs.Str.{IsAscii, IsUtf8}
use Rattle.std.specs.Str.Parse.{AllDigits}
use Rattle.std.proofs.lemmas.Bool.Decides.{nat_tests}
use Rattle.std.proofs.lemmas.Str.{IsUtf8-from_ascii}

low : (base c : ℕ) → base ≤ 36 → digit_value c < base → c < 128
low base c few is = grind (arith, nat_tests)

ascii : (base : ℕ) (digits : List ℕ) → base ≤ 36 → AllDigits base digits → IsAscii digits
ascii base [] few all = λ i. omega arith
ascii base (c ∷ cs) few all = first (low base c few all.0) (ascii base cs few all.1)
  where
    first : c < 128 → IsAscii cs → IsAscii (c ∷ cs)
    first here later zero = here
    first here later (suc i) = later i

pub digits_text : (base : ℕ) (digits : List ℕ) → base ≤ 36 → AllDigits base digits → IsUtf8 digits
digits_text base digits few all = IsUtf8-from_ascii digits (ascii base digits few all)
