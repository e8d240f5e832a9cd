-- The number that digits state: at least one digit and nothing else. Zeros may stand at the front, a sign may not.
use Rattle.std.specs.Prelude.{◌≡◌, ◌<◌, ◌≤◌, ℕ, List, Option, None, Some}
use Rattle.std.specs.Str.Parse.{IsNumeral, digits_value}

abbrev pub IsNumber : ℕ → List ℕ → ℕ → Type 0
IsNumber base digits number = IsNumeral base digits × (digits_value base digits ≡ number)

abbrev pub IsDecimal : List ℕ → ℕ → Type 0
IsDecimal digits number = IsNumber 10 digits number

-- What a reader of digits answers: the number, or nothing where they state none of at most `most`.
abbrev pub ReadsNumber : ℕ → List ℕ → ℕ → Option ℕ → Type 0
ReadsNumber base digits most (Some number) = IsNumber base digits number × (number ≤ most)
ReadsNumber base digits most None = (number : ℕ) → IsNumber base digits number → most < number
