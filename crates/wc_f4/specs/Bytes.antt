-- The kinds of bytes of a text of flow facts, and runs of them.
use Rattle.std.specs.Prelude.{ℕ, suc, ◌+◌, ◌≤◌, Bool, not, ◌&&◌, ◌||◌, ◌==◌, nat_le, nat_lt, if◌then◌else◌, List, [], ◌∷◌, length, take, slice_index, Option, None, Some, option_map}
use Rattle.wc_f4.specs.declared.runs.Kind.{Kind}
use Rattle.wc_f4.specs.declared.runs.Kind.TheVariants.{Letter, Decimal, Hexadecimal, Quoted, Line}

abbrev pub is_blank : ℕ → Bool
is_blank b = b == 32 || b == 9 || b == 13 || b == 10

abbrev pub is_letter : ℕ → Bool
is_letter b = nat_le 97 b && nat_le b 122

abbrev pub is_digit : ℕ → Bool
is_digit b = nat_le 48 b && nat_le b 57

abbrev pub is_hexadecimal : ℕ → Bool
is_hexadecimal b = is_digit b || (nat_le 65 b && nat_le b 70) || (nat_le 97 b && nat_le b 102)

-- what may stand between quotation marks: any byte but `"` and LF
abbrev pub is_quoted : ℕ → Bool
is_quoted b = not (b == 34) && not (b == 10)

abbrev pub is_of : Kind → ℕ → Bool
is_of Letter b = is_letter b
is_of Decimal b = is_digit b
is_of Hexadecimal b = is_hexadecimal b
is_of Quoted b = is_quoted b
is_of Line b = not (b == 10)

-- how many bytes at the front of a text are of a kind
unfoldable pub run_length : Kind → List ℕ → ℕ
run_length kind [] = 0
run_length kind (b ∷ bs) = if is_of kind b then suc (run_length kind bs) else 0

-- the longest front of a text whose bytes are of a kind
abbrev pub run : Kind → List ℕ → List ℕ
run kind bytes = take (run_length kind bytes) bytes

-- the byte stands at the place
abbrev pub has_at : List ℕ → ℕ → ℕ → Bool
has_at bytes place byte = nat_lt place (length bytes) && slice_index bytes place == byte

-- some bytes at the front of a text
abbrev pub IsInside : ℕ → List ℕ → Type 0
IsInside count bytes = (1 ≤ count) × (count ≤ length bytes)

-- how many bytes there are up to the end of the first `*/`, if there is one
unfoldable pub closing_length : List ℕ → Option ℕ
closing_length [] = None
closing_length (b ∷ bs) = if b == 42 && has_at bs 0 47 then Some 2 else option_map (λ n. n + 1) (closing_length bs)
