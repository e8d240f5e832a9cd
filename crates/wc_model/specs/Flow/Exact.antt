-- Numbers and rows of numbers that stay within -(2^127 - 1) to 2^127 - 1: nothing where one would leave.
use Rattle.std.specs.Prelude.{ℕ, zero, suc, ◌+◌, ◌%◌, ◌^◌, Bool, nat_lt, nat_le, if◌then◌else◌, ℤ, pos, negsuc, ◌+ℤ◌, ◌-ℤ◌, ◌*ℤ◌, List, [], ◌∷◌, map, Option, None, Some, option_map, option_and_then, unsigned_abs}
use Rattle.std.specs.Prelude.{int_div}

abbrev pub fits : ℤ → Bool
fits (pos n) = nat_lt n (2 ^ 127)
fits (negsuc n) = nat_lt (n + 1) (2 ^ 127)

-- shut, for the numeral's sake
unfoldable pub exact : ℤ → Option ℤ
exact z = if fits z then Some z else None

abbrev pub add_exact : ℤ → ℤ → Option ℤ
add_exact x y = exact (x +ℤ y)

abbrev pub negate_exact : ℤ → Option ℤ
negate_exact x = exact (pos 0 -ℤ x)

-- a times x less b times y
abbrev pub mix : ℤ → ℤ → ℤ → ℤ → Option ℤ
mix a b x y = option_and_then (λ left. option_and_then (λ right. exact (left -ℤ right)) (exact (b *ℤ y))) (exact (a *ℤ x))

-- what `f` gives for each element, and nothing where it gives nothing for one
abbrev pub each_of : {X Y : Type 0} → (X → Option Y) → List X → Option (List Y)
each_of f [] = Some []
each_of f (x ∷ xs) = option_and_then (λ y. option_map (λ ys. y ∷ ys) (each_of f xs)) (f x)

-- a sum, added in the order of its list
abbrev pub sum_exact : ℤ → List ℤ → Option ℤ
sum_exact acc [] = Some acc
sum_exact acc (x ∷ xs) = option_and_then (λ sum. sum_exact sum xs) (add_exact acc x)

-- two rows added place by place
abbrev pub add_rows : List ℤ → List ℤ → Option (List ℤ)
add_rows [] ys = Some []
add_rows (x ∷ xs) [] = Some []
add_rows (x ∷ xs) (y ∷ ys) = option_and_then (λ z. option_map (λ zs. z ∷ zs) (add_rows xs ys)) (add_exact x y)

-- a times a row less b times another
abbrev pub mix_row : ℤ → ℤ → List ℤ → List ℤ → Option (List ℤ)
mix_row a b [] ys = Some []
mix_row a b (x ∷ xs) [] = Some []
mix_row a b (x ∷ xs) (y ∷ ys) = option_and_then (λ z. option_map (λ zs. z ∷ zs) (mix_row a b xs ys)) (mix a b x y)

-- The greatest common divisor, by Euclid's steps.
abbrev pub gcd_within : ℕ → ℕ → ℕ → ℕ
gcd_within zero a b = a
gcd_within (suc n) a zero = a
gcd_within (suc n) a (suc b) = gcd_within n (suc b) (a % suc b)

unfoldable pub gcd : ℕ → ℕ → ℕ
gcd a b = gcd_within (b + 1) a b

abbrev pub row_gcd : ℕ → List ℤ → ℕ
row_gcd g [] = g
row_gcd g (x ∷ xs) = row_gcd (gcd g (unsigned_abs x)) xs

-- a row divided by what all its entries have in common
abbrev pub lowest : List ℤ → List ℤ
lowest row = if nat_le (row_gcd 0 row) 1 then row else map (λ x. int_div x (pos (row_gcd 0 row))) row
