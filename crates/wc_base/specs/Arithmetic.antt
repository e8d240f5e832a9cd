-- The whole numbers that the tool's exact arithmetic may give.
use Rattle.std.specs.Prelude.{ℤ, pos, negsuc, ◌≤ℤ◌, ◌-◌, ◌^◌}

-- from -(2^127 - 1) to 2^127 - 1
abbrev pub InRange : ℤ → Type 0
InRange z = (negsuc (2 ^ 127 - 2) ≤ℤ z) × (z ≤ℤ pos (2 ^ 127 - 1))
