-- The ranges of a hardware file's numbers.
use Rattle.std.specs.Prelude.{ℕ, Bool, true, ◌&&◌, ◌||◌, ◌==◌, nat_le, Option, None, Some}

abbrev pub is_set_count : ℕ → Bool
is_set_count n = n == 1 || n == 2 || n == 4 || n == 8 || n == 16 || n == 32 || n == 64 || n == 128 || n == 256 || n == 512

abbrev pub is_way_count : ℕ → Bool
is_way_count n = nat_le 1 n && nat_le n 8

abbrev pub is_line_size : ℕ → Bool
is_line_size n = n == 16 || n == 32 || n == 64

abbrev pub are_cache_numbers : ℕ → ℕ → ℕ → Bool
are_cache_numbers sets ways line = is_set_count sets && is_way_count ways && is_line_size line

-- a fetch takes no cycles of its own where there is no cache
abbrev pub uncached_costs_nothing : {C : Type 0} → ℕ → ℕ → Option C → Bool
uncached_costs_nothing hit miss None = hit == 0 && miss == 0
uncached_costs_nothing hit miss (Some _) = true
