-- The row machine on small systems that were worked out by hand.
use Rattle.std.proofs.Common.{◌≡◌, refl, ℕ, ℤ, pos, negsuc, List, [], ◌∷◌, None, Some}
use Rattle.wc_model.specs.declared.flow_system.System.{System}
use Rattle.wc_model.specs.declared.flow_system.SystemLimit.{SystemLimit}
use Rattle.wc_model.specs.declared.flow_system.SystemStep.{SystemStep}
use Rattle.wc_model.specs.Flow.Cells.{columns_of}
use Rattle.wc_model.specs.Flow.Exact.{exact, gcd}
use Rattle.wc_model.specs.Flow.RowMachine.{phase, driven}
use Rattle.wc_model.specs.Flow.RowResults.{RowOutcome, solved, no_path, row_outcome}

abbrev goes : ℕ → ℕ → SystemStep
goes p q = record { source = p; target = Some q; cost = 1 }

abbrev leaves : ℕ → SystemStep
leaves p = record { source = p; target = None; cost = 1 }

-- a countdown of four instructions, its loop bounded by `bound`, under one limit
abbrev countdown : ℕ → SystemLimit → System
countdown bound limit =
    record {
      nodes = 4;
      steps = goes 0 1 ∷ goes 1 2 ∷ goes 2 1 ∷ goes 2 3 ∷ leaves 3 ∷ [];
      start = 0;
      loops = record { head = 1; bound = bound; back = 2 ∷ []; entry = 0 ∷ [] } ∷ [];
      limits = limit ∷ [];
    }

-- the loop's head is visited at most five times
abbrev at_most_five : System
at_most_five = countdown 9 (record { constant = pos 5; factors = (1, pos 1) ∷ [] })

-- three rounds at most, but seven visits at least
abbrev at_least_seven : System
at_least_seven = countdown 2 (record { constant = negsuc 6; factors = (1, negsuc 0) ∷ [] })

-- a branch in a loop of one round more, taken at most one and a half times
abbrev halves_allowed : System
halves_allowed =
    record {
      nodes = 7;
      steps = goes 0 1 ∷ goes 1 2 ∷ goes 2 4 ∷ goes 2 3 ∷ goes 3 4 ∷ goes 4 5 ∷ goes 5 1 ∷ goes 5 6 ∷ leaves 6 ∷ [];
      start = 0;
      loops = record { head = 1; bound = 1; back = 6 ∷ []; entry = 0 ∷ [] } ∷ [];
      limits = record { constant = pos 3; factors = (3, pos 2) ∷ [] } ∷ [];
    }

abbrev value : RowOutcome → List ℤ
value (solved s) = s.num ∷ s.den ∷ []
value _ = []

abbrev is_refused : RowOutcome → ℕ
is_refused (no_path ray) = 43
is_refused _ = 0

columns : columns_of at_most_five ≡ (0 ∷ []) ∷ (1 ∷ []) ∷ (2 ∷ []) ∷ (3 ∷ 4 ∷ []) ∷ []
columns = refl

five_visits : value (row_outcome 50 at_most_five) ≡ pos 12 ∷ pos 1 ∷ []
unfolding exact gcd phase driven
five_visits = refl

no_seventh : is_refused (row_outcome 50 at_least_seven) ≡ 43
unfolding exact gcd phase driven
no_seventh = refl

one_and_a_half : value (row_outcome 50 halves_allowed) ≡ pos 23 ∷ pos 2 ∷ []
unfolding exact gcd phase driven
one_and_a_half = refl
