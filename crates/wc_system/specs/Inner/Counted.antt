-- Counts of steps and nodes.
use Rattle.std.specs.Prelude.{ℕ, ◌≡◌, ◌+◌, ◌*◌, ◌-◌, ◌<◌, ◌≤◌, Bool, not, ◌==◌, if◌then◌else◌, List, drop, length, slice_get, slice_index, slice_index_or, slice_set, false, Option, None, Some}
use Rattle.std.specs.List.{filter, range_with_len}
use Rattle.wc_model.specs.declared.flow_system.System.{System}
use Rattle.wc_model.specs.declared.flow_system.SystemStep.{SystemStep}
use Rattle.wc_model.specs.Flow.Cells.{columns_of, is_passed, row_nodes}
use Rattle.wc_model.specs.Flow.Places.{places_from}
use Rattle.wc_model.specs.Flow.Systems.{leads_to}

-- the cells of a system that gets so many limits
abbrev pub rows_with : System → ℕ → ℕ
rows_with s limits = length (row_nodes s) + length s.loops + limits

abbrev pub cells_with : System → ℕ → ℕ
cells_with s limits = (rows_with s limits + 2) * (length (columns_of s) + (length s.loops + limits) + rows_with s limits + 2)

-- per node, how many steps pass a test of the node, so far
pub record AreCounts (passes : ℕ → SystemStep → Bool) (steps : List SystemStep) (nodes place : ℕ) (counts : List ℕ) : Type 0 where
  pub counted : length counts ≡ nodes
  pub few : (p : ℕ) → p < nodes → slice_index counts p ≤ place
  pub each : (p : ℕ) → p < nodes → slice_index counts p + length (places_from place (λ i t. passes p t) (drop place steps)) ≡ length (places_from 0 (λ i t. passes p t) steps)

abbrev pub leaves_node : ℕ → SystemStep → Bool
leaves_node p t = t.source == p

abbrev pub enters_node : ℕ → SystemStep → Bool
enters_node p t = leads_to t.target p

-- which of the first nodes are passed through
pub record ArePassed (s : System) (count : ℕ) (passed : List Bool) : Type 0 where
  pub counted : length passed ≡ count
  pub each : (p : ℕ) → p < count → slice_index_or passed p false ≡ is_passed s p

-- the nodes from one on that aren't passed through
abbrev pub rows_from : System → ℕ → List ℕ
rows_from s first = filter (λ p. not (is_passed s p)) (range_with_len first (s.nodes - first))

-- one more at a node, if there is one
abbrev pub raised : Option ℕ → List ℕ → List ℕ
raised None counts = counts
raised (Some q) counts = slice_set counts q (slice_index counts q + 1)

-- 1 for a step out of a node that isn't passed through
abbrev pub IsFirstCount : List SystemStep → List Bool → ℕ → ℕ → Type 0
IsFirstCount steps passed place count = (t : SystemStep) → slice_get steps place ≡ Some t → count ≡ (if slice_index_or passed t.source false then 0 else 1)
