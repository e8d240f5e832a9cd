-- A number that no bound of a function passes: from 2^100 on it isn't analysed.
use Rattle.std.specs.Prelude.{ℕ, zero, suc, ◌+◌, ◌*◌, max, ◌==◌, if◌then◌else◌, List, [], ◌∷◌, map, length, slice_get, slice_index, slice_index_or, Option, None, Some}
use Rattle.std.specs.List.{range_with_len}
use Rattle.std.specs.Option.{option_and_then}
use Rattle.wc_model.specs.declared.flow_system.System.{System}
use Rattle.wc_model.specs.declared.flow_system.SystemStep.{SystemStep}
use Rattle.wc_model.specs.declared.graphs.Head.{Head}
use Rattle.wc_model.specs.declared.graphs.Nest.{Nest}

-- the greater of 1 and the greatest cost of a node's steps
abbrev pub dearest : List SystemStep → ℕ → ℕ
dearest [] p = 1
dearest (t ∷ steps) p = if t.source == p then max t.cost (dearest steps p) else dearest steps p

-- the loops round a node, the innermost first: each head names the next larger loop
abbrev pub parent_of : List Head → ℕ → Option ℕ
parent_of heads k = option_and_then (λ h. h.parent) (slice_get heads k)

abbrev pub loops_out : List Head → ℕ → Option ℕ → List ℕ
loops_out heads most None = []
loops_out heads zero (Some k) = []
loops_out heads (suc most) (Some k) = k ∷ loops_out heads most (parent_of heads k)

abbrev pub loops_round : Nest → ℕ → List ℕ
loops_round nest p = loops_out nest.heads (length nest.heads) (slice_index_or nest.inside p None)

-- one more than the bound of each of some loops, multiplied
abbrev pub rounds_of : List ℕ → List ℕ → ℕ
rounds_of bounds [] = 1
rounds_of bounds (k ∷ loops) = (slice_index bounds k + 1) * rounds_of bounds loops

abbrev pub total : (ℕ → ℕ) → List ℕ → ℕ
total f [] = 0
total f (p ∷ ps) = f p + total f ps

-- the sum over the nodes of their dearest step times the rounds of the loops that they lie in
abbrev pub node_ceiling : Nest → List ℕ → List SystemStep → ℕ → ℕ
node_ceiling nest bounds steps p = dearest steps p * rounds_of bounds (loops_round nest p)

abbrev pub ceiling_by : Nest → List ℕ → ℕ → List SystemStep → ℕ
ceiling_by nest bounds nodes steps = total (node_ceiling nest bounds steps) (range_with_len 0 nodes)

abbrev pub ceiling_of : Nest → System → ℕ
ceiling_of nest s = ceiling_by nest (map (λ l. l.bound) s.loops) s.nodes s.steps
