-- Numbers that stop at 2^100, from where on no function is analysed.
use Rattle.std.specs.Prelude.{ℕ, ◌≡◌, ◌+◌, ◌≤◌, ◌<◌, ◌^◌, min, max, List, length, drop, slice_index, ◌*◌, [], ◌∷◌, Option, None, Some, IfSome, slice_get}
use Rattle.wc_model.specs.declared.flow_system.SystemStep.{SystemStep}
use Rattle.wc_model.specs.declared.graphs.Head.{Head}
use Rattle.wc_model.specs.declared.graphs.Nest.{Nest}
use Rattle.wc_model.specs.Flow.Ceiling.{ceiling_by, dearest, loops_out, rounds_of}

abbrev pub capped : ℕ → ℕ
capped n = min n (2 ^ 100)

-- the rounds of the first loops, each with those round it
abbrev pub AreRounds : List Head → List ℕ → ℕ → List ℕ → Type 0
AreRounds heads bounds count rounds = (k : ℕ) → k < count → slice_index rounds k ≡ capped (rounds_of bounds (loops_out heads (k + 1) (Some k)))

-- each node's dearest step so far
pub record AreDearest (steps : List SystemStep) (nodes place : ℕ) (costs : List ℕ) : Type 0 where
  pub counted : length costs ≡ nodes
  pub some : (p : ℕ) → p < nodes → 1 ≤ slice_index costs p
  pub most : (p : ℕ) → p < nodes → max (slice_index costs p) (dearest (drop place steps) p) ≡ dearest steps p

-- the rounds of the loops that a place lies in, by the innermost one
abbrev pub rounds_within : List ℕ → Option ℕ → ℕ
rounds_within rounds None = 1
rounds_within rounds (Some k) = slice_index rounds k

-- the sum over the nodes, from a sum so far
abbrev pub capped_total : List ℕ → List ℕ → ℕ → List (Option ℕ) → ℕ
capped_total rounds [] sum inside = sum
capped_total rounds (cost ∷ costs) sum [] = sum
capped_total rounds (cost ∷ costs) sum (o ∷ inside) = capped_total rounds costs (capped (sum + capped (cost * rounds_within rounds o))) inside

-- the bounds are numbers of 32 bits
abbrev pub AreSmall : List ℕ → Type 0
AreSmall bounds = (k : ℕ) → slice_index bounds k < 2 ^ 32

-- a larger loop stands before those in it, and its rounds are known
abbrev pub AreOuterFirst : List Head → Type 0
AreOuterFirst heads = (k : ℕ) (h : Head) → slice_get heads k ≡ Some h → IfSome h.parent (λ j. j < k)

abbrev pub HasOuter : List Head → ℕ → List ℕ → Type 0
HasOuter heads place rounds = (h : Head) → slice_get heads place ≡ Some h → IfSome h.parent (λ k. k < length rounds)

abbrev pub IsCappedCeiling : Nest → List ℕ → List SystemStep → ℕ → Type 0
IsCappedCeiling nest bounds steps n = n ≡ capped (ceiling_by nest bounds (length nest.inside) steps)
