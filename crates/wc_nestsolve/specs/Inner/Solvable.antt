-- What the passes need of a system and its nest, in numbers alone.
use Rattle.std.specs.Prelude.{ℕ, ◌≡◌, ◌<◌, ◌≤◌, ◌^◌, false, AllPairs, length, slice_get, Option, Some, IfSome}
use Rattle.wc_model.specs.declared.flow_system.System.{System}
use Rattle.wc_model.specs.declared.flow_system.SystemStep.{SystemStep}
use Rattle.wc_model.specs.declared.graphs.Head.{Head}
use Rattle.wc_model.specs.declared.graphs.Nest.{Nest}
use Rattle.wc_model.specs.Flow.Ceiling.{ceiling_of}
use Rattle.wc_model.specs.Flow.Ends.{system_ends}
use Rattle.wc_model.specs.Flow.Systems.{IsSystem, is_marked}
use Rattle.wc_model.specs.Flow.Walks.{Joins, LeadsOn}
use Rattle.wc_model.specs.Program.Reaching.{Ends, Reaches}
use Rattle.wc_nestsolve.specs.Inner.Nested.{IsNested, IsStep}

-- a step that isn't a back step leads from `p` to `o`
abbrev pub LeadsAhead : System → Nest → ℕ → Option ℕ → Type 0
LeadsAhead s nest p o = (i : ℕ) × (t : SystemStep) × IsStep s nest i t × (is_marked nest i ≡ false) × (t.source ≡ p) × (t.target ≡ o)

pub record IsSolvable (nest : Nest) (s : System) : Type 0 where
  pub sound : IsSystem s
  pub few : s.nodes ≤ 100000
  pub few_steps : length s.steps < 2 ^ 32
  pub sorted : AllPairs (λ t r. t.source ≤ r.source) s.steps
  pub marks : length nest.back ≡ length s.steps
  pub inside_counted : length nest.inside ≡ s.nodes
  pub inside_known : (p k : ℕ) → slice_get nest.inside p ≡ Some (Some k) → k < length nest.heads
  pub parents : (k : ℕ) (h : Head) → slice_get nest.heads k ≡ Some h → IfSome h.parent (λ j. j < k)
  pub loops_counted : length s.loops ≡ length nest.heads
  pub loops_few : length s.loops ≤ s.nodes
  pub nested : IsNested s nest
  pub acyclic : (p : ℕ) → LeadsOn (LeadsAhead s nest) p p → ⊥
  pub reached : (p : ℕ) → p < s.nodes → Reaches (Joins system_ends s.steps) s.start p
  pub ending : (p : ℕ) → p < s.nodes → Ends (Joins system_ends s.steps) p
  pub below : ceiling_of nest s < 2 ^ 100
