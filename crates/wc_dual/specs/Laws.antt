-- The laws of certificates. With the costs of a solution the first one says that no feasible counts have a greater
-- value; with no costs at all it leaves none feasible where the value of the prices is below 0, as a ray's is.
use Rattle.std.specs.Prelude.{ℕ, ◌≡◌, ◌<◌, ℤ, pos, ◌*ℤ◌, ◌≤ℤ◌, List, length, None, Some, IfSome, All}
use Rattle.wc_model.specs.declared.flow_system.System.{System}
use Rattle.wc_model.specs.declared.flow_system.SystemStep.{SystemStep}
use Rattle.wc_model.specs.Flow.Certificates.{Prices, ArePrices, dual_value}
use Rattle.wc_model.specs.Flow.Counts.{IsFeasible, value_of}
use Rattle.wc_model.specs.Flow.SystemWalks.{IsPlaceWalk, MeetsRows, visits, walk_value}
use Rattle.wc_model.specs.Flow.Systems.{ArePlaces, named_by}

-- What the laws need of a system: nodes and places are in range, and each stands at most once in a list.
pub record HasPlaces (s : System) : Type 0 where
  pub start : s.start < s.nodes
  pub sources : All (λ t. t.source < s.nodes) s.steps
  pub targets : All (λ t. IfSome t.target (λ q. q < s.nodes)) s.steps
  pub backs : All (λ l. ArePlaces (length s.steps) l.back) s.loops
  pub entries : All (λ l. ArePlaces (length s.steps) l.entry) s.loops
  pub limits : All (λ l. ArePlaces s.nodes (named_by l)) s.limits

abbrev pub CertificatesBound : Type 0
CertificatesBound = (s : System) (cost : SystemStep → ℤ) (prices : Prices) (den : ℤ) (x : ℕ → ℤ)
    → HasPlaces s → ArePrices s cost prices → IsFeasible s den x → value_of cost s.steps x ≤ℤ (den *ℤ dual_value s prices)

abbrev pub WalksAreFeasible : Type 0
WalksAreFeasible = (s : System) (walk : List ℕ)
    → HasPlaces s → IsPlaceWalk s.steps (Some s.start) walk None → MeetsRows s walk
    → IsFeasible s (pos 1) (visits walk) × ((cost : SystemStep → ℤ) → value_of cost s.steps (visits walk) ≡ walk_value cost s.steps walk)
