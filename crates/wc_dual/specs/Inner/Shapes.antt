-- The parts of a certificate.
use Rattle.std.specs.Prelude.{ℕ, ◌≡◌, ◌<◌, ℤ, pos, ◌*ℤ◌, ◌≤ℤ◌, ◌<ℤ◌, List, All, length}
use Rattle.wc_model.specs.declared.flow_system.Ray.{Ray}
use Rattle.wc_model.specs.declared.flow_system.Solution.{Solution}
use Rattle.wc_model.specs.declared.flow_system.System.{System}
use Rattle.wc_model.specs.Flow.Certificates.{dual_value, solution_prices}
use Rattle.wc_model.specs.Flow.Counts.{IsBounded, IsLimited, cycles, value_of}
use Rattle.wc_model.specs.Flow.Places.{number_at}
use Rattle.wc_dual.specs.declared.prices.PriceLists.{PriceLists}
use Rattle.wc_dual.specs.Inner.Lines.{Fit}
use Rattle.wc_dual.specs.Inner.Parts.{AreBalanced}

-- no number is negative
abbrev pub AreSome : List ℤ → Type 0
AreSome zs = (i : ℕ) → i < length zs → pos 0 ≤ℤ number_at zs i

-- the lists of a certificate
abbrev pub AreOfSolution : Solution → PriceLists → Type 0
AreOfSolution c p = (p.u.now ≡ c.u) × (p.v.now ≡ c.v) × (p.w.now ≡ c.w)

abbrev pub AreOfRay : Ray → PriceLists → Type 0
AreOfRay c p = (p.u.now ≡ c.u) × (p.v.now ≡ c.v) × (p.w.now ≡ c.w)

-- as many prices as nodes, loops and limits, those of loops and limits not negative
abbrev pub AreFair : System → PriceLists → Type 0
AreFair s p = Fit s p × AreSome p.v.now × AreSome p.w.now

abbrev pub IsShaped : System → Solution → Type 0
IsShaped s c = (length c.x ≡ length s.steps) × AreSome c.x × (pos 0 <ℤ c.den) × (pos 0 <ℤ c.scale)

-- the rows of the counts
abbrev pub AreCounts : System → ℤ → (ℕ → ℤ) → Type 0
AreCounts s den x = AreBalanced s den x s.nodes × All (IsBounded s.start den x) s.loops × All (IsLimited s.steps den x) s.limits

-- both values
abbrev pub AreEqual : System → Solution → Type 0
AreEqual s c = (value_of cycles s.steps (number_at c.x) ≡ c.num) × (c.num *ℤ c.scale ≡ c.den *ℤ dual_value s (solution_prices c))
