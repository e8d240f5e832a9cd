-- When a list of descriptions is a registry, and how it is refused: by the first of the three faults, with the least
-- kind.
use Rattle.std.specs.Prelude.{ℕ, ◌≡◌, List, Result, Ok, Err}
use Rattle.wc_model.specs.declared.kinds.Describe.{Describe}
use Rattle.wc_model.specs.Workspace.Registry.{IsDoubled, IsMissing, IsCyclic, IsLeastWith}
use Rattle.wc_registry.specs.declared.faults.RegistryFault.{RegistryFault}
use Rattle.wc_registry.specs.declared.faults.RegistryFault.TheVariants.{Double, Missing, Cycle, Memory}

abbrev pub NoneWith : (ℕ → Type 0) → Type 0
NoneWith P = (k : ℕ) → P k → ⊥

pub record IsSound (kinds : List Describe) : Type 0 where
  pub single : NoneWith (IsDoubled kinds)
  pub complete : NoneWith (IsMissing kinds)
  pub acyclic : NoneWith (IsCyclic kinds)

abbrev pub IsRegistryOf : List Describe → Result (List Describe) RegistryFault → Type 0
IsRegistryOf kinds (Ok registry) = (registry ≡ kinds) × IsSound kinds
IsRegistryOf kinds (Err (Double k)) = IsLeastWith (IsDoubled kinds) k
IsRegistryOf kinds (Err (Missing k)) = NoneWith (IsDoubled kinds) × IsLeastWith (IsMissing kinds) k
IsRegistryOf kinds (Err (Cycle k)) = NoneWith (IsDoubled kinds) × NoneWith (IsMissing kinds) × IsLeastWith (IsCyclic kinds) k
IsRegistryOf kinds (Err (Memory error)) = Unit {0}
