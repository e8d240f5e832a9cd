-- The first of several faults.
use Rattle.std.specs.Prelude.{◌≡◌, ◌<◌, ◌≤◌, ◌⊎◌, List, [], ◌∷◌, Option, None, Some}
use Rattle.wc_base.specs.Faults.{number_of}
use Rattle.wc_graph.specs.declared.faults.Faulty.{Faulty}

abbrev pub IsAmong : List Faulty → Faulty → Type 0
IsAmong [] f = ⊥
IsAmong (g ∷ gs) f = (g ≡ f) ⊎ IsAmong gs f

abbrev pub IsUpTo : Faulty → Faulty → Type 0
IsUpTo f g = (f.at < g.at) ⊎ ((f.at ≡ g.at) × (number_of f.fault ≤ number_of g.fault))

abbrev pub IsLeast : List Faulty → Option Faulty → Type 0
IsLeast faults None = faults ≡ []
IsLeast faults (Some f) = IsAmong faults f × ((g : Faulty) → IsAmong faults g → IsUpTo f g)
