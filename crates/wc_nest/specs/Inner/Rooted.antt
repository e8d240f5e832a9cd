-- Loops that are entered.
use Rattle.std.specs.Prelude.{◌≡◌, ◌⊎◌, Option}
use Rattle.wc_model.specs.Flow.Walks.{LeadsOn}
use Rattle.wc_model.specs.Program.Reaching.{Reaches}

-- each loop is reached from the start, or from a place that is in no loop
abbrev pub IsRooted : {P : Type 0} → (P → Option P → Type 0) → P → Type 0
IsRooted {P} Leads start = (p : P) → LeadsOn Leads p p → (r : P) × ((r ≡ start) ⊎ (LeadsOn Leads r r → ⊥)) × Reaches Leads r p
