-- Members of lists.
use Rattle.std.specs.Prelude.{ℕ, ◌≡◌, ◌<◌, ◌⊎◌, List, [], ◌∷◌}

abbrev pub Has : {X : Type 0} → List X → X → Type 0
Has [] t = ⊥
Has (x ∷ xs) t = (x ≡ t) ⊎ Has xs t

abbrev pub Inside : ℕ → List ℕ → Type 0
Inside count ks = (k : ℕ) → Has ks k → k < count
