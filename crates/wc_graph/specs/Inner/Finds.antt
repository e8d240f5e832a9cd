-- What is put into a bucket, and what is found there.
use Rattle.std.specs.Prelude.{ℕ, ◌≡◌, List, ◌∷◌, Option, None, Some, set, slice_get}
use Rattle.wc_graph.specs.declared.frames.Place.{Place}
use Rattle.wc_graph.specs.Inner.Lists.{Has}

-- a number in the bucket at which the place stands, or that there is none
abbrev pub Finds : List (List ℕ) → ℕ → List Place → Place → Option ℕ → Type 0
Finds buckets bucket places place (Some k) = slice_get places k ≡ Some place
Finds buckets bucket places place None = (own : List ℕ) (k : ℕ) → slice_get buckets bucket ≡ Some own → Has own k → slice_get places k ≡ Some place → ⊥

-- the number goes first in its bucket
abbrev pub AddsItem : List (List ℕ) → List (List ℕ) → ℕ → ℕ → Type 0
AddsItem old new bucket item = (own : List ℕ) → slice_get old bucket ≡ Some own → new ≡ set old bucket (item ∷ own)
