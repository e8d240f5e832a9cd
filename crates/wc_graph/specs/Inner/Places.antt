-- Places in buckets.
use Rattle.std.specs.Prelude.{ℕ, ◌≡◌, ◌+◌, ◌*◌, ◌/◌, ◌%◌, List, Some, length, slice_get}
use Rattle.wc_graph.specs.declared.frames.Place.{Place}
use Rattle.wc_graph.specs.Inner.Lists.{Has}

abbrev pub slot_of : Place → ℕ
slot_of place = (place.pc / 4 + place.frame * 31153) % 32768

-- each number stands in the bucket of its place
pub record AreFound (places : List Place) (buckets : List (List ℕ)) : Type 0 where
  pub counted : length buckets ≡ 32768
  pub there : (k : ℕ) (x : Place) (own : List ℕ) → slice_get places k ≡ Some x → slice_get buckets (slot_of x) ≡ Some own → Has own k
