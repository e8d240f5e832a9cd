-- The loop facts by their address: the last one of each, and for each one the one before.
use Rattle.std.specs.Prelude.{ℕ, suc, ◌+◌, ◌++◌, [], ◌∷◌, ◌≡◌, ◌<◌, ◌≤◌, ◌⊎◌, List, Option, None, Some, slice_get, length}
use Rattle.std.specs.BTreeMap.{Updates, get}
use Rattle.std.specs.Ordering.{nat_cmp}
use Rattle.wc_model.specs.declared.flow_facts.Fact.{Fact}
use Rattle.wc_model.specs.declared.flow_facts.Fact.TheVariants.{Loop}
use Rattle.wc_model.specs.Program.Positions.{Position}
use Rattle.wc_bounds.specs.declared.best.Best.{Best}
use Rattle.wc_bounds.specs.declared.stated.Stated.{Stated}
use Rattle.wc_bounds.specs.Inner.Best.{best_of, offered}

-- the address of a fact that states a loop's bound
abbrev pub loop_at : Fact → Option ℕ
loop_at (Loop at (Some _) _) = Some at
loop_at _ = None

-- the places up to one
abbrev pub places_before : Option ℕ → ℕ
places_before None = 0
places_before (Some j) = suc j

module _ (facts : List (ℕ × Fact)) where
  abbrev pub IsLoopAt : ℕ → ℕ → Type 0
  IsLoopAt i at = (f : ℕ × Fact) × (slice_get facts i ≡ Some f) × (loop_at f.1 ≡ Some at)

  -- the last loop fact of an address below a place
  abbrev pub IsLatest : ℕ → ℕ → Option ℕ → Type 0
  IsLatest at k None = (i : ℕ) → i < k → IsLoopAt i at → ⊥
  IsLatest at k (Some j) = (j < k) × IsLoopAt j at × ((i : ℕ) → j < i → i < k → IsLoopAt i at → ⊥)

  pub record IsStated (k : ℕ) (s : Stated) : Type 0 where
    pub counted : length s.before.items ≡ k
    pub last : (at : ℕ) → IsLatest at k (get nat_cmp s.last at)
    pub before : (i at : ℕ) (o : Option ℕ) → slice_get s.before.items i ≡ Some o → IsLoopAt i at → IsLatest at i o

  -- the best of what the facts from place `k` on state
  abbrev pub IsBestFrom : Position → ℕ → Option Best → Type 0
  IsBestFrom p k None = (i : ℕ) (f : ℕ × Fact) → k ≤ i → slice_get facts i ≡ Some f → offered p f.1 ≡ None
  IsBestFrom p k (Some b) =
      ((i : ℕ) × (f : ℕ × Fact) × (slice_get facts i ≡ Some f) × (offered p f.1 ≡ Some b))
      × ((i : ℕ) (f : ℕ × Fact) (c : Best) → k ≤ i → slice_get facts i ≡ Some f → offered p f.1 ≡ Some c → (c.depth < b.depth) ⊎ ((c.depth ≡ b.depth) × (b.bound ≤ c.bound)))

  -- the best with the fact at a place
  abbrev pub IsBestWith : Position → ℕ → Option Best → Option Best → Type 0
  IsBestWith p k old new = (f : ℕ × Fact) × (slice_get facts k ≡ Some f) × (new ≡ best_of old (offered p f.1))

  -- one more fact is stated
  abbrev pub IsAdded : ℕ → Stated → Stated → Type 0
  IsAdded k old new = IsStated k old → IsStated (k + 1) new

-- the fact at a place is the last one of its address
pub record IsPut (at index : ℕ) (old new : Stated) : Type 0 where
  pub last : Updates nat_cmp old.last new.last at (Some index)
  pub before : new.before.items ≡ old.before.items ++ get nat_cmp old.last at ∷ []
