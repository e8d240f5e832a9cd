-- The slots of a must state.
use Rattle.std.specs.Prelude.{ℕ, ◌≡◌, ◌+◌, ◌-◌, ◌<◌, ◌≤◌, ◌==◌, ◌&&◌, max, min, Bool, nat_le, nat_lt, if◌then◌else◌, true, false, List, [], ◌∷◌, ◌++◌, All, drop, length, map, slice_index_or, slice_set, take}
use Rattle.std.specs.List.{sum_by}
use Rattle.wc_ages.specs.declared.slots.Slot.{Slot}
use Rattle.wc_ages.specs.AgeLaws.{grown}
use Rattle.wc_model.specs.Cache.Ages.{aged}

-- the age of a line, and `ways` where no slot has it
abbrev pub age_in : ℕ → List Slot → ℕ → ℕ
age_in ways [] line = ways
age_in ways (s ∷ slots) line = if s.line == line then min s.age (age_in ways slots line) else age_in ways slots line

-- how many slots are younger than `k`
abbrev pub one_below : ℕ → ℕ → ℕ
one_below k age = if nat_lt age k then 1 else 0

abbrev pub younger : ℕ → List Slot → ℕ
younger k slots = sum_by (λ s. one_below k s.age) slots

-- As many slots as ways; one whose age is `ways` is free. Of the others at most `k` are younger than `k`, so that a
-- line that comes in finds a slot.
pub record AreSlots (ways : ℕ) (slots : List Slot) : Type 0 where
  pub some : 1 ≤ ways
  pub few : ways ≤ 8
  pub sized : length slots ≡ ways
  pub capped : All (λ s. s.age ≤ ways) slots
  pub counted : (k : ℕ) → k ≤ ways → younger k slots ≤ k

-- what an access makes of a slot below the limit
abbrev pub older : ℕ → Slot → Slot
older limit s = record s { age = grown limit s.age }

-- where a line whose age is `age` is put: into its own slot, or where it is absent into one that leaves
abbrev pub is_place : ℕ → ℕ → ℕ → Slot → Bool
is_place ways line age s = if nat_lt age ways then (s.line == line && s.age == age) else nat_le (ways - 1) s.age

abbrev pub IsPlaceAt : ℕ → ℕ → ℕ → List Slot → ℕ → Type 0
IsPlaceAt ways line age slots k = (k < length slots) × ((d : Slot) → is_place ways line age (slice_index_or slots k d) ≡ true)

-- a line is fetched: the ages before and after
abbrev pub IsFetched : ℕ → ℕ → List Slot → List Slot → Type 0
IsFetched ways line old new = (y : ℕ) → age_in ways new y ≡ aged (age_in ways old line) (age_in ways old) line y

-- what a join makes of a slot
abbrev pub raised : ℕ → List Slot → Slot → Slot
raised ways other s = record s { age = max s.age (age_in ways other s.line) }

-- how far all ages are from `ways`
abbrev pub rank_of : ℕ → List Slot → ℕ
rank_of ways slots = sum_by (λ s. ways - s.age) slots

-- one slot is raised to its line's age in the other state
pub record IsRaisedAt (ways : ℕ) (other : List Slot) (place : ℕ) (old new : List Slot) (changed : Bool) : Type 0 where
  pub slots : (d : Slot) → new ≡ slice_set old place (raised ways other (slice_index_or old place d))
  pub same : changed ≡ false → new ≡ old
  pub greater : changed ≡ true → (d : Slot) → (slice_index_or old place d).age < age_in ways other (slice_index_or old place d).line

-- a join went over the first slots, `number` of them
pub record IsRaising (ways : ℕ) (other : List Slot) (number : ℕ) (old new : List Slot) (changed : Bool) : Type 0 where
  pub so_far : new ≡ map (raised ways other) (take number old) ++ drop number old
  pub same : changed ≡ false → new ≡ old
  pub falls : changed ≡ true → rank_of ways new < rank_of ways old
