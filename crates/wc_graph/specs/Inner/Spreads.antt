-- Numbers that are reached along lists of neighbours.
use Rattle.std.specs.Prelude.{ℕ, ◌≡◌, ◌+◌, ◌≤◌, ◌↔◌, ◌⊎◌, Bool, true, false, List, [], ◌∷◌, Some, length, slice_get}
use Rattle.wc_graph.specs.declared.live.Marked.{Marked}
use Rattle.wc_graph.specs.Inner.Lists.{Has, Inside}

abbrev pub IsMarked : List Bool → ℕ → Type 0
IsMarked marks k = slice_get marks k ≡ Some true

abbrev pub unmarked : List Bool → ℕ
unmarked [] = 0
unmarked (true ∷ marks) = unmarked marks
unmarked (false ∷ marks) = unmarked marks + 1

abbrev pub AllInside : List (List ℕ) → Type 0
AllInside into = (k : ℕ) (v : List ℕ) → slice_get into k ≡ Some v → Inside (length into) v

pub record IsUnmarked (count : ℕ) (marked : Marked) : Type 0 where
  pub counted : length marked.marks.items ≡ count
  pub none : (k : ℕ) → IsMarked marked.marks.items k → ⊥
  pub rests : marked.work.items ≡ []

-- these numbers are marked now, and those that weren't wait
pub record Marks (ks : List ℕ) (old new : Marked) : Type 0 where
  pub count : length new.marks.items ≡ length old.marks.items
  pub stays : (k : ℕ) → IsMarked old.marks.items k → IsMarked new.marks.items k
  pub from : (k : ℕ) → IsMarked new.marks.items k → IsMarked old.marks.items k ⊎ Has ks k
  pub all : (k : ℕ) → Has ks k → IsMarked new.marks.items k
  pub waits : (k : ℕ) → IsMarked new.marks.items k → IsMarked old.marks.items k ⊎ Has new.work.items k
  pub work_stays : (k : ℕ) → Has old.work.items k → Has new.work.items k
  pub work_from : (k : ℕ) → Has new.work.items k → Has old.work.items k ⊎ Has ks k
  pub left : unmarked new.marks.items + length new.work.items ≤ unmarked old.marks.items + length old.work.items

pub data Spread (into : List (List ℕ)) (from : List ℕ) : ℕ → Type 0 where
  begins : (k : ℕ) → Has from k → Spread into from k
  goes : {k : ℕ} (j : ℕ) (v : List ℕ) → Spread into from k → slice_get into k ≡ Some v → Has v j → Spread into from j

pub record IsSpreading (into : List (List ℕ)) (from : List ℕ) (marked : Marked) : Type 0 where
  pub count : length marked.marks.items ≡ length into
  pub sound : (k : ℕ) → IsMarked marked.marks.items k → Spread into from k
  pub started : (k : ℕ) → Has from k → IsMarked marked.marks.items k
  pub closed : (k j : ℕ) (v : List ℕ) → IsMarked marked.marks.items k → slice_get into k ≡ Some v → Has v j → IsMarked marked.marks.items j ⊎ Has marked.work.items k
  pub waiting : (k : ℕ) → Has marked.work.items k → IsMarked marked.marks.items k

pub record IsSpread (into : List (List ℕ)) (from : List ℕ) (marks : List Bool) : Type 0 where
  pub count : length marks ≡ length into
  pub is : (k : ℕ) → IsMarked marks k ↔ Spread into from k
