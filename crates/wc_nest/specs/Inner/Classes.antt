-- The classes of a level: which nodes lead to each other.
use Rattle.std.specs.Prelude.{ℕ, suc, ◌≡◌, ◌<◌, ◌≤◌, ◌⊎◌, Bool, true, false, List, [], Some, Contains, slice_get, slice_index, length}
use Rattle.wc_model.specs.Program.Reaching.{Reaches}
use Rattle.wc_nest.specs.declared.marking.Mark.{Mark}
use Rattle.wc_nest.specs.declared.marking.Mark.TheVariants.{New}
use Rattle.wc_nest.specs.declared.search.Search.{Search}
use Rattle.wc_nest.specs.declared.ways.Way.{Way}
use Rattle.wc_nest.specs.Inner.Marking.{IsMarked, IsOf}
use Rattle.wc_nest.specs.Inner.Searches.{IsSearch, IsTarget, Spreads}
use Rattle.wc_nest.specs.Inner.Ways.{WaysLead}

-- the way before leaves another node, or this one
abbrev pub IsFirstWay : List Way → ℕ → Bool → Type 0
IsFirstWay ways k true = (i : ℕ) (s t : Way) → suc i ≡ k → slice_get ways i ≡ Some s → slice_get ways k ≡ Some t → s.source ≡ t.source → ⊥
IsFirstWay ways k false = (i : ℕ) × (s : Way) × (t : Way) × (suc i ≡ k) × (slice_get ways i ≡ Some s) × (slice_get ways k ≡ Some t) × (s.source ≡ t.source)

-- the ways below place `k`: where the ways of their nodes begin
pub record StartsAt (ways : List Way) (next : List ℕ) (i : ℕ) (s : Way) : Type 0 where
  pub before : slice_index next s.source ≤ i
  pub from : (j : ℕ) (t : Way) → slice_get ways j ≡ Some t → slice_index next s.source ≤ j → s.source ≤ t.source

abbrev pub AreFirst : List Way → ℕ → List ℕ → Type 0
AreFirst ways k next = (i : ℕ) (s : Way) → i < k → slice_get ways i ≡ Some s → StartsAt ways next i s

-- a search before it begins
pub record IsFresh (s : Search) : Type 0 where
  pub unmarked : (p : ℕ) (m : Mark) → slice_get s.marks.items p ≡ Some m → m ≡ New
  pub sized : length s.marks.items ≤ length s.next.items
  pub path : s.path.items ≡ []
  pub stack : s.stack.items ≡ []
  pub bounds : s.bounds.items ≡ []

-- a search in which each marked node has its class
pub record IsRested (ways : List Way) (s : Search) : Type 0 where
  pub search : IsSearch ways s
  pub path : s.path.items ≡ []

pub record IsRun (ways : List Way) (old new : Search) : Type 0 where
  pub rested : IsRested ways new
  pub spreads : Spreads ways old.marks.items new.marks.items

-- a node and what it leads to have their classes
pub record IsVisit (ways : List Way) (node : ℕ) (old new : Search) : Type 0 where
  pub rested : IsRested ways new
  pub sized : length new.marks.items ≡ length old.marks.items
  pub kept : (p : ℕ) → IsMarked old.marks.items p → IsMarked new.marks.items p
  pub led : (p : ℕ) → IsMarked new.marks.items p → IsMarked old.marks.items p ⊎ ((p ≡ node) ⊎ IsTarget ways p)
  pub marked : IsMarked new.marks.items node

-- the members, and only they, have a class; the nodes of one class lead to each other, and no way leads to a class of a
-- greater number
pub record AreClasses (ways : List Way) (members : List ℕ) (marks : List Mark) (count : ℕ) : Type 0 where
  pub numbered : (p : ℕ) → Contains members p → (c : ℕ) × (c < count) × IsOf marks p c
  pub only : (p : ℕ) → IsMarked marks p → Contains members p
  pub alike : (p q c : ℕ) → IsOf marks p c → IsOf marks q c → Reaches (WaysLead ways) p q
  pub falls : (p q c d : ℕ) → IsOf marks p c → IsOf marks q d → Reaches (WaysLead ways) p q → d ≤ c

pub record IsClassified (ways : List Way) (members : List ℕ) (old new : Search) : Type 0 where
  pub classes : AreClasses ways members new.marks.items (length new.roots.items)
  pub marked : length new.marks.items ≡ length old.marks.items
  pub sized : length new.marks.items ≤ length new.next.items
  pub path : new.path.items ≡ []
  pub stack : new.stack.items ≡ []
  pub bounds : new.bounds.items ≡ []

-- the ends of each way are members
abbrev pub AreEnds : List Way → List ℕ → Type 0
AreEnds ways members = (w : Way) → Contains ways w → Contains members w.source × Contains members w.target
