-- What the path-based search for the classes of a level knows while it runs. After Gabow 2000.
use Rattle.std.specs.Prelude.{ℕ, ◌++◌, ◌∷◌, [], drop, slice_set, ◌≡◌, ◌+◌, ◌-◌, ◌<◌, ◌≤◌, ◌⊎◌, Bool, true, false, List, Option, None, Some, AllPairs, Contains, slice_get, slice_index, length, sum_by}
use Rattle.wc_model.specs.Program.Reaching.{Reaches}
use Rattle.wc_nest.specs.declared.marking.Mark.{Mark}
use Rattle.wc_nest.specs.declared.marking.Mark.TheVariants.{New, Open, Done}
use Rattle.wc_nest.specs.declared.search.Search.{Search}
use Rattle.wc_nest.specs.declared.ways.Way.{Way}
use Rattle.wc_nest.specs.Inner.Marking.{IsMarked, set_all}
use Rattle.wc_nest.specs.Inner.Ways.{WaysLead}

-- no segment of the stack begins after place `j` and up to place `i`
abbrev pub Unbroken : List ℕ → ℕ → ℕ → Type 0
Unbroken bounds j i = (b : ℕ) → Contains bounds b → j < b → i < b

-- where a step from stack place `a` has been followed to: into the same segment, or to a class that is done
abbrev pub Led : List ℕ → ℕ → Option Mark → Type 0
Led bounds a None = ⊥
Led bounds a (Some New) = ⊥
Led bounds a (Some (Open j)) = Unbroken bounds j a
Led bounds a (Some (Done c)) = Unit {0}

-- each node's ways are followed in their order
abbrev pub AreNext : List Way → List ℕ → Type 0
AreNext ways next = (s t : Way) (k : ℕ) → Contains ways s → slice_get ways k ≡ Some t → slice_index next s.source ≤ k → s.source ≤ t.source

-- the nodes on the stack in the order of entry, the places where its segments begin, and those of the nodes with ways
-- to follow; class numbers never rise along a way
pub record IsSearchOf (ways : List Way) (marks : List Mark) (next path stack bounds : List ℕ) (count : ℕ) : Type 0 where
  pub sized : length marks ≤ length next
  pub from : AreNext ways next
  pub open_marked : (i p : ℕ) → slice_get stack i ≡ Some p → slice_get marks p ≡ Some (Open i)
  pub marked_open : (i p : ℕ) → slice_get marks p ≡ Some (Open i) → slice_get stack i ≡ Some p
  pub followed : (i : ℕ) (s : Way) (a : ℕ) → slice_get ways i ≡ Some s → i < slice_index next s.source → slice_get stack a ≡ Some s.source → Led bounds a (slice_get marks s.target)
  pub fresh : (i : ℕ) (s : Way) → slice_get ways i ≡ Some s → slice_get marks s.source ≡ Some New → slice_index next s.source ≤ i
  pub falls : (s : Way) (c : ℕ) → Contains ways s → slice_get marks s.source ≡ Some (Done c) → (d : ℕ) × (d ≤ c) × (slice_get marks s.target ≡ Some (Done d))
  pub alike : (p q c : ℕ) → slice_get marks p ≡ Some (Done c) → slice_get marks q ≡ Some (Done c) → Reaches (WaysLead ways) p q
  pub small : (p c : ℕ) → slice_get marks p ≡ Some (Done c) → c < count
  pub chain : (i j p q : ℕ) → i ≤ j → slice_get stack i ≡ Some p → slice_get stack j ≡ Some q → Reaches (WaysLead ways) p q
  pub joined : (i j p q : ℕ) → i ≤ j → Unbroken bounds i j → slice_get stack i ≡ Some p → slice_get stack j ≡ Some q → Reaches (WaysLead ways) q p
  pub finished : (a p : ℕ) → slice_get stack a ≡ Some p → Contains path a ⊎ ((i : ℕ) (s : Way) → slice_get ways i ≡ Some s → s.source ≡ p → i < slice_index next p)
  pub path_open : (a : ℕ) → Contains path a → a < length stack
  pub path_rises : AllPairs (λ a b. a < b) path
  pub bounds_rise : AllPairs (λ a b. a < b) bounds
  pub bounds_path : (b : ℕ) → Contains bounds b → Contains path b
  pub begins : 0 < length stack → Contains bounds 0

abbrev pub IsSearch : List Way → Search → Type 0
IsSearch ways s = IsSearchOf ways s.marks.items s.next.items s.path.items s.stack.items s.bounds.items (length s.roots.items)

-- the rounds that may be left: three for a new node, one for each place on the path and each bound, and one for each way
-- that isn't followed
abbrev pub weight : Mark → ℕ
weight New = 3
weight (Open _) = 0
weight (Done _) = 0

abbrev pub rounds_of : ℕ → List Mark → List ℕ → List ℕ → List ℕ → ℕ
rounds_of total marks next path bounds = sum_by weight marks + sum_by (λ place. total - place) next + length path + length bounds

abbrev pub rounds_left : List Way → Search → ℕ
rounds_left ways s = rounds_of (length ways) s.marks.items s.next.items s.path.items s.bounds.items

-- the way at a place leaves the node, or the ways from there on leave other ones
abbrev pub IsNextWay : List Way → ℕ → ℕ → Option Way → Type 0
IsNextWay ways node place None = (s : Way) → slice_get ways place ≡ Some s → s.source ≡ node → ⊥
IsNextWay ways node place (Some s) = (slice_get ways place ≡ Some s) × (s.source ≡ node)

-- whether the last segment begins at a place
abbrev pub IsBound : List ℕ → ℕ → Bool → Type 0
IsBound bounds place true = slice_get bounds (length bounds - 1) ≡ Some place
IsBound bounds place false = slice_get bounds (length bounds - 1) ≡ Some place → ⊥

-- the last bound, where it comes after a place
abbrev pub IsBoundAfter : List ℕ → ℕ → Option ℕ → Type 0
IsBoundAfter bounds place None = (b : ℕ) → slice_get bounds (length bounds - 1) ≡ Some b → b ≤ place
IsBoundAfter bounds place (Some b) = (slice_get bounds (length bounds - 1) ≡ Some b) × (place < b)

abbrev pub IsTarget : List Way → ℕ → Type 0
IsTarget ways p = (w : Way) × Contains ways w × (w.target ≡ p)

-- marked nodes stay so, and others become so only by a way to them
pub record Spreads (ways : List Way) (old new : List Mark) : Type 0 where
  pub sized : length new ≡ length old
  pub kept : (p : ℕ) → IsMarked old p → IsMarked new p
  pub led : (p : ℕ) → IsMarked new p → IsMarked old p ⊎ IsTarget ways p

-- a round keeps what the search knows, and fewer are left
pub record IsRound (ways : List Way) (old new : Search) : Type 0 where
  pub search : IsSearch ways new
  pub fewer : rounds_left ways new < rounds_left ways old
  pub spreads : Spreads ways old.marks.items new.marks.items

-- what a search does to its lists: a node is entered, a way of it followed, and the last segment closed
abbrev pub marks_entered : Search → ℕ → List Mark
marks_entered s node = slice_set s.marks.items node (Open (length s.stack.items))

abbrev pub with_top : Search → List ℕ → List ℕ
with_top s places = places ++ length s.stack.items ∷ []

abbrev pub next_followed : Search → ℕ → List ℕ
next_followed s node = slice_set s.next.items node (slice_index s.next.items node + 1)

abbrev pub marks_closed : Search → ℕ → List Mark
marks_closed s place = set_all s.marks.items (drop place s.stack.items) (Done (length s.roots.items))
