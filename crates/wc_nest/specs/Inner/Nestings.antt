-- What is held between the levels, and what a level does to it.
use Rattle.std.specs.Prelude.{ℕ, All, suc, ◌≡◌, ◌+◌, ◌<◌, ◌≤◌, Bool, true, List, None, Some, Contains, replicate, slice_get, length}
use Rattle.std.specs.List.{filter}
use Rattle.wc_model.specs.declared.graphs.Graph.{Graph}
use Rattle.wc_model.specs.declared.graphs.Step.{Step}
use Rattle.wc_model.specs.Flow.Nest.{IsIrreducible, IsNest}
use Rattle.wc_model.specs.Program.Graphs.{LeadsIn}
use Rattle.wc_nest.specs.declared.levels.Found.{Found}
use Rattle.wc_nest.specs.declared.levels.Level.{Level}
use Rattle.wc_nest.specs.declared.levels.Nesting.{Nesting}
use Rattle.wc_nest.specs.declared.levels.Next.{Next}
use Rattle.wc_nest.specs.declared.levels.Next.TheVariants.{Inner as InnerLevel, Second as SecondHead}
use Rattle.wc_nest.specs.declared.graph_nest.Whole.{Whole}
use Rattle.wc_nest.specs.declared.graph_nest.Whole.TheVariants.{Nested, Second}
use Rattle.wc_nest.specs.declared.search.Search.{Search}
use Rattle.wc_nest.specs.declared.ways.Way.{Way}
use Rattle.wc_nest.specs.Inner.Classes.{IsFresh, IsClassified}
use Rattle.wc_nest.specs.Inner.Found.{AreFound}
use Rattle.wc_nest.specs.Inner.Levels.{IsLevel, class_number, listed, list_nodes, is_looped, is_inner, back_ways}
use Rattle.wc_nest.specs.Inner.Marking.{set_all}
use Rattle.wc_nest.specs.Inner.Nests.{StepAt, IsNestBelow}
use Rattle.wc_nest.specs.Inner.Rooted.{IsRooted}

-- the first ways below place `count` of the graph's steps
pub record AreWays (steps : List Step) (count : ℕ) (ways : List Way) : Type 0 where
  pub sound : (w : Way) → Contains ways w → (w.place < count) × ((s : Step) × (slice_get steps w.place ≡ Some s) × (s.source ≡ w.source) × (s.target ≡ Some w.target))
  pub all : (i : ℕ) (s : Step) (q : ℕ) → i < count → slice_get steps i ≡ Some s → s.target ≡ Some q → (w : Way) × Contains ways w × (w.place ≡ i)
  pub sorted : (i j : ℕ) (v w : Way) → i < j → slice_get ways i ≡ Some v → slice_get ways j ≡ Some w → v.source ≤ w.source

abbrev pub AreNumbers : ℕ → List ℕ → Type 0
AreNumbers n members = (length members ≡ n) × ((i p : ℕ) → slice_get members i ≡ Some p → p ≡ i)

module _ (graph : Graph) where
  abbrev pub IsLevelAt : ℕ → Level → Type 0
  IsLevelAt k level = IsLevel (length graph.nodes) (StepAt graph k) graph.steps level.members.items level.ways.items

  -- the levels below `k` are in the nest, and the search is ready for level `k`
  pub record IsNesting (k : ℕ) (nesting : Nesting) (level : Level) : Type 0 where
    pub level_is : IsLevelAt k level
    pub below : IsNestBelow graph k nesting.listing.heads.items nesting.listing.inside.items nesting.back.items
    pub rooted : IsRooted (StepAt graph k) graph.start
    pub fresh : IsFresh nesting.search
    pub marks_counted : length nesting.search.marks.items ≡ length graph.nodes
    pub unflagged : (q : ℕ) → slice_get nesting.entered.items q ≡ Some true → ⊥
    pub flags_counted : length nesting.entered.items ≡ length graph.nodes

  -- the second head of a class, or the next level
  abbrev pub IsNext : ℕ → Level → Next → Nesting → Type 0
  IsNext k level (SecondHead q) new = IsIrreducible (LeadsIn graph.steps) graph.start (λ p r. p < r) q × (q < length graph.nodes)
  IsNext k level (InnerLevel inner) new = IsNesting (suc k) new inner × (length inner.ways.items < length level.ways.items)

  abbrev pub IsWhole : Whole → Type 0
  IsWhole (Second q) = IsIrreducible (LeadsIn graph.steps) graph.start (λ p r. p < r) q × (q < length graph.nodes)
  IsWhole (Nested nest) = IsNest graph nest

abbrev pub AreFoundIn : ℕ → Level → Nesting → List Bool → Found → Type 0
AreFoundIn start level nesting old found =
    AreFound start level.members.items level.ways.items nesting.search.marks.items (length nesting.search.roots.items) old nesting.entered.items found.looped.items found.pairs.items

-- the classes and heads of a level are found
pub record IsFinding (start : ℕ) (level : Level) (old new : Nesting) (found : Found) : Type 0 where
  pub are : AreFoundIn start level new old.entered.items found
  pub classified : IsClassified level.ways.items level.members.items old.search new.search
  pub flags_counted : length new.entered.items ≡ length old.entered.items
  pub listing : new.listing ≡ old.listing
  pub back : new.back ≡ old.back

-- they are added to the nest
pub record IsAdding (start : ℕ) (level : Level) (found : Found) (old new : Nesting) : Type 0 where
  pub heads : listed new.listing ≡ list_nodes old.search.marks.items found.looped.items found.pairs.items (record { heads = old.listing.heads.items; inside = old.listing.inside.items; places = replicate (length old.search.roots.items) None }) level.members.items
  pub back : new.back.items ≡ back_ways old.search.marks.items old.entered.items start old.back.items level.ways.items
  pub search : new.search ≡ old.search
  pub entered : new.entered ≡ old.entered

pub record IsInnerOf (start : ℕ) (level : Level) (found : Found) (nesting : Nesting) (inner : Level) : Type 0 where
  pub ways : inner.ways.items ≡ filter (is_inner nesting.search.marks.items nesting.entered.items start) level.ways.items
  pub members : inner.members.items ≡ filter (is_looped nesting.search.marks.items found.looped.items) level.members.items

-- what the first level, the next one, and one more step need and give

abbrev pub IsFirstNesting : Graph → Nesting → Type 0
IsFirstNesting graph nesting = (level : Level) → IsLevelAt graph 0 level → IsNesting graph 0 nesting level

abbrev pub IsStepped : Graph → Level → Nesting → Nesting → Next → Type 0
IsStepped graph level old new next = (k : ℕ) → IsNesting graph k old level → IsNext graph k level next new

abbrev pub AreSorted : List Step → Type 0
AreSorted steps = (i j : ℕ) (s t : Step) → i < j → slice_get steps i ≡ Some s → slice_get steps j ≡ Some t → s.source ≤ t.source

abbrev pub AddsWay : List Step → ℕ → List Way → List Way → Type 0
AddsWay steps k old new = AreWays steps k old → AreWays steps (k + 1) new

-- the classes of a level's members have numbers below a count
abbrev pub AreNumbered : Search → Level → ℕ → Type 0
AreNumbered s level count = All (λ p. class_number s.marks.items p < count) level.members.items

abbrev pub cleared : {X : Type 0} → Level → List X → X → List X
cleared level xs x = set_all xs level.members.items x
