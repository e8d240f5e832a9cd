-- The nest as far as the levels below one.
use Rattle.std.specs.Prelude.{ℕ, suc, ◌≡◌, ◌<◌, ◌≤◌, ◌↔◌, ◌⊎◌, Bool, true, List, ◌++◌, Option, None, Some, slice_get, slice_index_or, length}
use Rattle.wc_model.specs.declared.graphs.Graph.{Graph}
use Rattle.wc_model.specs.declared.graphs.Head.{Head}
use Rattle.wc_model.specs.declared.graphs.Step.{Step}
use Rattle.wc_model.specs.Flow.Nest.{StepsAt, IsBackStep, HeadAt, ClassAt, IsListed, ComesBefore, IsHeadFor, IsParent}
use Rattle.wc_model.specs.Program.Graphs.{LeadsIn}

module _ (graph : Graph) where
  abbrev pub StepAt : ℕ → ℕ → Option ℕ → Type 0
  StepAt = StepsAt (LeadsIn graph.steps) graph.start

  abbrev pub GoesBackAt : ℕ → Step → Type 0
  GoesBackAt k s = (h : ℕ) × (s.target ≡ Some h) × IsBackStep (LeadsIn graph.steps) graph.start k s.source h

  abbrev pub IsInsideBelow : List Head → ℕ → ℕ → Option ℕ → Type 0
  IsInsideBelow heads to p None = 0 < to → ClassAt graph 0 p p → ⊥
  IsInsideBelow heads to p (Some i) = (k : ℕ) × (k < to) × IsHeadFor graph heads k i p × (suc k < to → ClassAt graph (suc k) p p → ⊥)

  pub record IsNestBelow (to : ℕ) (heads : List Head) (inside : List (Option ℕ)) (back : List Bool) : Type 0 where
    pub single : (k p q : ℕ) → k < to → HeadAt graph k p → HeadAt graph k q → ClassAt graph k p q → p ≡ q
    pub all : (k h : ℕ) → k < to → HeadAt graph k h → (i : ℕ) × (x : Head) × (slice_get heads i ≡ Some x) × (x.node ≡ h)
    pub places : (i : ℕ) (x : Head) → slice_get heads i ≡ Some x → (k : ℕ) × (least : ℕ) × (k < to) × IsListed graph k x.node least × IsParent graph heads k x.node x.parent
    pub ordered : (i j : ℕ) (x y : Head) → i < j → slice_get heads i ≡ Some x → slice_get heads j ≡ Some y → ComesBefore graph x y
    pub inside_counted : length inside ≡ length graph.nodes
    pub smallest : (p : ℕ) (o : Option ℕ) → slice_get inside p ≡ Some o → IsInsideBelow heads to p o
    pub back_counted : length back ≡ length graph.steps
    pub backs : (i : ℕ) (s : Step) → slice_get graph.steps i ≡ Some s → (slice_get back i ≡ Some true) ↔ ((k : ℕ) × (k < to) × GoesBackAt k s)

  -- what the level adds
  pub record IsNestAt (to : ℕ) (heads : List Head) (inside : List (Option ℕ)) (back : List Bool) (new_heads : List Head) (new_inside : List (Option ℕ)) (new_back : List Bool) : Type 0 where
    pub single : (p q : ℕ) → HeadAt graph to p → HeadAt graph to q → ClassAt graph to p q → p ≡ q
    pub grown : (added : List Head) × (new_heads ≡ heads ++ added)
    pub added_head : (i : ℕ) (x : Head) → length heads ≤ i → slice_get new_heads i ≡ Some x → (least : ℕ) × IsListed graph to x.node least × (x.parent ≡ slice_index_or inside least None)
    pub all : (h : ℕ) → HeadAt graph to h → (i : ℕ) × (x : Head) × (slice_get new_heads i ≡ Some x) × (x.node ≡ h)
    pub ordered : (i j : ℕ) (x y : Head) (a b : ℕ) → length heads ≤ i → i < j → slice_get new_heads i ≡ Some x → slice_get new_heads j ≡ Some y → IsListed graph to x.node a → IsListed graph to y.node b → a < b
    pub decides : (p : ℕ) → ClassAt graph to p p ⊎ (ClassAt graph to p p → ⊥)
    pub in_loop : (p : ℕ) → ClassAt graph to p p → (i : ℕ) × (slice_get new_inside p ≡ Some (Some i)) × IsHeadFor graph new_heads to i p
    pub outside : (p : ℕ) → (ClassAt graph to p p → ⊥) → slice_get new_inside p ≡ slice_get inside p
    pub inside_counted : length new_inside ≡ length inside
    pub back_counted : length new_back ≡ length back
    pub backs : (i : ℕ) (s : Step) → slice_get graph.steps i ≡ Some s → (slice_get new_back i ≡ Some true) ↔ ((slice_get back i ≡ Some true) ⊎ GoesBackAt to s)
