-- Steps between numbered nodes, whatever else a step carries, and the walks that they make.
use Rattle.std.specs.Prelude.{ℕ, ◌≡◌, ◌+◌, ◌<◌, ◌≤◌, ◌↔◌, List, [], ◌∷◌, Option, None, Some, IfSome, IsSome, All, AllPairs, Contains, slice_get, slice_index, length}
use Rattle.wc_model.specs.declared.flow_system.SystemStep.{SystemStep}
use Rattle.wc_model.specs.declared.walks.best.Greatest.{Greatest}
use Rattle.wc_model.specs.declared.walks.best.Greatest.TheVariants.{Cycle, Cost}
use Rattle.wc_model.specs.declared.walks.search.Order.{Order}
use Rattle.wc_model.specs.declared.walks.search.Order.TheVariants.{Cycle as CycleAt, Nodes}
use Rattle.wc_model.specs.Flow.Ends.{Ends, system_ends}
use Rattle.wc_model.specs.Program.Reaching.{Reaches}

module _ {S : Type 0} (ends : S → Ends) where
  -- steps between the nodes below `nodes`, in the order of their sources
  pub record AreSteps (nodes : ℕ) (steps : List S) : Type 0 where
    pub sources : All (λ s. (ends s).source < nodes) steps
    pub targets : All (λ s. IfSome (ends s).target (λ q. q < nodes)) steps
    pub sorted : AllPairs (λ s t. (ends s).source ≤ (ends t).source) steps

  -- a step of the list leads from `p` to `t`
  abbrev pub Joins : List S → ℕ → Option ℕ → Type 0
  Joins steps p t = (s : S) × Contains steps s × ((ends s).source ≡ p) × ((ends s).target ≡ t)

  -- for each number below `count`, the place in `steps` where the steps from that node and later ones begin
  pub record AreStarts (count : ℕ) (steps : List S) (starts : List ℕ) : Type 0 where
    pub counted : length starts ≡ count
    pub inside : (k : ℕ) → k < count → slice_index starts k ≤ length steps
    pub below : (k i : ℕ) (s : S) → k < count → slice_get steps i ≡ Some s → i < slice_index starts k → (ends s).source < k
    pub from : (k i : ℕ) (s : S) → k < count → slice_get steps i ≡ Some s → slice_index starts k ≤ i → k ≤ (ends s).source

  -- exactly the steps that leave a node
  pub record AreStepsOf (steps : List S) (p : ℕ) (out : List S) : Type 0 where
    pub inside : (s : S) → Contains out s → Contains steps s × ((ends s).source ≡ p)
    pub all : (s : S) → Contains steps s → (ends s).source ≡ p → Contains out s

-- one or more steps lead from `p` to `q`
abbrev pub LeadsOn : {P : Type 0} → (P → Option P → Type 0) → P → P → Type 0
LeadsOn {P} Leads p q = (last : P) × Reaches Leads p last × Leads last (Some q)

module _ (Leads : ℕ → Option ℕ → Type 0) where
  -- each node once, and each step of a node leads to the end or to a node that stands before it
  pub record IsOrdered (order : List ℕ) : Type 0 where
    pub once : (i j p : ℕ) → slice_get order i ≡ Some p → slice_get order j ≡ Some p → i ≡ j
    pub earlier : (i p q : ℕ) → slice_get order i ≡ Some p → Leads p (Some q) → (j : ℕ) × (j < i) × (slice_get order j ≡ Some q)

  -- such an order of exactly the nodes that `start` reaches
  pub record IsOrder (start : ℕ) (order : List ℕ) : Type 0 where
    pub exactly : (p : ℕ) → Contains order p ↔ Reaches Leads start p
    pub ordered : IsOrdered order

  -- a reached node that leads on to itself
  abbrev pub IsCycle : ℕ → ℕ → Type 0
  IsCycle start p = Reaches Leads start p × LeadsOn Leads p p

  -- such a node, or the order
  abbrev pub IsSearched : ℕ → Order → Type 0
  IsSearched start (CycleAt p) = IsCycle start p
  IsSearched start (Nodes order) = IsOrder start order.items

  -- none of the nodes that `start` reaches leads on to itself
  abbrev pub IsAcyclicFrom : ℕ → Type 0
  IsAcyclicFrom start = (p : ℕ) → Reaches Leads start p → LeadsOn Leads p p → ⊥

-- Walks at a cost.

module _ (steps : List SystemStep) where
  -- a walk from a node, `Some p`, to the end, `None`: each step leaves where the one before led
  abbrev pub IsWalk : Option ℕ → List SystemStep → Type 0
  IsWalk at [] = at ≡ None
  IsWalk at (s ∷ walk) = Contains steps s × (at ≡ Some s.source) × IsWalk s.target walk

abbrev pub walk_cost : List SystemStep → ℕ
walk_cost [] = 0
walk_cost (s ∷ walk) = s.cost + walk_cost walk

-- the greatest cost of a walk from `p` to the end, and nothing where no walk leads there
pub record IsBest (steps : List SystemStep) (p : ℕ) (best : Option ℕ) : Type 0 where
  pub attained : IfSome best (λ b. (walk : List SystemStep) × IsWalk steps (Some p) walk × (walk_cost walk ≡ b))
  pub most : (walk : List SystemStep) → IsWalk steps (Some p) walk → (b : ℕ) × (best ≡ Some b) × (walk_cost walk ≤ b)

abbrev pub HasStep : List SystemStep → ℕ → Type 0
HasStep steps p = (s : SystemStep) × Contains steps s × (s.source ≡ p)

-- the best from `start`; there is one where each reached node has a step
pub record IsCostFrom (steps : List SystemStep) (start : ℕ) (best : Option ℕ) : Type 0 where
  pub acyclic : IsAcyclicFrom (Joins system_ends steps) start
  pub greatest : IsBest steps start best
  pub ends : ((p : ℕ) → Reaches (Joins system_ends steps) start p → HasStep steps p) → IsSome best

abbrev pub IsGreatestFrom : List SystemStep → ℕ → Greatest → Type 0
IsGreatestFrom steps start (Cycle p) = IsCycle (Joins system_ends steps) start p
IsGreatestFrom steps start (Cost best) = IsCostFrom steps start best
