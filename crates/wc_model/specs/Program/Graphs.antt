-- The control-flow graph of a function with its calls expanded: the positions on a walk from its start to its exit,
-- in order, and the steps between them. Call strings after Sharir and Pnueli 1981.
use Rattle.std.specs.Prelude.{ℕ, ◌≡◌, ◌<◌, ◌≤◌, ◌^◌, ◌↔◌, ◌⊎◌, List, [], ◌∷◌, Option, None, Some, IfSome, All, AllPairs, Contains, length, slice_get}
use Rattle.std.specs.List.{AllZip, flat_map}
use Rattle.std.specs.declared.cmp.Ordering.TheVariants.{Less}
use Rattle.wc_base.specs.declared.faults.Fault.{Fault}
use Rattle.wc_base.specs.declared.faults.Fault.TheVariants.{TooLarge, NoExit}
use Rattle.wc_base.specs.Faults.{number_of}
use Rattle.wc_model.specs.declared.elf_image.Image.{Image}
use Rattle.wc_model.specs.declared.flow_facts.Fact.{Fact}
use Rattle.wc_model.specs.declared.graphs.Context.{Context}
use Rattle.wc_model.specs.declared.graphs.Graph.{Graph}
use Rattle.wc_model.specs.declared.graphs.Node.{Node}
use Rattle.wc_model.specs.declared.graphs.Step.{Step as NumberedStep}
use Rattle.wc_model.specs.Flow.Ends.{step_ends}
use Rattle.wc_model.specs.Flow.Walks.{Joins}
use Rattle.wc_model.specs.Program.Positions.{Call, Position, start_of, position_cmp, stack_cmp}
use Rattle.wc_model.specs.Program.Reaching.{Reaches, Ends, IsLive}
use Rattle.wc_model.specs.Program.Steps.{Step, LeadsBy, fault_at, insn_at, steps_of}

-- The positions of the function at `entry`.
module _ (image : Image) (facts : List Fact) (entry : ℕ) where
  abbrev pub IsReached : Position → Type 0
  IsReached p = Reaches (LeadsBy (steps_of image facts entry)) (start_of entry) p

  abbrev pub IsLivePosition : Position → Type 0
  IsLivePosition p = IsLive (LeadsBy (steps_of image facts entry)) (start_of entry) p

  -- more than 100,000 positions are reached: 100,001 different ones are
  pub record IsTooLarge : Type 0 where
    pub many : List Position
    pub apart : (i j : ℕ) (p : Position) → slice_get many i ≡ Some p → slice_get many j ≡ Some p → i ≡ j
    pub count : length many ≡ 100001
    pub reached : (p : Position) → Contains many p → IsReached p

  -- one fault counts before another by its address, and at one address by its number
  abbrev pub Precedes : ℕ → Fault → ℕ → Fault → Type 0
  Precedes at fault other_at other = (at < other_at) ⊎ ((at ≡ other_at) × (number_of fault ≤ number_of other))

  -- the first fault of a reached position
  pub record IsFirstFault (fault : Fault) : Type 0 where
    pub place : Position
    pub reached : IsReached place
    pub faulty : fault_at image facts entry place ≡ Some fault
    pub first : (p : Position) (other : Fault) → IsReached p → fault_at image facts entry p ≡ Some other → Precedes place.pc fault p.pc other

  abbrev pub IsSound : Type 0
  IsSound = (p : Position) → IsReached p → fault_at image facts entry p ≡ None

  -- why there is no graph
  pub data IsGraphFault : Fault → Type 0 where
    large : IsTooLarge → IsGraphFault TooLarge
    faulty : (fault : Fault) → (IsTooLarge → ⊥) → IsFirstFault fault → IsGraphFault fault
    endless : (IsTooLarge → ⊥) → IsSound → (Ends (LeadsBy (steps_of image facts entry)) (start_of entry) → ⊥) → IsGraphFault NoExit

  -- a step that the graph keeps: it leads to the exit or to a position on a walk to the exit
  abbrev pub IsKept : Step → Type 0
  IsKept s = IfSome s.target IsLivePosition

-- The members of a list that are kept, in order.
pub data AreKept {A : Type 0} (Keeps : A → Type 0) : List A → List A → Type 0 where
  nothing : AreKept Keeps [] []
  kept : {x : A} {all some : List A} → Keeps x → AreKept Keeps all some → AreKept Keeps (x ∷ all) (x ∷ some)
  left : {x : A} {all some : List A} → (Keeps x → ⊥) → AreKept Keeps all some → AreKept Keeps (x ∷ all) some

-- Numbers for positions.

-- the call stack of a context, the innermost call first
abbrev pub IsStack : ℕ → List Context → ℕ → List Call → Type 0
IsStack entry contexts k [] = slice_get contexts k ≡ Some (record { parent = None; returns = 0; callee = entry })
IsStack entry contexts k (call ∷ calls) =
    (j : ℕ) × (slice_get contexts k ≡ Some (record { parent = Some j; returns = call.returns; callee = call.callee })) × IsStack entry contexts j calls

-- a node stands for a position, with the instruction there
pub record IsNodeOf (image : Image) (entry : ℕ) (contexts : List Context) (node : Node) (p : Position) : Type 0 where
  pub stack : IsStack entry contexts node.context p.calls
  pub address : node.pc ≡ p.pc
  pub instruction : insn_at image p.pc ≡ Some node.insn

-- a numbered step stands for a step between positions
abbrev pub IsTargetOf : List Position → Option ℕ → Option Position → Type 0
IsTargetOf positions None t = t ≡ None
IsTargetOf positions (Some k) t = (p : Position) × (slice_get positions k ≡ Some p) × (t ≡ Some p)

pub record IsStepOf (positions : List Position) (numbered : NumberedStep) (s : Step) : Type 0 where
  pub source_is : slice_get positions numbered.source ≡ Some s.source
  pub target_is : IsTargetOf positions numbered.target s.target
  pub taken_is : numbered.taken ≡ s.taken

-- The graph of the function at `entry`: `positions` are its live positions and `stacks` their call stacks, each in
-- order; `steps` are all steps of these positions that are kept.
pub record IsGraphOf (image : Image) (facts : List Fact) (entry : ℕ) (graph : Graph) : Type 0 where
  pub positions : List Position
  pub stacks : List (List Call)
  pub steps : List Step
  pub small : IsTooLarge image facts entry → ⊥
  pub sound : IsSound image facts entry
  pub live : (p : Position) → Contains positions p ↔ IsLivePosition image facts entry p
  pub sorted : AllPairs (λ p q. position_cmp p q ≡ Less) positions
  pub nodes : AllZip (IsNodeOf image entry graph.contexts) graph.nodes positions
  pub stacked : (calls : List Call) → Contains stacks calls ↔ ((p : Position) × IsLivePosition image facts entry p × (p.calls ≡ calls))
  pub stacks_sorted : AllPairs (λ a b. stack_cmp a b ≡ Less) stacks
  pub contexts : (k : ℕ) (calls : List Call) → slice_get stacks k ≡ Some calls → IsStack entry graph.contexts k calls
  pub contexts_counted : length graph.contexts ≡ length stacks
  pub kept : AreKept (IsKept image facts entry) (flat_map (steps_of image facts entry) positions) steps
  pub numbered : AllZip (IsStepOf positions) graph.steps steps
  pub started : slice_get positions graph.start ≡ Some (start_of entry)

-- What the phases after it need of a graph, in numbers alone.

-- a numbered step leads from node to node, or to the exit
abbrev pub LeadsIn : List NumberedStep → ℕ → Option ℕ → Type 0
LeadsIn steps = Joins step_ends steps

pub record IsGraph (graph : Graph) : Type 0 where
  pub few : length graph.nodes ≤ 100000
  pub few_steps : length graph.steps < 2 ^ 32
  pub starts : graph.start < length graph.nodes
  pub sources : All (λ s. s.source < length graph.nodes) graph.steps
  pub targets : All (λ s. IfSome s.target (λ q. q < length graph.nodes)) graph.steps
  pub sorted : AllPairs (λ s t. s.source ≤ t.source) graph.steps
  pub live : (k : ℕ) → k < length graph.nodes → IsLive (LeadsIn graph.steps) graph.start k
  pub placed : All (λ n. n.context < length graph.contexts) graph.nodes
  pub parents : (k : ℕ) (c : Context) → slice_get graph.contexts k ≡ Some c → IfSome c.parent (λ j. j < k)
