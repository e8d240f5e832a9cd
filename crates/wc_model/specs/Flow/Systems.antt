-- The flow system of implicit path enumeration: a count per step, a row per loop and per stated limit.
-- After Li and Malik 1995.
use Rattle.std.specs.Prelude.{ℕ, zero, suc, ◌≡◌, ◌+◌, ◌<◌, ◌≤◌, ◌^◌, ℤ, pos, ◌-ℤ◌, unsigned_abs, Bool, false, not, ◌&&◌, ◌==◌, if◌then◌else◌, List, [], ◌∷◌, map, length, slice_get, slice_index_or, Option, None, Some, IfSome, All}
use Rattle.std.specs.List.{filter, flat_map}
use Rattle.wc_model.specs.declared.flow_facts.Fact.{Fact}
use Rattle.wc_model.specs.declared.flow_facts.Fact.TheVariants.{Loop, Multibranch, Multicall, Noreturn, Checksum, Limit}
use Rattle.wc_model.specs.declared.flow_facts.Term.{Term}
use Rattle.wc_model.specs.declared.flow_facts.Term.TheVariants.{Constant, Visits}
use Rattle.wc_model.specs.declared.flow_system.System.{System}
use Rattle.wc_model.specs.declared.flow_system.SystemLimit.{SystemLimit}
use Rattle.wc_model.specs.declared.flow_system.SystemLoop.{SystemLoop}
use Rattle.wc_model.specs.declared.flow_system.SystemStep.{SystemStep}
use Rattle.wc_model.specs.declared.graphs.Bounds.{Bounds}
use Rattle.wc_model.specs.declared.graphs.Context.{Context}
use Rattle.wc_model.specs.declared.graphs.Costs.{Costs}
use Rattle.wc_model.specs.declared.graphs.Graph.{Graph}
use Rattle.wc_model.specs.declared.graphs.Head.{Head}
use Rattle.wc_model.specs.declared.graphs.Nest.{Nest}
use Rattle.wc_model.specs.declared.graphs.Node.{Node}
use Rattle.wc_model.specs.declared.graphs.Step.{Step}
use Rattle.wc_model.specs.Flow.Bounds.{fits}
use Rattle.wc_model.specs.Flow.Places.{IsOnce, places_of}
use Rattle.wc_model.specs.Program.Positions.{Call, Position}

-- What holds of every system: places are in range, and each stands at most once in a list.
abbrev pub ArePlaces : ℕ → List ℕ → Type 0
ArePlaces count places = All (λ i. i < count) places × IsOnce places

pub record IsSystemLoop (s : System) (l : SystemLoop) : Type 0 where
  pub head : l.head < s.nodes
  pub bound : l.bound < 2 ^ 32
  pub back : ArePlaces (length s.steps) l.back
  pub entry : ArePlaces (length s.steps) l.entry

-- the nodes that a limit names
abbrev pub named_by : SystemLimit → List ℕ
named_by l = map (λ f. f.0) l.factors

pub record IsSystem (s : System) : Type 0 where
  pub start : s.start < s.nodes
  pub sources : All (λ t. t.source < s.nodes) s.steps
  pub targets : All (λ t. IfSome t.target (λ q. q < s.nodes)) s.steps
  pub loops : All (IsSystemLoop s) s.loops
  pub limits : All (λ l. ArePlaces s.nodes (named_by l)) s.limits

-- The system of a graph, its nest, the loops' bounds, the steps' costs and the flow facts.
abbrev pub system_steps : List Step → List ℕ → List SystemStep
system_steps [] costs = []
system_steps (s ∷ ss) [] = []
system_steps (s ∷ ss) (c ∷ cs) = record { source = s.source; target = s.target; cost = c } ∷ system_steps ss cs

-- a step leads to a node
abbrev pub leads_to : Option ℕ → ℕ → Bool
leads_to None p = false
leads_to (Some q) p = q == p

-- the steps to a loop's head are its back steps, as the nest marks them, and its entry steps
abbrev pub is_marked : Nest → ℕ → Bool
is_marked nest i = slice_index_or nest.back i false

abbrev pub is_back : Nest → ℕ → ℕ → SystemStep → Bool
is_back nest head i t = leads_to t.target head && is_marked nest i

abbrev pub is_entry : Nest → ℕ → ℕ → SystemStep → Bool
is_entry nest head i t = leads_to t.target head && not (is_marked nest i)

abbrev pub system_loop : Nest → List SystemStep → Head → ℕ → SystemLoop
system_loop nest steps h bound =
    record { head = h.node; bound = bound; back = places_of (is_back nest h.node) steps; entry = places_of (is_entry nest h.node) steps }

-- one loop per head, in the nest's order
abbrev pub system_loops : Nest → List SystemStep → List Head → List ℕ → List SystemLoop
system_loops nest steps [] bounds = []
system_loops nest steps (h ∷ hs) [] = []
system_loops nest steps (h ∷ hs) (n ∷ ns) = system_loop nest steps h n ∷ system_loops nest steps hs ns

-- The position of a node: the calls of its context, the innermost first, each of which stands on its parent's.
abbrev pub call_of : Context → Call
call_of c = record { returns = c.returns; callee = c.callee }

abbrev pub on_parent : (ℕ → List Call) → Call → Option ℕ → List Call
on_parent calls_at call None = []
on_parent calls_at call (Some parent) = call ∷ calls_at parent

abbrev pub in_context : (ℕ → List Call) → Option Context → List Call
in_context calls_at None = []
in_context calls_at (Some c) = on_parent calls_at (call_of c) c.parent

abbrev pub calls_from : List Context → ℕ → ℕ → List Call
calls_from contexts zero k = []
calls_from contexts (suc most) k = in_context (calls_from contexts most) (slice_get contexts k)

abbrev pub node_position : Graph → Node → Position
node_position graph node = record { calls = calls_from graph.contexts (length graph.contexts) node.context; pc = node.pc }

-- how often a side of a limit counts a visit of a position
abbrev pub times_in : Position → List Term → ℕ
times_in p [] = 0
times_in p (Constant n ∷ terms) = times_in p terms
times_in p (Visits times at within ∷ terms) = (if fits at within p then times else 0) + times_in p terms

abbrev pub constant_in : List Term → ℕ
constant_in [] = 0
constant_in (Constant n ∷ terms) = n + constant_in terms
constant_in (Visits times at within ∷ terms) = constant_in terms

-- the left terms count plus and the right ones minus, constants the other way round
abbrev pub stated_factor : List Term → List Term → Position → ℤ
stated_factor left right p = pos (times_in p left) -ℤ pos (times_in p right)

-- the nodes in order, each once, without those of factor 0
abbrev pub factor_pairs : Graph → List Term → List Term → ℕ → List Node → List (ℕ × ℤ)
factor_pairs graph left right first [] = []
factor_pairs graph left right first (node ∷ nodes) = (first, stated_factor left right (node_position graph node)) ∷ factor_pairs graph left right (first + 1) nodes

abbrev pub counts_some : ℕ × ℤ → Bool
counts_some f = not (unsigned_abs f.1 == 0)

abbrev pub stated_limit : Graph → List Term → List Term → SystemLimit
stated_limit graph left right =
    record { constant = pos (constant_in right) -ℤ pos (constant_in left); factors = filter counts_some (factor_pairs graph left right 0 graph.nodes) }

-- one limit per fact that states one, in order
abbrev pub fact_limits : Graph → Fact → List SystemLimit
fact_limits graph (Limit left right) = stated_limit graph left right ∷ []
fact_limits graph (Loop _ _ _) = []
fact_limits graph (Multibranch _ _) = []
fact_limits graph (Multicall _ _) = []
fact_limits graph (Noreturn _) = []
fact_limits graph (Checksum _ _) = []

pub record IsSystemOf (graph : Graph) (nest : Nest) (bounds : Bounds) (costs : Costs) (facts : List (ℕ × Fact)) (s : System) : Type 0 where
  pub nodes : s.nodes ≡ length graph.nodes
  pub steps : s.steps ≡ system_steps graph.steps costs.of
  pub start : s.start ≡ graph.start
  pub loops : s.loops ≡ system_loops nest s.steps nest.heads bounds.of
  pub limits : s.limits ≡ flat_map (λ f. fact_limits graph f.1) facts

-- What it needs of a nest, in numbers alone.
pub record IsNestShape (graph : Graph) (nest : Nest) : Type 0 where
  pub few : length nest.heads ≤ length graph.nodes
  pub heads : All (λ h. h.node < length graph.nodes) nest.heads
  pub apart : (i j : ℕ) (x y : Head) → slice_get nest.heads i ≡ Some x → slice_get nest.heads j ≡ Some y → x.node ≡ y.node → i ≡ j
  pub parents : (k : ℕ) (h : Head) → slice_get nest.heads k ≡ Some h → IfSome h.parent (λ j. j < k)
  pub inside_counted : length nest.inside ≡ length graph.nodes
  pub inside : All (λ o. IfSome o (λ k. k < length nest.heads)) nest.inside
  pub back_counted : length nest.back ≡ length graph.steps
