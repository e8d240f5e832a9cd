-- Must and may: what is known at each node of the lines that the cache holds before its fetch. After Ferdinand and
-- Wilhelm 1999.
use Rattle.std.specs.Prelude.{ℕ, ◌≡◌, ◌+◌, ◌%◌, ◌<◌, ◌≤◌, ◌==◌, min, Bool, true, nat_lt, if◌then◌else◌, List, [], map, length, replicate, Option, None, Some, Contains, slice_get, slice_index_or}
use Rattle.wc_model.specs.declared.graphs.Flags.{Flags}
use Rattle.wc_model.specs.declared.graphs.Graph.{Graph}
use Rattle.wc_model.specs.declared.graphs.Node.{Node}
use Rattle.wc_model.specs.declared.graphs.Step.{Step}
use Rattle.wc_model.specs.declared.machine.Cache.{Cache}
use Rattle.wc_model.specs.declared.machine.StartState.{StartState}
use Rattle.wc_model.specs.declared.machine.StartState.TheVariants.{Empty, Any}
use Rattle.wc_model.specs.Cache.Lines.{line_of}

-- One set.

-- an age for each line, at most (must) or at least (may) that of the line in the cache; a line that isn't in the
-- state has the age `ways`, and an age above that says no more
pub record Ages : Type 0 where
  pub ways : ℕ
  pub age : ℕ → ℕ

abbrev pub no_lines : ℕ → Ages
no_lines ways = record { ways = ways; age = λ _. ways }

-- each line of `b` is in `a` with at most that age
abbrev pub MustPrecise : Ages → Ages → Type 0
MustPrecise a b = (a.ways ≡ b.ways) × ((y : ℕ) → a.age y ≤ b.age y)

-- each line of `a` is in `b` with at most that age
abbrev pub MayPrecise : Ages → Ages → Type 0
MayPrecise a b = (a.ways ≡ b.ways) × ((y : ℕ) → b.age y ≤ a.age y)

-- the accessed line gets the age 0, and the others below `limit` grow by one
abbrev pub aged : ℕ → (ℕ → ℕ) → ℕ → ℕ → ℕ
aged limit age line y = if y == line then 0 else (if nat_lt (age y) limit then age y + 1 else age y)

-- must: those younger than the line was; all others where it was absent
abbrev pub must_accessed : Ages → ℕ → Ages
must_accessed a line = record { ways = a.ways; age = aged (a.age line) a.age line }

-- may: those at most as old as the line was; all others where it was absent
abbrev pub may_accessed : Ages → ℕ → Ages
may_accessed a line = record { ways = a.ways; age = aged (min (a.age line + 1) a.ways) a.age line }

-- States for all nodes, of any kind: `access` is the line that each node fetches, if any.
module _ {State : Type 0} (precise : State → State → Type 0) (accessed : State → ℕ → State) where
  abbrev pub fetched : Option ℕ → State → State
  fetched None a = a
  fetched (Some line) a = accessed a line

  module _ (steps : List Step) (access : List (Option ℕ)) (start : ℕ) (first : State) where
    -- the state at the start is at most as precise as the first one, and that at the target of each step at most as
    -- precise as what the fetch at its source makes of the state there
    pub record IsSolution (solution : ℕ → State) : Type 0 where
      pub begins : precise first (solution start)
      pub along : (s : Step) (q : ℕ) → Contains steps s → s.target ≡ Some q → precise (fetched (slice_index_or access s.source None) (solution s.source)) (solution q)

    -- at least as precise as every solution, at each node
    pub record IsMostPrecise (nodes : ℕ) (solution : ℕ → State) : Type 0 where
      pub solves : IsSolution solution
      pub least : (other : ℕ → State) → IsSolution other → (p : ℕ) → p < nodes → precise (solution p) (other p)

-- The whole cache: the ages of each set, by its number.
abbrev pub Sets : Type 0
Sets = ℕ → Ages

abbrev pub everywhere : (Ages → Ages → Type 0) → Sets → Sets → Type 0
everywhere precise a b = (s : ℕ) → precise (a s) (b s)

abbrev pub accessed_in : (Ages → ℕ → Ages) → ℕ → Sets → ℕ → Sets
accessed_in accessed sets a line s = if s == line % sets then accessed (a s) line else a s

abbrev pub no_line : ℕ → Sets
no_line ways s = no_lines ways

abbrev pub in_state : ℕ → Sets → ℕ → Bool
in_state sets a line = nat_lt ((a (line % sets)).age line) (a (line % sets)).ways

-- Must and may of a graph.
module _ (graph : Graph) (cache : Cache) where
  abbrev pub accesses : List (Option ℕ)
  accesses = map (λ (n : Node). Some (line_of cache n.pc)) graph.nodes

  abbrev pub SolvesMust : (ℕ → Sets) → Type 0
  SolvesMust must = IsSolution (everywhere MustPrecise) (accessed_in must_accessed cache.sets) graph.steps accesses graph.start (no_line cache.ways) must

  abbrev pub SolvesMay : (ℕ → Sets) → Type 0
  SolvesMay may = IsSolution (everywhere MayPrecise) (accessed_in may_accessed cache.sets) graph.steps accesses graph.start (no_line cache.ways) may

  abbrev pub IsMust : (ℕ → Sets) → Type 0
  IsMust must = IsMostPrecise (everywhere MustPrecise) (accessed_in must_accessed cache.sets) graph.steps accesses graph.start (no_line cache.ways) (length graph.nodes) must

  abbrev pub IsMay : (ℕ → Sets) → Type 0
  IsMay may = IsMostPrecise (everywhere MayPrecise) (accessed_in may_accessed cache.sets) graph.steps accesses graph.start (no_line cache.ways) (length graph.nodes) may

  -- for each node whether its own line is in the state there
  pub record AreFlagsOf (states : ℕ → Sets) (flags : Flags) : Type 0 where
    pub count : length flags.yes ≡ length graph.nodes
    pub each : (p : ℕ) (n : Node) → slice_get graph.nodes p ≡ Some n → slice_get flags.yes p ≡ Some (in_state cache.sets (states p) (line_of cache n.pc))

  -- from any state of the cache each line counts as in may
  abbrev pub AreMayFlagsFrom : StartState → Flags → Type 0
  AreMayFlagsFrom Empty flags = (may : ℕ → Sets) × IsMay may × AreFlagsOf may flags
  AreMayFlagsFrom Any flags = flags.yes ≡ replicate (length graph.nodes) true

-- what the flags of must and may are; without a cache there are none
abbrev pub AreMustFlags : Graph → Option Cache → Flags → Type 0
AreMustFlags graph None flags = flags.yes ≡ []
AreMustFlags graph (Some cache) flags = (must : ℕ → Sets) × IsMust graph cache must × AreFlagsOf graph cache must flags

abbrev pub AreMayFlags : Graph → Option Cache → Flags → Type 0
AreMayFlags graph None flags = flags.yes ≡ []
AreMayFlags graph (Some cache) flags = AreMayFlagsFrom graph cache cache.start flags
