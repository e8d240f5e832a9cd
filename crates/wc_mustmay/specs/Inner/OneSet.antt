-- One set: the lines of its own that nodes fetch, and the flags at these nodes.
use Rattle.std.specs.Prelude.{ℕ, ◌≡◌, ◌<◌, ◌≤◌, ◌^◌, ◌%◌, ◌==◌, Bool, true, false, if◌then◌else◌, List, map, Option, None, Some, IfSome, All, Contains, length, slice_index, slice_index_or, slice_set}
use Rattle.wc_ages.specs.States.{holds_line}
use Rattle.wc_model.specs.declared.graphs.Graph.{Graph}
use Rattle.wc_model.specs.declared.machine.Cache.{Cache}
use Rattle.wc_model.specs.Cache.Ages.{Ages, Sets, AreFlagsOf, IsMostPrecise, MustPrecise, MayPrecise, accessed_in, accesses, everywhere, must_accessed, may_accessed, no_line, no_lines}
use Rattle.wc_model.specs.Program.Graphs.{IsGraph}
use Rattle.wc_mustmay.specs.declared.one_set.Analysis.{Analysis}
use Rattle.wc_mustmay.specs.declared.one_set.Analysis.TheVariants.{Must, May}

abbrev pub of_set : ℕ → ℕ → Option ℕ → Option ℕ
of_set sets s None = None
of_set sets s (Some line) = if s == line % sets then Some line else None

abbrev pub own_access : ℕ → ℕ → List (Option ℕ) → List (Option ℕ)
own_access sets s access = map (of_set sets s) access

abbrev pub precise_of : Analysis → Ages → Ages → Type 0
precise_of Must = MustPrecise
precise_of May = MayPrecise

abbrev pub accessed_of : Analysis → Ages → ℕ → Ages
accessed_of Must = must_accessed
accessed_of May = may_accessed

-- what the flags of a set are made of
pub record IsSetReady (ways : ℕ) (graph : Graph) (own : List (Option ℕ)) (flags : List Bool) : Type 0 where
  pub is_graph : IsGraph graph
  pub some : 1 ≤ ways
  pub few : ways ≤ 8
  pub lines : length own ≡ length graph.nodes
  pub count : length flags ≡ length graph.nodes
  pub small : All (λ x. IfSome x (λ line. line < 2 ^ 32)) own

-- each node that fetches a line has the flag of that line in the most precise solution of the set
pub record AreOwnFlags (analysis : Analysis) (ways : ℕ) (graph : Graph) (own : List (Option ℕ)) (flags : List Bool) : Type 0 where
  pub states : ℕ → Ages
  pub most : IsMostPrecise (precise_of analysis) (accessed_of analysis) graph.steps own graph.start (no_lines ways) (length graph.nodes) states
  pub each : (p line : ℕ) → p < length graph.nodes → slice_index_or own p None ≡ Some line → slice_index_or flags p false ≡ holds_line (states p) line

-- and the other flags are as before
abbrev pub KeepsOthers : List (Option ℕ) → List Bool → List Bool → Type 0
KeepsOthers own old new = (p : ℕ) → slice_index_or own p None ≡ None → slice_index_or new p false ≡ slice_index_or old p false

-- the flag at a node
abbrev pub new_flag : {L : Type 0} → (L → Ages) → Option L → Option ℕ → Bool → Bool
new_flag ages None line old = old
new_flag ages (Some state) None old = old
new_flag ages (Some state) (Some line) old = holds_line (ages state) line

abbrev pub AreWritten : {L : Type 0} → (L → Ages) → List (Option L) → List (Option ℕ) → List Bool → List Bool → Type 0
AreWritten ages states lines old new =
    (p : ℕ) → p < length old → slice_index_or new p false ≡ new_flag ages (slice_index_or states p None) (slice_index_or lines p None) (slice_index_or old p false)

-- each state is made for the line at its node
abbrev pub AreNamedIn : {L : Type 0} → (L → ℕ) → List (Option L) → List (Option ℕ) → Type 0
AreNamedIn named states lines = (p : ℕ) → IfSome (slice_index_or states p None) (λ a. IfSome (slice_index_or lines p None) (λ l. l < named a))

-- every set has its flags
abbrev pub AreAllFlags : Analysis → ℕ → ℕ → Graph → List (Option ℕ) → List Bool → Type 0
AreAllFlags analysis ways sets graph access flags = (s : ℕ) → AreOwnFlags analysis ways graph (own_access sets s access) flags

-- the sets before place `number` in a list of sets have theirs
pub record AreSomeFlags (analysis : Analysis) (ways sets : ℕ) (graph : Graph) (access : List (Option ℕ)) (met : List ℕ) (number : ℕ) (flags : List Bool) : Type 0 where
  pub count : length flags ≡ length graph.nodes
  pub done : (k : ℕ) → k < number → AreOwnFlags analysis ways graph (own_access sets (slice_index met k) access) flags

-- a list has the set of each line
abbrev pub HasSets : ℕ → List (Option ℕ) → List ℕ → Type 0
HasSets sets access met = (p line : ℕ) → slice_index_or access p None ≡ Some line → Contains met (line % sets)

-- the set of a line is marked as seen
abbrev pub IsMet : Option ℕ → List Bool → List Bool → Type 0
IsMet None old new = new ≡ old
IsMet (Some line) old new = new ≡ slice_set old (line % length old) true

-- the flags are those of the most precise solution over all sets
abbrev pub AreFlagsBy : Analysis → Graph → Cache → List Bool → Type 0
AreFlagsBy analysis graph cache flags =
    (states : ℕ → Sets)
    × IsMostPrecise (everywhere (precise_of analysis)) (accessed_in (accessed_of analysis) cache.sets) graph.steps (accesses graph cache) graph.start (no_line cache.ways) (length graph.nodes) states
    × AreFlagsOf graph cache states (record { yes = flags })
