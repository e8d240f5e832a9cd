-- What holds while `solve` is at work.
use Rattle.std.specs.Prelude.{ℕ, ◌≡◌, ◌<◌, ◌≤◌, ◌+◌, ◌*◌, ◌^◌, ◌⊎◌, Bool, true, false, List, [], Option, None, Some, IfSome, All, Contains, length, replicate, slice_index_or, slice_set, if◌then◌else◌}
use Rattle.std.specs.List.{sum_by}
use Rattle.wc_fix.specs.declared.fixing.Fixing.{Fixing}
use Rattle.wc_fix.specs.declared.lattice.Lattice.{Ghosts}
use Rattle.wc_fix.specs.Inner.Queues.{Waits, IsTaken}
use Rattle.wc_fix.specs.Orders.{IsLeast}
use Rattle.wc_fix.specs.Solved.{Alike, AllAlike}
use Rattle.wc_model.specs.declared.graphs.Step.{Step}
use Rattle.wc_model.specs.Cache.Ages.{IsSolution, fetched}
use Rattle.wc_model.specs.Flow.Ends.{step_ends}
use Rattle.wc_model.specs.Flow.Walks.{AreStepsOf}

abbrev pub state_at : {L : Type 0} → List (Option L) → ℕ → Option L
state_at states p = slice_index_or states p None

-- The work that is left: each change of a state lowers its weight, and lets its node wait at most once more.
abbrev pub weight : {L : Type 0} → Ghosts L → Option L → ℕ
weight lat None = 2 ^ 64
weight lat (Some a) = lat.rank a

abbrev pub flag : Bool → ℕ
flag true = 1
flag false = 0

abbrev pub work_left : {L : Type 0} → Ghosts L → List (Option L) → List Bool → ℕ
work_left lat states waiting = 2 * sum_by (weight lat) states + sum_by flag waiting

-- What is solved, from the value `first`.
pub record Problem (L : Type 0) : Type 0 where
  pub nodes : ℕ
  pub steps : List Step
  pub access : List (Option ℕ)
  pub start : ℕ
  pub first : L

-- the state at a node is above what a step brings there
abbrev pub IsAbove : {L : Type 0} (lat : Ghosts L) → List (Option L) → lat.State → ℕ → Type 0
IsAbove {L} lat states brought q = (b : L) × (state_at states q ≡ Some b) × lat.precise brought (lat.state b)

-- One state is raised above `after`: an unknown one is a copy of it.
module _ {L : Type 0} (lat : Ghosts L) where
  pub record IsCopy (after b : L) : Type 0 where
    pub same_state : lat.state b ≡ lat.state after
    pub alike : Alike lat after b
    pub small : lat.rank b < 2 ^ 64

  pub record IsJoin (a after b : L) (changed : Bool) : Type 0 where
    pub alike : Alike lat a b
    pub above_self : lat.precise (lat.state a) (lat.state b)
    pub above_other : lat.precise (lat.state after) (lat.state b)
    pub least : IsLeast lat.precise (lat.state a) (lat.state after) (lat.state b)
    pub unchanged : changed ≡ false → b ≡ a
    pub falls : changed ≡ true → lat.rank b < lat.rank a

  abbrev pub IsRaised : Option L → L → Option L → Bool → Type 0
  IsRaised None after new changed = (b : L) × (new ≡ Some b) × IsCopy after b × (changed ≡ true)
  IsRaised (Some a) after new changed = (b : L) × (new ≡ Some b) × IsJoin a after b changed

  -- the state at `target` is raised, and `target` waits where that changed it
  pub record IsLed (target : ℕ) (after : L) (states : List (Option L)) (waiting : List Bool) (new_states : List (Option L)) (new_waiting : List Bool) : Type 0 where
    pub slot : Option L
    pub changed : Bool
    pub raised : IsRaised (state_at states target) after slot changed
    pub states_are : new_states ≡ slice_set states target slot
    pub waiting_is : new_waiting ≡ (if changed then slice_set waiting target true else waiting)

  -- nothing is brought to the exit
  abbrev pub IsBrought : Option ℕ → L → List (Option L) → List Bool → List (Option L) → List Bool → Type 0
  IsBrought None after states waiting new_states new_waiting = (new_states ≡ states) × (new_waiting ≡ waiting)
  IsBrought (Some target) after states waiting new_states new_waiting = IsLed target after states waiting new_states new_waiting

  abbrev pub Solves : Problem L → (ℕ → lat.State) → Type 0
  Solves problem other = IsSolution lat.precise lat.accessed problem.steps problem.access problem.start (lat.state problem.first) other

  abbrev pub after_of : Problem L → ℕ → L → lat.State
  after_of problem p a = fetched lat.precise lat.accessed (slice_index_or problem.access p None) (lat.state a)

  -- Steps for which `left` holds are still to be followed.
  pub record IsFixing (problem : Problem L) (states : List (Option L)) (waiting : List Bool) (left : Step → Type 0) : Type 0 where
    pub counted : length states ≡ problem.nodes
    pub flagged : length waiting ≡ problem.nodes
    pub same : AllAlike lat problem.first states
    pub begun : IsAbove lat states (lat.state problem.first) problem.start
    pub least : (other : ℕ → lat.State) → Solves problem other → (p : ℕ) (a : L) → state_at states p ≡ Some a → lat.precise (lat.state a) (other p)
    pub known : (p : ℕ) → Waits waiting p → (a : L) × (state_at states p ≡ Some a)
    pub closed : (s : Step) (q : ℕ) (a : L) → Contains problem.steps s → s.target ≡ Some q → state_at states s.source ≡ Some a
        → Waits waiting s.source ⊎ (left s ⊎ IsAbove lat states (after_of problem s.source a) q)

  -- `node` is looked at: `own` are its steps that are still to come, and `after` is brought along them.
  pub record IsVisit (problem : Problem L) (node : ℕ) (above : L) (own : List Step) (states : List (Option L)) (waiting : List Bool) : Type 0 where
    pub fixing : IsFixing problem states waiting (λ s. (s.source ≡ node) × Contains own s)
    pub carried : Waits waiting node ⊎ ((a : L) × (state_at states node ≡ Some a) × (after_of problem node a ≡ lat.state above))
    pub brings : (other : ℕ → lat.State) → Solves problem other → (s : Step) (q : ℕ) → Contains own s → s.target ≡ Some q → lat.precise (lat.state above) (other q)

  -- `own` are the steps of `node` in the problem, and `its_line` is fetched there
  pub record IsAt (problem : Problem L) (node : ℕ) (own : List Step) (its_line : Option ℕ) : Type 0 where
    pub leave : AreStepsOf step_ends problem.steps node own
    pub fetches : slice_index_or problem.access node None ≡ its_line

  -- what a visit needs
  pub record IsReady (states : List (Option L)) (waiting : List Bool) (node : ℕ) (own : List Step) (its_line : Option ℕ) : Type 0 where
    pub counted : length waiting ≡ length states
    pub within : node < length states
    pub held : L
    pub holds : state_at states node ≡ Some held
    pub fits : IfSome its_line (λ line. line < lat.lines held)
    pub same : AllAlike lat held states
    pub targets : All (λ s. IfSome s.target (λ q. q < length states)) own

  -- some of a node's steps are followed: `own` are those to come
  pub record IsLeading (above : L) (all own : List Step) (states : List (Option L)) (waiting : List Bool) (new_states : List (Option L)) (new_waiting : List Bool) : Type 0 where
    pub counted : length new_states ≡ length states
    pub flagged : length new_waiting ≡ length waiting
    pub same : AllAlike lat above new_states
    pub work : work_left lat new_states new_waiting ≤ work_left lat states waiting
    pub visits : (problem : Problem L) (node : ℕ) → IsVisit problem node above all states waiting
        → IsVisit problem node above own new_states new_waiting

  -- What the methods of `Fixing` need and do.
  abbrev pub Ready : Fixing L → ℕ → List Step → Option ℕ → Type 0
  Ready f node own line = IsReady f.states.items f.waiting node own line

  abbrev pub Leads : ℕ → L → Fixing L → Fixing L → Type 0
  Leads target after old new = IsLed target after old.states.items old.waiting new.states.items new.waiting

  abbrev pub Brings : Option ℕ → L → Fixing L → Fixing L → Type 0
  Brings target after old new = IsBrought target after old.states.items old.waiting new.states.items new.waiting

  -- all steps in `own` are followed
  abbrev pub Follows : L → List Step → Fixing L → Fixing L → Type 0
  Follows above own old new =
      (problem : Problem L) (node : ℕ) → IsVisit problem node above own old.states.items old.waiting → IsVisit problem node above [] new.states.items new.waiting

  -- before the visit `node` waited
  abbrev pub KeepsFixing : ℕ → List Step → Option ℕ → Fixing L → Fixing L → Type 0
  KeepsFixing node own line old new =
      (problem : Problem L) (before : List Bool) → IsAt problem node own line → IsTaken node before old.waiting → IsFixing problem old.states.items before (λ _. ⊥)
      → IsFixing problem new.states.items new.waiting (λ _. ⊥)

  abbrev pub work_of : Fixing L → ℕ
  work_of f = work_left lat f.states.items f.waiting

  abbrev pub AddsNoWork : Fixing L → Fixing L → Type 0
  AddsNoWork old new = work_of new ≤ work_of old

-- the start alone has a state, and waits
pub record IsBegun {L : Type 0} (nodes start : ℕ) (first : L) (f : Fixing L) : Type 0 where
  pub states : f.states.items ≡ slice_set (replicate nodes None) start (Some first)
  pub waiting : f.waiting ≡ slice_set (replicate nodes false) start true

-- both lists have an item for each node
abbrev pub IsPaired : {L : Type 0} → Fixing L → Type 0
IsPaired f = length f.waiting ≡ length f.states.items

-- each step leads to a node, or to the exit
abbrev pub LeadInside : {L : Type 0} → Fixing L → List Step → Type 0
LeadInside f steps = All (λ s. IfSome s.target (λ q. q < length f.states.items)) steps
