-- A table of the best ways to a goal: the head of a loop, to which a back step leads, or else the exit.
use Rattle.std.specs.Prelude.{ℕ, ◌≡◌, ◌+◌, ◌≤◌, ◌<◌, Bool, true, false, if◌then◌else◌, List, length, slice_index, slice_index_or, slice_get, take, ◌^◌, nat_le, Option, None, Some, IfSome, option_map}
use Rattle.std.specs.List.{sum_by}
use Rattle.wc_model.specs.declared.flow_system.System.{System}
use Rattle.wc_model.specs.declared.flow_system.SystemStep.{SystemStep}
use Rattle.wc_model.specs.declared.graphs.Nest.{Nest}
use Rattle.wc_model.specs.Flow.Ceiling.{dearest}
use Rattle.wc_model.specs.Flow.Systems.{IsSystem, is_marked, leads_to}
use Rattle.wc_nestsolve.specs.declared.found.Found.{Found}
use Rattle.wc_nestsolve.specs.Inner.Nested.{IsStep}

abbrev pub found_at : List (Option Found) → ℕ → Option Found
found_at best p = slice_index_or best p None

abbrev pub value_of_found : Option Found → ℕ
value_of_found None = 0
value_of_found (Some f) = f.value

-- what a way that begins with a step is worth, by the surcharges of nodes and what is found where the step leads
abbrev pub reach_exit : Option ℕ → ℕ → Option ℕ
reach_exit None cost = Some cost
reach_exit (Some h) cost = None

abbrev pub reach_node : Bool → Option ℕ → ℕ → ℕ → List ℕ → List (Option Found) → Option ℕ
reach_node true goal cost q extra best = if leads_to goal q then Some cost else None
reach_node false goal cost q extra best = option_map (λ f. cost + (slice_index extra q + f.value)) (found_at best q)

abbrev pub reach : Option ℕ → Bool → ℕ → Option ℕ → List ℕ → List (Option Found) → Option ℕ
reach goal back cost None extra best = reach_exit goal cost
reach goal back cost (Some q) extra best = reach_node back goal cost q extra best

abbrev pub worth_of : Option ℕ → Bool → SystemStep → List ℕ → List (Option Found) → Option ℕ
worth_of goal back t extra best = reach goal back t.cost t.target extra best

-- a step of a node that is worth what was found
module _ (s : System) (nest : Nest) (goal : Option ℕ) (extra : List ℕ) (best : List (Option Found)) where
  pub record IsAttained (p : ℕ) (f : Found) : Type 0 where
    pub step : SystemStep
    pub at : IsStep s nest f.place step
    pub source : step.source ≡ p
    pub worth : worth_of goal (is_marked nest f.place) step extra best ≡ Some f.value

-- `best` has the greatest worth of the steps of each of some nodes, and a step that is worth it
module _ (s : System) (nest : Nest) (goal : Option ℕ) (Inside : ℕ → Type 0) (extra : List ℕ) (best : List (Option Found)) where
  pub record IsTable : Type 0 where
    pub within : (p : ℕ) (f : Found) → found_at best p ≡ Some f → Inside p
    pub most : (i z : ℕ) (t : SystemStep) → IsStep s nest i t → Inside t.source → worth_of goal (is_marked nest i) t extra best ≡ Some z → (f : Found) × (found_at best t.source ≡ Some f) × (z ≤ f.value)
    pub attained : (p : ℕ) (f : Found) → found_at best p ≡ Some f → IsAttained s nest goal extra best p f

-- A list of nodes in which each step ahead leads to a node that stands before, if to one of the list at all.
module _ (s : System) (nest : Nest) where
  pub record IsDownward (nodes : List ℕ) : Type 0 where
    pub once : (i j p : ℕ) → slice_get nodes i ≡ Some p → slice_get nodes j ≡ Some p → i ≡ j
    pub lower : (n i j q : ℕ) (t : SystemStep) → IsStep s nest n t → is_marked nest n ≡ false → t.target ≡ Some q → slice_get nodes i ≡ Some t.source → slice_get nodes j ≡ Some q → j < i

  -- one of the first `count` nodes
  abbrev pub IsAmong : List ℕ → ℕ → ℕ → Type 0
  IsAmong nodes count p = (j : ℕ) × (j < count) × (slice_get nodes j ≡ Some p)

  -- the best of the steps of one node
  pub record IsBestOf (goal : Option ℕ) (p : ℕ) (extra : List ℕ) (best : List (Option Found)) (found : Option Found) : Type 0 where
    pub most : (i z : ℕ) (t : SystemStep) → IsStep s nest i t → t.source ≡ p → worth_of goal (is_marked nest i) t extra best ≡ Some z → (f : Found) × (found ≡ Some f) × (z ≤ f.value)
    pub attained : (f : Found) → found ≡ Some f → IsAttained s nest goal extra best p f

-- What the code holds.

-- a sum with what is found at a node fits
abbrev pub AreSmall : List ℕ → List (Option Found) → Type 0
AreSmall extra best = (q : ℕ) (f : Found) → found_at best q ≡ Some f → slice_index extra q + f.value < 2 ^ 127

abbrev pub better_of : Option Found → Option ℕ → ℕ → Option Found
better_of found None place = found
better_of None (Some z) place = Some (record { value = z; place = place })
better_of (Some f) (Some z) place = if nat_le z f.value then Some f else Some (record { value = z; place = place })

abbrev pub IsInside : List ℕ → List (Option Found) → SystemStep → Type 0
IsInside extra best t = IfSome t.target (λ q. (q < length extra) × (q < length best))

module _ (s : System) (nest : Nest) where
  -- the best of the steps from one place to another
  pub record IsBestIn (goal : Option ℕ) (extra : List ℕ) (best : List (Option Found)) (from to : ℕ) (found : Option Found) : Type 0 where
    pub most : (i z : ℕ) (t : SystemStep) → IsStep s nest i t → from ≤ i → i < to → worth_of goal (is_marked nest i) t extra best ≡ Some z → (f : Found) × (found ≡ Some f) × (z ≤ f.value)
    pub attained : (f : Found) → found ≡ Some f → (t : SystemStep) × IsStep s nest f.place t × (from ≤ f.place) × (f.place < to) × (worth_of goal (is_marked nest f.place) t extra best ≡ Some f.value)

  -- the lists of the system and of the tables
  pub record AreTables (extra : List ℕ) (best : List (Option Found)) : Type 0 where
    pub sound : IsSystem s
    pub few : length s.steps < 2 ^ 32
    pub marks : length nest.back ≡ length s.steps
    pub extra_counted : length extra ≡ s.nodes
    pub best_counted : length best ≡ s.nodes

  -- the better of what was found and the way that begins with the step at a place
  abbrev pub IsLooked : Option ℕ → List ℕ → List (Option Found) → ℕ → Option Found → Option Found → Type 0
  IsLooked goal extra best place found new = (t : SystemStep) × IsStep s nest place t × (new ≡ better_of found (worth_of goal (is_marked nest place) t extra best) place)

  -- what a node adds at most to a value
  abbrev pub charge : List ℕ → ℕ → ℕ
  charge extra p = dearest s.steps p + slice_index extra p

  -- nodes whose ways can be found
  pub record AreFillable (extra nodes : List ℕ) : Type 0 where
    pub down : IsDownward s nest nodes
    pub known : (i p : ℕ) → slice_get nodes i ≡ Some p → p < s.nodes
    pub room : sum_by (charge extra) nodes < 2 ^ 127

  pub record IsFilled (goal : Option ℕ) (extra nodes : List ℕ) (count : ℕ) (best : List (Option Found)) : Type 0 where
    pub counted : length best ≡ s.nodes
    pub table : IsTable s nest goal (IsAmong s nest nodes count) extra best
    pub low : (p : ℕ) (f : Found) → found_at best p ≡ Some f → slice_index extra p + f.value ≤ sum_by (charge extra) (take count nodes)

abbrev pub IsClear : List (Option Found) → Type 0
IsClear best = (p : ℕ) → found_at best p ≡ None

-- what is found, is found at nodes of the list, from a place on
abbrev pub StandIn : List ℕ → ℕ → List (Option Found) → Type 0
StandIn nodes from best = (p : ℕ) (f : Found) → found_at best p ≡ Some f → (j : ℕ) × (from ≤ j) × (slice_get nodes j ≡ Some p)
