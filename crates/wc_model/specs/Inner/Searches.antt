-- What a depth-first search knows while it runs.
use Rattle.std.specs.Prelude.{ℕ, ◌≡◌, ◌+◌, ◌-◌, ◌<◌, ◌≤◌, ◌⊎◌, List, Option, None, Some, Contains, slice_get, slice_index, slice_set, length, sum_by, MatchOption}
use Rattle.wc_model.specs.declared.walks.search.Mark.{Mark}
use Rattle.wc_model.specs.declared.walks.search.Mark.TheVariants.{New, Open, Done}
use Rattle.wc_model.specs.declared.walks.search.Search.{Search}
use Rattle.wc_model.specs.Flow.Ends.{Ends}
use Rattle.wc_model.specs.Flow.Walks.{Joins, IsCycle, IsOrdered}
use Rattle.wc_model.specs.Program.Reaching.{Reaches}

-- the rounds that may be left: two for a new node, one for an open one, and one for each step that isn't followed
abbrev pub weight : Mark → ℕ
weight New = 2
weight Open = 1
weight Done = 0

abbrev pub rounds_left : {S : Type 0} → List S → Search → ℕ
rounds_left steps search = sum_by weight search.marks.items + sum_by (λ place. length steps - place) search.next.items

-- the places after one more step of a node is followed
abbrev pub followed : List ℕ → ℕ → List ℕ
followed next node = slice_set next node (slice_index next node + 1)

module _ {S : Type 0} (ends : S → Ends) where
  -- each step in this range of places leaves an earlier node
  abbrev pub LeaveBefore : List S → ℕ → ℕ → ℕ → Type 0
  LeaveBefore steps node from to = (i : ℕ) (s : S) → from ≤ i → i < to → slice_get steps i ≡ Some s → (ends s).source < node

  -- the open nodes are those on the path from the start, and each step that was followed leads to a node that is done
  pub record IsSearchOf (steps : List S) (start : ℕ) (marks : List Mark) (next path done : List ℕ) : Type 0 where
    pub sized : length marks ≤ length next
    pub from : (p i : ℕ) (s : S) → p < length marks → slice_get steps i ≡ Some s → slice_index next p ≤ i → p ≤ (ends s).source
    pub passed : (i : ℕ) (s : S) (q : ℕ) → slice_get steps i ≡ Some s → i < slice_index next (ends s).source → (ends s).target ≡ Some q → slice_get marks q ≡ Some Done
    pub path_open : (p : ℕ) → Contains path p → slice_get marks p ≡ Some Open
    pub open_path : (p : ℕ) → slice_get marks p ≡ Some Open → Contains path p
    pub done_marked : (p : ℕ) → Contains done p → slice_get marks p ≡ Some Done
    pub marked_done : (p : ℕ) → slice_get marks p ≡ Some Done → Contains done p
    pub path_once : (i j p : ℕ) → slice_get path i ≡ Some p → slice_get path j ≡ Some p → i ≡ j
    pub chain : (i j p q : ℕ) → i ≤ j → slice_get path i ≡ Some p → slice_get path j ≡ Some q → Reaches (Joins ends steps) p q
    pub reached_path : (p : ℕ) → Contains path p → Reaches (Joins ends steps) start p
    pub reached_done : (p : ℕ) → Contains done p → Reaches (Joins ends steps) start p
    pub begun : Contains path start ⊎ Contains done start
    pub ordered : IsOrdered (Joins ends steps) done

  abbrev pub IsSearch : List S → Search → Type 0
  IsSearch steps search = IsSearchOf steps search.start search.marks.items search.next.items search.path.items search.done.items

  -- the step at a place leaves the node, or the steps from there on leave other ones
  abbrev pub IsNextStep : List S → ℕ → ℕ → Option S → Type 0
  IsNextStep steps node place None = (s : S) → slice_get steps place ≡ Some s → (ends s).source ≡ node → ⊥
  IsNextStep steps node place (Some s) = (slice_get steps place ≡ Some s) × ((ends s).source ≡ node)

  -- a round keeps what the search knows, and fewer are left
  abbrev pub IsRound : List S → Search → Search → Type 0
  IsRound steps old new = IsSearch steps new × (rounds_left steps new < rounds_left steps old)

  -- a round answers nothing, or a node that reaches itself
  abbrev pub RoundGives : List S → Search → Search → Option ℕ → Type 0
  RoundGives steps old new cycle = MatchOption cycle (IsRound steps old new) (IsCycle (Joins ends steps) old.start)
