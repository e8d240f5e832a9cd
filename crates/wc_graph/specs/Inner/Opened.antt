-- The functions that are open at each frame, as one set a frame.
use Rattle.std.specs.Prelude.{ℕ, ◌≡◌, ◌<◌, ◌≤◌, ◌↔◌, ◌⊎◌, ◌==◌, ◌||◌, Bool, false, List, Option, None, Some, length, slice_get}
use Rattle.std.specs.List.{list_any}
use Rattle.wc_model.specs.Program.Positions.{Call}
use Rattle.wc_graph.specs.declared.frames.Frame.{Frame}
use Rattle.wc_graph.specs.declared.frames.Turn.{Turn}
use Rattle.wc_graph.specs.declared.frames.Way.{Way}
use Rattle.wc_graph.specs.declared.frames.Way.TheVariants.{Go, Call as CallTo, Leave}
use Rattle.wc_graph.specs.declared.opened.Opened.{Opened}
use Rattle.wc_graph.specs.Inner.Frames.{HasStack}
use Rattle.wc_graph.specs.declared.keys.Branch.{Branch}
use Rattle.wc_graph.specs.Inner.Keys.{AreBranches, IsIn}

-- a way calls a function that is open
abbrev pub reopens : ℕ → List Call → Way → Bool
reopens entry calls (Go pc) = false
reopens entry calls (CallTo callee returns) = callee == entry || list_any (λ c. c.callee == callee) calls
reopens entry calls Leave = false

-- the function is open at the frame below, if there is one
abbrev pub IsOpenIn : List Branch → List ℕ → Option ℕ → ℕ → Type 0
IsOpenIn branches roots None key = ⊥
IsOpenIn branches roots (Some k) key = (root : ℕ) × (slice_get roots k ≡ Some root) × IsIn branches key key (Some root)

-- the root of the set of the frame below, if there is one
abbrev pub IsBelow : List ℕ → Option ℕ → Option ℕ → Type 0
IsBelow roots None below = below ≡ None
IsBelow roots (Some j) below = (root : ℕ) × (slice_get roots j ≡ Some root) × (below ≡ Some root)

-- the first frames have their sets: a frame's own function, and those that are open below
pub record AreOpenedOf (frames : List Frame) (branches : List Branch) (roots : List ℕ) : Type 0 where
  pub are : AreBranches branches
  pub few : length roots ≤ length frames
  pub inside : (k root : ℕ) → slice_get roots k ≡ Some root → root < length branches
  pub of : (k root : ℕ) (f : Frame) → slice_get roots k ≡ Some root → slice_get frames k ≡ Some f → (key : ℕ) → IsIn branches key key (Some root) ↔ (IsOpenIn branches roots f.parent key ⊎ (key ≡ f.callee))

abbrev pub AreOpened : List Frame → Opened → Type 0
AreOpened frames opened = AreOpenedOf frames opened.branches.items opened.roots.items

-- whether a way, or some way, calls a function that is open at the frame
abbrev pub TellsWay : List Frame → ℕ → Way → Bool → Type 0
TellsWay frames frame way told = (entry : ℕ) (calls : List Call) → HasStack entry frames frame calls → told ≡ reopens entry calls way

abbrev pub TellsWays : List Frame → ℕ → List Turn → Bool → Type 0
TellsWays frames frame turns told = (entry : ℕ) (calls : List Call) → HasStack entry frames frame calls → told ≡ list_any (λ t. reopens entry calls t.way) turns
