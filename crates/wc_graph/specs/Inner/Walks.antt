-- The live frames in the order of their stacks.
use Rattle.std.specs.Prelude.{ℕ, ◌≡◌, ◌⊎◌, Bool, List, [], Some, reverse, length}
use Rattle.std.specs.List.{AllZip}
use Rattle.wc_model.specs.Program.Positions.{Call}
use Rattle.wc_graph.specs.declared.frames.Frame.{Frame}
use Rattle.wc_graph.specs.Inner.Frames.{HasStack, frame_at}
use Rattle.wc_graph.specs.Inner.Lists.{Has}
use Rattle.wc_graph.specs.Inner.Orders.{Before, Pairs, IsPreorder}
use Rattle.wc_graph.specs.Inner.Spreads.{IsMarked}

-- the stack of a frame, the outermost call first
abbrev pub IsOn : ℕ → List Frame → ℕ → List Call → Type 0
IsOn entry frames k s = HasStack entry frames k (reverse s)

-- live frames have stacks, and stand on live frames
pub record IsWalkable (entry : ℕ) (frames : List Frame) (live : List Bool) : Type 0 where
  pub counted : length live ≡ length frames
  pub root : HasStack entry frames 0 []
  pub started : IsMarked live 0
  pub stacked : (k : ℕ) → IsMarked live k → (calls : List Call) × HasStack entry frames k calls
  pub below : (k j : ℕ) → IsMarked live k → (frame_at frames k).parent ≡ Some j → IsMarked live j

-- `k` stands on `j`, or is it, with live frames between
pub data IsAbove (frames : List Frame) (live : List Bool) (j : ℕ) : ℕ → Type 0 where
  itself : IsAbove frames live j j
  above : {m : ℕ} (k : ℕ) → IsAbove frames live j m → IsMarked live k → (frame_at frames k).parent ≡ Some m → IsAbove frames live j k

-- some frames are listed, and others wait with all that stand on them; `work` has its top first
pub record IsWalking (entry : ℕ) (frames : List Frame) (live : List Bool) (listed work : List ℕ) : Type 0 where
  pub done : List (List Call)
  pub waiting : List (List Call)
  pub done_are : AllZip (IsOn entry frames) listed done
  pub waiting_are : AllZip (IsOn entry frames) work waiting
  pub preorder : IsPreorder done waiting
  pub sound : (k : ℕ) → Has listed k ⊎ Has work k → IsMarked live k
  pub all : (k : ℕ) → IsMarked live k → Has listed k ⊎ ((j : ℕ) × Has work j × IsAbove frames live j k)

-- exactly the live frames, in order
pub record IsListed (entry : ℕ) (frames : List Frame) (live : List Bool) (listed : List ℕ) : Type 0 where
  pub stacks : List (List Call)
  pub are : AllZip (IsOn entry frames) listed stacks
  pub sorted : Pairs Before stacks
  pub live_are : (k : ℕ) → Has listed k → IsMarked live k
  pub all : (k : ℕ) → IsMarked live k → Has listed k

abbrev pub IsWalked : List Frame → List Bool → List ℕ → Type 0
IsWalked frames live listed = (entry : ℕ) → IsWalkable entry frames live → IsListed entry frames live listed
