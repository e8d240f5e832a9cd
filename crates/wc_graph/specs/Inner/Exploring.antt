-- Positions that are expanded: the steps along their ways.
use Rattle.std.specs.Prelude.{ℕ, ◌≡◌, ◌≤◌, Bool, true, false, List, map, Some, Contains, length, slice_get}
use Rattle.std.specs.List.{AllZip}
use Rattle.wc_model.specs.Program.Graphs.{IsTargetOf}
use Rattle.wc_model.specs.Program.Positions.{Position, start_of}
use Rattle.wc_model.specs.Program.Reaching.{Reaches}
use Rattle.wc_model.specs.Program.Steps.{Step, LeadsBy}
use Rattle.wc_graph.specs.declared.code.Code.{Code}
use Rattle.wc_graph.specs.declared.frames.Frame.{Frame}
use Rattle.wc_graph.specs.declared.frames.Leap.{Leap}
use Rattle.wc_graph.specs.declared.frames.Place.{Place}
use Rattle.wc_graph.specs.declared.frames.Turn.{Turn}
use Rattle.wc_graph.specs.Inner.Numbers.{IsKept}
use Rattle.wc_graph.specs.Inner.Frames.{IsAt, along}
use Rattle.wc_graph.specs.Inner.Codes.{IsCode, IsFound}

-- a numbered step stands for a step
pub record Lands (ps : List Position) (leap : Leap) (s : Step) : Type 0 where
  pub target : IsTargetOf ps leap.target s.target
  pub taken : leap.taken ≡ s.taken

-- 100,001 different positions are reached
pub record IsMany (steps : Position → List Step) (entry : ℕ) : Type 0 where
  pub many : List Position
  pub apart : (i j : ℕ) (p : Position) → slice_get many i ≡ Some p → slice_get many j ≡ Some p → i ≡ j
  pub count : length many ≡ 100001
  pub reached : (p : Position) → Contains many p → Reaches (LeadsBy steps) (start_of entry) p

-- the positions that are found after several steps more
pub record IsFollowed (steps : Position → List Step) (entry : ℕ) (frames : List Frame) (places : List Place) (ps : List Position) (leaps : List Leap) (all : List Step) : Type 0 where
  pub more : List Position
  pub stays : IsKept ps more
  pub found : IsFound steps entry frames places more
  pub lands : AllZip (Lands more) leaps all

-- the place stands for a position that was found and that has these ways
pub record HasWays (steps : Position → List Step) (entry : ℕ) (frames : List Frame) (places : List Place) (ps : List Position) (place : Place) (turns : List Turn) (n : ℕ) (p : Position) : Type 0 where
  pub found : IsFound steps entry frames places ps
  pub numbered : slice_get ps n ≡ Some p
  pub at : IsAt entry frames place p
  pub ways : (t : Turn) → Contains turns t → Contains (steps p) (along p t)

-- the steps along these ways were added
pub record HasTurns (old new : Code) (place : Place) (turns : List Turn) (leaps : List Leap) : Type 0 where
  pub is : IsCode new
  pub stays : IsKept old.frames.keys new.frames.keys
  pub follows : (steps : Position → List Step) (entry : ℕ) (ps : List Position) (n : ℕ) (p : Position) → HasWays steps entry old.frames.keys old.places.keys ps place turns n p → IsFollowed steps entry new.frames.keys new.places.keys ps leaps (map (along p) turns)

pub record HasExpanded (old new : Code) (place : Place) (turns : List Turn) (leaps : List Leap) : Type 0 where
  pub turned : HasTurns old new place turns leaps
  pub few : length new.places.keys ≤ 100000

abbrev pub IsFull : Code → Place → List Turn → Type 0
IsFull old place turns = (steps : Position → List Step) (entry : ℕ) (ps : List Position) (n : ℕ) (p : Position) → HasWays steps entry old.frames.keys old.places.keys ps place turns n p → IsMany steps entry

-- false where no more positions are analysed
abbrev pub Expands : Code → Code → Place → List Turn → List Leap → Bool → Type 0
Expands old new place turns leaps false = IsFull old place turns
Expands old new place turns leaps true = HasExpanded old new place turns leaps
