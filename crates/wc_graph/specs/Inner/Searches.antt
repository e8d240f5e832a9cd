-- An exploration: the positions that are found first are expanded first.
use Rattle.std.specs.Prelude.{ℕ, ◌≡◌, ◌+◌, ◌<◌, ◌≤◌, Bool, true, false, List, [], ◌∷◌, ◌++◌, Option, None, Some, length, slice_get}
use Rattle.std.specs.List.{AllZip}
use Rattle.wc_base.specs.declared.faults.Fault.{Fault}
use Rattle.wc_model.specs.declared.elf_image.Image.{Image}
use Rattle.wc_model.specs.declared.flow_facts.Fact.{Fact}
use Rattle.wc_model.specs.Program.Positions.{Position, start_of}
use Rattle.wc_model.specs.Program.Reaching.{Reaches}
use Rattle.wc_model.specs.Program.Steps.{LeadsBy, fault_at, steps_of}
use Rattle.wc_graph.specs.declared.faults.Faulty.{Faulty}
use Rattle.wc_graph.specs.declared.frames.Frame.{Frame}
use Rattle.wc_graph.specs.declared.frames.Leap.{Leap}
use Rattle.wc_graph.specs.declared.frames.Place.{Place}
use Rattle.wc_graph.specs.declared.frames.Turn.{Turn}
use Rattle.wc_graph.specs.declared.search.Search.{Search}
use Rattle.wc_graph.specs.declared.stated.Stated.{Stated}
use Rattle.wc_graph.specs.Inner.Codes.{IsCode, IsFound}
use Rattle.wc_graph.specs.Inner.Exploring.{Lands, IsMany, HasExpanded, IsFull}
use Rattle.wc_graph.specs.Inner.Faults.{IsAmong, IsLeast}
use Rattle.wc_graph.specs.Inner.Opened.{AreOpened}
use Rattle.wc_graph.specs.Inner.Stated.{AreStated}

pub record IsReady (search : Search) : Type 0 where
  pub code : IsCode search.code
  pub few : length search.code.places.keys ≤ 100000
  pub opened : AreOpened search.code.frames.keys search.opened

-- the first positions have their steps, and the first of their faults is known
pub record IsSearchingOf (image : Image) (facts : List Fact) (entry : ℕ) (frames : List Frame) (places : List Place) (leaps : List (List Leap)) (least : Option Faulty) : Type 0 where
  pub ps : List Position
  pub found : IsFound (steps_of image facts entry) entry frames places ps
  pub expanded : (k : ℕ) (v : List Leap) (p : Position) → slice_get leaps k ≡ Some v → slice_get ps k ≡ Some p → AllZip (Lands ps) v (steps_of image facts entry p)
  pub fits : length leaps ≤ length ps
  pub faults : List Faulty
  pub is_least : IsLeast faults least
  pub faulty : (k : ℕ) (p : Position) (fault : Fault) → k < length leaps → slice_get ps k ≡ Some p → fault_at image facts entry p ≡ Some fault → IsAmong faults (record { at = p.pc; fault = fault })
  pub from : (f : Faulty) → IsAmong faults f → (p : Position) × Reaches (LeadsBy (steps_of image facts entry)) (start_of entry) p × (fault_at image facts entry p ≡ Some f.fault) × (f.at ≡ p.pc)

abbrev pub IsSearching : Image → List Fact → ℕ → Search → Type 0
IsSearching image facts entry search = IsSearchingOf image facts entry search.code.frames.keys search.code.places.keys search.code.leaps search.least

-- the position that is expanded next
abbrev pub IsNext : Search → Place → Type 0
IsNext search place = slice_get search.code.places.keys (length search.code.leaps) ≡ Some place

-- a faulty position has no steps
pub record HasSkipped (old new : Search) (at : ℕ) (fault : Fault) : Type 0 where
  pub frames : new.code.frames.keys ≡ old.code.frames.keys
  pub places : new.code.places.keys ≡ old.code.places.keys
  pub leaps : new.code.leaps ≡ old.code.leaps ++ [] ∷ []
  pub opened : new.opened ≡ old.opened
  pub least : (faults : List Faulty) → IsLeast faults old.least → IsLeast (faults ++ (record { at = at; fault = fault }) ∷ []) new.least

-- the steps along the ways of a position
pub record HasAdded (old new : Search) (place : Place) (turns : List Turn) : Type 0 where
  pub more : List Leap
  pub expanded : HasExpanded old.code new.code place turns more
  pub leaps : new.code.leaps ≡ old.code.leaps ++ more ∷ []
  pub opened : new.opened ≡ old.opened
  pub least : new.least ≡ old.least

abbrev pub AddsTurns : Search → Search → Place → List Turn → Bool → Type 0
AddsTurns old new place turns false = IsFull old.code place turns
AddsTurns old new place turns true = HasAdded old new place turns

abbrev pub HasSearched : Image → Stated → Search → Search → Bool → Type 0
HasSearched image stated old new false = (facts : List Fact) (entry : ℕ) → AreStated facts stated → IsSearching image facts entry old → IsMany (steps_of image facts entry) entry
HasSearched image stated old new true = IsReady new × (length new.code.leaps ≡ length old.code.leaps + 1) × ((facts : List Fact) (entry : ℕ) → AreStated facts stated → IsSearching image facts entry old → IsSearching image facts entry new)

-- the start alone
pub record IsSearched (entry : ℕ) (search : Search) : Type 0 where
  pub ready : IsReady search
  pub begins : (image : Image) (facts : List Fact) → IsSearching image facts entry search

-- all positions
pub record IsComplete (image : Image) (stated : Stated) (entry : ℕ) (search : Search) : Type 0 where
  pub ready : IsReady search
  pub all : length search.code.places.keys ≤ length search.code.leaps
  pub searching : (facts : List Fact) → AreStated facts stated → IsSearching image facts entry search

abbrev pub IsExploration : Image → Stated → ℕ → Option Search → Type 0
IsExploration image stated entry None = (facts : List Fact) → AreStated facts stated → IsMany (steps_of image facts entry) entry
IsExploration image stated entry (Some search) = IsComplete image stated entry search
