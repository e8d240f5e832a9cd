-- What is known of the frames and places that were found.
use Rattle.std.specs.Prelude.{ℕ, ◌≡◌, ◌+◌, ◌<◌, ◌≤◌, ◌⊎◌, List, [], ◌∷◌, ◌++◌, Option, None, Some, IfSome, IsSomeAnd, length, slice_get}
use Rattle.std.specs.List.{AllZip}
use Rattle.wc_model.specs.Program.Positions.{Position, start_of}
use Rattle.wc_model.specs.Program.Reaching.{Reaches}
use Rattle.wc_model.specs.Program.Steps.{Step, LeadsBy}
use Rattle.wc_graph.specs.declared.code.Code.{Code}
use Rattle.wc_graph.specs.declared.frames.Frame.{Frame}
use Rattle.wc_graph.specs.declared.frames.Place.{Place}
use Rattle.wc_graph.specs.declared.frames.Way.{Way}
use Rattle.wc_graph.specs.Inner.Numbers.{IsOnce, IsKept}
use Rattle.wc_graph.specs.Inner.Frames.{HasStack, IsAt, IsTargetPlace, frame_of, way_target}

pub record AreFrames (frames : List Frame) : Type 0 where
  pub once : IsOnce frames
  pub below : (k : ℕ) (f : Frame) → slice_get frames k ≡ Some f → IfSome f.parent (λ j. j < k)

pub record IsCodeOf (frames : List Frame) (places : List Place) : Type 0 where
  pub frames_are : AreFrames frames
  pub once : IsOnce places
  pub inside : (k : ℕ) (x : Place) → slice_get places k ≡ Some x → x.frame < length frames
  pub fewer : length frames ≤ length places

abbrev pub IsCode : Code → Type 0
IsCode code = IsCodeOf code.frames.keys code.places.keys

-- where a way leads; at most one frame was added, and then it is the target's
pub record HasPlace (old new : List Frame) (place : Place) (way : Way) (target : Option Place) : Type 0 where
  pub are : AreFrames old → place.frame < length old → AreFrames new × IfSome target (λ t. t.frame < length new)
  pub stays : IsKept old new
  pub fresh : (length new ≡ length old) ⊎ ((length new ≡ length old + 1) × IsSomeAnd target (λ t. t.frame ≡ length old))
  pub leads : (entry : ℕ) (p : Position) → IsAt entry old place p → IsTargetPlace entry new target (way_target p way)

-- the number of the place where a way leads
abbrev pub IsTargetNumber : ℕ → List Frame → List Place → Option ℕ → Option Position → Type 0
IsTargetNumber entry frames places None t = t ≡ None
IsTargetNumber entry frames places (Some k) t = (x : Place) × (q : Position) × (slice_get places k ≡ Some x) × (t ≡ Some q) × IsAt entry frames x q

-- at most one place was added, and then it is the target's
abbrev pub IsGrownTo : List Place → List Place → Option ℕ → Type 0
IsGrownTo old new target = (new ≡ old) ⊎ ((x : Place) × (target ≡ Some (length old)) × (new ≡ old ++ x ∷ []))

pub record HasTargetOf (old_frames new_frames : List Frame) (old_places new_places : List Place) (place : Place) (way : Way) (target : Option ℕ) : Type 0 where
  pub is : IsCodeOf old_frames old_places → place.frame < length old_frames → IsCodeOf new_frames new_places
  pub stays : IsKept old_frames new_frames
  pub grown : IsGrownTo old_places new_places target
  pub leads : (entry : ℕ) (p : Position) → IsAt entry old_frames place p → IsTargetNumber entry new_frames new_places target (way_target p way)

abbrev pub HasTarget : Code → Code → Place → Way → Option ℕ → Type 0
HasTarget old new place way target = HasTargetOf old.frames.keys new.frames.keys old.places.keys new.places.keys place way target

-- the places stand for these positions, which are reached
pub record IsFound (steps : Position → List Step) (entry : ℕ) (frames : List Frame) (places : List Place) (ps : List Position) : Type 0 where
  pub placed : AllZip (IsAt entry frames) places ps
  pub rooted : HasStack entry frames 0 []
  pub first : slice_get ps 0 ≡ Some (start_of entry)
  pub reached : (k : ℕ) (p : Position) → slice_get ps k ≡ Some p → Reaches (LeadsBy steps) (start_of entry) p

-- the start alone
pub record IsNew (entry : ℕ) (code : Code) : Type 0 where
  pub frames : code.frames.keys ≡ frame_of None (record { returns = 0; callee = entry }) ∷ []
  pub places : code.places.keys ≡ (record { frame = 0; pc = entry }) ∷ []
  pub leaps : code.leaps ≡ []
