-- Call stacks as frames, and positions as places.
use Rattle.std.specs.Prelude.{ℕ, ◌≡◌, List, [], ◌∷◌, Option, None, Some, slice_get, slice_index_or}
use Rattle.wc_model.specs.Program.Positions.{Call, Position}
use Rattle.wc_model.specs.Program.Steps.{Step, jump_to, return_from}
use Rattle.wc_graph.specs.declared.frames.Frame.{Frame}
use Rattle.wc_graph.specs.declared.frames.Place.{Place}
use Rattle.wc_graph.specs.declared.frames.Turn.{Turn}
use Rattle.wc_graph.specs.declared.frames.Way.{Way}
use Rattle.wc_graph.specs.declared.frames.Way.TheVariants.{Go, Call as CallTo, Leave}

abbrev pub frame_of : Option ℕ → Call → Frame
frame_of parent call = record { parent = parent; returns = call.returns; callee = call.callee }

abbrev pub frame_at : List Frame → ℕ → Frame
frame_at frames k = slice_index_or frames k (record { parent = None; returns = 0; callee = 0 })

-- the call stack of a frame, the innermost call first
abbrev pub HasStack : ℕ → List Frame → ℕ → List Call → Type 0
HasStack entry frames k [] = slice_get frames k ≡ Some (frame_of None (record { returns = 0; callee = entry }))
HasStack entry frames k (call ∷ calls) = (j : ℕ) × (slice_get frames k ≡ Some (frame_of (Some j) call)) × HasStack entry frames j calls

-- a place stands for a position
pub record IsAt (entry : ℕ) (frames : List Frame) (place : Place) (p : Position) : Type 0 where
  pub stack : HasStack entry frames place.frame p.calls
  pub address : place.pc ≡ p.pc

abbrev pub IsTargetPlace : ℕ → List Frame → Option Place → Option Position → Type 0
IsTargetPlace entry frames None t = t ≡ None
IsTargetPlace entry frames (Some place) t = (q : Position) × (t ≡ Some q) × IsAt entry frames place q

-- where a way leads from a position
abbrev pub way_target : Position → Way → Option Position
way_target p (Go pc) = jump_to p pc
way_target p (CallTo callee returns) = Some (record { calls = (record { returns = returns; callee = callee }) ∷ p.calls; pc = callee })
way_target p Leave = return_from p.calls

abbrev pub along : Position → Turn → Step
along p turn = record { source = p; target = way_target p turn.way; taken = turn.taken }
