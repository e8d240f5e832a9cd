-- The ways out of an instruction, under any call stack.
use Rattle.std.specs.Prelude.{ℕ, ◌≡◌, ◌+◌, ◌%◌, ◌^◌, Bool, true, false, if◌then◌else◌, List, [], ◌∷◌, ◌++◌, map, Option, None, Some}
use Rattle.std.specs.List.{flat_map, list_any}
use Rattle.wc_base.specs.declared.faults.Fault.{Fault}
use Rattle.wc_base.specs.declared.faults.Fault.TheVariants.{Recursion}
use Rattle.wc_model.specs.declared.elf_image.Image.{Image}
use Rattle.wc_model.specs.declared.flow_facts.Fact.{Fact}
use Rattle.wc_model.specs.declared.instructions.Control.{Control}
use Rattle.wc_model.specs.declared.instructions.Control.TheVariants.{Next, Jump, Call as CallTo, Return, IndirectJump, IndirectCall}
use Rattle.wc_model.specs.Program.Positions.{Position}
use Rattle.wc_model.specs.Program.Steps.{call_targets, jump_targets, fault_at, is_noreturn, steps_of}
use Rattle.wc_graph.specs.declared.frames.Turn.{Turn}
use Rattle.wc_graph.specs.declared.frames.Way.TheVariants.{Go, Call as Calls, Leave}
use Rattle.wc_graph.specs.declared.frames.Frame.{Frame}
use Rattle.wc_graph.specs.declared.frames.Place.{Place}
use Rattle.wc_graph.specs.Inner.Frames.{IsAt, along}
use Rattle.wc_graph.specs.declared.stated.Stated.{Stated}
use Rattle.wc_graph.specs.Inner.Opened.{reopens}
use Rattle.wc_graph.specs.Inner.Stated.{AreStated}

abbrev pub jump_turn : ℕ → Turn
jump_turn target = record { way = Go target; taken = true }

abbrev pub call_turns : List Fact → ℕ → ℕ → List Turn
call_turns facts at callee = if is_noreturn facts callee then [] else (record { way = Calls callee ((at + 4) % 2 ^ 32); taken = true }) ∷ []

abbrev pub taken_turns : List Fact → ℕ → Control → List Turn
taken_turns facts at Next = []
taken_turns facts at (Jump target) = jump_turn target ∷ []
taken_turns facts at (CallTo callee) = call_turns facts at callee
taken_turns facts at Return = (record { way = Leave; taken = true }) ∷ []
taken_turns facts at IndirectJump = map jump_turn (jump_targets facts at)
taken_turns facts at IndirectCall = flat_map (call_turns facts at) (call_targets facts at)

abbrev pub next_turns : ℕ → Bool → List Turn
next_turns at passes = if passes then (record { way = Go ((at + 4) % 2 ^ 32); taken = false }) ∷ [] else []

-- targets are stated of an indirect jump or call
abbrev pub is_some_list : List ℕ → Bool
is_some_list [] = false
is_some_list (_ ∷ _) = true

abbrev pub is_told : List Fact → ℕ → Control → Bool
is_told facts at IndirectJump = is_some_list (jump_targets facts at)
is_told facts at IndirectCall = is_some_list (call_targets facts at)
is_told facts at _ = true

pub record HasTaken (facts : List Fact) (at : ℕ) (control : Control) (old new : List Turn) (told : Bool) : Type 0 where
  pub turns : new ≡ old ++ taken_turns facts at control
  pub is : told ≡ is_told facts at control

-- where no open function is called again, these are the ways
pub record IsWay (image : Image) (facts : List Fact) (entry : ℕ) (turns : List Turn) (p : Position) : Type 0 where
  pub again : list_any (λ t. reopens entry p.calls t.way) turns ≡ true → fault_at image facts entry p ≡ Some (Recursion p.pc)
  pub sound : list_any (λ t. reopens entry p.calls t.way) turns ≡ false → fault_at image facts entry p ≡ None
  pub steps : list_any (λ t. reopens entry p.calls t.way) turns ≡ false → steps_of image facts entry p ≡ map (along p) turns

abbrev pub AreWays : Image → List Fact → ℕ → List Turn → Option Fault → Type 0
AreWays image facts at turns (Some fault) = (entry : ℕ) (p : Position) → p.pc ≡ at → fault_at image facts entry p ≡ Some fault
AreWays image facts at turns None = (entry : ℕ) (p : Position) → p.pc ≡ at → IsWay image facts entry turns p

-- the ways of a position, or its fault
abbrev pub AreTurns : Image → List Fact → List Frame → Place → List Turn → Option Fault → Type 0
AreTurns image facts frames place turns (Some fault) = (entry : ℕ) (p : Position) → IsAt entry frames place p → fault_at image facts entry p ≡ Some fault
AreTurns image facts frames place turns None = (entry : ℕ) (p : Position) → IsAt entry frames place p → (fault_at image facts entry p ≡ None) × (steps_of image facts entry p ≡ map (along p) turns)

-- the same under what the facts state
abbrev pub TellsTurns : Image → Stated → List Frame → Place → List Turn → Option Fault → Type 0
TellsTurns image stated frames place turns told = (facts : List Fact) → AreStated facts stated → AreTurns image facts frames place turns told

abbrev pub TellsWays : Image → Stated → ℕ → List Turn → Option Fault → Type 0
TellsWays image stated at turns told = (facts : List Fact) → AreStated facts stated → AreWays image facts at turns told

abbrev pub AddsCalls : Stated → ℕ → List ℕ → List Turn → List Turn → Type 0
AddsCalls stated at callees old new = (facts : List Fact) → AreStated facts stated → new ≡ old ++ flat_map (call_turns facts at) callees

abbrev pub AddsCall : Stated → ℕ → ℕ → List Turn → List Turn → Type 0
AddsCall stated at callee old new = (facts : List Fact) → AreStated facts stated → new ≡ old ++ call_turns facts at callee

abbrev pub AddsTaken : Stated → ℕ → Control → List Turn → List Turn → Bool → Type 0
AddsTaken stated at control old new told = (facts : List Fact) → AreStated facts stated → HasTaken facts at control old new told
