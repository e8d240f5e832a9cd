-- The steps of a position: where the instruction there may lead. After the branches, calls and returns of the
-- ARM ARM, with calls expanded.
use Rattle.std.specs.Prelude.{ℕ, ◌+◌, ◌%◌, ◌^◌, ◌==◌, ◌||◌, Bool, true, false, nat_lt, if◌then◌else◌, List, [], ◌∷◌, ◌++◌, map, Option, None, Some, option_and_then, ◌≡◌, Contains}
use Rattle.std.specs.List.{flat_map, list_any}
use Rattle.wc_base.specs.declared.faults.Fault.{Fault}
use Rattle.wc_base.specs.declared.faults.Fault.TheVariants.{OutOfText, UnknownInstruction, Unresolved, Recursion}
use Rattle.wc_model.specs.declared.elf_image.Image.{Image}
use Rattle.wc_model.specs.declared.instructions.Control.{Control}
use Rattle.wc_model.specs.declared.instructions.Control.TheVariants.{Next, Jump, Call as CallTo, Return, IndirectJump, IndirectCall}
use Rattle.wc_model.specs.declared.instructions.Insn.{Insn}
use Rattle.wc_model.specs.declared.flow_facts.Fact.{Fact}
use Rattle.wc_model.specs.declared.flow_facts.Fact.TheVariants.{Multibranch, Multicall, Noreturn}
use Rattle.wc_model.specs.Program.Words.{word_at}
use Rattle.wc_model.specs.Program.Instruction.{insn_of}
use Rattle.wc_model.specs.Program.Positions.{Call, Position}

-- What the facts state of an address.

-- the targets of an indirect jump, of an indirect call
abbrev pub jumps_stated : ℕ → Fact → List ℕ
jumps_stated pc (Multibranch at to) = if at == pc then to else []
jumps_stated pc _ = []

abbrev pub calls_stated : ℕ → Fact → List ℕ
calls_stated pc (Multicall at to) = if at == pc then to else []
calls_stated pc _ = []

abbrev pub is_noreturn : List Fact → ℕ → Bool
is_noreturn [] callee = false
is_noreturn (Noreturn at ∷ facts) callee = at == callee || is_noreturn facts callee
is_noreturn (_ ∷ facts) callee = is_noreturn facts callee

-- targets by rising address, each once
abbrev pub with_target : ℕ → List ℕ → List ℕ
with_target t [] = t ∷ []
with_target t (u ∷ us) = if nat_lt t u then t ∷ u ∷ us else (if t == u then u ∷ us else u ∷ with_target t us)

abbrev pub rising_once : List ℕ → List ℕ
rising_once [] = []
rising_once (t ∷ ts) = with_target t (rising_once ts)

abbrev pub jump_targets : List Fact → ℕ → List ℕ
jump_targets facts pc = rising_once (flat_map (jumps_stated pc) facts)

abbrev pub call_targets : List Fact → ℕ → List ℕ
call_targets facts pc = rising_once (flat_map (calls_stated pc) facts)

-- Why a position of the function at `entry` can't be analysed: then it has no steps.

-- the function itself, or one whose call is open, is called again, and isn't stated not to return
abbrev pub recurs : ℕ → List Fact → Position → ℕ → Bool
recurs entry facts p callee = if is_noreturn facts callee then false else (callee == entry || list_any (λ c. c.callee == callee) p.calls)

abbrev pub call_fault : ℕ → List Fact → Position → List ℕ → Option Fault
call_fault entry facts p [] = Some (Unresolved p.pc)
call_fault entry facts p (callee ∷ callees) = if list_any (recurs entry facts p) (callee ∷ callees) then Some (Recursion p.pc) else None

abbrev pub jump_fault : ℕ → List ℕ → Option Fault
jump_fault pc [] = Some (Unresolved pc)
jump_fault pc (_ ∷ _) = None

abbrev pub control_fault : ℕ → List Fact → Position → Control → Option Fault
control_fault entry facts p Next = None
control_fault entry facts p (Jump _) = None
control_fault entry facts p Return = None
control_fault entry facts p (CallTo callee) = call_fault entry facts p (callee ∷ [])
control_fault entry facts p IndirectJump = jump_fault p.pc (jump_targets facts p.pc)
control_fault entry facts p IndirectCall = call_fault entry facts p (call_targets facts p.pc)

abbrev pub insn_fault : ℕ → List Fact → Position → Option Insn → Option Fault
insn_fault entry facts p None = Some (UnknownInstruction p.pc)
insn_fault entry facts p (Some insn) = control_fault entry facts p insn.control

abbrev pub word_fault : ℕ → List Fact → Position → Option ℕ → Option Fault
word_fault entry facts p None = Some (OutOfText p.pc)
word_fault entry facts p (Some word) = insn_fault entry facts p (insn_of p.pc word)

abbrev pub fault_at : Image → List Fact → ℕ → Position → Option Fault
fault_at image facts entry p = word_fault entry facts p (word_at image p.pc)

-- The steps of the other positions.

-- a step leads from one place to another, or to the exit where there is no target
pub record Move (P : Type 0) : Type 0 where
  pub source : P
  pub target : Option P
  pub taken : Bool

abbrev pub Step : Type 0
Step = Move Position

abbrev pub jump_to : Position → ℕ → Option Position
jump_to p target = Some (record { calls = p.calls; pc = target })

-- a call opens; one that is stated not to return gives no step
abbrev pub call_to : List Fact → Position → ℕ → List (Option Position)
call_to facts p callee = if is_noreturn facts callee then [] else Some (record { calls = (record { returns = (p.pc + 4) % 2 ^ 32; callee = callee }) ∷ p.calls; pc = callee }) ∷ []

-- a return leaves the innermost open call, or the function itself
abbrev pub return_from : List Call → Option Position
return_from [] = None
return_from (c ∷ cs) = Some (record { calls = cs; pc = c.returns })

-- where the taken steps lead
abbrev pub taken_targets : List Fact → Position → Control → List (Option Position)
taken_targets facts p Next = []
taken_targets facts p (Jump target) = jump_to p target ∷ []
taken_targets facts p (CallTo callee) = call_to facts p callee
taken_targets facts p Return = return_from p.calls ∷ []
taken_targets facts p IndirectJump = map (jump_to p) (jump_targets facts p.pc)
taken_targets facts p IndirectCall = flat_map (call_to facts p) (call_targets facts p.pc)

-- whether control may pass on to the next address
abbrev pub passes_on : Insn → Bool
passes_on insn = passes insn.control insn.always
  where
    passes : Control → Bool → Bool
    passes Next always = true
    passes _ true = false
    passes _ false = true

abbrev pub next_of : Position → Option Position
next_of p = Some (record { calls = p.calls; pc = (p.pc + 4) % 2 ^ 32 })

abbrev pub taken_step : Position → Option Position → Step
taken_step p target = record { source = p; target = target; taken = true }

-- the taken steps, then the one to the next address
abbrev pub insn_steps : List Fact → Position → Insn → List Step
insn_steps facts p insn = map (taken_step p) (taken_targets facts p insn.control) ++ (if passes_on insn then (record { source = p; target = next_of p; taken = false }) ∷ [] else [])

-- the instruction at an address, if there is a known one
abbrev pub insn_at : Image → ℕ → Option Insn
insn_at image pc = option_and_then (insn_of pc) (word_at image pc)

abbrev pub steps_unless : Option Fault → List Step → List Step
steps_unless None steps = steps
steps_unless (Some _) steps = []

abbrev pub steps_known : List Fact → Position → Option Insn → List Step
steps_known facts p None = []
steps_known facts p (Some insn) = insn_steps facts p insn

-- the steps of a position under the facts, in the function at `entry`
abbrev pub steps_of : Image → List Fact → ℕ → Position → List Step
steps_of image facts entry p = steps_unless (fault_at image facts entry p) (steps_known facts p (insn_at image p.pc))

-- a step of a position leads there
abbrev pub LeadsBy : {P : Type 0} → (P → List (Move P)) → P → Option P → Type 0
LeadsBy {P} steps p t = (s : Move P) × Contains (steps p) s × (s.target ≡ t)
