-- Faults and steps depend on the facts by those of control flow alone.
use Rattle.std.proofs.Common.{◌≡◌, ℕ, ◌+◌, ◌%◌, ◌^◌, false, ◌||◌, ◌==◌, if◌then◌else◌, List, [], ◌∷◌, ◌++◌, map, Option, None, Some, refl, sym, ap, ◌∙◌}
use Rattle.std.specs.List.{filter, flat_map, list_any}
use Rattle.wc_base.specs.declared.faults.Fault.{Fault}
use Rattle.wc_model.specs.declared.elf_image.Image.{Image}
use Rattle.wc_model.specs.declared.flow_facts.Fact.{Fact as FlowFact}
use Rattle.wc_model.specs.declared.flow_facts.Fact.TheVariants.{Loop, Multibranch, Multicall, Noreturn, Checksum, Limit}
use Rattle.wc_model.specs.declared.instructions.Control.{Control}
use Rattle.wc_model.specs.declared.instructions.Control.TheVariants.{Next, Jump, Call as CallTo, Return, IndirectJump, IndirectCall}
use Rattle.wc_model.specs.declared.instructions.Insn.{Insn}
use Rattle.wc_model.specs.declared.kinds.Part.TheVariants.{Steer}
use Rattle.wc_model.specs.Workspace.Edits.{Setting, belongs, AgreeOn}
use Rattle.wc_model.specs.Program.Positions.{Position}
use Rattle.wc_model.specs.Program.Steps.{Step, jumps_stated, calls_stated, is_noreturn, jump_targets, call_targets, rising_once, recurs, call_fault, jump_fault, control_fault, insn_fault, word_fault, fault_at, jump_to, call_to, taken_targets, taken_step, passes_on, next_of, insn_at, steps_unless, steps_known, steps_of}
use Rattle.wc_model.specs.Program.Words.{word_at}
use Rattle.wc_model.specs.Program.Instruction.{insn_of}

-- The facts of control flow say the same in two lists.
pub record SameSteering (fs gs : List FlowFact) : Type 0 where
  pub jumps : (pc : ℕ) → jump_targets fs pc ≡ jump_targets gs pc
  pub calls : (pc : ℕ) → call_targets fs pc ≡ call_targets gs pc
  pub silent : (callee : ℕ) → is_noreturn fs callee ≡ is_noreturn gs callee

abbrev pub stated : List (ℕ × FlowFact) → List FlowFact
stated fs = map (λ (f : ℕ × FlowFact). f.1) fs

abbrev pub steering : List (ℕ × FlowFact) → List (ℕ × FlowFact)
steering fs = filter (λ (f : ℕ × FlowFact). belongs Steer f.1) fs

jumps_kept : (pc : ℕ) (fs : List (ℕ × FlowFact)) → flat_map (jumps_stated pc) (stated fs) ≡ flat_map (jumps_stated pc) (stated (steering fs))
jumps_kept pc [] = refl
jumps_kept pc ((n, Loop at bound within) ∷ fs) = jumps_kept pc fs
jumps_kept pc ((n, Multibranch at to) ∷ fs) = ap (λ l. jumps_stated pc (Multibranch at to) ++ l) (jumps_kept pc fs)
jumps_kept pc ((n, Multicall at to) ∷ fs) = jumps_kept pc fs
jumps_kept pc ((n, Noreturn at) ∷ fs) = jumps_kept pc fs
jumps_kept pc ((n, Checksum name value) ∷ fs) = jumps_kept pc fs
jumps_kept pc ((n, Limit left right) ∷ fs) = jumps_kept pc fs

calls_kept : (pc : ℕ) (fs : List (ℕ × FlowFact)) → flat_map (calls_stated pc) (stated fs) ≡ flat_map (calls_stated pc) (stated (steering fs))
calls_kept pc [] = refl
calls_kept pc ((n, Loop at bound within) ∷ fs) = calls_kept pc fs
calls_kept pc ((n, Multibranch at to) ∷ fs) = calls_kept pc fs
calls_kept pc ((n, Multicall at to) ∷ fs) = ap (λ l. calls_stated pc (Multicall at to) ++ l) (calls_kept pc fs)
calls_kept pc ((n, Noreturn at) ∷ fs) = calls_kept pc fs
calls_kept pc ((n, Checksum name value) ∷ fs) = calls_kept pc fs
calls_kept pc ((n, Limit left right) ∷ fs) = calls_kept pc fs

silent_kept : (callee : ℕ) (fs : List (ℕ × FlowFact)) → is_noreturn (stated fs) callee ≡ is_noreturn (stated (steering fs)) callee
silent_kept callee [] = refl
silent_kept callee ((n, Loop at bound within) ∷ fs) = silent_kept callee fs
silent_kept callee ((n, Multibranch at to) ∷ fs) = silent_kept callee fs
silent_kept callee ((n, Multicall at to) ∷ fs) = silent_kept callee fs
silent_kept callee ((n, Noreturn at) ∷ fs) = ap (λ b. at == callee || b) (silent_kept callee fs)
silent_kept callee ((n, Checksum name value) ∷ fs) = silent_kept callee fs
silent_kept callee ((n, Limit left right) ∷ fs) = silent_kept callee fs

pub same_steering : (fs gs : List (ℕ × FlowFact)) → steering fs ≡ steering gs → SameSteering (stated fs) (stated gs)
same_steering fs gs same =
    record {
      jumps = λ pc. ap rising_once (jumps_kept pc fs ∙ ap (λ l. flat_map (jumps_stated pc) (stated l)) same ∙ sym (jumps_kept pc gs));
      calls = λ pc. ap rising_once (calls_kept pc fs ∙ ap (λ l. flat_map (calls_stated pc) (stated l)) same ∙ sym (calls_kept pc gs));
      silent = λ callee. silent_kept callee fs ∙ ap (λ l. is_noreturn (stated l) callee) same ∙ sym (silent_kept callee gs);
    }

-- The same faults and steps at each position.

module _ (fs gs : List FlowFact) (same : SameSteering fs gs) (entry : ℕ) (p : Position) where
  recur_alike : (callees : List ℕ) → list_any (recurs entry fs p) callees ≡ list_any (recurs entry gs p) callees
  recur_alike [] = refl
  recur_alike (c ∷ cs) =
      ap (λ b. (if b then false else (c == entry || list_any (λ d. d.callee == c) p.calls)) || list_any (recurs entry fs p) cs) (same.silent c)
      ∙ ap (λ b. recurs entry gs p c || b) (recur_alike cs)

  calls_fail_alike : (callees : List ℕ) → call_fault entry fs p callees ≡ call_fault entry gs p callees
  calls_fail_alike [] = refl
  calls_fail_alike (c ∷ cs) = ap (λ b. if b then Some (Fault.Recursion p.pc) else None) (recur_alike (c ∷ cs))

  controls_fail_alike : (control : Control) → control_fault entry fs p control ≡ control_fault entry gs p control
  controls_fail_alike Next = refl
  controls_fail_alike (Jump _) = refl
  controls_fail_alike Return = refl
  controls_fail_alike (CallTo callee) = calls_fail_alike (callee ∷ [])
  controls_fail_alike IndirectJump = ap (jump_fault p.pc) (same.jumps p.pc)
  controls_fail_alike IndirectCall = ap (call_fault entry fs p) (same.calls p.pc) ∙ calls_fail_alike (call_targets gs p.pc)

  insns_fail_alike : (insn : Option Insn) → insn_fault entry fs p insn ≡ insn_fault entry gs p insn
  insns_fail_alike None = refl
  insns_fail_alike (Some insn) = controls_fail_alike insn.control

  words_fail_alike : (word : Option ℕ) → word_fault entry fs p word ≡ word_fault entry gs p word
  words_fail_alike None = refl
  words_fail_alike (Some word) = insns_fail_alike (insn_of p.pc word)

  abbrev opens : ℕ → List (Option Position)
  opens callee = Some (record { calls = (record { returns = (p.pc + 4) % 2 ^ 32; callee = callee }) ∷ p.calls; pc = callee }) ∷ []

  call_leads_alike : (callee : ℕ) → call_to fs p callee ≡ call_to gs p callee
  call_leads_alike callee = ap (λ b. if b then [] else opens callee) (same.silent callee)

  calls_lead_alike : (callees : List ℕ) → flat_map (call_to fs p) callees ≡ flat_map (call_to gs p) callees
  calls_lead_alike [] = refl
  calls_lead_alike (c ∷ cs) = ap (λ l. l ++ flat_map (call_to fs p) cs) (call_leads_alike c) ∙ ap (λ l. call_to gs p c ++ l) (calls_lead_alike cs)

  lead_alike : (control : Control) → taken_targets fs p control ≡ taken_targets gs p control
  lead_alike Next = refl
  lead_alike (Jump target) = refl
  lead_alike (CallTo callee) = call_leads_alike callee
  lead_alike Return = refl
  lead_alike IndirectJump = ap (map (jump_to p)) (same.jumps p.pc)
  lead_alike IndirectCall = ap (flat_map (call_to fs p)) (same.calls p.pc) ∙ calls_lead_alike (call_targets gs p.pc)

  abbrev next_steps : Insn → List Step
  next_steps insn = if passes_on insn then (record { source = p; target = next_of p; taken = false }) ∷ [] else []

  insns_step_alike : (insn : Option Insn) → steps_known fs p insn ≡ steps_known gs p insn
  insns_step_alike None = refl
  insns_step_alike (Some insn) = ap (λ l. map (taken_step p) l ++ next_steps insn) (lead_alike insn.control)

-- Two lists of facts give the code at an address the same faults and steps.

pub record SameCode (image : Image) (fs gs : List FlowFact) (entry : ℕ) : Type 0 where
  pub faults : (p : Position) → fault_at image fs entry p ≡ fault_at image gs entry p
  pub steps : (p : Position) → steps_of image fs entry p ≡ steps_of image gs entry p

pub same_code : (image : Image) (fs gs : List FlowFact) → SameSteering fs gs → (entry : ℕ) → SameCode image fs gs entry
same_code image fs gs same entry =
    record {
      faults = faults_alike;
      steps = λ p. ap (λ fault. steps_unless fault (steps_known fs p (insn_at image p.pc))) (faults_alike p)
          ∙ ap (steps_unless (fault_at image gs entry p)) (insns_step_alike fs gs same entry p (insn_at image p.pc));
    }
  where
    faults_alike : (p : Position) → fault_at image fs entry p ≡ fault_at image gs entry p
    faults_alike p = words_fail_alike fs gs same entry p (word_at image p.pc)

pub turned : {image : Image} {fs gs : List FlowFact} {entry : ℕ} → SameCode image fs gs entry → SameCode image gs fs entry
turned same = record { faults = λ p. sym (same.faults p); steps = λ p. sym (same.steps p) }

pub agreeing_code : (a b : Setting) → AgreeOn a b Steer → (entry : ℕ) → SameCode a.image (stated a.facts) (stated b.facts) entry
agreeing_code a b steer = same_code a.image (stated a.facts) (stated b.facts) (same_steering a.facts b.facts steer)
