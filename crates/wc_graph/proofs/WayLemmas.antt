-- The ways out of an instruction are its steps, under any call stack.
use Rattle.std.proofs.Common.{ℕ, ◌≡◌, ◌+◌, ◌%◌, ◌^◌, ◌==◌, ◌||◌, ⊎_elim, Bool, true, false, if◌then◌else◌, List, [], ◌∷◌, ◌++◌, map, Option, None, Some, option_and_then, not, length, arith, refl, sym, ap, subst, ◌∙◌, append-nil}
use Rattle.std.specs.List.{flat_map, list_any}
use Rattle.std.proofs.lemmas.Bool.{false≢true, true≢false, eq-eqb}
use Rattle.std.proofs.lemmas.Bool.Decides.{eqb_tells}
use Rattle.std.proofs.lemmas.List.{map-append}
use Rattle.std.proofs.lemmas.List.Folds.{list_any-append}
use Rattle.wc_base.specs.declared.faults.Fault.{Fault}
use Rattle.wc_base.specs.declared.faults.Fault.TheVariants.{OutOfText, UnknownInstruction, Unresolved, Recursion}
use Rattle.wc_model.specs.declared.elf_image.Image.{Image}
use Rattle.wc_model.specs.declared.flow_facts.Fact.{Fact}
use Rattle.wc_model.specs.declared.instructions.Control.{Control}
use Rattle.wc_model.specs.declared.instructions.Control.TheVariants.{Next, Jump, Call as CallTo, Return, IndirectJump, IndirectCall}
use Rattle.wc_model.specs.declared.instructions.Insn.{Insn}
use Rattle.wc_model.specs.Program.Instruction.{insn_of}
use Rattle.wc_model.specs.Program.Positions.{Position}
use Rattle.wc_model.specs.Program.Steps.{Step, call_fault, call_targets, call_to, control_fault, fault_at, insn_at, insn_fault, insn_steps, is_noreturn, jump_fault, jump_targets, jump_to, next_of, passes_on, recurs, steps_known, steps_unless, taken_step, taken_targets, word_fault}
use Rattle.wc_model.specs.Program.Words.{word_at}
use Rattle.wc_graph.specs.declared.frames.Turn.{Turn}
use Rattle.wc_graph.specs.declared.frames.Way.TheVariants.{Call as Calls}
use Rattle.wc_graph.specs.Inner.Frames.{along}
use Rattle.wc_graph.specs.Inner.Opened.{reopens}
use Rattle.wc_graph.specs.Inner.Ways.{call_turns, is_some_list, is_told, jump_turn, next_turns, taken_turns, IsWay}

pub call_none : (facts : List Fact) (at callee : ℕ) (xs : List Turn) → is_noreturn facts callee ≡ true → xs ≡ xs ++ call_turns facts at callee
call_none facts at callee xs is = sym (append-nil xs) ∙ ap (λ b. xs ++ (if b then [] else (record { way = Calls callee ((at + 4) % 2 ^ 32); taken = true }) ∷ [])) (sym is)

pub call_one : (facts : List Fact) (at callee : ℕ) (xs ys : List Turn) → is_noreturn facts callee ≡ false → ys ≡ xs ++ (record { way = Calls callee ((at + 4) % 2 ^ 32); taken = true }) ∷ [] → ys ≡ xs ++ call_turns facts at callee
call_one facts at callee xs ys is more = more ∙ ap (λ b. xs ++ (if b then [] else (record { way = Calls callee ((at + 4) % 2 ^ 32); taken = true }) ∷ [])) (sym is)

abbrev unless : Bool → Fault → Option Fault
unless again fault = if again then Some fault else None

or_false : (b : Bool) → (b || false) ≡ b
or_false true = refl
or_false false = refl

module _ (facts : List Fact) (entry : ℕ) (p : Position) where
  abbrev any_again : List Turn → Bool
  any_again turns = list_any (λ t. reopens entry p.calls t.way) turns

  again_call : (callee : ℕ) → any_again (call_turns facts p.pc callee) ≡ recurs entry facts p callee
  again_call callee = by (is_noreturn facts callee)
    where
      by : (b : Bool) → any_again (if b then [] else (record { way = Calls callee ((p.pc + 4) % 2 ^ 32); taken = true }) ∷ []) ≡ (if b then false else (callee == entry || list_any (λ c. c.callee == callee) p.calls))
      by true = refl
      by false = or_false (callee == entry || list_any (λ c. c.callee == callee) p.calls)

  again_calls : (callees : List ℕ) → any_again (flat_map (call_turns facts p.pc) callees) ≡ list_any (recurs entry facts p) callees
  again_calls [] = refl
  again_calls (c ∷ cs) =
      list_any-append (λ (t : Turn). reopens entry p.calls t.way) (call_turns facts p.pc c) (flat_map (call_turns facts p.pc) cs)
      ∙ ap (λ b. b || any_again (flat_map (call_turns facts p.pc) cs)) (again_call c)
      ∙ ap (λ b. recurs entry facts p c || b) (again_calls cs)

  again_jumps : (targets : List ℕ) → any_again (map jump_turn targets) ≡ false
  again_jumps [] = refl
  again_jumps (t ∷ ts) = again_jumps ts

  told_jump : (targets : List ℕ) → is_some_list targets ≡ true → jump_fault p.pc targets ≡ unless (any_again (map jump_turn targets)) (Recursion p.pc)
  told_jump [] told = absurd (false≢true told)
  told_jump (t ∷ ts) told = ap (λ b. unless b (Recursion p.pc)) (sym (again_jumps (t ∷ ts)))

  told_calls : (callees : List ℕ) → is_some_list callees ≡ true → call_fault entry facts p callees ≡ unless (any_again (flat_map (call_turns facts p.pc) callees)) (Recursion p.pc)
  told_calls [] told = absurd (false≢true told)
  told_calls (c ∷ cs) told = ap (λ b. unless b (Recursion p.pc)) (sym (again_calls (c ∷ cs)))

  told_control : (control : Control) → is_told facts p.pc control ≡ true → control_fault entry facts p control ≡ unless (any_again (taken_turns facts p.pc control)) (Recursion p.pc)
  told_control Next told = refl
  told_control (Jump target) told = refl
  told_control Return told = refl
  told_control (CallTo callee) told = ap (λ b. unless b (Recursion p.pc)) (or_false (recurs entry facts p callee) ∙ sym (again_call callee))
  told_control IndirectJump told = told_jump (jump_targets facts p.pc) told
  told_control IndirectCall told = told_calls (call_targets facts p.pc) told

  untold_jump : (targets : List ℕ) → is_some_list targets ≡ false → jump_fault p.pc targets ≡ Some (Unresolved p.pc)
  untold_jump [] told = refl
  untold_jump (t ∷ ts) told = absurd (true≢false told)

  untold_calls : (callees : List ℕ) → is_some_list callees ≡ false → call_fault entry facts p callees ≡ Some (Unresolved p.pc)
  untold_calls [] told = refl
  untold_calls (c ∷ cs) told = absurd (true≢false told)

  untold_control : (control : Control) → is_told facts p.pc control ≡ false → control_fault entry facts p control ≡ Some (Unresolved p.pc)
  untold_control Next told = absurd (true≢false told)
  untold_control (Jump target) told = absurd (true≢false told)
  untold_control Return told = absurd (true≢false told)
  untold_control (CallTo callee) told = absurd (true≢false told)
  untold_control IndirectJump told = untold_jump (jump_targets facts p.pc) told
  untold_control IndirectCall told = untold_calls (call_targets facts p.pc) told

  -- the steps along the taken ways
  along_call : (callee : ℕ) → map (along p) (call_turns facts p.pc callee) ≡ map (taken_step p) (call_to facts p callee)
  along_call callee = by (is_noreturn facts callee)
    where
      by : (b : Bool) → map (along p) (if b then [] else (record { way = Calls callee ((p.pc + 4) % 2 ^ 32); taken = true }) ∷ []) ≡ map (taken_step p) (if b then [] else Some (record { calls = (record { returns = (p.pc + 4) % 2 ^ 32; callee = callee }) ∷ p.calls; pc = callee }) ∷ [])
      by true = refl
      by false = refl

  along_calls : (callees : List ℕ) → map (along p) (flat_map (call_turns facts p.pc) callees) ≡ map (taken_step p) (flat_map (call_to facts p) callees)
  along_calls [] = refl
  along_calls (c ∷ cs) =
      map-append (along p) (call_turns facts p.pc c) (flat_map (call_turns facts p.pc) cs)
      ∙ ap (λ (xs : List Step). xs ++ map (along p) (flat_map (call_turns facts p.pc) cs)) (along_call c)
      ∙ ap (λ (xs : List Step). map (taken_step p) (call_to facts p c) ++ xs) (along_calls cs)
      ∙ sym (map-append (taken_step p) (call_to facts p c) (flat_map (call_to facts p) cs))

  along_jumps : (targets : List ℕ) → map (along p) (map jump_turn targets) ≡ map (taken_step p) (map (jump_to p) targets)
  along_jumps [] = refl
  along_jumps (t ∷ ts) = ap (λ (xs : List Step). taken_step p (jump_to p t) ∷ xs) (along_jumps ts)

  along_taken : (control : Control) → map (along p) (taken_turns facts p.pc control) ≡ map (taken_step p) (taken_targets facts p control)
  along_taken Next = refl
  along_taken (Jump target) = refl
  along_taken Return = refl
  along_taken (CallTo callee) = along_call callee
  along_taken IndirectJump = along_jumps (jump_targets facts p.pc)
  along_taken IndirectCall = along_calls (call_targets facts p.pc)

  -- on to the next address
  along_next : (passes : Bool) → map (along p) (next_turns p.pc passes) ≡ (if passes then (record { source = p; target = next_of p; taken = false }) ∷ [] else [])
  along_next true = refl
  along_next false = refl

  again_next : (passes : Bool) → any_again (next_turns p.pc passes) ≡ false
  again_next true = refl
  again_next false = refl

  module _ (image : Image) where
    pub no_word : word_at image p.pc ≡ None → fault_at image facts entry p ≡ Some (OutOfText p.pc)
    no_word none = ap (word_fault entry facts p) none

    module _ (word : ℕ) (there : word_at image p.pc ≡ Some word) where
      pub unknown : insn_of p.pc word ≡ None → fault_at image facts entry p ≡ Some (UnknownInstruction p.pc)
      unknown none = ap (word_fault entry facts p) there ∙ ap (insn_fault entry facts p) none

      module _ (insn : Insn) (known : insn_of p.pc word ≡ Some insn) where
        fault_is : fault_at image facts entry p ≡ control_fault entry facts p insn.control
        fault_is = ap (word_fault entry facts p) there ∙ ap (insn_fault entry facts p) known

        insn_is : insn_at image p.pc ≡ Some insn
        insn_is = ap (option_and_then (insn_of p.pc)) there ∙ known

        pub unresolved : is_told facts p.pc insn.control ≡ false → fault_at image facts entry p ≡ Some (Unresolved p.pc)
        unresolved told = fault_is ∙ untold_control insn.control told

        module _ (turns : List Turn) (passes : Bool) (passes_is : passes ≡ passes_on insn) (turns_are : turns ≡ taken_turns facts p.pc insn.control ++ next_turns p.pc passes) (told : is_told facts p.pc insn.control ≡ true) where
          again_is : any_again turns ≡ any_again (taken_turns facts p.pc insn.control)
          again_is =
              ap any_again turns_are
              ∙ list_any-append (λ (t : Turn). reopens entry p.calls t.way) (taken_turns facts p.pc insn.control) (next_turns p.pc passes)
              ∙ ap (λ b. any_again (taken_turns facts p.pc insn.control) || b) (again_next passes)
              ∙ or_false (any_again (taken_turns facts p.pc insn.control))

          fault_unless : fault_at image facts entry p ≡ unless (any_again turns) (Recursion p.pc)
          fault_unless = fault_is ∙ told_control insn.control told ∙ ap (λ b. unless b (Recursion p.pc)) (sym again_is)

          sound : any_again turns ≡ false → fault_at image facts entry p ≡ None
          sound none = fault_unless ∙ ap (λ b. unless b (Recursion p.pc)) none

          turns_along : map (along p) turns ≡ insn_steps facts p insn
          turns_along =
              ap (map (along p)) turns_are
              ∙ map-append (along p) (taken_turns facts p.pc insn.control) (next_turns p.pc passes)
              ∙ ap (λ (xs : List Step). xs ++ map (along p) (next_turns p.pc passes)) (along_taken insn.control)
              ∙ ap (λ (xs : List Step). map (taken_step p) (taken_targets facts p insn.control) ++ xs) (along_next passes)
              ∙ ap (λ b. map (taken_step p) (taken_targets facts p insn.control) ++ (if b then (record { source = p; target = next_of p; taken = false }) ∷ [] else [])) passes_is

          pub are_ways : IsWay image facts entry turns p
          are_ways = record {
            again = λ some. fault_unless ∙ ap (λ b. unless b (Recursion p.pc)) some;
            sound = sound;
            steps = λ none. ap (λ o. steps_unless o (steps_known facts p (insn_at image p.pc))) (sound none) ∙ ap (steps_known facts p) insn_is ∙ sym turns_along;
          }

pub some_list : (xs ys : List ℕ) (n : ℕ) (empty : Bool) → n ≡ length xs → empty ≡ (n == 0) → xs ≡ ys → not empty ≡ is_some_list ys
some_list xs ys n empty count is same = ap not is ∙ subst (λ (zs : List ℕ). not (n == 0) ≡ is_some_list zs) same (by xs count)
  where
    by : (zs : List ℕ) → n ≡ length zs → not (n == 0) ≡ is_some_list zs
    by [] long = ap not (eq-eqb n 0 long)
    by (z ∷ zs) long = ⊎_elim (λ zero_of. absurd (omega (arith, zero_of.1, long))) (λ other. ap not other.0) (eqb_tells n 0)

-- at an address
module _ (image : Image) (facts : List Fact) (at word : ℕ) (insn : Insn) (there : word_at image at ≡ Some word) (known : insn_of at word ≡ Some insn) where
  pub unresolved_at : is_told facts at insn.control ≡ false → (entry : ℕ) (p : Position) → p.pc ≡ at → fault_at image facts entry p ≡ Some (Unresolved at)
  unresolved_at told entry p same = unresolved facts entry p image word (ap (word_at image) same ∙ there) insn (ap (λ n. insn_of n word) same ∙ known) (ap (λ n. is_told facts n insn.control) same ∙ told) ∙ ap (λ n. Some (Unresolved n)) same

  pub ways_at : (turns : List Turn) (passes : Bool) → passes ≡ passes_on insn → turns ≡ taken_turns facts at insn.control ++ next_turns at passes → is_told facts at insn.control ≡ true → (entry : ℕ) (p : Position) → p.pc ≡ at → IsWay image facts entry turns p
  ways_at turns passes passes_is turns_are told entry p same = are_ways facts entry p image word (ap (word_at image) same ∙ there) insn (ap (λ n. insn_of n word) same ∙ known) turns passes passes_is (turns_are ∙ ap (λ n. taken_turns facts n insn.control ++ next_turns n passes) (sym same)) (ap (λ n. is_told facts n insn.control) same ∙ told)
