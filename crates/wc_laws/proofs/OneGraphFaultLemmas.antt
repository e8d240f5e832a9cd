-- A function has a graph or a reason why there is none, and one such reason: an address and a number name a fault.
use Rattle.std.proofs.Common.{ℕ, ◌≡◌, ◌<◌, ◌≤◌, ◌⊎◌, ⊎_elim, ◌==◌, Bool, true, false, if◌then◌else◌, List, [], ◌∷◌, Option, None, Some, Ok, Err, refl, sym, ap, ap₂, subst, ◌∙◌, arith}
use Rattle.std.specs.List.{list_any}
use Rattle.std.proofs.lemmas.Option.{none-some, same_Some}
use Rattle.wc_base.specs.declared.faults.Fault.{Fault}
use Rattle.wc_base.specs.declared.faults.Fault.TheVariants.{OutOfText, UnknownInstruction, Unresolved, Recursion}
use Rattle.wc_base.specs.Faults.{number_of}
use Rattle.wc_model.proofs.Places.{contains_from_get}
use Rattle.wc_model.specs.declared.elf_image.Image.{Image}
use Rattle.wc_model.specs.declared.flow_facts.Fact.{Fact}
use Rattle.wc_model.specs.declared.graphs.Graph.{Graph}
use Rattle.wc_model.specs.declared.instructions.Control.{Control}
use Rattle.wc_model.specs.declared.instructions.Control.TheVariants.{Next, Jump, Call as CallTo, Return, IndirectJump, IndirectCall}
use Rattle.wc_model.specs.declared.instructions.Insn.{Insn}
use Rattle.wc_model.specs.Program.Graphs.{IsFirstFault, IsGraphFault, large, faulty, endless, IsGraphOf}
use Rattle.wc_model.specs.Program.Instruction.{insn_of}
use Rattle.wc_model.specs.Program.Positions.{Position, start_of}
use Rattle.wc_model.specs.Program.Steps.{call_fault, call_targets, control_fault, fault_at, insn_fault, jump_fault, jump_targets, recurs, word_fault}
use Rattle.wc_model.specs.Program.Words.{word_at}
use Rattle.wc_model.specs.Workspace.Edits.{Setting}
use Rattle.wc_model.specs.Workspace.Phases.{FunctionOf, GraphAt, GraphOf, stated, went_on}
use Rattle.wc_laws.proofs.OneGraphLemmas.{graph_once}
use Rattle.wc_laws.proofs.OnePhaseLemmas.{IsOne, after_by}

-- the fault of a number at an address, among those of positions
abbrev named : ℕ → ℕ → Fault
named number at = if number == 21 then OutOfText at else (if number == 22 then UnknownInstruction at else (if number == 23 then Unresolved at else Recursion at))

abbrev IsNamed : ℕ → Fault → Type 0
IsNamed at f = f ≡ named (number_of f) at

named_some : (at : ℕ) (g f : Fault) → IsNamed at g → Some g ≡ Some f → IsNamed at f
named_some at g f is same = subst (IsNamed at) (same_Some g f same) is

module _ (entry : ℕ) (facts : List Fact) (p : Position) (f : Fault) where
  jump_named : (targets : List ℕ) → jump_fault p.pc targets ≡ Some f → IsNamed p.pc f
  jump_named [] is = named_some p.pc (Unresolved p.pc) f refl is
  jump_named (t ∷ ts) is = absurd (none-some f is)

  call_named : (callees : List ℕ) → call_fault entry facts p callees ≡ Some f → IsNamed p.pc f
  call_named [] is = named_some p.pc (Unresolved p.pc) f refl is
  call_named (c ∷ cs) is = by (list_any (recurs entry facts p) (c ∷ cs)) is
    where
      by : (b : Bool) → (if b then Some (Recursion p.pc) else None) ≡ Some f → IsNamed p.pc f
      by true is = named_some p.pc (Recursion p.pc) f refl is
      by false is = absurd (none-some f is)

  control_named : (control : Control) → control_fault entry facts p control ≡ Some f → IsNamed p.pc f
  control_named Next is = absurd (none-some f is)
  control_named (Jump _) is = absurd (none-some f is)
  control_named Return is = absurd (none-some f is)
  control_named (CallTo callee) is = call_named (callee ∷ []) is
  control_named IndirectJump is = jump_named (jump_targets facts p.pc) is
  control_named IndirectCall is = call_named (call_targets facts p.pc) is

  insn_named : (o : Option Insn) → insn_fault entry facts p o ≡ Some f → IsNamed p.pc f
  insn_named None is = named_some p.pc (UnknownInstruction p.pc) f refl is
  insn_named (Some insn) is = control_named insn.control is

  word_named : (o : Option ℕ) → word_fault entry facts p o ≡ Some f → IsNamed p.pc f
  word_named None is = named_some p.pc (OutOfText p.pc) f refl is
  word_named (Some word) is = insn_named (insn_of p.pc word) is

pub fault_named : (image : Image) (facts : List Fact) (entry : ℕ) (p : Position) (f : Fault) → fault_at image facts entry p ≡ Some f → f ≡ named (number_of f) p.pc
fault_named image facts entry p f is = word_named entry facts p f (word_at image p.pc) is

-- two faults that each precede the other
same_place : (a b m n : ℕ) → (a < b) ⊎ ((a ≡ b) × (m ≤ n)) → (b < a) ⊎ ((b ≡ a) × (n ≤ m)) → (a ≡ b) × (m ≡ n)
same_place a b m n is also = ⊎_elim
    (λ (less : a < b). absurd (⊎_elim (λ (more : b < a). omega arith) (λ (here : (b ≡ a) × (n ≤ m)). let same : b ≡ a = here.0 in omega arith) also))
    (λ (here : (a ≡ b) × (m ≤ n)).
    let same : a ≡ b = here.0 in
    let low : m ≤ n = here.1 in
    ⊎_elim (λ (more : b < a). absurd (omega arith)) (λ (there : (b ≡ a) × (n ≤ m)). let high : n ≤ m = there.1 in (same, omega arith)) also)
    is

module _ {image : Image} {facts : List Fact} {entry : ℕ} where
  first_once : (f g : Fault) → IsFirstFault image facts entry f → IsFirstFault image facts entry g → f ≡ g
  first_once f g is also =
      let there = is.first also.place g also.reached also.faulty in
      let back = also.first is.place f is.reached is.faulty in
      let same = same_place is.place.pc also.place.pc (number_of f) (number_of g) there back in
      fault_named image facts entry is.place f is.faulty ∙ ap₂ (λ (n at : ℕ). named n at) same.1 same.0 ∙ sym (fault_named image facts entry also.place g also.faulty)

  fault_once : {f g : Fault} → IsGraphFault image facts entry f → IsGraphFault image facts entry g → f ≡ g
  fault_once (large many) (large others) = refl
  fault_once (large many) (faulty g few first) = absurd (few many)
  fault_once (large many) (endless few sound none) = absurd (few many)
  fault_once (faulty f few first) (large many) = absurd (few many)
  fault_once (faulty f few first) (faulty g few_too other) = first_once f g first other
  fault_once (faulty f few first) (endless few_too sound none) = absurd (none-some f (sym (sound first.place first.reached) ∙ first.faulty))
  fault_once (endless few sound none) (large many) = absurd (few many)
  fault_once (endless few sound none) (faulty g few_too first) = absurd (none-some g (sym (sound first.place first.reached) ∙ first.faulty))
  fault_once (endless few sound none) (endless few_too sound_too none_too) = refl

  graph_apart : (graph : Graph) {f : Fault} → IsGraphOf image facts entry graph → IsGraphFault image facts entry f → ⊥
  graph_apart graph of (large many) = of.small many
  graph_apart graph of (faulty f few first) = none-some f (sym (of.sound first.place first.reached) ∙ first.faulty)
  graph_apart graph of (endless few sound none) = none ((of.live (start_of entry)).0 (contains_from_get of.positions graph.start (start_of entry) of.started)).1

graph_at_one : (inputs : Setting) (entry : ℕ) → IsOne (GraphAt inputs entry)
graph_at_one inputs entry (Ok g) (Ok h) is also = ap (λ (x : Graph). Ok x) (graph_once is also)
graph_at_one inputs entry (Ok g) (Err f) is also = absurd (graph_apart g is also)
graph_at_one inputs entry (Err f) (Ok g) is also = absurd (graph_apart g also is)
graph_at_one inputs entry (Err f) (Err g) is also = ap (λ (x : Fault). Err x) (fault_once is also)

pub graph_one : (inputs : Setting) (name : List ℕ) → IsOne (GraphOf inputs name)
graph_one inputs name = after_by (FunctionOf inputs name) (GraphAt inputs) (λ r s is also. sym is ∙ also) (λ entry found. graph_at_one inputs entry)

-- the graph of a name is that of some address
pub graph_of : (inputs : Setting) (name : List ℕ) (graph : Graph) → GraphOf inputs name (Ok graph) → (entry : ℕ) × IsGraphOf inputs.image (stated inputs) entry graph
graph_of inputs name graph (went_on entry _ found of) = (entry, of)
