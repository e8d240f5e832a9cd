-- The call stacks along the steps of positions, and that what stands below the stack of a live position is the stack
-- of a live position.
use Rattle.std.proofs.Common.{ℕ, ◌≡◌, ◌+◌, ◌%◌, ◌^◌, ◌⊎◌, inl, inr, ⊎_elim, Bool, true, false, if◌then◌else◌, List, [], ◌∷◌, map, Option, None, Some, IfSome, refl, sym, subst, ◌∙◌}
use Rattle.std.specs.List.{flat_map}
use Rattle.wc_base.specs.declared.faults.Fault.{Fault}
use Rattle.wc_model.proofs.Places.{get_from_contains}
use Rattle.wc_model.specs.declared.elf_image.Image.{Image}
use Rattle.wc_model.specs.declared.flow_facts.Fact.{Fact}
use Rattle.wc_model.specs.declared.instructions.Control.{Control}
use Rattle.wc_model.specs.declared.instructions.Control.TheVariants.{Next, Jump, Call as CallTo, Return, IndirectJump, IndirectCall}
use Rattle.wc_model.specs.declared.instructions.Insn.{Insn}
use Rattle.wc_model.specs.Program.Positions.{Call, Position, start_of}
use Rattle.wc_model.specs.Program.Reaching.{Reaches, here, along, Ends, onward, IsLive}
use Rattle.wc_model.specs.Program.Steps.{Step, LeadsBy, call_targets, call_to, fault_at, insn_at, insn_steps, is_noreturn, jump_targets, jump_to, next_of, passes_on, return_from, steps_known, steps_of, steps_unless, taken_step, taken_targets}
use Rattle.wc_graph.specs.Inner.Lists.{Has}
use Rattle.wc_graph.proofs.ReachLemmas.{get_has}
use Rattle.wc_graph.proofs.RisingLemmas.{has_append, has_map}

pub has_flat : {X Y : Type 0} (f : X → List Y) (xs : List X) (y : Y) → Has (flat_map f xs) y → (x : X) × Has xs x × Has (f x) y
has_flat f [] y has = absurd has
has_flat {X} {Y} f (x ∷ xs) y has = ⊎_elim
    (λ (own : Has (f x) y). (x, inl refl, own))
    (λ (later : Has (flat_map f xs) y). let deep = has_flat f xs y later in (deep.0, inr deep.1, deep.2))
    (has_append (f x) (flat_map f xs) y has)

-- a step keeps the stack, opens a call or leaves one
abbrev pub Follows : List Call → List Call → Type 0
Follows calls next = (next ≡ calls) ⊎ (((c : Call) × (next ≡ c ∷ calls)) ⊎ ((c : Call) × (calls ≡ c ∷ next)))

abbrev pub GoesOn : Position → Option Position → Type 0
GoesOn p t = IfSome t (λ q. Follows p.calls q.calls)

pub record IsStepFrom (p : Position) (s : Step) : Type 0 where
  pub source_is : s.source ≡ p
  pub goes : GoesOn p s.target

abbrev own_call : Position → ℕ → Call
own_call p callee = record { returns = (p.pc + 4) % 2 ^ 32; callee = callee }

abbrev called : Position → ℕ → Option Position
called p callee = Some (record { calls = own_call p callee ∷ p.calls; pc = callee })

abbrev nexts : Position → Bool → List Step
nexts p b = if b then (record { source = p; target = next_of p; taken = false }) ∷ [] else []

module _ (facts : List Fact) (p : Position) where
  call_if : (callee : ℕ) (t : Option Position) (b : Bool) → Has (if b then [] else called p callee ∷ []) t → GoesOn p t
  call_if callee t true none = absurd none
  call_if callee t false (inl same) = subst (GoesOn p) same (inr (inl (own_call p callee, refl)))
  call_if callee t false (inr none) = absurd none

  call_goes : (callee : ℕ) (t : Option Position) → Has (call_to facts p callee) t → GoesOn p t
  call_goes callee t has = call_if callee t (is_noreturn facts callee) has

  return_goes : (calls : List Call) → p.calls ≡ calls → GoesOn p (return_from calls)
  return_goes [] is = tt
  return_goes (c ∷ cs) is = inr (inr (c, is))

  only : (x t : Option Position) → GoesOn p x → Has (x ∷ []) t → GoesOn p t
  only x t goes (inl same) = subst (GoesOn p) same goes
  only x t goes (inr none) = absurd none

  taken_goes : (control : Control) (t : Option Position) → Has (taken_targets facts p control) t → GoesOn p t
  taken_goes Next t has = absurd has
  taken_goes (Jump target) t has = only (jump_to p target) t (inl refl) has
  taken_goes (CallTo callee) t has = call_goes callee t has
  taken_goes Return t has = only (return_from p.calls) t (return_goes p.calls refl) has
  taken_goes IndirectJump t has = let from = has_map (jump_to p) (jump_targets facts p.pc) t has in subst (GoesOn p) from.2 (inl refl)
  taken_goes IndirectCall t has = let from = has_flat (call_to facts p) (call_targets facts p.pc) t has in call_goes from.0 t from.2

  next_from : (s : Step) (b : Bool) → Has (nexts p b) s → IsStepFrom p s
  next_from s true (inl same) = subst (IsStepFrom p) same (record { source_is = refl; goes = inl refl })
  next_from s true (inr none) = absurd none
  next_from s false none = absurd none

  insn_from : (insn : Insn) (s : Step) → Has (insn_steps facts p insn) s → IsStepFrom p s
  insn_from insn s has = ⊎_elim
      (λ (taken : Has (map (taken_step p) (taken_targets facts p insn.control)) s).
      let from = has_map (taken_step p) (taken_targets facts p insn.control) s taken in
      subst (IsStepFrom p) from.2 (record { source_is = refl; goes = taken_goes insn.control from.0 from.1 }))
      (λ (next : Has (nexts p (passes_on insn)) s). next_from s (passes_on insn) next)
      (has_append (map (taken_step p) (taken_targets facts p insn.control)) (nexts p (passes_on insn)) s has)

  known_from : (fault : Option Fault) (insn : Option Insn) (s : Step) → Has (steps_unless fault (steps_known facts p insn)) s → IsStepFrom p s
  known_from None None s none = absurd none
  known_from None (Some insn) s has = insn_from insn s has
  known_from (Some fault) insn s none = absurd none

pub step_from : (image : Image) (facts : List Fact) (entry : ℕ) (p : Position) (s : Step) → Has (steps_of image facts entry p) s → IsStepFrom p s
step_from image facts entry p s has = known_from facts p (fault_at image facts entry p) (insn_at image p.pc) s has

-- a stack and those below it
abbrev pub IsBelow : List Call → List Call → Type 0
IsBelow t [] = t ≡ []
IsBelow t (c ∷ calls) = (t ≡ c ∷ calls) ⊎ IsBelow t calls

pub below_itself : (calls : List Call) → IsBelow calls calls
below_itself [] = refl
below_itself (c ∷ calls) = inl refl

module _ (image : Image) (facts : List Fact) (entry : ℕ) where
  abbrev steps : Position → List Step
  steps = steps_of image facts entry

  abbrev IsStackLive : List Call → Type 0
  IsStackLive t = (p : Position) × IsLive (LeadsBy steps) (start_of entry) p × (p.calls ≡ t)

  below_step : (q r : Position) → LeadsBy steps r (Some q) → IsLive (LeadsBy steps) (start_of entry) q → (t : List Call) → IsBelow t q.calls → (IsBelow t r.calls → IsStackLive t) → IsStackLive t
  below_step q r leads lives t below before = by (subst (GoesOn r) leads.2 from.goes)
    where
      from : IsStepFrom r leads.0
      from = let at = get_from_contains (steps r) leads.0 leads.1 in step_from image facts entry r leads.0 (get_has (steps r) at.0 leads.0 at.1)

      by : Follows r.calls q.calls → IsStackLive t
      by (inl same) = before (subst (IsBelow t) same below)
      by (inr (inl opens)) = ⊎_elim
          (λ (whole : t ≡ opens.0 ∷ r.calls). (q, lives, opens.1 ∙ sym whole))
          (λ (deep : IsBelow t r.calls). before deep)
          (subst (IsBelow t) opens.1 below)
      by (inr (inr leaves)) = before (subst (IsBelow t) (sym leaves.1) (inr below))

  pub live_below : (q : Position) → Reaches (LeadsBy steps) (start_of entry) q → Ends (LeadsBy steps) q → (t : List Call) → IsBelow t q.calls → (p : Position) × IsLive (LeadsBy steps) (start_of entry) p × (p.calls ≡ t)
  live_below p here ends t below = (start_of entry, (here, ends), sym below)
  live_below p (along {q = r} q way leads) ends t below = below_step q r leads (along q way leads, ends) t below (λ is. live_below r way (onward q leads ends) t is)
