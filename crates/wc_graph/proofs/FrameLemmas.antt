-- Frames have one stack each, and stacks one frame.
use Rattle.std.proofs.Common.{ℕ, ◌≡◌, List, [], ◌∷◌, None, Some, refl, sym, ap, subst, ◌∙◌}
use Rattle.std.specs.List.{slice_get}
use Rattle.std.proofs.lemmas.Option.{none-some, same_Some}
use Rattle.wc_model.specs.Program.Positions.{Call, Position}
use Rattle.wc_model.specs.Program.Steps.{return_from}
use Rattle.wc_graph.specs.declared.frames.Frame.{Frame}
use Rattle.wc_graph.specs.declared.frames.Place.{Place}
use Rattle.wc_graph.specs.Inner.Numbers.{IsOnce, IsKept}
use Rattle.wc_graph.specs.Inner.Frames.{HasStack, IsAt, IsTargetPlace, frame_of}

abbrev root : ℕ → Frame
root entry = frame_of None (record { returns = 0; callee = entry })

module _ (entry : ℕ) where
  pub stack_kept : (old new : List Frame) → IsKept old new → (k : ℕ) (calls : List Call) → HasStack entry old k calls → HasStack entry new k calls
  stack_kept old new stays k [] is = stays k (root entry) is
  stack_kept old new stays k (call ∷ calls) is = (is.0, stays k (frame_of (Some is.0) call) is.1, stack_kept old new stays is.0 calls is.2)

  pub at_kept : (old new : List Frame) → IsKept old new → (x : Place) (p : Position) → IsAt entry old x p → IsAt entry new x p
  at_kept old new stays x p at = record { stack = stack_kept old new stays x.frame p.calls at.stack; address = at.address }

  module _ (frames : List Frame) where
    same_call : (i j : ℕ) (c d : Call) → frame_of (Some i) c ≡ frame_of (Some j) d → (i ≡ j) × (c ≡ d)
    same_call i j c d same = (same_Some i j (ap (λ (f : Frame). f.parent) same), ap (λ (f : Frame). record { returns = f.returns; callee = f.callee }) same)

    pub stack_same : (k : ℕ) (a b : List Call) → HasStack entry frames k a → HasStack entry frames k b → a ≡ b
    stack_same k [] [] is at = refl
    stack_same k [] (d ∷ b) is at = absurd (none-some at.0 (ap (λ (f : Frame). f.parent) (same_Some (root entry) (frame_of (Some at.0) d) (sym is ∙ at.1))))
    stack_same k (c ∷ a) [] is at = absurd (none-some is.0 (ap (λ (f : Frame). f.parent) (same_Some (root entry) (frame_of (Some is.0) c) (sym at ∙ is.1))))
    stack_same k (c ∷ a) (d ∷ b) is at =
        let one = same_call is.0 at.0 c d (same_Some (frame_of (Some is.0) c) (frame_of (Some at.0) d) (sym is.1 ∙ at.1)) in
        let rest : a ≡ b = stack_same is.0 a b is.2 (subst (λ (m : ℕ). HasStack entry frames m b) (sym one.0) at.2) in
        ap (λ (x : Call). x ∷ a) one.1 ∙ ap (λ (xs : List Call). d ∷ xs) rest

    pub stack_once : IsOnce frames → (j k : ℕ) (a : List Call) → HasStack entry frames j a → HasStack entry frames k a → j ≡ k
    stack_once once j k [] is at = once j k (root entry) is at
    stack_once once j k (c ∷ a) is at =
        let one : is.0 ≡ at.0 = stack_once once is.0 at.0 a is.2 at.2 in
        once j k (frame_of (Some is.0) c) is.1 (subst (λ (m : ℕ). slice_get frames k ≡ Some (frame_of (Some m) c)) (sym one) at.1)

    pub at_same : (x : Place) (p q : Position) → IsAt entry frames x p → IsAt entry frames x q → p ≡ q
    at_same x p q is at =
        let calls : p.calls ≡ q.calls = stack_same x.frame p.calls q.calls is.stack at.stack in
        let pcs : p.pc ≡ q.pc = sym is.address ∙ at.address in
        ap (λ (cs : List Call). record { calls = cs; pc = p.pc }) calls ∙ ap (λ (n : ℕ). record { calls = q.calls; pc = n }) pcs

    pub at_once : IsOnce frames → (x y : Place) (p : Position) → IsAt entry frames x p → IsAt entry frames y p → x ≡ y
    at_once once x y p is at =
        let one : x.frame ≡ y.frame = stack_once once x.frame y.frame p.calls is.stack at.stack in
        let pcs : x.pc ≡ y.pc = is.address ∙ sym at.address in
        ap (λ (k : ℕ). record { frame = k; pc = x.pc }) one ∙ ap (λ (n : ℕ). record { frame = y.frame; pc = n }) pcs

    -- a return
    pub leave_root : (k : ℕ) (f : Frame) (calls : List Call) → slice_get frames k ≡ Some f → f.parent ≡ None → HasStack entry frames k calls → return_from calls ≡ None
    leave_root k f [] at none is = refl
    leave_root k f (c ∷ cs) at none is = absurd (none-some is.0 (sym none ∙ ap (λ (x : Frame). x.parent) (same_Some f (frame_of (Some is.0) c) (sym at ∙ is.1))))

    pub leave_call : (k : ℕ) (f : Frame) (j : ℕ) (calls : List Call) → slice_get frames k ≡ Some f → f.parent ≡ Some j → HasStack entry frames k calls → IsTargetPlace entry frames (Some (record { frame = j; pc = f.returns })) (return_from calls)
    leave_call k f j [] at some is = absurd (none-some j (ap (λ (x : Frame). x.parent) (same_Some (root entry) f (sym is ∙ at)) ∙ some))
    leave_call k f j (c ∷ cs) at some is =
        let same : f ≡ frame_of (Some is.0) c = same_Some f (frame_of (Some is.0) c) (sym at ∙ is.1) in
        let one : is.0 ≡ j = same_Some is.0 j (sym (ap (λ (x : Frame). x.parent) same) ∙ some) in
        (record { calls = cs; pc = c.returns }, refl, record { stack = subst (λ (m : ℕ). HasStack entry frames m cs) one is.2; address = ap (λ (x : Frame). x.returns) same })

    pub leave_nowhere : (k : ℕ) (calls : List Call) → slice_get frames k ≡ None → HasStack entry frames k calls → ⊥
    leave_nowhere k [] none is = none-some (root entry) (sym none ∙ is)
    leave_nowhere k (c ∷ cs) none is = none-some (frame_of (Some is.0) c) (sym none ∙ is.1)
