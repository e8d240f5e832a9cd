use Rattle.std.proofs.Common.{◌≡◌, Some, sym, subst}
use Rattle.std.specs.List.{slice_get}
use Rattle.wc_graph.specs.declared.frames.Frame.{Frame}
use Rattle.wc_graph.specs.declared.frames.Way.{Way}
use Rattle.wc_graph.specs.Inner.Codes.{HasPlace}
use Rattle.wc_graph.proofs.CodeLemmas.{go, call, leave_back}
use Rattle.wc_graph.proofs.code.Code.place_of.Goals as goal

pub returns-in-Go-clause-place : goal.returns-in-Go-clause-place
returns-in-Go-clause-place c =
    let old = c.args.self.now.frames.keys in
    subst (λ (w : Way). HasPlace old old c.args.place w (Some (record { frame = c.args.place.frame; pc = c.in-Go.pc }))) (sym c.in-Go.is) (go old c.args.place c.in-Go.pc)

pub returns-in_ok-number-in-Call-clause-place : goal.returns-in_ok-number-in-Call-clause-place
returns-in_ok-number-in-Call-clause-place c =
    let old = c.args.self.now.frames.keys in
    let new = c.number_of_frame.new.frames.keys in
    let number = c.in_ok-number-in-Call.number in
    subst (λ (w : Way). HasPlace old new c.args.place w (Some (record { frame = number; pc = c.in-Call.callee }))) (sym c.in-Call.is) (call old new c.args.place c.in-Call.callee c.in-Call.returns number c.in_ok-number-in-Call.ensures)

pub returns-in-Some-parent-clause-place : goal.returns-in-Some-parent-clause-place
returns-in-Some-parent-clause-place c =
    let old = c.args.self.now.frames.keys in
    let f : Frame = c.in-Some.frame.now in
    let at : slice_get old c.args.place.frame ≡ Some f = sym c.in-Some.ensures.key in
    subst (λ (w : Way). HasPlace old old c.args.place w (Some (record { frame = c.in-Some-parent.parent; pc = f.returns }))) (sym c.in-Leave.is) (leave_back old c.args.place f c.in-Some-parent.parent at c.in-Some-parent.is)
