use Rattle.std.proofs.Common.{ℕ, ◌≡◌, ◌++◌, List, map, not, sym, ap, subst, ◌∙◌, vec_len, arith}
use Rattle.std.specs.List.{flat_map}
use Rattle.wc_model.specs.declared.instructions.Control.{Control}
use Rattle.wc_model.specs.Program.Steps.{call_targets, jump_targets}
use Rattle.wc_graph.specs.Inner.Ways.{call_turns, jump_turn, HasTaken}
use Rattle.wc_graph.proofs.StatedLemmas.{jumps_are, calls_are}
use Rattle.wc_graph.proofs.WayLemmas.{some_list}
use Rattle.wc_graph.proofs.ways.push_taken.Goals as goal

pub returns-in-IndirectJump : goal.returns-in-IndirectJump
returns-in-IndirectJump c = λ facts are.
    let v = c.in_ok-targets-in-IndirectJump.targets in
    let old = c.args.turns.now.items in
    let new = c.push_jumps-in-IndirectJump.new.turns.items in
    let targets : v.items ≡ jump_targets facts c.args.at = c.in_ok-targets-in-IndirectJump.ensures ∙ jumps_are facts c.args.stated.now are c.args.at in
    subst (λ (k : Control). HasTaken facts c.args.at k old new (not c.is_empty.result)) (sym c.in-IndirectJump.is) (record {
      turns = c.in_ok-push_jumps-in-IndirectJump.ensures ∙ ap (λ (xs : List ℕ). old ++ map jump_turn xs) (c.as_slice.ensures.value ∙ targets);
      is = some_list v.items (jump_targets facts c.args.at) (vec_len v) c.is_empty.result (omega (arith, v.ok.0)) c.is_empty.ensures targets;
    })

pub returns-in-IndirectCall : goal.returns-in-IndirectCall
returns-in-IndirectCall c = λ facts are.
    let v = c.in_ok-callees-in-IndirectCall.callees in
    let old = c.args.turns.now.items in
    let new = c.push_calls.new.turns.items in
    let targets : v.items ≡ call_targets facts c.args.at = c.in_ok-callees-in-IndirectCall.ensures ∙ calls_are facts c.args.stated.now are c.args.at in
    subst (λ (k : Control). HasTaken facts c.args.at k old new (not c.is_empty-in-IndirectCall.result)) (sym c.in-IndirectCall.is) (record {
      turns = c.in_ok-push_calls-in-IndirectCall.ensures facts are ∙ ap (λ (xs : List ℕ). old ++ flat_map (call_turns facts c.args.at) xs) (c.as_slice-in-IndirectCall.ensures.value ∙ targets);
      is = some_list v.items (call_targets facts c.args.at) (vec_len v) c.is_empty-in-IndirectCall.result (omega (arith, v.ok.0)) c.is_empty-in-IndirectCall.ensures targets;
    })
