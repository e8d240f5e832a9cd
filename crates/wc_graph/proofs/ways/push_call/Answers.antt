use Rattle.std.proofs.Common.{sym, ◌∙◌}
use Rattle.wc_graph.proofs.StatedLemmas.{noreturns_are}
use Rattle.wc_graph.proofs.WayLemmas.{call_none, call_one}
use Rattle.wc_graph.proofs.ways.push_call.Goals as goal

pub returns-then-is_noreturn : goal.returns-then-is_noreturn
returns-then-is_noreturn c = λ facts are. call_none facts c.args.at c.args.callee c.args.turns.now.items (sym (noreturns_are facts c.args.stated.now are c.args.callee) ∙ sym c.is_noreturn.ensures ∙ c.if-is_noreturn.true)

pub returns : goal.returns
returns c = λ facts are. call_one facts c.args.at c.args.callee c.args.turns.now.items c.push.new.self.items (sym (noreturns_are facts c.args.stated.now are c.args.callee) ∙ sym c.is_noreturn.ensures ∙ c.if-is_noreturn.false) c.in_ok-push.ensures.items
