use Rattle.std.proofs.Common.{◌≡◌, ◌++◌, List, sym, ap, ◌∙◌}
use Rattle.wc_graph.specs.declared.frames.Turn.{Turn}
use Rattle.wc_graph.specs.Inner.Ways.{next_turns, taken_turns}
use Rattle.wc_graph.proofs.WayLemmas.{unresolved_at, ways_at}
use Rattle.wc_graph.proofs.ways.ways.Goals as goal

pub returns-then-not-branch : goal.returns-then-not-branch
returns-then-not-branch c = λ facts are.
    let taken = c.in_ok-push_taken.ensures facts are in
    unresolved_at c.args.image.now facts c.args.at c.in-Some.word c.in-Some-insn.insn (sym c.word.ensures ∙ c.in-Some.is) (sym c.insn.ensures.table ∙ c.in-Some-insn.is) (sym taken.is ∙ c.if-not-branch.true)

pub returns : goal.returns
returns c = λ facts are.
    let taken = c.in_ok-push_taken.ensures facts are in
    let insn = c.in-Some-insn.insn in
    let first : c.push_taken.new.turns.items ≡ taken_turns facts c.args.at insn.control = taken.turns ∙ ap (λ (xs : List Turn). xs ++ taken_turns facts c.args.at insn.control) c.clear.ensures.items in
    ways_at c.args.image.now facts c.args.at c.in-Some.word insn (sym c.word.ensures ∙ c.in-Some.is) (sym c.insn.ensures.table ∙ c.in-Some-insn.is) c.push_next.new.turns.items c.passes_on.result c.passes_on.ensures (c.in_ok-push_next.ensures ∙ ap (λ (xs : List Turn). xs ++ next_turns c.args.at c.passes_on.result) first) (sym taken.is ∙ c.if-not-branch.false)
