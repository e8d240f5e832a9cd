use Rattle.std.proofs.Common.{sym, ◌∙◌}
use Rattle.wc_system.proofs.WholeLemmas.{answer_of, costly_of, sound_of}
use Rattle.wc_system.proofs.whole.system.Goals as goal

pub returns-then-ceiling-eq-CEILING-clause-answer : goal.returns-then-ceiling-eq-CEILING-clause-answer
returns-then-ceiling-eq-CEILING-clause-answer c = λ inputs same.
    costly_of inputs c.args.graph.now c.args.nest.now c.args.bounds.now c.args.costs.now c.args.facts.now c.in_ok-system.system same c.in_ok-system.ensures
    (sym c.in_ok-ceiling.ensures ∙ c.if-ceiling-eq-CEILING.true)

pub returns-clause-answer : goal.returns-clause-answer
returns-clause-answer c = λ inputs same.
    answer_of inputs c.args.graph.now c.args.nest.now c.args.bounds.now c.args.costs.now c.args.facts.now c.in_ok-system.system same c.in_ok-system.ensures c.limited.result
    (λ high. c.if-ceiling-eq-CEILING.false (c.in_ok-ceiling.ensures ∙ high)) c.limited.ensures

pub returns-clause-sound : goal.returns-clause-sound
returns-clause-sound c =
    sound_of c.args.graph.now c.args.facts.now c.in_ok-system.system c.limited.result c.in_ok-system.ensures.nodes c.is_sound.ensures.sound c.limited.ensures
