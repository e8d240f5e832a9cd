use Rattle.wc_mustmay.proofs.FlagLemmas.{must_flags}
use Rattle.wc_mustmay.proofs.one_set.flag_must.Goals as goal

pub returns-clause-flags : goal.returns-clause-flags
returns-clause-flags c = must_flags c.args.graph.now c.args.ways c.args.own.now c.new.result c.in_ok-states.states.items c.deref.result.now c.args.flags.now.items c.write_flags.new.flags.items
    c.in_ok-states.ensures.solution c.in_ok-states.ensures.most c.in_ok-states.ensures.each c.new.ensures.ages c.deref.ensures.value c.requires.set.count c.write_flags.ensures.flags
