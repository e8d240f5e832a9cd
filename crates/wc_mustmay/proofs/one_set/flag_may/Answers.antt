use Rattle.wc_mustmay.proofs.FlagLemmas.{may_flags}
use Rattle.wc_mustmay.proofs.one_set.flag_may.Goals as goal

pub returns-clause-flags : goal.returns-clause-flags
returns-clause-flags c = may_flags c.args.graph.now c.args.ways c.args.own.now c.in_ok-names.names.items c.deref.result.now c.in_ok-named.named.items c.deref-2.result.now c.deref-4.result.now c.in_ok-first.first c.in_ok-states.states.items c.deref-3.result.now c.args.flags.now.items c.write_flags.new.flags.items
    c.in_ok-names.ensures.names.rising c.deref.ensures.value c.in_ok-named.ensures.named c.deref-2.ensures.value c.deref-4.ensures.value c.in_ok-states.ensures.solution c.in_ok-states.ensures.most c.in_ok-states.ensures.each c.in_ok-first.ensures.ages c.deref-3.ensures.value c.requires.set.count c.write_flags.ensures.flags
