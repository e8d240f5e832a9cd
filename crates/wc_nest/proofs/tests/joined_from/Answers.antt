use Rattle.std.proofs.Common.{Bool, List, false, true, length, replicate, set, ap, subst, sym, ◌∙◌, length-set}
use Rattle.std.proofs.lemmas.List.{length-replicate}
use Rattle.wc_nest.specs.Inner.Checks.{AreJoined}
use Rattle.wc_nest.proofs.CheckLemmas.{joined_first}
use Rattle.wc_nest.proofs.tests.joined_from.Goals as goal

pub loop-round-init : goal.loop-round-init
loop-round-init c =
    let is = c.set.ensures ∙ ap (λ (flags : List Bool). set flags c.args.start true) c.in_ok-joined.ensures in
    record {
      count = ap length is ∙ length-set (replicate c.args.nodes false) c.args.start true ∙ length-replicate c.args.nodes false;
      joined = subst (λ (flags : List Bool). AreJoined c.args.steps.now c.args.start flags) (sym is) (joined_first c.args.steps.now c.args.nodes c.args.start);
    }
