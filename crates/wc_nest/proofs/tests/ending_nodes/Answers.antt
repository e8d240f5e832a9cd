use Rattle.std.proofs.Common.{Bool, List, false, length, ap, subst, sym, ◌∙◌}
use Rattle.std.proofs.lemmas.List.{length-replicate}
use Rattle.wc_nest.specs.Inner.Checks.{AreEnding}
use Rattle.wc_nest.proofs.CheckLemmas.{none_ending}
use Rattle.wc_nest.proofs.tests.ending_nodes.Goals as goal

pub loop-round-init : goal.loop-round-init
loop-round-init c =
    record {
      count = ap length c.in_ok-ending.ensures ∙ length-replicate c.args.nodes false;
      ending = subst (λ (flags : List Bool). AreEnding c.args.steps.now flags) (sym c.in_ok-ending.ensures) (none_ending c.args.steps.now c.args.nodes);
    }
