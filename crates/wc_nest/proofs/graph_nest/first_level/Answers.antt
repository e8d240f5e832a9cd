use Rattle.std.proofs.Common.{◌≤◌}
use Rattle.wc_model.specs.declared.graphs.Step.{Step}
use Rattle.wc_nest.proofs.ListLemmas.{pairs_at}
use Rattle.wc_nest.proofs.StartLemmas.{level_first}
use Rattle.wc_nest.proofs.graph_nest.first_level.Goals as goal

pub ways_of-requires : goal.ways_of-requires
ways_of-requires c = rw c.items.ensures (λ i j s t less at_s at_t. pairs_at (λ (s t : Step). s.source ≤ t.source) c.args.graph.now.steps i j s t c.requires.sorted less at_s at_t)

pub returns : goal.returns
returns c =
    let numbers = rw c.items-nodes.ensures at c.in_ok-members.ensures in
    let ways = rw c.items.ensures at c.in_ok-ways.ensures in
    level_first c.args.graph.now c.requires c.in_ok-members.members.items c.in_ok-ways.ways.items numbers ways
