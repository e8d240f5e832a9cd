use Rattle.wc_graph.proofs.SourceLemmas.{sources_empty}
use Rattle.wc_graph.proofs.sources.Sources.new.Goals as goal

pub returns : goal.returns
returns c = sources_empty c.args.count (record { into = c.in_ok-into.into; exits = c.new-exits.result }) c.in_ok-into.ensures c.new-exits.ensures.items
