use Rattle.wc_graph.proofs.SearchLemmas.{starts}
use Rattle.wc_graph.proofs.search.Search.new.Goals as goal

pub returns : goal.returns
returns c = starts c.args.entry c.in_ok-new.field-0 c.new-2.result c.in_ok-new.ensures c.new-2.ensures
