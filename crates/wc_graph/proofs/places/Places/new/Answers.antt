use Rattle.std.proofs.Common.{refl}
use Rattle.wc_graph.proofs.FoundLemmas.{found_none}
use Rattle.wc_graph.proofs.places.Places.new.Goals as goal

pub invariant_of-result : goal.invariant_of-result
invariant_of-result c = found_none c.in_ok-buckets.buckets c.new-2.result.items 32768 refl c.new-2.ensures.items c.in_ok-buckets.ensures
