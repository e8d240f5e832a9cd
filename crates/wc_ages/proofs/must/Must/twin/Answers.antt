use Rattle.std.proofs.Common.{take}
use Rattle.wc_ages.proofs.MustLemmas.{rank_small}
use Rattle.wc_ages.proofs.must.Must.twin.Goals as goal

pub returns-clause-small : goal.returns-clause-small
returns-clause-small c = rank_small c.self.inside.ways (take c.self.inside.ways c.self.inside.slots) c.self.invariant
