use Rattle.wc_works.proofs.ShippingLemmas.{registry_kinds, registry_memory}
use Rattle.wc_works.proofs.shipping.shipped.Goals as goal

pub returns-in-Ok-clause-kinds : goal.returns-in-Ok-clause-kinds
returns-in-Ok-clause-kinds c = registry_kinds c.in-Ok.list.items c.new.result c.in-Ok.ensures c.new.ensures

pub returns-in-Ok-clause-memory : goal.returns-in-Ok-clause-memory
returns-in-Ok-clause-memory c = registry_memory c.in-Ok.list.items c.new.result c.in-Ok.ensures c.new.ensures
