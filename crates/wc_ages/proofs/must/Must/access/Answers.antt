use Rattle.std.proofs.Common.{take}
use Rattle.wc_ages.specs.States.{MustHeld}
use Rattle.wc_ages.proofs.MustLemmas.{accessed_ages}
use Rattle.wc_ages.proofs.must.Must.access.Goals as goal

pub returns-clause-ages : goal.returns-clause-ages
returns-clause-ages c =
    let old : MustHeld = record { ways = c.self.inside.ways; slots = take c.self.inside.ways c.self.inside.slots } in
    accessed_ages c.args.self.now old c.args.line c.fetch.new.slots _ c.self.view_is c.fetch.ensures.slots.sized c.fetch.ensures.ages
