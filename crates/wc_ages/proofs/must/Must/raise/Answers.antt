use Rattle.std.proofs.Common.{take}
use Rattle.wc_ages.specs.States.{MustHeld}
use Rattle.wc_ages.proofs.MustLemmas.{joined_held, joined_ages}
use Rattle.wc_ages.proofs.must.Must.raise.Goals as goal

pub invariant_of-self : goal.invariant_of-self
invariant_of-self c = joined_held c.self.inside.ways (take c.self.inside.ways c.self.inside.slots) (take c.other.inside.ways c.other.inside.slots) c.raise_slots.new.slots _ c.self.invariant c.raise_slots.ensures.slots

pub returns-clause-joined : goal.returns-clause-joined
returns-clause-joined c =
    let old : MustHeld = record { ways = c.self.inside.ways; slots = take c.self.inside.ways c.self.inside.slots } in
    let other : MustHeld = record { ways = c.other.inside.ways; slots = take c.other.inside.ways c.other.inside.slots } in
    joined_ages c.args.self.now old c.args.other.now other c.raise_slots.new.slots _ c.self.view_is c.other.view_is c.self.invariant c.requires c.raise_slots.ensures.slots
