use Rattle.std.proofs.Common.{ℕ, ◌≡◌, map, sym, ap}
use Rattle.wc_base.specs.declared.faults.Fault.TheVariants.{Unbounded}
use Rattle.wc_model.specs.declared.flow_facts.Fact.{Fact}
use Rattle.wc_bounds.proofs.TallyLemmas.{bounds_from, least_from}
use Rattle.wc_bounds.proofs.tallies.bounds.Goals as goal

pub returns-in-None-clause-bounds : goal.returns-in-None-clause-bounds
returns-in-None-clause-bounds c =
    let is = rw c.items.ensures at c.in-Ok.ensures in
    rw c.new.ensures (bounds_from c.args.graph.now c.args.nest.now (map (λ (f : ℕ × Fact). f.1) c.args.facts.now) c.in-Ok.tally is c.in-None.is)

pub returns-in-Some-clause-fault : goal.returns-in-Some-clause-fault
returns-in-Some-clause-fault c =
    let is = rw c.items.ensures at c.in-Ok.ensures in
    let found = least_from c.args.graph.now c.args.nest.now (map (λ (f : ℕ × Fact). f.1) c.args.facts.now) c.in-Ok.tally c.in-Some.at is c.in-Some.is in
    let same : found.0.pc ≡ c.in-Some.at = found.2 in
    (found.0, ap Unbounded (sym same), found.1, found.3)
