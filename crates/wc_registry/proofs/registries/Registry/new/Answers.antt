use Rattle.std.proofs.Common.{ℕ, ◌<◌, List, refl, sym, ap, subst, ◌∙◌}
use Rattle.wc_model.specs.declared.kinds.Describe.{Describe}
use Rattle.wc_model.specs.Workspace.Closures.{order_of}
use Rattle.wc_model.specs.Workspace.Registry.{IsCyclic, IsDoubled, IsMissing, IsProvided}
use Rattle.wc_registry.specs.Inner.Required.{AreRequired}
use Rattle.wc_registry.proofs.FaultLemmas.{fault_least, fault_none}
use Rattle.wc_registry.proofs.OrderLemmas.{known_is}
use Rattle.wc_registry.proofs.registries.Registry.new.Goals as goal

pub returns-in-Some : goal.returns-in-Some
returns-in-Some c = fault_least IsDoubled c.deref.result.now c.args.list.items c.deref.ensures.value c.doubled.result c.doubled.ensures c.least.result c.least.ensures c.in-Some.kind c.in-Some.is

pub returns-in-Some-least : goal.returns-in-Some-least
returns-in-Some-least c =
    (fault_none IsDoubled c.deref.result.now c.args.list.items c.deref.ensures.value c.doubled.result c.doubled.ensures c.least.result c.least.ensures c.in_default.is, fault_least IsMissing c.deref-2.result.now c.args.list.items c.deref-2.ensures.value c.missing.result c.missing.ensures.missing c.least-2.result c.least-2.ensures c.in-Some-least.kind c.in-Some-least.is)

pub required_sets-requires : goal.required_sets-requires
required_sets-requires c = fault_none IsDoubled c.deref.result.now c.deref-3.result.now (c.deref.ensures.value ∙ sym c.deref-3.ensures.value) c.doubled.result c.doubled.ensures c.least.result c.least.ensures c.in_default.is

pub cyclic-requires-clause-below : goal.cyclic-requires-clause-below
cyclic-requires-clause-below c = subst (λ (ds : List Describe). (k : ℕ) → IsProvided ds k → k < 65) (c.deref-2.ensures.value ∙ sym c.deref-4.ensures.value) c.missing.ensures.below

pub returns-in-Some-least-2 : goal.returns-in-Some-least-2
returns-in-Some-least-2 c = (
  fault_none IsDoubled c.deref.result.now c.args.list.items c.deref.ensures.value c.doubled.result c.doubled.ensures c.least.result c.least.ensures c.in_default.is,
  fault_none IsMissing c.deref-2.result.now c.args.list.items c.deref-2.ensures.value c.missing.result c.missing.ensures.missing c.least-2.result c.least-2.ensures c.in_default-least.is,
  fault_least IsCyclic c.deref-4.result.now c.args.list.items c.deref-4.ensures.value c.cyclic.result c.cyclic.ensures c.least-3.result c.least-3.ensures c.in-Some-least-2.kind c.in-Some-least-2.is,
)

pub invariant_of-result : goal.invariant_of-result
invariant_of-result c =
    known_is c.args.list.items c.in_ok-order.order.items c.in_ok-required.required.items
    (fault_none IsDoubled c.deref.result.now c.args.list.items c.deref.ensures.value c.doubled.result c.doubled.ensures c.least.result c.least.ensures c.in_default.is)
    (fault_none IsMissing c.deref-2.result.now c.args.list.items c.deref-2.ensures.value c.missing.result c.missing.ensures.missing c.least-2.result c.least-2.ensures c.in_default-least.is)
    (fault_none IsCyclic c.deref-4.result.now c.args.list.items c.deref-4.ensures.value c.cyclic.result c.cyclic.ensures c.least-3.result c.least-3.ensures c.in_default-least-2.is)
    (subst (λ (ds : List Describe). (k : ℕ) → IsProvided ds k → k < 65) c.deref-2.ensures.value c.missing.ensures.below)
    (subst (λ (ds : List Describe). AreRequired ds c.in_ok-required.required.items) c.deref-3.ensures.value c.in_ok-required.ensures)
    (c.in_ok-order.ensures ∙ ap order_of c.deref-6.ensures.value)

pub returns : goal.returns
returns c = (
  refl,
  record {
    single = fault_none IsDoubled c.deref.result.now c.args.list.items c.deref.ensures.value c.doubled.result c.doubled.ensures c.least.result c.least.ensures c.in_default.is;
    complete = fault_none IsMissing c.deref-2.result.now c.args.list.items c.deref-2.ensures.value c.missing.result c.missing.ensures.missing c.least-2.result c.least-2.ensures c.in_default-least.is;
    acyclic = fault_none IsCyclic c.deref-4.result.now c.args.list.items c.deref-4.ensures.value c.cyclic.result c.cyclic.ensures c.least-3.result c.least-3.ensures c.in_default-least-2.is;
  },
)
