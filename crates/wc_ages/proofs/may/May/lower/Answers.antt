use Rattle.std.proofs.Common.{◌≡◌, ℕ, ◌∙◌, List, length, sym, subst, ap}
use Rattle.wc_ages.specs.States.{MayHeld, lowered}
use Rattle.wc_ages.proofs.MayLemmas.{lowered_ages, length-lowered, may_joined}
use Rattle.wc_ages.proofs.may.May.lower.Goals as goal

pub invariant_of-self : goal.invariant_of-self
invariant_of-self c =
    let long : length c.other.inside.ages.items ≡ length c.self.inside.ages.items = ap (λ (m : MayHeld). length m.ages) c.other.view_is ∙ c.requires.room ∙ sym (ap (λ (m : MayHeld). length m.ages) c.self.view_is) in
    lowered_ages c.self.inside.ways c.self.inside.ages.items c.other.inside.ages.items c.lower_ages.new.ages.items c.self.invariant long
    (c.lower_ages.ensures.ages ∙ ap (lowered c.self.inside.ages.items) c.deref.ensures.value)

pub returns-clause-room : goal.returns-clause-room
returns-clause-room c = ap length c.lower_ages.ensures.ages ∙ length-lowered c.self.inside.ages.items c.deref.result.now ∙ ap (λ (m : MayHeld). length m.ages) c.self.view_is

pub returns-clause-joined : goal.returns-clause-joined
returns-clause-joined c =
    let long : length c.other.inside.ages.items ≡ length c.self.inside.ages.items = ap (λ (m : MayHeld). length m.ages) c.other.view_is ∙ c.requires.room ∙ sym (ap (λ (m : MayHeld). length m.ages) c.self.view_is) in
    let old : MayHeld = record { ways = c.self.inside.ways; ages = c.self.inside.ages.items } in
    let other : MayHeld = record { ways = c.other.inside.ways; ages = c.other.inside.ages.items } in
    may_joined c.args.self.now old c.args.other.now other c.lower_ages.new.ages.items c.self.view_is c.other.view_is c.requires.ways long
    (c.lower_ages.ensures.ages ∙ ap (lowered c.self.inside.ages.items) c.deref.ensures.value)
