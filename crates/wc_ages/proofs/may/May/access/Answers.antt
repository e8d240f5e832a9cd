use Rattle.std.proofs.Common.{◌≡◌, ℕ, ◌+◌, ◌<◌, ◌≤◌, ◌∙◌, List, length, min, get_or, set, sym, subst, ap, arith}
use Rattle.std.proofs.lemmas.List.{get_or_default}
use Rattle.wc_ages.specs.States.{AreAges, MayHeld}
use Rattle.wc_ages.proofs.MayLemmas.{fetched_ages, may_after}
use Rattle.wc_ages.proofs.may.May.access.Goals as goal

pub invariant_of-self : goal.invariant_of-self
invariant_of-self c =
    let ways : ℕ = c.self.inside.ways in
    let low : c.limit_of-limit.result ≤ ways = omega (arith, c.limit_of-limit.ensures) in
    subst (λ (xs : List ℕ). AreAges ways (set xs c.args.line 0)) (sym c.grow.ensures) (fetched_ages ways c.self.inside.ages.items c.args.line c.limit_of-limit.result c.self.invariant low)

pub returns-clause-ages : goal.returns-clause-ages
returns-clause-ages c =
    let old : MayHeld = record { ways = c.self.inside.ways; ages = c.self.inside.ages.items } in
    let ages = c.self.inside.ages.items in
    let line : ℕ = c.args.line in
    let inside : line < length ages = omega (arith, c.requires, ap (λ (m : MayHeld). length m.ages) c.self.view_is) in
    let limit : c.limit_of-limit.result ≡ min (get_or ages line 0 + 1) c.self.inside.ways =
    c.limit_of-limit.ensures ∙ ap (λ (n : ℕ). min (n + 1) c.self.inside.ways) (c.index.ensures ∙ get_or_default ages line c.index.result.now 0 inside) in
    may_after c.args.self.now old line c.limit_of-limit.result (set c.grow.new.ages.items line 0) c.self.view_is inside limit (ap (λ (xs : List ℕ). set xs line 0) c.grow.ensures)
