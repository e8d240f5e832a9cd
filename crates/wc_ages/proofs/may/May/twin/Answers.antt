use Rattle.std.proofs.Common.{◌≡◌, ℕ, ◌∙◌, List, map, ap, arith}
use Rattle.std.specs.List.{sum}
use Rattle.std.proofs.lemmas.List.{map-id}
use Rattle.std.proofs.lemmas.Slice.Zip.{AllZip-map}
use Rattle.wc_ages.proofs.MayLemmas.{sum_small}
use Rattle.wc_ages.proofs.may.May.twin.Goals as goal

pub returns-clause-small : goal.returns-clause-small
returns-clause-small c =
    let ages = c.self.inside.ages.items in
    let same : c.in_ok-clone.field-0.items ≡ ages = AllZip-map (λ (x : ℕ). x) ages c.in_ok-clone.field-0.items c.in_ok-clone.ensures.cases.0 ∙ map-id ages in
    omega (arith, ap sum same, sum_small c.self.inside.ways ages c.self.invariant)
