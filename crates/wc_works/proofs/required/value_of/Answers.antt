use Rattle.std.proofs.Common.{◌≡◌, ap, sym, subst, ◌∙◌}
use Rattle.wc_core.specs.Features.{HasFeature, value_at}
use Rattle.wc_works.specs.Required.{number_of}
use Rattle.wc_works.proofs.required.value_of.Goals as goal

pub returns-clause-there : goal.returns-clause-there
returns-clause-there c = ap (λ k. value_at k c.args.given.now) (sym c.kind.ensures) ∙ c.in-Some.ensures

pub returns-clause-number : goal.returns-clause-number
returns-clause-number c =
    subst (HasFeature (λ v. number_of v ≡ c.args.number)) (ap (λ k. value_at k c.args.given.now) (sym c.kind.ensures) ∙ c.in-Some.ensures) c.requires.there

pub unreachable-requires : goal.unreachable-requires
unreachable-requires c =
    subst (HasFeature (λ v. number_of v ≡ c.args.number)) (ap (λ k. value_at k c.args.given.now) (sym c.kind.ensures) ∙ c.in-None.ensures) c.requires.there
