use Rattle.std.proofs.Common.{rules, ◌∙◌}
use Rattle.std.proofs.lemmas.List.Sorted.{IsNonDecreasingBy-from_sort_by_key}
use Rattle.wc_system.specs.declared.terms.Visit.{Visit}
use Rattle.wc_system.proofs.TermLemmas.{visit_sorted}
use Rattle.wc_system.proofs.terms.visits_of.Goals as goal

pub returns-clause-sorted : goal.returns-clause-sorted
returns-clause-sorted c = IsNonDecreasingBy-from_sort_by_key (λ (v : Visit). v.at) _ c.sort_unstable_by_key.ensures.sorted (λ a r q k. search rules)

pub returns-clause-same : goal.returns-clause-same
returns-clause-same c = λ p. visit_sorted p _ _ c.sort_unstable_by_key.ensures.permutation ∙ c.in_ok-visits.ensures p
