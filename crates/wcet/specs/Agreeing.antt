-- The chain depends on its inputs by their parts alone: where these agree, it has the same outcomes.
use Rattle.std.proofs.Common.{◌≡◌, ℕ, List, [], ◌∷◌, Some, Result, Ok, Err, ap, subst, ◌∙◌}
use Rattle.wc_base.specs.declared.faults.Fault.{Fault}
use Rattle.wc_model.specs.declared.graphs.Graph.{Graph}
use Rattle.wc_model.specs.declared.kinds.Part.TheVariants.{Steer, Loops, Limits, Cache as CachePart, Cycles as CyclesPart}
use Rattle.wc_model.specs.declared.machine.Cycles.{Cycles}
use Rattle.wc_model.specs.declared.values.Outcome.{Outcome}
use Rattle.wc_model.specs.declared.values.Outcome.TheVariants.{Bound, Fault as Refused, Memory}
use Rattle.wc_model.specs.Cache.Categories.{AreCategories}
use Rattle.wc_model.specs.Cache.Costs.{upper_costs}
use Rattle.wc_model.specs.Workspace.Chain.{ChainResult, CostsOf, chain}
use Rattle.wc_model.specs.Workspace.Closures.{closure}
use Rattle.wc_model.specs.Workspace.Edits.{AgreeOn, AgreeOnAll, Setting}
use Rattle.wc_model.specs.Workspace.History.{bound_kind}
use Rattle.wc_core.specs.Features.{Tells}
use Rattle.wc_laws.proofs.AgreeingFeatureLemmas.{bounds_of, graphs, system_of}
use Rattle.wc_laws.proofs.RelationLemmas.{Gives, after_gives}
use Rattle.wcet.specs.BoundAlone.{all_parts, bound_alone}
use Rattle.wcet.specs.Feature.{IsFeature, outcome_of}

module _ (a b : Setting) (image : a.image ≡ b.image) (steer : AgreeOn a b Steer) (loops : AgreeOn a b Loops) (limits : AgreeOn a b Limits) (cache : AgreeOn a b CachePart) (cycles : AgreeOn a b CyclesPart) where
  costs_alike : (graph : Graph) → Gives (CostsOf a graph) (CostsOf b graph)
  costs_alike graph (Ok costs) is =
      (is.0, subst (λ (c : _). AreCategories graph c is.0) cache is.1, is.2 ∙ ap (λ (c : Cycles). upper_costs graph is.0 c) cycles)
  costs_alike graph (Err fault) is = absurd is

  results_alike : (name : List ℕ) → Gives (ChainResult a name) (ChainResult b name)
  results_alike name =
      after_gives _ _ _ _ (graphs a b name image steer) (λ graph. after_gives _ _ _ _ (λ n of. of) (λ nest.
      after_gives _ _ _ _ (bounds_of a b name image steer loops graph nest) (λ bounds. after_gives _ _ _ _ (costs_alike graph) (λ costs.
      after_gives _ _ _ _ (system_of a b name image steer cache cycles loops limits graph nest bounds costs) (λ system s of. of)))))

  -- inputs that agree on all parts have the same outcomes
  pub chain_alike : (name : List ℕ) (o : Outcome) → chain a name o → chain b name o
  chain_alike name (Bound bound) is = results_alike name (Ok bound) is
  chain_alike name (Refused fault) is = results_alike name (Err fault) is
  chain_alike name Memory is = absurd is

-- What the trait of works asks of the feature: it depends on the parts of its closure alone, and tells the chain's outcome.

-- the five parts in their order, and then the image
agreed : (k : ℕ) (a b : Setting) → k ≡ bound_kind → AgreeOnAll a b (closure (bound_alone ∷ []) k) → AgreeOnAll a b all_parts
agreed k a b is agree = subst (λ kind. AgreeOnAll a b (closure (bound_alone ∷ []) kind)) is agree

pub stable_feature : (k : ℕ) (a b : Setting) (name : List ℕ) (v : Result ℕ Fault) → AgreeOnAll a b (closure (bound_alone ∷ []) k) → IsFeature k a name v → IsFeature k b name v
stable_feature k a b name v agree is =
    let all = agreed k a b is.0 agree in
    (is.0, chain_alike a b all.1.1.1.1.1 all.0 all.1.0 all.1.1.0 all.1.1.1.0 all.1.1.1.1.0 name (outcome_of v) is.1)

pub feature_tells : (i : Setting) (name : List ℕ) (v : Result ℕ Fault) → IsFeature bound_kind i name v → Tells (chain i name) (Some (outcome_of v))
feature_tells i name (Ok bound) is = is.1
feature_tells i name (Err fault) is = is.1
