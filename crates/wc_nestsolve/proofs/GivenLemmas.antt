-- What the phases before give is what the optimum needs.
use Rattle.std.proofs.Common.{ℕ, ◌≡◌, ◌<◌, ◌^◌, List, [], length, ap, ◌∙◌, arith}
use Rattle.std.specs.Prelude.{Ok}
use Rattle.std.specs.List.{flat_map}
use Rattle.wc_model.specs.declared.elf_image.Image.{Image}
use Rattle.wc_model.specs.declared.flow_facts.Fact.{Fact}
use Rattle.wc_model.specs.declared.flow_system.System.{System}
use Rattle.wc_model.specs.declared.graphs.Bounds.{Bounds}
use Rattle.wc_model.specs.declared.graphs.Costs.{Costs}
use Rattle.wc_model.specs.declared.graphs.Graph.{Graph}
use Rattle.wc_model.specs.declared.graphs.Nest.{Nest}
use Rattle.wc_model.specs.Flow.Ceiling.{ceiling_of}
use Rattle.wc_model.specs.Flow.Systems.{fact_limits}
use Rattle.wc_model.specs.Workspace.Edits.{Setting}
use Rattle.wc_model.specs.Workspace.Hardware.{default_hardware}
use Rattle.wc_model.specs.Workspace.Phases.{SystemOf, fine}
use Rattle.wc_nestsolve.specs.Given.{IsSystemIn}

-- inputs with these facts and no program
pub no_image : Image
no_image = record {
  bytes = [];
  ranges = [];
  names = [];
  ranges_inside = λ k d within. absurd (omega arith);
  ranges_end = λ k d within. absurd (omega arith);
  names_inside = λ k d within. absurd (omega arith);
}

abbrev pub with_facts : List (ℕ × Fact) → Setting
with_facts facts = record { image = no_image; facts = facts; hardware = default_hardware }

module _ (graph : Graph) (nest : Nest) (bounds : Bounds) (costs : Costs) (s : System) (inputs : Setting) where
  pub given_from : SystemOf inputs graph nest bounds costs (Ok s) → length bounds.of ≡ length nest.heads → length costs.of ≡ length graph.steps → IsSystemIn graph nest s
  given_from (fine _ is) bounds_counted costs_counted = record {
    bounds = bounds;
    costs = costs;
    facts = inputs.facts;
    bounds_counted = bounds_counted;
    costs_counted = costs_counted;
    system_is = is.system_is;
  }

  pub below_from : SystemOf inputs graph nest bounds costs (Ok s) → ceiling_of nest s < 2 ^ 100
  below_from (fine _ is) = is.below

  pub unlimited_from : SystemOf inputs graph nest bounds costs (Ok s) → inputs.facts ≡ [] → s.limits ≡ []
  unlimited_from (fine _ is) none = is.system_is.limits ∙ ap (flat_map (λ f. fact_limits graph f.1)) none
