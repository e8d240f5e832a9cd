-- The positions of a function, and those that lie on a walk from its start to its exit.
use Rattle.std.specs.Prelude.{ℕ, ◌≡◌, ◌≤◌, Bool, List, Result, Ok, Err, None, length}
use Rattle.wc_base.specs.declared.troubles.Trouble.{Trouble}
use Rattle.wc_base.specs.declared.troubles.Trouble.TheVariants.{Fault as Refused, Memory}
use Rattle.wc_model.specs.declared.elf_image.Image.{Image}
use Rattle.wc_model.specs.declared.flow_facts.Fact.{Fact}
use Rattle.wc_model.specs.Program.Graphs.{IsGraphFault, IsSound, IsTooLarge}
use Rattle.wc_graph.specs.declared.frames.Leap.{Leap}
use Rattle.wc_graph.specs.declared.sources.Sources.{Sources}
use Rattle.wc_graph.specs.declared.survey.Survey.{Survey}
use Rattle.wc_graph.specs.Inner.Codes.{IsCode}
use Rattle.wc_graph.specs.Inner.Lists.{Has}
use Rattle.wc_graph.specs.Inner.Searches.{IsSearchingOf}
use Rattle.wc_graph.specs.Inner.Sources.{AreSources, AreTargets, edges_from}
use Rattle.wc_graph.specs.Inner.Spreads.{IsMarked, IsSpread}

-- exactly the numbers from which steps lead to the exit are marked
pub record IsLive (leaps : List (List Leap)) (marks : List Bool) : Type 0 where
  pub sources : Sources
  pub are : AreSources (length leaps) (edges_from 0 leaps) sources
  pub spread : IsSpread sources.into sources.exits.items marks

pub record IsSurvey (image : Image) (facts : List Fact) (entry : ℕ) (survey : Survey) : Type 0 where
  pub code : IsCode survey.code
  pub few : length survey.code.places.keys ≤ 100000
  pub all : length survey.code.leaps ≡ length survey.code.places.keys
  pub searching : IsSearchingOf image facts entry survey.code.frames.keys survey.code.places.keys survey.code.leaps None
  pub targets : (v : List Leap) → Has survey.code.leaps v → AreTargets (length survey.code.leaps) v
  pub small : IsTooLarge image facts entry → ⊥
  pub sound : IsSound image facts entry
  pub live : IsLive survey.code.leaps survey.live.items
  pub started : IsMarked survey.live.items 0

abbrev pub Surveys : Image → List Fact → ℕ → Result Survey Trouble → Type 0
Surveys image facts entry (Ok survey) = IsSurvey image facts entry survey
Surveys image facts entry (Err (Refused fault)) = IsGraphFault image facts entry fault
Surveys image facts entry (Err (Memory error)) = Unit {0}
