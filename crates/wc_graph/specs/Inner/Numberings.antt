-- New numbers: the live frames in the order of their stacks, and the live positions in order.
use Rattle.std.specs.Prelude.{ℕ, ◌≡◌, ◌≤◌, Bool, List, length}
use Rattle.wc_model.specs.declared.elf_image.Image.{Image}
use Rattle.wc_model.specs.declared.flow_facts.Fact.{Fact}
use Rattle.wc_graph.specs.declared.frames.Leap.{Leap}
use Rattle.wc_graph.specs.declared.numbering.Numbering.{Numbering}
use Rattle.wc_graph.specs.declared.survey.Survey.{Survey}
use Rattle.wc_graph.specs.Inner.Codes.{IsCode}
use Rattle.wc_graph.specs.Inner.Inverses.{IsPlacedTo}
use Rattle.wc_graph.specs.Inner.Lists.{Has, Inside}
use Rattle.wc_graph.specs.Inner.Numbers.{IsOnce}
use Rattle.wc_graph.specs.Inner.Ordered.{AreLiveFrames, AreOrdered}
use Rattle.wc_graph.specs.Inner.Sources.{AreTargets}
use Rattle.wc_graph.specs.Inner.Surveys.{IsSurvey}
use Rattle.wc_graph.specs.Inner.Walks.{IsListed, IsWalkable}

-- the survey of some function
pub record IsSurveyed (survey : Survey) : Type 0 where
  pub image : Image
  pub facts : List Fact
  pub entry : ℕ
  pub is : IsSurvey image facts entry survey

pub record IsSized (survey : Survey) : Type 0 where
  pub code : IsCode survey.code
  pub few : length survey.code.places.keys ≤ 100000
  pub live : length survey.live.items ≡ length survey.code.places.keys
  pub leaps : length survey.code.leaps ≡ length survey.code.places.keys
  pub targets : (v : List Leap) → Has survey.code.leaps v → AreTargets (length survey.code.places.keys) v

-- some of the first numbers, each once, with their places
pub record AreNumbered (count : ℕ) (numbering : Numbering) : Type 0 where
  pub inside : Inside count numbering.order.items
  pub few : length numbering.order.items ≤ 100000
  pub once : IsOnce numbering.order.items
  pub placed : IsPlacedTo count numbering.order.items (length numbering.order.items) numbering.numbers.items

-- the frames of live positions in the order of their stacks
pub record IsRanked (entry : ℕ) (survey : Survey) (numbering : Numbering) : Type 0 where
  pub marks : List Bool
  pub are : AreLiveFrames (length survey.code.frames.keys) survey.code.places.keys survey.live.items (length survey.code.places.keys) marks
  pub walkable : IsWalkable entry survey.code.frames.keys marks
  pub listed : IsListed entry survey.code.frames.keys marks numbering.order.items
  pub numbered : AreNumbered (length survey.code.frames.keys) numbering

abbrev pub HasFrames : Survey → Numbering → Type 0
HasFrames survey numbering = (image : Image) (facts : List Fact) (entry : ℕ) → IsSurvey image facts entry survey → IsRanked entry survey numbering

-- the live positions in order, by the ranks of their frames
pub record HasPlaces (survey : Survey) (frames numbering : Numbering) : Type 0 where
  pub are : AreOrdered survey.code.places.keys survey.live.items frames.numbers.items numbering.order.items
  pub numbered : AreNumbered (length survey.code.places.keys) numbering

-- the live frames and the live positions of a survey, numbered
pub record AreRanked (image : Image) (facts : List Fact) (entry : ℕ) (survey : Survey) (frames places : Numbering) : Type 0 where
  pub is : IsSurvey image facts entry survey
  pub ranked : IsRanked entry survey frames
  pub ordered : HasPlaces survey frames places
