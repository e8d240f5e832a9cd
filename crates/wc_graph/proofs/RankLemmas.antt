-- The new numbers of frames and of positions.
use Rattle.std.proofs.Common.{ℕ, ◌≡◌, ◌<◌, ◌≤◌, Bool, List, Option, None, length, sym, ap, subst, arith}
use Rattle.std.proofs.lemmas.Option.{slice_get_within}
use Rattle.wc_model.specs.declared.elf_image.Image.{Image}
use Rattle.wc_model.specs.declared.flow_facts.Fact.{Fact}
use Rattle.wc_graph.specs.declared.frames.Frame.{Frame}
use Rattle.wc_graph.specs.declared.frames.Place.{Place}
use Rattle.wc_graph.specs.declared.numbering.Numbering.{Numbering}
use Rattle.wc_graph.specs.declared.survey.Survey.{Survey}
use Rattle.wc_graph.specs.Inner.Frames.{frame_of}
use Rattle.wc_graph.specs.Inner.Inverses.{IsPlacedTo}
use Rattle.wc_graph.specs.Inner.Lists.{Inside}
use Rattle.wc_graph.specs.Inner.Numberings.{HasPlaces, IsRanked, IsSized}
use Rattle.wc_graph.specs.Inner.Numbers.{IsOnce}
use Rattle.wc_graph.specs.Inner.Ordered.{AreLiveFrames, AreOrdered}
use Rattle.wc_graph.specs.Inner.Orders.{Pairs}
use Rattle.wc_graph.specs.Inner.Sources.{AreTargets}
use Rattle.wc_graph.specs.Inner.Surveys.{IsSurvey}
use Rattle.wc_graph.specs.Inner.Walks.{IsListed, IsWalkable}
use Rattle.wc_graph.proofs.LiveLemmas.{walkable}
use Rattle.wc_graph.proofs.PlaceLemmas.{once_apart, order_few, order_inside, order_once}
use Rattle.wc_graph.proofs.WalkLemmas.{few_apart, live_within, zip_apart}

-- the same of equal lists
live_over : (count : ℕ) (places other : List Place) (live also : List Bool) (n : ℕ) (marks : List Bool) → n ≡ count → other ≡ places → also ≡ live → AreLiveFrames n other also (length other) marks → AreLiveFrames count places live (length places) marks
live_over count places other live also n marks count_is places_are live_are are =
    subst (λ (k : ℕ). AreLiveFrames k places live (length places) marks) count_is (subst (λ (ls : List Bool). AreLiveFrames n places ls (length places) marks) live_are (subst (λ (ps : List Place). AreLiveFrames n ps also (length ps) marks) places_are are))

listed_over : (entry : ℕ) (frames other : List Frame) (marks also : List Bool) (order : List ℕ) → other ≡ frames → also ≡ marks → IsWalkable entry frames marks → (IsWalkable entry other also → IsListed entry other also order) → IsListed entry frames marks order
listed_over entry frames other marks also order frames_are marks_are walks listed =
    let own : IsWalkable entry other also = subst (λ (fs : List Frame). IsWalkable entry fs also) (sym frames_are) (subst (IsWalkable entry frames) (sym marks_are) walks) in
    subst (λ (fs : List Frame). IsListed entry fs marks order) frames_are (subst (λ (ms : List Bool). IsListed entry other ms order) marks_are (listed own))

module _ (image : Image) (facts : List Fact) (entry : ℕ) (survey : Survey) (is : IsSurvey image facts entry survey) where
  pub sized : IsSized survey
  sized = record {
    code = is.code;
    few = is.few;
    live = omega (arith, is.live.spread.count, is.live.are.counted, is.all);
    leaps = is.all;
    targets = λ v has. subst (λ (n : ℕ). AreTargets n v) is.all (is.targets v has);
  }

  pub some_frames : 0 < length survey.code.frames.keys
  some_frames = slice_get_within survey.code.frames.keys 0 (frame_of None (record { returns = 0; callee = entry })) is.searching.found.rooted

  pub few_frames : length survey.code.frames.keys ≤ 100000
  few_frames = omega (arith, is.code.fewer, is.few)

  -- live frames are marked, and listed in order
  pub record AreListed (marks : List Bool) (order : List ℕ) : Type 0 where
    pub are : AreLiveFrames (length survey.code.frames.keys) survey.code.places.keys survey.live.items (length survey.code.places.keys) marks
    pub listed : IsListed entry survey.code.frames.keys marks order

  pub frames_listed : (fs : List Frame) (ps : List Place) (ls ms marks : List Bool) (order : List ℕ) → fs ≡ survey.code.frames.keys → ps ≡ survey.code.places.keys → ls ≡ survey.live.items → ms ≡ marks → AreLiveFrames (length fs) ps ls (length ps) marks → (IsWalkable entry fs ms → IsListed entry fs ms order) → AreListed marks order
  frames_listed fs ps ls ms marks order frames_are places_are live_are marks_are found walked =
      let are : AreLiveFrames (length survey.code.frames.keys) survey.code.places.keys survey.live.items (length survey.code.places.keys) marks = live_over (length survey.code.frames.keys) survey.code.places.keys ps survey.live.items ls (length fs) marks (ap length frames_are) places_are live_are found in
      record { are = are; listed = listed_over entry survey.code.frames.keys fs marks ms order frames_are marks_are (walkable image facts entry survey is marks are) walked }

  module _ (marks : List Bool) (order : List ℕ) (all : AreListed marks order) where
    pub ranks_inside : Inside (length survey.code.frames.keys) order
    ranks_inside k has = live_within entry survey.code.frames.keys marks is.code.frames_are few_frames (walkable image facts entry survey is marks all.are) k (all.listed.live_are k has)

    ranks_apart : Pairs (λ j k. j ≡ k → ⊥) order
    ranks_apart = zip_apart entry survey.code.frames.keys order all.listed.stacks all.listed.are all.listed.sorted

    pub ranks_few : length order ≤ 100000
    ranks_few = omega (arith, few_apart order (length survey.code.frames.keys) ranks_apart ranks_inside, few_frames)

    pub ranked : (numbering : Numbering) → numbering.order.items ≡ order → IsPlacedTo (length survey.code.frames.keys) order (length order) numbering.numbers.items → IsRanked entry survey numbering
    ranked numbering same placed = record {
      marks = marks;
      are = all.are;
      walkable = walkable image facts entry survey is marks all.are;
      listed = subst (IsListed entry survey.code.frames.keys marks) (sym same) all.listed;
      numbered = record {
        inside = subst (Inside (length survey.code.frames.keys)) (sym same) ranks_inside;
        few = subst (λ (ks : List ℕ). length ks ≤ 100000) (sym same) ranks_few;
        once = subst IsOnce (sym same) (once_apart order ranks_apart);
        placed = subst (λ (ks : List ℕ). IsPlacedTo (length survey.code.frames.keys) ks (length ks) numbering.numbers.items) (sym same) placed;
      };
    }

pub ordered_over : (places other : List Place) (live also : List Bool) (ranks those : List (Option ℕ)) (order : List ℕ) → other ≡ places → also ≡ live → those ≡ ranks → AreOrdered other also those order → AreOrdered places live ranks order
ordered_over places other live also ranks those order places_are live_are ranks_are are =
    subst (λ (ps : List Place). AreOrdered ps live ranks order) places_are (subst (λ (ls : List Bool). AreOrdered other ls ranks order) live_are (subst (λ (rs : List (Option ℕ)). AreOrdered other also rs order) ranks_are are))

module _ (survey : Survey) (size : IsSized survey) (frames : Numbering) (order : List ℕ) (are : AreOrdered survey.code.places.keys survey.live.items frames.numbers.items order) where
  pub places_inside : Inside (length survey.code.places.keys) order
  places_inside = order_inside survey.code.places.keys survey.live.items frames.numbers.items order size.few size.code.once are

  pub places_few : length order ≤ 100000
  places_few = omega (arith, order_few survey.code.places.keys survey.live.items frames.numbers.items order size.few size.code.once are, size.few)

  pub placed_all : (numbering : Numbering) → numbering.order.items ≡ order → IsPlacedTo (length survey.code.places.keys) order (length order) numbering.numbers.items → HasPlaces survey frames numbering
  placed_all numbering same placed = record {
    are = subst (AreOrdered survey.code.places.keys survey.live.items frames.numbers.items) (sym same) are;
    numbered = record {
      inside = subst (Inside (length survey.code.places.keys)) (sym same) places_inside;
      few = subst (λ (ks : List ℕ). length ks ≤ 100000) (sym same) places_few;
      once = subst IsOnce (sym same) (order_once survey.code.places.keys survey.live.items frames.numbers.items order size.few size.code.once are);
      placed = subst (λ (ks : List ℕ). IsPlacedTo (length survey.code.places.keys) ks (length ks) numbering.numbers.items) (sym same) placed;
    };
  }
