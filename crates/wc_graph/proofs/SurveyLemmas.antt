-- Why there is no graph, from a complete exploration.
use Rattle.std.proofs.Common.{ℕ, ◌≡◌, ◌<◌, ◌≤◌, Bool, List, Option, None, Some, IfSome, length, sym, subst, arith}
use Rattle.std.proofs.lemmas.Option.{slice_get_within}
use Rattle.wc_base.specs.declared.faults.Fault.TheVariants.{TooLarge, NoExit}
use Rattle.wc_model.specs.declared.elf_image.Image.{Image}
use Rattle.wc_model.specs.declared.flow_facts.Fact.{Fact}
use Rattle.wc_model.specs.Program.Graphs.{IsGraphFault, IsTargetOf, large, faulty, endless}
use Rattle.wc_model.specs.Program.Positions.{Position, start_of}
use Rattle.wc_model.specs.Program.Steps.{steps_of}
use Rattle.wc_graph.specs.declared.code.Code.{Code}
use Rattle.wc_graph.specs.declared.faults.Faulty.{Faulty}
use Rattle.wc_graph.specs.declared.frames.Leap.{Leap}
use Rattle.wc_graph.specs.declared.search.Search.{Search}
use Rattle.wc_graph.specs.declared.stated.Stated.{Stated}
use Rattle.wc_graph.specs.declared.survey.Survey.{Survey}
use Rattle.wc_graph.specs.Inner.Codes.{IsCode}
use Rattle.wc_graph.specs.Inner.Exploring.{IsMany}
use Rattle.wc_graph.specs.Inner.Frames.{IsAt}
use Rattle.wc_graph.specs.Inner.Lists.{Has}
use Rattle.wc_graph.specs.Inner.Searches.{IsComplete, IsSearchingOf}
use Rattle.wc_graph.specs.Inner.Sources.{AreTargets}
use Rattle.wc_graph.specs.Inner.Spreads.{IsMarked}
use Rattle.wc_graph.specs.Inner.Stated.{AreStated}
use Rattle.wc_graph.specs.Inner.Surveys.{IsLive, IsSurvey}
use Rattle.wc_model.proofs.Places.{get_within}
use Rattle.wc_graph.proofs.ReachLemmas.{first_fault, has_get, leap_step, live_marks, not_many, sound}
use Rattle.wc_graph.proofs.ZipLemmas.{zip_length}

pub many_large : (image : Image) (facts : List Fact) (entry : ℕ) → IsMany (steps_of image facts entry) entry → IsGraphFault image facts entry TooLarge
many_large image facts entry is = large (record { many = is.many; apart = is.apart; count = is.count; reached = is.reached })

module _ (image : Image) (facts : List Fact) (entry : ℕ) (stated : Stated) (search : Search) (told : AreStated facts stated) (complete : IsComplete image stated entry search) where
  s : IsSearchingOf image facts entry search.code.frames.keys search.code.places.keys search.code.leaps search.least
  s = complete.searching facts told

  pub all : length search.code.leaps ≡ length search.code.places.keys
  all = omega (arith, complete.all, s.fits, zip_length (IsAt entry search.code.frames.keys) search.code.places.keys s.ps s.found.placed)

  pub some_places : 0 < length search.code.places.keys
  some_places = omega (arith, slice_get_within s.ps 0 (start_of entry) s.found.first, zip_length (IsAt entry search.code.frames.keys) search.code.places.keys s.ps s.found.placed)

  pub first_is : (f : Faulty) → search.least ≡ Some f → IsGraphFault image facts entry f.fault
  first_is f some = faulty f.fault
      (not_many image facts entry search.code.frames.keys search.code.places.keys search.code.leaps search.least s complete.ready.few complete.all)
      (first_fault image facts entry search.code.frames.keys search.code.places.keys search.code.leaps search.least s complete.ready.few complete.all f some)

  pub targets_inside : (v : List Leap) → Has search.code.leaps v → AreTargets (length search.code.leaps) v
  targets_inside v has leap among =
      let at = has_get search.code.leaps v has in
      let less : at.0 < length s.ps = omega (arith, slice_get_within search.code.leaps at.0 v at.1, s.fits) in
      let p = get_within s.ps at.0 less in
      let step = leap_step image facts entry search.code.frames.keys search.code.places.keys search.code.leaps search.least s complete.ready.few complete.all at.0 p.0 v leap p.1 at.1 among in
      by leap.target step.step.target step.lands.target
    where
      by : (o : Option ℕ) (t : Option Position) → IsTargetOf s.ps o t → IfSome o (λ n. n < length search.code.leaps)
      by None t is = tt
      by (Some n) t is = omega (arith, all, slice_get_within s.ps n is.0 is.1, zip_length (IsAt entry search.code.frames.keys) search.code.places.keys s.ps s.found.placed)

  module _ (none : search.least ≡ None) (marks : List Bool) (live : IsLive search.code.leaps marks) where
    pub no_exit : (IsMarked marks 0 → ⊥) → IsGraphFault image facts entry NoExit
    no_exit not_live = endless
        (not_many image facts entry search.code.frames.keys search.code.places.keys search.code.leaps search.least s complete.ready.few complete.all)
        (sound image facts entry search.code.frames.keys search.code.places.keys search.code.leaps search.least s complete.ready.few complete.all none)
        (λ ends. not_live ((live_marks image facts entry search.code.frames.keys search.code.places.keys search.code.leaps search.least s complete.ready.few complete.all live.sources live.are marks live.spread 0 (start_of entry) s.found.first).1 ends))

    pub surveyed : (survey : Survey) → survey.code ≡ search.code → survey.live.items ≡ marks → IsMarked marks 0 → IsSurvey image facts entry survey
    surveyed survey code_is live_is started = record {
      code = subst (λ (c : Code). IsCode c) (sym code_is) complete.ready.code;
      few = subst (λ (c : Code). length c.places.keys ≤ 100000) (sym code_is) complete.ready.few;
      all = subst (λ (c : Code). length c.leaps ≡ length c.places.keys) (sym code_is) all;
      searching = subst (λ (c : Code). IsSearchingOf image facts entry c.frames.keys c.places.keys c.leaps None) (sym code_is) (subst (λ (o : Option Faulty). IsSearchingOf image facts entry search.code.frames.keys search.code.places.keys search.code.leaps o) none s);
      targets = subst (λ (c : Code). (v : List Leap) → Has c.leaps v → AreTargets (length c.leaps) v) (sym code_is) targets_inside;
      small = not_many image facts entry search.code.frames.keys search.code.places.keys search.code.leaps search.least s complete.ready.few complete.all;
      sound = sound image facts entry search.code.frames.keys search.code.places.keys search.code.leaps search.least s complete.ready.few complete.all none;
      live = subst (λ (c : Code). IsLive c.leaps survey.live.items) (sym code_is) (subst (IsLive search.code.leaps) (sym live_is) live);
      started = subst (λ (m : List Bool). IsMarked m 0) (sym live_is) started;
    }
