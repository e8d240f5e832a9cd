-- The numbers of live positions, and the frames of these.
use Rattle.std.proofs.Common.{ℕ, ◌≡◌, ◌<◌, inr, Bool, true, List, [], ◌∷◌, None, Some, length, refl, sym, ap, subst, ◌∙◌, arith}
use Rattle.std.specs.List.{slice_get}
use Rattle.std.proofs.lemmas.Option.{none-some, same_Some, slice_get_within, get_or_from_slice_get}
use Rattle.wc_model.proofs.Places.{get_within}
use Rattle.wc_model.specs.declared.elf_image.Image.{Image}
use Rattle.wc_model.specs.declared.flow_facts.Fact.{Fact}
use Rattle.wc_model.specs.Program.Graphs.{IsLivePosition}
use Rattle.wc_model.specs.Program.Positions.{Call, Position, start_of}
use Rattle.wc_model.specs.Program.Reaching.{Ends}
use Rattle.wc_model.specs.Program.Steps.{LeadsBy, steps_of}
use Rattle.wc_graph.specs.declared.frames.Frame.{Frame}
use Rattle.wc_graph.specs.declared.frames.Place.{Place}
use Rattle.wc_graph.specs.declared.survey.Survey.{Survey}
use Rattle.wc_graph.specs.Inner.Frames.{HasStack, IsAt, frame_at, frame_of}
use Rattle.wc_graph.specs.Inner.Ordered.{AreLiveFrames, place_at}
use Rattle.wc_graph.specs.Inner.Spreads.{IsMarked}
use Rattle.wc_graph.specs.Inner.Surveys.{IsSurvey}
use Rattle.wc_graph.specs.Inner.Walks.{IsWalkable}
use Rattle.wc_graph.proofs.FrameLemmas.{stack_once}
use Rattle.wc_graph.proofs.ReachLemmas.{every, live_marks}
use Rattle.wc_graph.proofs.StackLemmas.{IsBelow, below_itself, live_below}
use Rattle.wc_graph.proofs.ZipLemmas.{zip_left, zip_length}

module _ (image : Image) (facts : List Fact) (entry : ℕ) (survey : Survey) (is : IsSurvey image facts entry survey) where
  abbrev frames : List Frame
  frames = survey.code.frames.keys

  abbrev places : List Place
  places = survey.code.places.keys

  abbrev marks : List Bool
  marks = survey.live.items

  abbrev pub ps_of : List Position
  ps_of = is.searching.ps

  pub count : length places ≡ length ps_of
  count = zip_length (IsAt entry frames) places ps_of is.searching.found.placed

  pub place_of : (k : ℕ) (p : Position) → slice_get ps_of k ≡ Some p → IsAt entry frames (place_at places k) p
  place_of k p at =
      let x = zip_left (IsAt entry frames) places ps_of k p is.searching.found.placed at in
      subst (λ (y : Place). IsAt entry frames y p) (sym (get_or_from_slice_get places k x.0 (record { frame = 0; pc = 0 }) x.1)) x.2

  pub ends_are : (k : ℕ) (p : Position) → slice_get ps_of k ≡ Some p → (IsMarked marks k → Ends (LeadsBy (steps_of image facts entry)) p) × (Ends (LeadsBy (steps_of image facts entry)) p → IsMarked marks k)
  ends_are k p at = live_marks image facts entry frames places survey.code.leaps None is.searching is.few (omega (arith, is.all)) is.live.sources is.live.are marks is.live.spread k p at

  -- a live position has a live number
  pub live_number : (p : Position) → IsLivePosition image facts entry p → (k : ℕ) × (slice_get ps_of k ≡ Some p) × IsMarked marks k
  live_number p live =
      let at = every image facts entry frames places survey.code.leaps None is.searching is.few (omega (arith, is.all)) p live.0 in
      (at.0, at.1, (ends_are at.0 p at.1).1 live.1)

  pub marked_within : (k : ℕ) → IsMarked marks k → k < length places
  marked_within k marked = omega (arith, slice_get_within marks k true marked, is.live.spread.count, is.live.are.counted, is.all)

  -- and a live number is that of a live position
  pub number_live : (k : ℕ) → IsMarked marks k → (p : Position) × (slice_get ps_of k ≡ Some p) × IsLivePosition image facts entry p
  number_live k marked =
      let p = get_within ps_of k (omega (arith, marked_within k marked, count)) in
      (p.0, p.1, (is.searching.found.reached k p.0 p.1, (ends_are k p.0 p.1).0 marked))

  module _ (live : List Bool) (are : AreLiveFrames (length frames) places marks (length places) live) where
    pub stack_of : (k : ℕ) → IsMarked live k → (p : Position) × IsLivePosition image facts entry p × HasStack entry frames k p.calls
    stack_of k marked =
        let from = are.from k marked in
        let p = number_live from.0 from.2 in
        (p.0, p.2, subst (λ (j : ℕ). HasStack entry frames j p.0.calls) from.3 (place_of from.0 p.0 p.1).stack)

    -- the frame of a live position is live
    pub frame_live : (p : Position) → IsLivePosition image facts entry p → (j : ℕ) → HasStack entry frames j p.calls → IsMarked live j
    frame_live p lives j stack =
        let at = live_number p lives in
        let same : (place_at places at.0).frame ≡ j = stack_once entry frames is.code.frames_are.once (place_at places at.0).frame j p.calls (place_of at.0 p at.1).stack stack in
        subst (IsMarked live) same (are.all at.0 (marked_within at.0 at.2) at.2)

    below_of : (k j : ℕ) (p : Position) → IsLivePosition image facts entry p → HasStack entry frames k p.calls → (frame_at frames k).parent ≡ Some j → IsMarked live j
    below_of k j p lives stack parent = by p.calls refl stack
      where
        by : (calls : List Call) → p.calls ≡ calls → HasStack entry frames k calls → IsMarked live j
        by [] same at = absurd (none-some j (sym (ap (λ (f : Frame). f.parent) (get_or_from_slice_get frames k (frame_of None (record { returns = 0; callee = entry })) (record { parent = None; returns = 0; callee = 0 }) at)) ∙ parent))
        by (c ∷ cs) same at =
            let frame : frame_at frames k ≡ frame_of (Some at.0) c = get_or_from_slice_get frames k (frame_of (Some at.0) c) (record { parent = None; returns = 0; callee = 0 }) at.1 in
            let one : at.0 ≡ j = same_Some at.0 j (sym (ap (λ (f : Frame). f.parent) frame) ∙ parent) in
            let q = live_below image facts entry p lives.0 lives.1 cs (subst (IsBelow cs) (sym same) (inr (below_itself cs))) in
            frame_live q.0 q.1 j (subst (λ (xs : List Call). HasStack entry frames j xs) (sym q.2) (subst (λ (i : ℕ). HasStack entry frames i cs) one at.2))

    first : (p : Position) × (slice_get ps_of 0 ≡ Some p) × IsLivePosition image facts entry p
    first = number_live 0 is.started

    first_is : first.0 ≡ start_of entry
    first_is = same_Some first.0 (start_of entry) (sym first.1 ∙ is.searching.found.first)

    pub walkable : IsWalkable entry frames live
    walkable = record {
      counted = are.counted;
      root = is.searching.found.rooted;
      started = frame_live (start_of entry) (subst (IsLivePosition image facts entry) first_is first.2) 0 is.searching.found.rooted;
      stacked = λ k marked. let p = stack_of k marked in (p.0.calls, p.2);
      below = λ k j marked parent. let p = stack_of k marked in below_of k j p.0 p.1 p.2 parent;
    }
