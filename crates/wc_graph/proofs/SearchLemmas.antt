-- One position more is expanded.
use Rattle.std.proofs.Common.{ℕ, zero, suc, ◌≡◌, ◌<◌, ◌≤◌, ⊎_elim, List, [], ◌∷◌, ◌++◌, map, Option, None, Some, IfSome, Bool, true, false, length, refl, sym, ap, subst, ◌∙◌, arith}
use Rattle.std.specs.List.{AllZip, Contains, slice_get}
use Rattle.std.proofs.lemmas.Bool.{cases_lt}
use Rattle.std.proofs.lemmas.List.{length_push, length-map, get_or-map}
use Rattle.std.proofs.lemmas.Option.{none-some, same_Some, slice_get_within}
use Rattle.wc_base.specs.declared.faults.Fault.{Fault}
use Rattle.wc_model.proofs.Places.{get_push_cases, get_within}
use Rattle.wc_model.specs.declared.elf_image.Image.{Image}
use Rattle.wc_model.specs.declared.flow_facts.Fact.{Fact}
use Rattle.wc_model.specs.Program.Positions.{Position, start_of}
use Rattle.wc_model.specs.Program.Reaching.{Reaches, here}
use Rattle.wc_model.specs.Program.Steps.{Step, LeadsBy, fault_at, insn_at, steps_known, steps_of, steps_unless}
use Rattle.wc_graph.specs.declared.code.Code.{Code}
use Rattle.wc_graph.specs.declared.faults.Faulty.{Faulty}
use Rattle.wc_graph.specs.declared.frames.Frame.{Frame}
use Rattle.wc_graph.specs.declared.frames.Leap.{Leap}
use Rattle.wc_graph.specs.declared.frames.Place.{Place}
use Rattle.wc_graph.specs.declared.frames.Turn.{Turn}
use Rattle.wc_graph.specs.declared.opened.Opened.{Opened}
use Rattle.wc_graph.specs.declared.search.Search.{Search}
use Rattle.wc_graph.specs.Inner.Frames.{HasStack, IsAt, along, frame_of}
use Rattle.wc_graph.specs.Inner.Codes.{IsCodeOf, IsNew}
use Rattle.wc_graph.specs.Inner.Exploring.{Lands, IsFollowed, HasWays}
use Rattle.wc_graph.specs.Inner.Faults.{IsAmong, IsLeast}
use Rattle.wc_graph.specs.Inner.Opened.{AreOpened}
use Rattle.wc_graph.specs.Inner.Searches.{IsReady, IsSearchingOf, HasSkipped, AddsTurns, HasSearched, IsSearched}
use Rattle.wc_graph.specs.Inner.Stated.{AreStated}
use Rattle.wc_graph.specs.Inner.Ways.{AreTurns}
use Rattle.wc_graph.specs.declared.stated.Stated.{Stated}
use Rattle.wc_graph.proofs.ExpandLemmas.{lands_kept}
use Rattle.wc_graph.proofs.Interning.{kept_length}
use Rattle.wc_graph.proofs.FaultLemmas.{among_push, among_left, among_last}
use Rattle.wc_graph.proofs.OpenedLemmas.{opened_kept}
use Rattle.wc_graph.proofs.ZipLemmas.{zip_right, zip_so}

pub contains_map : {X Y : Type 0} (f : X → Y) (xs : List X) (x : X) → Contains xs x → Contains (map f xs) (f x)
contains_map f xs x among =
    let less : among.0 < length xs = among.1 in
    (among.0, omega (arith, length-map xs f), get_or-map f xs among.0 x (f x) less ∙ ap f among.2)

module _ (image : Image) (facts : List Fact) (entry : ℕ) (frames : List Frame) (places : List Place) (leaps : List (List Leap)) (least : Option Faulty) (place : Place) (s : IsSearchingOf image facts entry frames places leaps least) (next : slice_get places (length leaps) ≡ Some place) where
  abbrev steps : Position → List Step
  steps = steps_of image facts entry

  pub here_is : (p : Position) × (slice_get s.ps (length leaps) ≡ Some p) × IsAt entry frames place p
  here_is = zip_right (IsAt entry frames) places s.ps (length leaps) place s.found.placed next

  -- a faulty one
  module _ (own_turns : List Turn) (fault : Fault) (turns : AreTurns image facts frames place own_turns (Some fault)) (v : List Leap) (empty : v ≡ []) (more : Option Faulty) (least_more : (gs : List Faulty) → IsLeast gs least → IsLeast (gs ++ (record { at = place.pc; fault = fault }) ∷ []) more) where
    abbrev faulty_now : Faulty
    faulty_now = record { at = place.pc; fault = fault }

    is_faulty : fault_at image facts entry here_is.0 ≡ Some fault
    is_faulty = turns entry here_is.0 here_is.2

    no_steps : steps here_is.0 ≡ []
    no_steps = ap (λ o. steps_unless o (steps_known facts here_is.0 (insn_at image here_is.0.pc))) is_faulty

    pub skipped : IsSearchingOf image facts entry frames places (leaps ++ v ∷ []) more
    skipped = record {
      ps = s.ps;
      found = s.found;
      expanded = λ k w q at_w at_q. ⊎_elim
          (λ (old : slice_get leaps k ≡ Some w). s.expanded k w q old at_q)
          (λ (last : (k ≡ length leaps) × (v ≡ w)).
          let one : here_is.0 ≡ q = same_Some here_is.0 q (sym here_is.1 ∙ ap (slice_get s.ps) (sym last.0) ∙ at_q) in
          subst (λ (xs : List Leap). AllZip (Lands s.ps) xs (steps q)) (sym empty ∙ last.1) (subst (λ (xs : List Step). AllZip (Lands s.ps) [] xs) (sym no_steps ∙ ap steps one) tt))
          (get_push_cases leaps v k w at_w);
      fits = omega (arith, length_push leaps v, slice_get_within s.ps (length leaps) here_is.0 here_is.1);
      faults = s.faults ++ faulty_now ∷ [];
      is_least = least_more s.faults s.is_least;
      faulty = λ k q f less at_q is. ⊎_elim
          (λ (before : k < length leaps). among_left s.faults faulty_now (record { at = q.pc; fault = f }) (s.faulty k q f before at_q is))
          (λ (from : length leaps ≤ k).
          let last : k ≡ length leaps = omega (arith, less, from, length_push leaps v) in
          let one : here_is.0 ≡ q = same_Some here_is.0 q (sym here_is.1 ∙ ap (slice_get s.ps) (sym last) ∙ at_q) in
          let pc : place.pc ≡ q.pc = here_is.2.address ∙ ap (λ (x : Position). x.pc) one in
          let same : fault ≡ f = same_Some fault f (sym is_faulty ∙ ap (fault_at image facts entry) one ∙ is) in
          subst (λ (g : Faulty). IsAmong (s.faults ++ faulty_now ∷ []) g) (ap (λ (n : ℕ). record { at = n; fault = fault }) pc ∙ ap (λ (x : Fault). record { at = q.pc; fault = x }) same) (among_last s.faults faulty_now))
          (cases_lt k (length leaps));
      from = λ f among. ⊎_elim
          (λ (old : IsAmong s.faults f). s.from f old)
          (λ (new : faulty_now ≡ f). subst (λ (g : Faulty). (p : Position) × Reaches (LeadsBy steps) (start_of entry) p × (fault_at image facts entry p ≡ Some g.fault) × (g.at ≡ p.pc)) new (here_is.0, s.found.reached (length leaps) here_is.0 here_is.1, is_faulty, here_is.2.address))
          (among_push s.faults faulty_now f among);
    }

  -- another one, with its ways
  module _ (turns : List Turn) (are : AreTurns image facts frames place turns None) where
    sound_now : fault_at image facts entry here_is.0 ≡ None
    sound_now = (are entry here_is.0 here_is.2).0

    pub ways_now : HasWays steps entry frames places s.ps place turns (length leaps) here_is.0
    ways_now = record {
      found = s.found;
      numbered = here_is.1;
      at = here_is.2;
      ways = λ t among. subst (λ (xs : List Step). Contains xs (along here_is.0 t)) (sym (are entry here_is.0 here_is.2).1) (contains_map (along here_is.0) turns t among);
    }

    pub added : (new_frames : List Frame) (new_places : List Place) (v : List Leap) → IsFollowed steps entry new_frames new_places s.ps v (map (along here_is.0) turns) → IsSearchingOf image facts entry new_frames new_places (leaps ++ v ∷ []) least
    added new_frames new_places v followed =
        let within : length leaps < length s.ps = slice_get_within s.ps (length leaps) here_is.0 here_is.1 in
        record {
          ps = followed.more;
          found = followed.found;
          expanded = λ k w q at_w at_q. ⊎_elim
              (λ (old : slice_get leaps k ≡ Some w).
              let less : k < length leaps = slice_get_within leaps k w old in
              let was = before k q (omega (arith, less, within)) at_q in
              zip_so (Lands s.ps) (Lands followed.more) (lands_kept s.ps followed.more followed.stays) w (steps q) (s.expanded k w q old was))
              (λ (last : (k ≡ length leaps) × (v ≡ w)).
              let was = before k q (omega (arith, last.0, within)) at_q in
              let one : here_is.0 ≡ q = same_Some here_is.0 q (sym here_is.1 ∙ ap (slice_get s.ps) (sym last.0) ∙ was) in
              subst (λ (x : List Leap). AllZip (Lands followed.more) x (steps q)) last.1 (subst (λ (x : Position). AllZip (Lands followed.more) v (steps x)) one (subst (λ (xs : List Step). AllZip (Lands followed.more) v xs) (sym (are entry here_is.0 here_is.2).1) followed.lands)))
              (get_push_cases leaps v k w at_w);
          fits = omega (arith, length_push leaps v, within, kept_length s.ps followed.more followed.stays);
          faults = s.faults;
          is_least = s.is_least;
          faulty = λ k q f less at_q is.
              let was = before k q (omega (arith, less, within, length_push leaps v)) at_q in
              ⊎_elim
              (λ (old : k < length leaps). s.faulty k q f old was is)
              (λ (from : length leaps ≤ k).
              let last : k ≡ length leaps = omega (arith, less, from, length_push leaps v) in
              let one : here_is.0 ≡ q = same_Some here_is.0 q (sym here_is.1 ∙ ap (slice_get s.ps) (sym last) ∙ was) in
              absurd (none-some f (sym sound_now ∙ ap (fault_at image facts entry) one ∙ is)))
              (cases_lt k (length leaps));
          from = s.from;
        }
      where
        before : (k : ℕ) (q : Position) → k < length s.ps → slice_get followed.more k ≡ Some q → slice_get s.ps k ≡ Some q
        before k q less at_q =
            let found = get_within s.ps k less in
            found.1 ∙ ap Some (same_Some found.0 q (sym (followed.stays k found.0 found.1) ∙ at_q))

-- the next position of a search
module _ (image : Image) (stated : Stated) (old : Search) (opened : Opened) (place : Place) (ready : IsReady old) (next : slice_get old.code.places.keys (length old.code.leaps) ≡ Some place) (opened_are : AreOpened old.code.frames.keys opened) where
  pub skip_on : (new : Search) (own_turns : List Turn) (fault : Fault) → ((facts : List Fact) → AreStated facts stated → AreTurns image facts old.code.frames.keys place own_turns (Some fault)) → HasSkipped (record { code = old.code; opened = opened; least = old.least }) new place.pc fault → HasSearched image stated old new true
  skip_on new own_turns fault turns has = (
    record {
      code = subst (λ (fs : List Frame). IsCodeOf fs new.code.places.keys) (sym has.frames) (subst (λ (xs : List Place). IsCodeOf old.code.frames.keys xs) (sym has.places) ready.code);
      few = omega (arith, ready.few, ap length has.places);
      opened = subst (λ (fs : List Frame). AreOpened fs new.opened) (sym has.frames) (subst (AreOpened old.code.frames.keys) (sym has.opened) opened_are);
    },
    ap length has.leaps ∙ length_push old.code.leaps [],
    λ facts entry are s. subst (λ (fs : List Frame). IsSearchingOf image facts entry fs new.code.places.keys new.code.leaps new.least) (sym has.frames)
        (subst (λ (xs : List Place). IsSearchingOf image facts entry old.code.frames.keys xs new.code.leaps new.least) (sym has.places)
        (subst (λ (vs : List (List Leap)). IsSearchingOf image facts entry old.code.frames.keys old.code.places.keys vs new.least) (sym has.leaps)
        (skipped image facts entry old.code.frames.keys old.code.places.keys old.code.leaps old.least place s next own_turns fault (turns facts are) [] refl new.least has.least))),
  )

  pub add_on : (new : Search) (turns : List Turn) (more : Bool) → ((facts : List Fact) → AreStated facts stated → AreTurns image facts old.code.frames.keys place turns None) → AddsTurns (record { code = old.code; opened = opened; least = old.least }) new place turns more → HasSearched image stated old new more
  add_on new turns false are full = λ facts entry told s. full (steps_of image facts entry) entry s.ps (length old.code.leaps) (here_is image facts entry old.code.frames.keys old.code.places.keys old.code.leaps old.least place s next).0 (ways_now image facts entry old.code.frames.keys old.code.places.keys old.code.leaps old.least place s next turns (are facts told))
  add_on new turns true are has = (
    record {
      code = has.expanded.turned.is;
      few = has.expanded.few;
      opened = subst (AreOpened new.code.frames.keys) (sym has.opened) (opened_kept old.code.frames.keys new.code.frames.keys opened.branches.items opened.roots.items has.expanded.turned.stays (kept_length old.code.frames.keys new.code.frames.keys has.expanded.turned.stays) opened_are);
    },
    ap length has.leaps ∙ length_push old.code.leaps has.more,
    λ facts entry told s. subst (λ (least : Option Faulty). IsSearchingOf image facts entry new.code.frames.keys new.code.places.keys new.code.leaps least) (sym has.least)
        (subst (λ (vs : List (List Leap)). IsSearchingOf image facts entry new.code.frames.keys new.code.places.keys vs old.least) (sym has.leaps)
        (added image facts entry old.code.frames.keys old.code.places.keys old.code.leaps old.least place s next turns (are facts told) new.code.frames.keys new.code.places.keys has.more
        (has.expanded.turned.follows (steps_of image facts entry) entry s.ps (length old.code.leaps) (here_is image facts entry old.code.frames.keys old.code.places.keys old.code.leaps old.least place s next).0 (ways_now image facts entry old.code.frames.keys old.code.places.keys old.code.leaps old.least place s next turns (are facts told))))),
  )

-- the start
abbrev root_of : ℕ → Frame
root_of entry = frame_of None (record { returns = 0; callee = entry })

one : {X : Type 0} (k : ℕ) (x y : X) → slice_get (x ∷ []) k ≡ Some y → x ≡ y
one zero x y at = same_Some x y at
one (suc k) x y at = absurd (none-some y at)

first_of_one : {X : Type 0} (k : ℕ) (x y : X) → slice_get (x ∷ []) k ≡ Some y → k ≡ 0
first_of_one zero x y at = refl
first_of_one (suc k) x y at = absurd (none-some y at)

pub starts : (entry : ℕ) (code : Code) (opened : Opened) → IsNew entry code → AreOpened [] opened → IsSearched entry (record { code = code; opened = opened; least = None })
starts entry code opened new none = record {
  ready = record {
    code = subst (λ (fs : List Frame). IsCodeOf fs code.places.keys) (sym new.frames) (subst (λ (xs : List Place). IsCodeOf (root_of entry ∷ []) xs) (sym new.places) (record {
      frames_are = record { once = λ i j x at_i at_j. first_of_one i (root_of entry) x at_i ∙ sym (first_of_one j (root_of entry) x at_j); below = λ k f at. subst (λ (x : Frame). IfSome x.parent (λ j. j < k)) (one k (root_of entry) f at) tt };
      once = λ i j x at_i at_j. first_of_one i (record { frame = 0; pc = entry }) x at_i ∙ sym (first_of_one j (record { frame = 0; pc = entry }) x at_j);
      inside = λ k x at. subst (λ (y : Place). y.frame < 1) (one k (record { frame = 0; pc = entry }) x at) (omega arith);
      fewer = omega arith;
    }));
    few = omega (arith, ap length new.places);
    opened = opened_kept [] code.frames.keys opened.branches.items opened.roots.items (λ k x at. absurd (none-some x at)) (omega arith) none;
  };
  begins = λ image facts. record {
    ps = start_of entry ∷ [];
    found = record {
      placed = subst (λ (fs : List Frame). AllZip (IsAt entry fs) code.places.keys (start_of entry ∷ [])) (sym new.frames) (subst (λ (xs : List Place). AllZip (IsAt entry (root_of entry ∷ [])) xs (start_of entry ∷ [])) (sym new.places) (record { stack = refl; address = refl }, tt));
      rooted = subst (λ (fs : List Frame). HasStack entry fs 0 []) (sym new.frames) refl;
      first = refl;
      reached = λ k p at. subst (λ (x : Position). Reaches (LeadsBy (steps_of image facts entry)) (start_of entry) x) (one k (start_of entry) p at) here;
    };
    expanded = λ k v p at_v at_p. absurd (none-some v (subst (λ (vs : List (List Leap)). slice_get vs k ≡ Some v) new.leaps at_v));
    fits = omega (arith, ap length new.leaps);
    faults = [];
    is_least = refl;
    faulty = λ k p f less at is. absurd (omega (arith, less, ap length new.leaps));
    from = λ f none. absurd none;
  };
}
