-- Along the numbered steps each node is reached from the start, and leads to the exit.
use Rattle.std.proofs.Common.{ℕ, ◌≡◌, inl, inr, List, [], ◌∷◌, Option, Some, IfSome, sym, ap, subst, ◌∙◌, arith}
use Rattle.std.specs.List.{Contains, flat_map, slice_get}
use Rattle.std.proofs.lemmas.Option.{slice_get-get_or, slice_get_within}
use Rattle.wc_model.proofs.Places.{contains_from_get, get_from_contains}
use Rattle.wc_model.specs.declared.elf_image.Image.{Image}
use Rattle.wc_model.specs.declared.flow_facts.Fact.{Fact}
use Rattle.wc_model.specs.declared.graphs.Step.{Step as NumberedStep}
use Rattle.wc_model.specs.Program.Graphs.{AreKept, nothing, kept, left, IsKept, IsLivePosition, IsStepOf, IsTargetOf, LeadsIn}
use Rattle.wc_model.specs.Program.Positions.{Position, start_of}
use Rattle.wc_model.specs.Program.Reaching.{Reaches, here, along, Ends, exits, onward, IsLive}
use Rattle.wc_model.specs.Program.Steps.{Step, LeadsBy, steps_of}
use Rattle.wc_graph.specs.declared.frames.Frame.{Frame}
use Rattle.wc_graph.specs.declared.frames.Place.{Place}
use Rattle.wc_graph.specs.declared.numbering.Numbering.{Numbering}
use Rattle.wc_graph.specs.declared.survey.Survey.{Survey}
use Rattle.wc_graph.specs.Inner.Lists.{Has}
use Rattle.wc_graph.specs.Inner.Numberings.{AreRanked}
use Rattle.wc_graph.specs.Inner.Ordered.{place_at}
use Rattle.wc_graph.proofs.FrameLemmas.{at_once}
use Rattle.wc_graph.proofs.KeptLemmas.{AreKeptAll}
use Rattle.wc_graph.proofs.LiveLemmas.{count, place_of}
use Rattle.wc_graph.proofs.PositionLemmas.{is_live, position_number, positions, ps, zip}
use Rattle.wc_graph.proofs.ReachLemmas.{get_has, has_get, target_none, target_some}
use Rattle.wc_graph.proofs.RisingLemmas.{append_has}
use Rattle.wc_graph.proofs.StackLemmas.{step_from}
use Rattle.wc_graph.proofs.ZipLemmas.{zip_left}

kept_has : {A : Type 0} {Keeps : A → Type 0} {all some : List A} → AreKept Keeps all some → (x : A) → Has all x → Keeps x → Has some x
kept_has nothing x has keeps = absurd has
kept_has (kept is rest) x (inl same) keeps = inl same
kept_has (kept is rest) x (inr later) keeps = inr (kept_has rest x later keeps)
kept_has {Keeps = Keeps} (left is rest) x (inl same) keeps = absurd (is (subst Keeps (sym same) keeps))
kept_has (left is rest) x (inr later) keeps = kept_has rest x later keeps

flat_has : {X Y : Type 0} (f : X → List Y) (xs : List X) (x : X) (y : Y) → Has xs x → Has (f x) y → Has (flat_map f xs) y
flat_has f [] x y has own = absurd has
flat_has {X} {Y} f (z ∷ xs) x y (inl same) own = append_has (f z) (flat_map f xs) y (inl (subst (λ (w : X). Has (f w) y) (sym same) own))
flat_has f (z ∷ xs) x y (inr later) own = append_has (f z) (flat_map f xs) y (inr (flat_has f xs x y later own))

module _ {image : Image} {facts : List Fact} {entry : ℕ} {survey : Survey} {ranking ordering : Numbering} (b : AreRanked image facts entry survey ranking ordering) where
  abbrev frames : List Frame
  frames = survey.code.frames.keys

  abbrev places : List Place
  places = survey.code.places.keys

  abbrev steps : Position → List Step
  steps = steps_of image facts entry

  get_place : (k : ℕ) (p : Position) → slice_get (ps b) k ≡ Some p → slice_get places k ≡ Some (place_at places k)
  get_place k p at = slice_get-get_or places k (record { frame = 0; pc = 0 }) (omega (arith, slice_get_within (ps b) k p at, count image facts entry survey b.is))

  -- a position has one number
  pub position_once : (i j : ℕ) (p : Position) → slice_get (positions b) i ≡ Some p → slice_get (positions b) j ≡ Some p → i ≡ j
  position_once i j p at_i at_j =
      let k = zip_left (λ n q. slice_get (ps b) n ≡ Some q) ordering.order.items (positions b) i p (zip b) at_i in
      let l = zip_left (λ n q. slice_get (ps b) n ≡ Some q) ordering.order.items (positions b) j p (zip b) at_j in
      let same : place_at places k.0 ≡ place_at places l.0 = at_once entry frames b.is.code.frames_are.once (place_at places k.0) (place_at places l.0) p (place_of image facts entry survey b.is k.0 p k.2) (place_of image facts entry survey b.is l.0 p l.2) in
      let one : k.0 ≡ l.0 = b.is.code.once k.0 l.0 (place_at places l.0) (get_place k.0 p k.2 ∙ ap Some same) (get_place l.0 p l.2) in
      b.ordered.numbered.once i j l.0 (k.1 ∙ ap Some one) l.1

  module _ (zs : List NumberedStep) (all : AreKeptAll b zs (flat_map steps (positions b))) where
    -- a step that is kept, by its number
    step_in : (q : Position) (i : ℕ) → slice_get (positions b) i ≡ Some q → (s : Step) → Contains (steps q) s → IsKept image facts entry s → (z : NumberedStep) × Contains zs z × (z.source ≡ i) × IsTargetOf (positions b) z.target s.target
    step_in q i at s among keeps =
        let own = get_from_contains (steps q) s among in
        let own_has : Has (steps q) s = get_has (steps q) own.0 s own.1 in
        let has : Has all.some s = kept_has all.kept s (flat_has steps (positions b) q s (get_has (positions b) i q at) own_has) keeps in
        let n = has_get all.some s has in
        let z = zip_left (IsStepOf (positions b)) zs all.some n.0 s all.stands n.1 in
        (z.0, contains_from_get zs n.0 z.0 z.1, position_once z.0.source i q (z.2.source_is ∙ ap Some (step_from image facts entry q s own_has).source_is) at, z.2.target_is)

    leads_on : (q : Position) (i : ℕ) → slice_get (positions b) i ≡ Some q → (r : Position) → IsLivePosition image facts entry r → LeadsBy steps q (Some r) → (j : ℕ) × (slice_get (positions b) j ≡ Some r) × LeadsIn zs i (Some j)
    leads_on q i at r lives leads =
        let z = step_in q i at leads.0 leads.1 (subst (λ (t : Option Position). IfSome t (IsLivePosition image facts entry)) (sym leads.2) lives) in
        let to = target_some (positions b) z.0.target leads.0.target r leads.2 z.3 in
        (to.0, to.2, (z.0, z.1, z.2, to.1))

    reached_in : (start : ℕ) → slice_get (positions b) start ≡ Some (start_of entry) → (p : Position) → Reaches (LeadsBy steps) (start_of entry) p → Ends (LeadsBy steps) p → (k : ℕ) → slice_get (positions b) k ≡ Some p → Reaches (LeadsIn zs) start k
    reached_in start started p here ends k at = subst (Reaches (LeadsIn zs) start) (position_once start k (start_of entry) started at) here
    reached_in start started p (along {q} r way leads) ends k at =
        let onto : Ends (LeadsBy steps) q = onward r leads ends in
        let i = position_number b q (way, onto) in
        let to = leads_on q i.0 i.1 r (along r way leads, ends) leads in
        along k (reached_in start started q way onto i.0 i.1) (subst (λ (j : ℕ). LeadsIn zs i.0 (Some j)) (position_once to.0 k r to.1 at) to.2)

    ends_in : (p : Position) → Ends (LeadsBy steps) p → Reaches (LeadsBy steps) (start_of entry) p → (k : ℕ) → slice_get (positions b) k ≡ Some p → Ends (LeadsIn zs) k
    ends_in p (exits leads) way k at =
        let z = step_in p k at leads.0 leads.1 (subst (λ (t : Option Position). IfSome t (IsLivePosition image facts entry)) (sym leads.2) tt) in
        exits (z.0, z.1, z.2, target_none (positions b) z.0.target leads.0.target leads.2 z.3)
    ends_in p (onward r leads ends) way k at =
        let to = leads_on p k at r (along r way leads, ends) leads in
        onward to.0 to.2 (ends_in r ends (along r way leads) to.0 to.1)

    pub live_in : (start : ℕ) → slice_get (positions b) start ≡ Some (start_of entry) → (k : ℕ) (p : Position) → slice_get (positions b) k ≡ Some p → IsLive (LeadsIn zs) start k
    live_in start started k p at =
        let lives = is_live b k p at in
        (reached_in start started p lives.0 lives.1 k at, ends_in p lives.1 lives.0 k at)
