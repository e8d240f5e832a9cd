-- A path of positions from a function's start to its exit is a walk of numbered steps.
use Rattle.std.proofs.Common.{ℕ, ◌≡◌, List, [], ◌∷◌, map, Option, None, Some, IfSome, refl, sym, ap, ap₂, subst, ◌∙◌}
use Rattle.std.specs.List.{AllZip, Contains, slice_get}
use Rattle.std.specs.Option.{option_map}
use Rattle.std.proofs.lemmas.Option.{none-some, same_Some}
use Rattle.wc_model.proofs.Places.{contains_from_get}
use Rattle.wc_model.specs.declared.elf_image.Image.{Image}
use Rattle.wc_model.specs.declared.flow_facts.Fact.{Fact}
use Rattle.wc_model.specs.declared.graphs.Graph.{Graph}
use Rattle.wc_model.specs.declared.graphs.Node.{Node}
use Rattle.wc_model.specs.declared.graphs.Step.{Step as NumberedStep}
use Rattle.wc_model.specs.declared.machine.Cycles.{Cycles}
use Rattle.wc_model.specs.Cache.Timing.{IsGraphWalk, Timed, pc_of, timed_move, timed_step}
use Rattle.wc_model.specs.Program.Graphs.{IsGraphOf, IsKept, IsLivePosition, IsNodeOf, IsTargetOf}
use Rattle.wc_model.specs.Program.Paths.{IsPath, known_cycles}
use Rattle.wc_model.specs.Program.Positions.{Position, start_of}
use Rattle.wc_model.specs.Program.Reaching.{Reaches, along, Ends, exits, onward}
use Rattle.wc_model.specs.Program.Steps.{Step, LeadsBy, insn_at}
use Rattle.wc_graph.proofs.ReachLemmas.{target_none, target_some}
use Rattle.wc_graph.proofs.ZipLemmas.{zip_left}
use Rattle.wc_laws.proofs.GraphPlaces.{Stands, once, place_of, steps}

if_some : {X : Type 0} (o : Option X) (P : X → Type 0) → ((x : X) → o ≡ Some x → P x) → IfSome o P
if_some None P each = tt
if_some (Some x) P each = each x refl

module _ {image : Image} {facts : List Fact} {entry : ℕ} {graph : Graph} (of : IsGraphOf image facts entry graph) where
  -- from a position, or nothing where the function has been left, on to the exit
  abbrev pub GoesOn : Option Position → List Step → Type 0
  GoesOn at [] = at ≡ None
  GoesOn at (s ∷ path) = Contains (steps of s.source) s × (at ≡ Some s.source) × GoesOn s.target path

  own_step : (p : Position) (s : Step) → s.source ≡ p → Contains (steps of p) s → Contains (steps of s.source) s
  own_step p s is among = subst (λ (x : Position). Contains (steps of x) s) (sym is) among

  pub path_goes_on : (p : Position) (path : List Step) → IsPath (steps of) p path → GoesOn (Some p) path
  path_goes_on p [] none = absurd none
  path_goes_on p (s ∷ []) (among, source, exit) = (own_step p s source among, ap Some (sym source), exit)
  path_goes_on p (s ∷ t ∷ path) (among, source, target, rest) =
      (own_step p s source among, ap Some (sym source), subst (λ (o : Option Position). GoesOn o (t ∷ path)) (sym target) (path_goes_on t.source (t ∷ path) rest))

  step_ends : (s : Step) → Contains (steps of s.source) s → (o : Option Position) → s.target ≡ o → ((r : Position) → s.target ≡ Some r → Ends (LeadsBy (steps of)) r) → Ends (LeadsBy (steps of)) s.source
  step_ends s among None is later = exits (s, among, is)
  step_ends s among (Some r) is later = onward r (s, among, is) (later r is)

  goes_to_end : (at : Option Position) (path : List Step) → GoesOn at path → (p : Position) → at ≡ Some p → Ends (LeadsBy (steps of)) p
  goes_to_end at [] is p some = absurd (none-some p (sym is ∙ some))
  goes_to_end at (s ∷ path) (among, from, rest) p some =
      subst (Ends (LeadsBy (steps of))) (same_Some s.source p (sym from ∙ some)) (step_ends s among s.target refl (goes_to_end s.target path rest))

  -- the places of the steps
  pub places_of : (at : Option Position) (path : List Step) → GoesOn at path → ((p : Position) → at ≡ Some p → Reaches (LeadsBy (steps of)) (start_of entry) p)
      → (places : List ℕ) × AllZip (Stands of) places path
  places_of at [] is reached = ([], tt)
  places_of at (s ∷ path) (among, from, rest) reached =
      let way : Reaches (LeadsBy (steps of)) (start_of entry) s.source = reached s.source from in
      let next : (r : Position) → s.target ≡ Some r → Reaches (LeadsBy (steps of)) (start_of entry) r = λ r is. along r way (s, among, is) in
      let ends : (r : Position) → s.target ≡ Some r → Ends (LeadsBy (steps of)) r = goes_to_end s.target path rest in
      let keeps : IsKept image facts entry s = if_some s.target (IsLivePosition image facts entry) (λ r is. (next r is, ends r is)) in
      let place = place_of of s.source s (way, step_ends s among s.target refl ends) among keeps in
      let later = places_of s.target path rest next in
      (place.0 ∷ later.0, (place.1, later.1))

  -- the numbered steps there
  abbrev pub numbers : (places : List ℕ) (path : List Step) → AllZip (Stands of) places path → List NumberedStep
  numbers [] path stand = []
  numbers (i ∷ places) [] stand = []
  numbers (i ∷ places) (s ∷ path) stand = stand.0.numbered ∷ numbers places path stand.1

  pub left_at : (o : Option ℕ) (at : Option Position) (i : ℕ) (s : Step) (stands : Stands of i s) → IsTargetOf of.positions o at → at ≡ Some s.source → o ≡ Some stands.numbered.source
  left_at o at i s stands target from =
      let k = target_some of.positions o at s.source from target in
      k.1 ∙ ap Some ((once of).left s.source k.0 stands.numbered.source k.2 stands.is.source_is)

  pub graph_walk : (o : Option ℕ) (at : Option Position) (places : List ℕ) (path : List Step) (stand : AllZip (Stands of) places path) → IsTargetOf of.positions o at → GoesOn at path
      → IsGraphWalk graph.steps o (numbers places path stand)
  graph_walk o at [] [] stand target is = target_none of.positions o at is target
  graph_walk o at [] (s ∷ path) stand target is = absurd stand
  graph_walk o at (i ∷ places) [] stand target is = absurd stand
  graph_walk o at (i ∷ places) (s ∷ path) stand target (among, from, rest) = (
    contains_from_get graph.steps i stand.0.numbered stand.0.there,
    left_at o at i s stand.0 target from,
    graph_walk stand.0.numbered.target s.target places path stand.1 stand.0.is.target_is rest,
  )

  -- what a step costs beside its fetch, and which address that fetches
  step_timed : (c : Cycles) (i : ℕ) (s : Step) (stands : Stands of i s) → timed_move image c s ≡ timed_step graph c stands.numbered
  step_timed c i s stands =
      let n = zip_left (IsNodeOf image entry graph.contexts) graph.nodes of.positions stands.numbered.source s.source of.nodes stands.is.source_is in
      let base : known_cycles c s.taken (insn_at image s.source.pc) ≡ known_cycles c stands.numbered.taken (option_map (λ (m : Node). m.insn) (slice_get graph.nodes stands.numbered.source)) =
      ap₂ (known_cycles c) (sym stands.is.taken_is) (n.2.instruction ∙ sym (ap (option_map (λ (m : Node). m.insn)) n.1)) in
      let pc : s.source.pc ≡ pc_of (slice_get graph.nodes stands.numbered.source) = sym n.2.address ∙ sym (ap pc_of n.1) in
      λ x. record { base = base x; pc = pc x }

  pub path_timed : (c : Cycles) (places : List ℕ) (path : List Step) (stand : AllZip (Stands of) places path) → map (timed_move image c) path ≡ map (timed_step graph c) (numbers places path stand)
  path_timed c [] [] stand = refl
  path_timed c [] (s ∷ path) stand = absurd stand
  path_timed c (i ∷ places) [] stand = absurd stand
  path_timed c (i ∷ places) (s ∷ path) stand = ap₂ (λ (t : Timed) (ts : List Timed). t ∷ ts) (step_timed c i s stand.0) (path_timed c places path stand.1)
