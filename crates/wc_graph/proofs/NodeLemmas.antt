-- The nodes and the contexts stand for the live positions and their stacks.
use Rattle.std.proofs.Common.{ℕ, zero, suc, ◌≡◌, ◌↔◌, inl, inr, List, [], ◌∷◌, ◌++◌, map, reverse, Option, None, Some, option_and_then, length, refl, sym, ap, subst, ◌∙◌, Less}
use Rattle.std.specs.Cmp.Lexicographic.{slice_cmp}
use Rattle.std.specs.List.{AllPairs, AllZip, Contains, flat_map, slice_get}
use Rattle.std.proofs.lemmas.List.{length-map, reverse-reverse}
use Rattle.std.proofs.lemmas.Option.{none-some, same_Some}
use Rattle.wc_base.specs.declared.faults.Fault.TheVariants.{OutOfText, UnknownInstruction}
use Rattle.wc_model.proofs.Places.{contains_from_get, get_from_contains}
use Rattle.wc_model.specs.declared.elf_image.Image.{Image}
use Rattle.wc_model.specs.declared.flow_facts.Fact.{Fact}
use Rattle.wc_model.specs.declared.graphs.Context.{Context}
use Rattle.wc_model.specs.declared.graphs.Node.{Node}
use Rattle.wc_model.specs.declared.instructions.Insn.{Insn}
use Rattle.wc_model.specs.Program.Graphs.{IsLivePosition, IsNodeOf, IsStack}
use Rattle.wc_model.specs.Program.Instruction.{insn_of}
use Rattle.wc_model.specs.Program.Positions.{Call, Position, call_cmp, stack_cmp}
use Rattle.wc_model.specs.Program.Steps.{fault_at, insn_at, insn_fault, word_fault}
use Rattle.wc_model.specs.Program.Words.{word_at}
use Rattle.wc_graph.specs.declared.frames.Frame.{Frame}
use Rattle.wc_graph.specs.declared.frames.Place.{Place}
use Rattle.wc_graph.specs.declared.numbering.Numbering.{Numbering}
use Rattle.wc_graph.specs.declared.survey.Survey.{Survey}
use Rattle.wc_graph.specs.Inner.Assemblies.{context_of, node_if, node_of}
use Rattle.wc_graph.specs.Inner.Frames.{HasStack}
use Rattle.wc_graph.specs.Inner.Lists.{Has}
use Rattle.wc_graph.specs.Inner.Numberings.{AreRanked}
use Rattle.wc_graph.specs.Inner.Ordered.{place_at}
use Rattle.wc_graph.specs.Inner.Orders.{Before, Pairs}
use Rattle.wc_graph.specs.Inner.Walks.{IsOn}
use Rattle.wc_graph.proofs.Assembled.{pairs_all}
use Rattle.wc_graph.proofs.AssemblyLemmas.{context_stack, get_map}
use Rattle.wc_graph.proofs.FrameLemmas.{stack_same}
use Rattle.wc_graph.proofs.LiveLemmas.{live_number, place_of, stack_of}
use Rattle.wc_graph.proofs.OrderLemmas.{before_less}
use Rattle.wc_graph.proofs.PositionLemmas.{IsAs, place_rank, positions, stack_at, zip_as}
use Rattle.wc_graph.proofs.ReachLemmas.{get_has}
use Rattle.wc_graph.proofs.RisingLemmas.{has_map}
use Rattle.wc_graph.proofs.ZipLemmas.{zip_left, zip_length}

map_get : {X Y : Type 0} (f : X → Y) (xs : List X) (i : ℕ) (y : Y) → slice_get (map f xs) i ≡ Some y → (x : X) × (slice_get xs i ≡ Some x) × (f x ≡ y)
map_get f [] i y at = absurd (none-some y at)
map_get f (x ∷ xs) zero y at = (x, refl, same_Some (f x) y at)
map_get f (x ∷ xs) (suc i) y at = map_get f xs i y at

-- a position without a fault has an instruction
module _ (facts : List Fact) (entry : ℕ) (p : Position) where
  insn_known : (o : Option Insn) → insn_fault entry facts p o ≡ None → (insn : Insn) × (o ≡ Some insn)
  insn_known None fault = absurd (none-some (UnknownInstruction p.pc) (sym fault))
  insn_known (Some insn) fault = (insn, refl)

  word_known : (o : Option ℕ) → word_fault entry facts p o ≡ None → (insn : Insn) × (option_and_then (insn_of p.pc) o ≡ Some insn)
  word_known None fault = absurd (none-some (OutOfText p.pc) (sym fault))
  word_known (Some word) fault = insn_known (insn_of p.pc word) fault

known : (image : Image) (facts : List Fact) (entry : ℕ) (p : Position) → fault_at image facts entry p ≡ None → (insn : Insn) × (insn_at image p.pc ≡ Some insn)
known image facts entry p fault = word_known facts entry p (word_at image p.pc) fault

-- stacks from the innermost call, in order
stack_less : (s t : List Call) → Before s t → stack_cmp (reverse s) (reverse t) ≡ Less
stack_less s t before = ap (λ (xs : List Call). slice_cmp call_cmp xs (reverse (reverse t))) (reverse-reverse s) ∙ ap (slice_cmp call_cmp s) (reverse-reverse t) ∙ before_less s t before

stacks_rise : (ss : List (List Call)) → Pairs Before ss → Pairs (λ a b. stack_cmp a b ≡ Less) (map reverse ss)
stacks_rise [] pairs = tt
stacks_rise (s ∷ ss) pairs = (
  λ t has. let from = has_map reverse ss t has in subst (λ (u : List Call). stack_cmp (reverse s) u ≡ Less) from.2 (stack_less s from.0 (pairs.0 from.0 from.1)),
  stacks_rise ss pairs.1,
)

module _ {image : Image} {facts : List Fact} {entry : ℕ} {survey : Survey} {ranking ordering : Numbering} (b : AreRanked image facts entry survey ranking ordering) where
  abbrev frames : List Frame
  frames = survey.code.frames.keys

  abbrev places : List Place
  places = survey.code.places.keys

  abbrev pub contexts : List Context
  contexts = map (context_of frames ranking.numbers.items) ranking.order.items

  abbrev pub stacks : List (List Call)
  stacks = map reverse b.ranked.listed.stacks

  pub context_is : (i f : ℕ) (calls : List Call) → slice_get ranking.order.items i ≡ Some f → HasStack entry frames f calls → IsStack entry contexts i calls
  context_is i f calls at stack = context_stack entry frames b.ranked.marks b.ranked.walkable ranking.order.items b.ranked.listed b.ranked.numbered.once (length frames) ranking.numbers.items b.ranked.numbered.placed calls i f at (b.ranked.listed.live_are f (get_has ranking.order.items i f at)) stack

  -- nodes
  node_is : (k : ℕ) (q : Position) → IsAs b k q → IsLivePosition image facts entry q → (node : Node) × (node_of image places ranking.numbers.items k ≡ node ∷ []) × IsNodeOf image entry contexts node q
  node_is k q stands lives =
      let at = place_of image facts entry survey b.is k q stands.0 in
      let rank = place_rank b k stands.1 in
      let insn = known image facts entry q (b.is.sound q lives.0) in
      let there : insn_at image (place_at places k).pc ≡ Some insn.0 = ap (insn_at image) at.address ∙ insn.1 in (
        record { context = rank.0; pc = (place_at places k).pc; insn = insn.0 },
        ap (λ (o : Option ℕ). node_if o (place_at places k).pc (insn_at image (place_at places k).pc)) rank.2 ∙ ap (node_if (Some rank.0) (place_at places k).pc) there,
        record { stack = context_is rank.0 (place_at places k).frame q.calls rank.1 at.stack; address = at.address; instruction = insn.1 },
      )

  nodes_from : (ks : List ℕ) (qs : List Position) → ((q : Position) → Has qs q → IsLivePosition image facts entry q) → AllZip (IsAs b) ks qs → AllZip (IsNodeOf image entry contexts) (flat_map (node_of image places ranking.numbers.items) ks) qs
  nodes_from [] [] live zip = zip
  nodes_from [] (q ∷ qs) live zip = absurd zip
  nodes_from (k ∷ ks) [] live zip = absurd zip
  nodes_from (k ∷ ks) (q ∷ qs) live zip =
      let node = node_is k q zip.0 (live q (inl refl)) in
      let rest = nodes_from ks qs (λ p has. live p (inr has)) zip.1 in
      subst (λ (xs : List Node). AllZip (IsNodeOf image entry contexts) (xs ++ flat_map (node_of image places ranking.numbers.items) ks) (q ∷ qs)) (sym node.1) (node.2, rest)

  pub nodes_are : ((q : Position) → Has (positions b) q → IsLivePosition image facts entry q) → AllZip (IsNodeOf image entry contexts) (flat_map (node_of image places ranking.numbers.items) ordering.order.items) (positions b)
  nodes_are live = nodes_from ordering.order.items (positions b) live (zip_as b)

  -- stacks
  pub stack_number : (i : ℕ) (calls : List Call) → slice_get stacks i ≡ Some calls → (f : ℕ) × (slice_get ranking.order.items i ≡ Some f) × HasStack entry frames f calls
  stack_number i calls at =
      let s = map_get reverse b.ranked.listed.stacks i calls at in
      let f = zip_left (IsOn entry frames) ranking.order.items b.ranked.listed.stacks i s.0 b.ranked.listed.are s.1 in
      (f.0, f.1, subst (HasStack entry frames f.0) s.2 f.2)

  pub stacked : (calls : List Call) → Contains stacks calls ↔ ((p : Position) × IsLivePosition image facts entry p × (p.calls ≡ calls))
  stacked calls = (
    λ among.
        let at = get_from_contains stacks calls among in
        let f = stack_number at.0 calls at.1 in
        let p = stack_of image facts entry survey b.is b.ranked.marks b.ranked.are f.0 (b.ranked.listed.live_are f.0 (get_has ranking.order.items at.0 f.0 f.1)) in
        (p.0, p.1, stack_same entry frames f.0 p.0.calls calls p.2 f.2),
    λ lives.
        let p : Position = lives.0 in
        let k = live_number image facts entry survey b.is p lives.1 in
        let stack = (place_of image facts entry survey b.is k.0 p k.1).stack in
        let rank = place_rank b k.0 k.2 in
        let s = stack_at b rank.0 (place_at places k.0).frame p.calls rank.1 stack in
        contains_from_get stacks rank.0 calls (get_map reverse b.ranked.listed.stacks rank.0 s.0 s.1 ∙ ap Some (s.2 ∙ lives.2)),
  )

  pub stacks_sorted : AllPairs (λ a c. stack_cmp a c ≡ Less) stacks
  stacks_sorted = pairs_all (λ a c. stack_cmp a c ≡ Less) stacks (stacks_rise b.ranked.listed.stacks b.ranked.listed.sorted)

  pub contexts_are : (i : ℕ) (calls : List Call) → slice_get stacks i ≡ Some calls → IsStack entry contexts i calls
  contexts_are i calls at = let f = stack_number i calls at in context_is i f.0 calls f.1 f.2

  pub contexts_counted : length contexts ≡ length stacks
  contexts_counted = length-map ranking.order.items (context_of frames ranking.numbers.items) ∙ zip_length (IsOn entry frames) ranking.order.items b.ranked.listed.stacks b.ranked.listed.are ∙ sym (length-map b.ranked.listed.stacks reverse)
