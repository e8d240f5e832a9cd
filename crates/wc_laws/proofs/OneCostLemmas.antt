-- The costs of a graph's steps are one list: must and may are determined at each node, though not beside the nodes.
use Rattle.std.proofs.Common.{ℕ, ◌≡◌, ◌<◌, ◌≤◌, ◌%◌, Bool, nat_lt, Option, None, Some, List, length, Ok, Err, sym, ap, ap₂, ◌∙◌, arith}
use Rattle.std.specs.List.{slice_get}
use Rattle.std.proofs.lemmas.Option.{same_Some, slice_get_within}
use Rattle.wc_model.proofs.Places.{get_within}
use Rattle.wc_model.specs.declared.graphs.Category.{Category}
use Rattle.wc_model.specs.declared.graphs.Costs.{Costs}
use Rattle.wc_model.specs.declared.graphs.Flags.{Flags}
use Rattle.wc_model.specs.declared.graphs.Graph.{Graph}
use Rattle.wc_model.specs.declared.machine.Cache.{Cache}
use Rattle.wc_model.specs.declared.machine.Hardware.{Hardware}
use Rattle.wc_model.specs.declared.machine.StartState.{StartState}
use Rattle.wc_model.specs.declared.machine.StartState.TheVariants.{Empty, Any}
use Rattle.wc_model.specs.Cache.Ages.{AreFlagsOf, AreMayFlags, AreMayFlagsFrom, AreMustFlags, IsMay, IsMust, Sets, in_state}
use Rattle.wc_model.specs.Cache.Categories.{categories_of}
use Rattle.wc_model.specs.Cache.Costs.{AreCosts, upper_costs}
use Rattle.wc_model.specs.Cache.Lines.{line_of}
use Rattle.wc_model.specs.Workspace.Chain.{CostsOf}
use Rattle.wc_model.specs.Workspace.Edits.{Setting}
use Rattle.wc_laws.proofs.OneListLemmas.{same_places}
use Rattle.wc_laws.proofs.OnePhaseLemmas.{IsOne}

between : (a b : ℕ) → a ≤ b → b ≤ a → a ≡ b
between a b most least = omega (arith, most, least)

module _ (graph : Graph) (cache : Cache) where
  -- two states at each node that have the same lines
  abbrev AreAlike : (ℕ → Sets) → (ℕ → Sets) → Type 0
  AreAlike a b = (p line : ℕ) → p < length graph.nodes → in_state cache.sets (a p) line ≡ in_state cache.sets (b p) line

  must_once : (a b : ℕ → Sets) → IsMust graph cache a → IsMust graph cache b → AreAlike a b
  must_once a b is also p line known =
      let there = is.least b also.solves p known (line % cache.sets) in
      let back = also.least a is.solves p known (line % cache.sets) in
      ap₂ (λ (x y : ℕ). nat_lt x y) (between ((a p (line % cache.sets)).age line) ((b p (line % cache.sets)).age line) (there.1 line) (back.1 line)) there.0

  may_once : (a b : ℕ → Sets) → IsMay graph cache a → IsMay graph cache b → AreAlike a b
  may_once a b is also p line known =
      let there = is.least b also.solves p known (line % cache.sets) in
      let back = also.least a is.solves p known (line % cache.sets) in
      ap₂ (λ (x y : ℕ). nat_lt x y) (between ((a p (line % cache.sets)).age line) ((b p (line % cache.sets)).age line) (back.1 line) (there.1 line)) there.0

  flags_alike : (a b : ℕ → Sets) (f g : Flags) → AreAlike a b → AreFlagsOf graph cache a f → AreFlagsOf graph cache b g → f.yes ≡ g.yes
  flags_alike a b f g alike is also = same_places f.yes g.yes (is.count ∙ sym also.count) each
    where
      each : (i : ℕ) (x y : Bool) → slice_get f.yes i ≡ Some x → slice_get g.yes i ≡ Some y → x ≡ y
      each i x y at_x at_y =
          let low : i < length f.yes = slice_get_within f.yes i x at_x in
          let known : i < length graph.nodes = omega (arith, low, is.count) in
          let node = get_within graph.nodes i known in
          let line : ℕ = line_of cache node.0.pc in
          same_Some x (in_state cache.sets (a i) line) (sym at_x ∙ is.each i node.0 node.1)
          ∙ alike i line known
          ∙ sym (same_Some y (in_state cache.sets (b i) line) (sym at_y ∙ also.each i node.0 node.1))

  may_flags_from : (start : StartState) (f g : Flags) → AreMayFlagsFrom graph cache start f → AreMayFlagsFrom graph cache start g → f.yes ≡ g.yes
  may_flags_from Empty f g is also = flags_alike is.0 also.0 f g (may_once is.0 also.0 is.1 also.1) is.2 also.2
  may_flags_from Any f g is also = is ∙ sym also

pub must_flags_once : (graph : Graph) (cache : Option Cache) (f g : Flags) → AreMustFlags graph cache f → AreMustFlags graph cache g → f.yes ≡ g.yes
must_flags_once graph None f g is also = is ∙ sym also
must_flags_once graph (Some cache) f g is also = flags_alike graph cache is.0 also.0 f g (must_once graph cache is.0 also.0 is.1 also.1) is.2 also.2

pub may_flags_once : (graph : Graph) (cache : Option Cache) (f g : Flags) → AreMayFlags graph cache f → AreMayFlags graph cache g → f.yes ≡ g.yes
may_flags_once graph None f g is also = is ∙ sym also
may_flags_once graph (Some cache) f g is also = may_flags_from graph cache cache.start f g is also

costs_once : (graph : Graph) (hardware : Hardware) (c d : Costs) → AreCosts graph hardware c → AreCosts graph hardware d → c ≡ d
costs_once graph hardware c d (categories, (must, may, is_must, is_may, of), costs) (others, (must_other, may_other, also_must, also_may, of_other), costs_other) =
    let flags : must.yes ≡ must_other.yes = must_flags_once graph hardware.cache must must_other is_must also_must in
    let flags_may : may.yes ≡ may_other.yes = may_flags_once graph hardware.cache may may_other is_may also_may in
    let same : categories ≡ others = of ∙ ap₂ (λ (xs ys : List Bool). categories_of (length graph.nodes) xs ys) flags flags_may ∙ sym of_other in
    let one : c.of ≡ d.of = costs ∙ ap (λ (cs : List Category). upper_costs graph cs hardware.cycles) same ∙ sym costs_other in
    λ n. record { of = one n }

pub costs_one : (inputs : Setting) (graph : Graph) → IsOne (CostsOf inputs graph)
costs_one inputs graph (Ok c) (Ok d) is also = ap (λ (x : Costs). Ok x) (costs_once graph inputs.hardware c d is also)
costs_one inputs graph (Ok c) (Err f) is also = absurd also
costs_one inputs graph (Err f) s is also = absurd is
