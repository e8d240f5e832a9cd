-- The bounds of the loops, or the first loop without one, are one: a head's node stands for one position.
use Rattle.std.proofs.Common.{ℕ, ◌≡◌, ◌≤◌, List, Ok, Err, sym, ap, subst, ◌∙◌, arith}
use Rattle.std.proofs.lemmas.Option.{same_Some}
use Rattle.wc_base.specs.declared.faults.Fault.{Fault}
use Rattle.wc_base.specs.declared.faults.Fault.TheVariants.{Unbounded}
use Rattle.wc_graph.proofs.ZipLemmas.{zip_right}
use Rattle.wc_model.proofs.Places.{get_from_contains}
use Rattle.wc_model.specs.declared.flow_facts.Fact.{Fact}
use Rattle.wc_model.specs.declared.graphs.Bounds.{Bounds}
use Rattle.wc_model.specs.declared.graphs.Graph.{Graph}
use Rattle.wc_model.specs.declared.graphs.Head.{Head}
use Rattle.wc_model.specs.declared.graphs.Nest.{Nest}
use Rattle.wc_model.specs.declared.graphs.Node.{Node}
use Rattle.wc_model.specs.Flow.Bounds.{AreBounds, AreCalls, IsBoundOf, IsBoundsFault, StandsFor, StatesBound}
use Rattle.wc_model.specs.Program.Positions.{Position}
use Rattle.wc_model.specs.Workspace.Edits.{Setting}
use Rattle.wc_model.specs.Workspace.Phases.{BoundsOf, stated}
use Rattle.wc_laws.proofs.ContextCalls.{calls_once}
use Rattle.wc_laws.proofs.OneListLemmas.{zip_right_once}
use Rattle.wc_laws.proofs.OnePhaseLemmas.{IsOne}

bound_once : (facts : List Fact) (p : Position) (m n : ℕ) → IsBoundOf facts p m → IsBoundOf facts p n → m ≡ n
bound_once facts p m n is also =
    let most : is.depth ≤ also.depth = also.longest is.stated.0 is.depth m is.stated.1 is.stated.2 in
    let least : also.depth ≤ is.depth = is.longest also.stated.0 also.depth n also.stated.1 also.stated.2 in
    let same : is.depth ≡ also.depth = omega (arith, most, least) in
    let low : m ≤ n = is.least also.stated.0 n also.stated.1 (subst (λ (k : ℕ). StatesBound p k n also.stated.0) (sym same) also.stated.2) in
    let high : n ≤ m = also.least is.stated.0 m is.stated.1 (subst (λ (k : ℕ). StatesBound p k m is.stated.0) same is.stated.2) in
    omega (arith, low, high)

module _ (graph : Graph) where
  stands_once : (head : Head) (p q : Position) → StandsFor graph head p → StandsFor graph head q → p ≡ q
  stands_once head p q (m, at_m, pc_m, calls_m) (n, at_n, pc_n, calls_n) =
      let same : m ≡ n = same_Some m n (sym at_m ∙ at_n) in
      let pc : p.pc ≡ q.pc = sym pc_m ∙ ap (λ (x : Node). x.pc) same ∙ pc_n in
      let calls : p.calls ≡ q.calls = calls_once graph.contexts p.calls q.calls m.context calls_m (subst (λ (x : Node). AreCalls graph.contexts x.context q.calls) (sym same) calls_n) in
      λ n. record { calls = calls n; pc = pc n }

  module _ (nest : Nest) (facts : List Fact) where
    bounds_once : (b c : Bounds) → AreBounds graph nest facts b.of → AreBounds graph nest facts c.of → b ≡ c
    bounds_once b c is also =
        let one : b.of ≡ c.of = zip_right_once
        (λ head bound. (p : Position) × StandsFor graph head p × IsBoundOf facts p bound)
        (λ head bound. (p : Position) × StandsFor graph head p × IsBoundOf facts p bound)
        (λ head m n of_m of_n. bound_once facts of_m.0 m n of_m.2
        (subst (λ (p : Position). IsBoundOf facts p n) (sym (stands_once head of_m.0 of_n.0 of_m.1 of_n.1)) of_n.2))
        nest.heads b.of c.of is also in
        λ n. record { of = one n }

    bounds_apart : (b : Bounds) (fault : Fault) → AreBounds graph nest facts b.of → IsBoundsFault graph nest facts fault → ⊥
    bounds_apart b fault is (p, named, (head, among, stands, none), least) =
        let placed = get_from_contains nest.heads head among in
        let bound = zip_right (λ h n. (q : Position) × StandsFor graph h q × IsBoundOf facts q n) nest.heads b.of placed.0 head is placed.1 in
        let of : IsBoundOf facts p bound.0 = subst (λ (q : Position). IsBoundOf facts q bound.0) (stands_once head bound.2.0 p bound.2.1 stands) bound.2.2 in
        none of.stated.0 of.depth bound.0 of.stated.1 of.stated.2

    fault_once : (f g : Fault) → IsBoundsFault graph nest facts f → IsBoundsFault graph nest facts g → f ≡ g
    fault_once f g (p, named, is, least) (q, named_too, also, least_too) =
        let low : p.pc ≤ q.pc = least q also in
        let high : q.pc ≤ p.pc = least_too p is in
        let same : p.pc ≡ q.pc = omega (arith, low, high) in
        named ∙ ap (λ (at : ℕ). Unbounded at) same ∙ sym named_too

pub bounds_one : (inputs : Setting) (graph : Graph) (nest : Nest) → IsOne (BoundsOf inputs graph nest)
bounds_one inputs graph nest (Ok b) (Ok c) is also = ap (λ (x : Bounds). Ok x) (bounds_once graph nest (stated inputs) b c is also)
bounds_one inputs graph nest (Ok b) (Err f) is also = absurd (bounds_apart graph nest (stated inputs) b f is also)
bounds_one inputs graph nest (Err f) (Ok b) is also = absurd (bounds_apart graph nest (stated inputs) b f also is)
bounds_one inputs graph nest (Err f) (Err g) is also = ap (λ (x : Fault). Err x) (fault_once graph nest (stated inputs) f g is also)
