-- A graph has a nest or a class with two heads, and one first such class.
use Rattle.std.proofs.Common.{ℕ, ◌≡◌, ◌<◌, ◌⊎◌, ⊎_elim, Ok, Err, sym, ap, subst, ◌∙◌, arith}
use Rattle.std.specs.List.{slice_get}
use Rattle.std.proofs.lemmas.Bool.{cases_order}
use Rattle.std.proofs.lemmas.Option.{same_Some}
use Rattle.wc_base.specs.declared.faults.Fault.{Fault}
use Rattle.wc_base.specs.declared.faults.Fault.TheVariants.{Irreducible}
use Rattle.wc_model.specs.declared.graphs.Graph.{Graph}
use Rattle.wc_model.specs.declared.graphs.Nest.{Nest}
use Rattle.wc_model.specs.declared.graphs.Node.{Node}
use Rattle.wc_model.specs.Flow.Nest.{ClassAt, IsIrreducible, IsNest, IsNestFault, IsSecond}
use Rattle.wc_model.specs.Program.Graphs.{LeadsIn}
use Rattle.wc_model.specs.Workspace.Phases.{NestOf}
use Rattle.wc_nest.specs.Inner.Nests.{StepAt}
use Rattle.wc_nest.proofs.RelationLemmas.{together_sym, together_then}
use Rattle.wc_laws.proofs.OneNestLemmas.{nest_once}
use Rattle.wc_laws.proofs.OnePhaseLemmas.{IsOne}

equal_if : (a b : ℕ) → (a < b → ⊥) → (b < a → ⊥) → a ≡ b
equal_if a b low high = ⊎_elim
    (λ (same : a ≡ b). same)
    (λ (apart : (a < b) ⊎ (b < a)). absurd (⊎_elim low high apart))
    (cases_order a b)

module _ (graph : Graph) where
  abbrev IsSecondAt : ℕ → ℕ → ℕ → Type 0
  IsSecondAt k q m = IsSecond graph.start (StepAt graph k) (λ p r. p < r) q m

  abbrev IsBroken : ℕ → Type 0
  IsBroken q = IsIrreducible (LeadsIn graph.steps) graph.start (λ p r. p < r) q

  -- a second head of a class is not below another one
  not_below : (k q r m : ℕ) → IsSecondAt k q m → IsSecondAt k r m → q < r → ⊥
  not_below k q r m is also less =
      let class : ClassAt graph k q r = together_then (StepAt graph k) graph.start q m r (together_sym (StepAt graph k) graph.start m q is.member) also.member in
      let before = is.first in
      let low : before.0 < q = before.1 in
      let one : q ≡ also.first.0 = also.first.4 q less is.head class in
      let two : before.0 ≡ also.first.0 = also.first.4 before.0 (omega (arith, low, less)) before.2 (together_then (StepAt graph k) graph.start before.0 q r before.3 class) in
      omega (arith, low, one, two)

  module _ (q r : ℕ) (is : IsBroken q) (also : IsBroken r) where
    level_same : is.level ≡ also.level
    level_same = equal_if is.level also.level
        (λ (less : is.level < also.level). also.outer is.level q is.least less is.second)
        (λ (more : also.level < is.level). is.outer also.level r also.least more also.second)

    broken_once : q ≡ r
    broken_once =
        let other : IsSecondAt is.level r also.least = subst (λ (k : ℕ). IsSecondAt k r also.least) (sym level_same) also.second in
        let own : IsSecondAt also.level q is.least = subst (λ (k : ℕ). IsSecondAt k q is.least) level_same is.second in
        let least : is.least ≡ also.least = equal_if is.least also.least
        (λ (less : is.least < also.least). also.first q is.least own less)
        (λ (more : also.least < is.least). is.first r also.least other more) in
        let there : IsSecondAt is.level r is.least = subst (λ (m : ℕ). IsSecondAt is.level r m) (sym least) other in
        equal_if q r
        (λ (less : q < r). not_below is.level q r is.least is.second there less)
        (λ (more : r < q). not_below is.level r q is.least there is.second more)

  nest_apart : (nest : Nest) (fault : Fault) → IsNest graph nest → IsNestFault graph fault → ⊥
  nest_apart nest fault is (q, node, broken, at, named) =
      let first = broken.second.first in
      let low : first.0 < q = first.1 in
      let same : first.0 ≡ q = is.single broken.level first.0 q first.2 broken.second.head first.3 in
      omega (arith, low, same)

  fault_once : (f g : Fault) → IsNestFault graph f → IsNestFault graph g → f ≡ g
  fault_once f g (q, m, broken, at_m, named) (r, n, other, at_n, named_too) =
      let one : q ≡ r = broken_once q r broken other in
      let node : m ≡ n = same_Some m n (sym at_m ∙ ap (λ (p : ℕ). slice_get graph.nodes p) one ∙ at_n) in
      named ∙ ap (λ (x : Node). Irreducible x.pc) node ∙ sym named_too

pub nest_one : (graph : Graph) → IsOne (NestOf graph)
nest_one graph (Ok a) (Ok b) is also = ap (λ (x : Nest). Ok x) (nest_once graph a b is also)
nest_one graph (Ok a) (Err f) is also = absurd (nest_apart graph a f is also)
nest_one graph (Err f) (Ok b) is also = absurd (nest_apart graph b f also is)
nest_one graph (Err f) (Err g) is also = ap (λ (x : Fault). Err x) (fault_once graph f g is also)
