-- The bounds of loops depend on the facts by those that state bounds alone.
use Rattle.std.proofs.Common.{◌≡◌, ℕ, zero, suc, true, List, [], ◌∷◌, map, Some, None, refl, ap, subst, ◌∙◌, arith}
use Rattle.std.specs.Prelude.{Contains}
use Rattle.std.specs.List.{AllZip, filter}
use Rattle.wc_base.specs.declared.faults.Fault.{Fault}
use Rattle.wc_graph.proofs.SearchLemmas.{contains_map}
use Rattle.wc_model.specs.declared.flow_facts.Fact.{Fact as FlowFact}
use Rattle.wc_model.specs.declared.flow_facts.Fact.TheVariants.{Loop, Multibranch, Multicall, Noreturn, Checksum, Limit}
use Rattle.wc_model.specs.declared.graphs.Graph.{Graph}
use Rattle.wc_model.specs.declared.graphs.Head.{Head}
use Rattle.wc_model.specs.declared.graphs.Nest.{Nest}
use Rattle.wc_model.specs.declared.kinds.Part.{Part}
use Rattle.wc_model.specs.declared.kinds.Part.TheVariants.{Loops}
use Rattle.wc_model.specs.Flow.Bounds.{AreBounds, HasNoBound, IsBoundOf, IsBoundsFault, IsUnbounded, StandsFor, StatesBound}
use Rattle.wc_model.specs.Program.Positions.{Position}
use Rattle.wc_model.specs.Workspace.Edits.{belongs}
use Rattle.wc_nest.proofs.FlagLemmas.{filter_from, filter_to}

abbrev pub stated_in : List (ℕ × FlowFact) → List FlowFact
stated_in facts = map (λ (f : ℕ × FlowFact). f.1) facts

map_from : {X Y : Type 0} (f : X → Y) (xs : List X) (y : Y) → Contains (map f xs) y → (x : X) × Contains xs x × (f x ≡ y)
map_from f [] y among = absurd (omega (arith, among.1))
map_from f (x ∷ xs) y (zero, within, is) = (x, (0, omega arith, refl), is)
map_from f (x ∷ xs) y (suc k, within, is) =
    let of = map_from f xs y (k, omega (arith, within), is) in
    (of.0, (suc of.1.0, omega (arith, of.1.1), of.1.2), of.2)

-- a fact of a part that one list has is in the other one
abbrev pub Carries : Part → List FlowFact → List FlowFact → Type 0
Carries part fs gs = (fact : FlowFact) → belongs part fact ≡ true → Contains fs fact → Contains gs fact

pub carried : (part : Part) (cs bs : List (ℕ × FlowFact)) → filter (λ f. belongs part f.1) cs ≡ filter (λ f. belongs part f.1) bs → Carries part (stated_in cs) (stated_in bs)
carried part cs bs same fact is among =
    let of = map_from (λ (f : ℕ × FlowFact). f.1) cs fact among in
    let kept = filter_to (λ (f : ℕ × FlowFact). belongs part f.1) cs of.0 of.1 (ap (belongs part) of.2 ∙ is) in
    let moved = filter_from (λ (f : ℕ × FlowFact). belongs part f.1) bs of.0 (subst (λ (l : List (ℕ × FlowFact)). Contains l of.0) same kept) in
    subst (λ (f : FlowFact). Contains (stated_in bs) f) of.2 (contains_map (λ (f : ℕ × FlowFact). f.1) bs of.0 moved.0)

is_loop : (p : Position) (k n : ℕ) (fact : FlowFact) → StatesBound p k n fact → belongs Loops fact ≡ true
is_loop p k n (Loop at (Some b) within) states = refl
is_loop p k n (Loop at None within) states = absurd states
is_loop p k n (Multibranch at to) states = absurd states
is_loop p k n (Multicall at to) states = absurd states
is_loop p k n (Noreturn at) states = absurd states
is_loop p k n (Checksum name value) states = absurd states
is_loop p k n (Limit left right) states = absurd states

module _ (fs gs : List FlowFact) (there : Carries Loops fs gs) (back : Carries Loops gs fs) where
  bound_alike : (p : Position) (bound : ℕ) → IsBoundOf fs p bound → IsBoundOf gs p bound
  bound_alike p bound is =
      record {
        depth = is.depth;
        stated = (is.stated.0, there is.stated.0 (is_loop p is.depth bound is.stated.0 is.stated.2) is.stated.1, is.stated.2);
        longest = λ fact k n among states. is.longest fact k n (back fact (is_loop p k n fact states) among) states;
        least = λ fact n among states. is.least fact n (back fact (is_loop p is.depth n fact states) among) states;
      }

  none_alike : (p : Position) → HasNoBound fs p → HasNoBound gs p
  none_alike p none = λ fact k n among states. none fact k n (back fact (is_loop p k n fact states) among) states

  each_alike : (graph : Graph) (heads : List Head) (bounds : List ℕ)
      → AllZip (λ head bound. (p : Position) × StandsFor graph head p × IsBoundOf fs p bound) heads bounds
      → AllZip (λ head bound. (p : Position) × StandsFor graph head p × IsBoundOf gs p bound) heads bounds
  each_alike graph [] [] are = are
  each_alike graph [] (b ∷ bs) are = absurd are
  each_alike graph (h ∷ hs) [] are = absurd are
  each_alike graph (h ∷ hs) (b ∷ bs) are = ((are.0.0, are.0.1, bound_alike are.0.0 b are.0.2), each_alike graph hs bs are.1)

  pub bounds_alike : (graph : Graph) (nest : Nest) (bounds : List ℕ) → AreBounds graph nest fs bounds → AreBounds graph nest gs bounds
  bounds_alike graph nest bounds are = each_alike graph nest.heads bounds are

  unbounded_alike : (graph : Graph) (nest : Nest) (p : Position) → IsUnbounded graph nest fs p → IsUnbounded graph nest gs p
  unbounded_alike graph nest p is = (is.0, is.1, is.2, none_alike p is.3)

pub bounds_fault_alike : (fs gs : List FlowFact) → Carries Loops fs gs → Carries Loops gs fs → (graph : Graph) (nest : Nest) (fault : Fault)
    → IsBoundsFault graph nest fs fault → IsBoundsFault graph nest gs fault
bounds_fault_alike fs gs there back graph nest fault is =
    (is.0, is.1, unbounded_alike fs gs there back graph nest is.0 is.2, λ q other. is.3 q (unbounded_alike gs fs back there graph nest q other))
