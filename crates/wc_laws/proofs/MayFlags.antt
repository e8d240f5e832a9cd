-- The flags of may exist, with a cache or without one.
use Rattle.std.proofs.Common.{ℕ, zero, suc, ◌≡◌, ◌<◌, Bool, true, List, [], ◌∷◌, replicate, Option, None, Some, IfSome, length, refl, ap, subst}
use Rattle.std.specs.List.{slice_get}
use Rattle.std.proofs.lemmas.List.Elements.{All-contains}
use Rattle.std.proofs.lemmas.Option.{none-some}
use Rattle.wc_model.specs.declared.graphs.Flags.{Flags}
use Rattle.wc_model.specs.declared.graphs.Graph.{Graph}
use Rattle.wc_model.specs.declared.graphs.Node.{Node}
use Rattle.wc_model.specs.declared.graphs.Step.{Step}
use Rattle.wc_model.specs.declared.machine.Cache.{Cache}
use Rattle.wc_model.specs.declared.machine.StartState.{StartState}
use Rattle.wc_model.specs.declared.machine.StartState.TheVariants.{Empty, Any}
use Rattle.wc_model.specs.Cache.Ages.{Ages, Sets, AreFlagsOf, AreMayFlags, AreMayFlagsFrom, IsMay, IsMostPrecise, MayPrecise, accesses, in_state, may_accessed, no_line, no_lines}
use Rattle.wc_model.specs.Cache.Lines.{line_of}
use Rattle.wc_model.specs.Program.Graphs.{IsGraph}
use Rattle.wc_mustmay.specs.Inner.OneSet.{own_access}
use Rattle.wc_mustmay.proofs.SetLemmas.{most_together}
use Rattle.wc_laws.specs.WithoutMay.{MayFlagsExist}
use Rattle.wc_laws.proofs.MayLemmas.{may_exists}

-- A flag for each node, by its place.

abbrev flagged : (ℕ → Node → Bool) → List Node → List Bool
flagged f [] = []
flagged f (n ∷ nodes) = f zero n ∷ flagged (λ p. f (suc p)) nodes

flagged_count : (f : ℕ → Node → Bool) (nodes : List Node) → length (flagged f nodes) ≡ length nodes
flagged_count f [] = refl
flagged_count f (n ∷ nodes) = ap (λ k. suc k) (flagged_count (λ p. f (suc p)) nodes)

flagged_at : (f : ℕ → Node → Bool) (nodes : List Node) (p : ℕ) (n : Node) → slice_get nodes p ≡ Some n → slice_get (flagged f nodes) p ≡ Some (f p n)
flagged_at f [] p n there = absurd (none-some n there)
flagged_at f (m ∷ nodes) zero n there = ap (λ (x : Option Node). flag_of x) there
  where
    flag_of : Option Node → Option Bool
    flag_of None = None
    flag_of (Some x) = Some (f zero x)
flagged_at f (m ∷ nodes) (suc p) n there = flagged_at (λ q. f (suc q)) nodes p n there

flags_of : (graph : Graph) (cache : Cache) (states : ℕ → Sets) → (flags : Flags) × AreFlagsOf graph cache states flags
flags_of graph cache states =
    let f : ℕ → Node → Bool = λ p n. in_state cache.sets (states p) (line_of cache n.pc) in (
      record { yes = flagged f graph.nodes },
      record {
        count = flagged_count f graph.nodes;
        each = λ p n there. flagged_at f graph.nodes p n there;
      },
    )

module _ (graph : Graph) (is : IsGraph graph) where
  leads_to : (o : Option ℕ) (q : ℕ) → o ≡ Some q → IfSome o (λ k. k < length graph.nodes) → q < length graph.nodes
  leads_to o q there within = let known : IfSome (Some q) (λ k. k < length graph.nodes) = subst (λ (x : Option ℕ). IfSome x (λ k. k < length graph.nodes)) there within in known

  set_exists : (ways : ℕ) (access : List (Option ℕ)) → (states : ℕ → Ages) × IsMostPrecise MayPrecise may_accessed graph.steps access graph.start (no_lines ways) (length graph.nodes) states
  set_exists ways access = may_exists (length graph.nodes) ways graph.steps access graph.start (λ p within. (is.live p within).0)
      (λ s among. All-contains (λ (t : Step). t.source < length graph.nodes) graph.steps s is.sources among)
      (λ s q among to. leads_to s.target q to (All-contains (λ (t : Step). IfSome t.target (λ k. k < length graph.nodes)) graph.steps s is.targets among))

  sets_exist : (cache : Cache) → (may : ℕ → Sets) × IsMay graph cache may
  sets_exist cache =
      let own = λ (s : ℕ). set_exists cache.ways (own_access cache.sets s (accesses graph cache)) in (
        λ p s. (own s).0 p,
        most_together MayPrecise may_accessed cache.sets graph.steps (accesses graph cache) graph.start (no_line cache.ways) (length graph.nodes) (λ s. (own s).0) (λ s. (own s).1),
      )

  flags_from : (cache : Cache) (start : StartState) → (flags : Flags) × AreMayFlagsFrom graph cache start flags
  flags_from cache Empty =
      let may = sets_exist cache in
      let flags = flags_of graph cache may.0 in
      (flags.0, (may.0, may.1, flags.1))
  flags_from cache Any = (record { yes = replicate (length graph.nodes) true }, refl)

  flags_exist : (cache : Option Cache) → (flags : Flags) × AreMayFlags graph cache flags
  flags_exist None = (record { yes = [] }, refl)
  flags_exist (Some cache) = flags_from cache cache.start

pub may_flags_exist : MayFlagsExist
may_flags_exist graph cache is = flags_exist graph is cache
