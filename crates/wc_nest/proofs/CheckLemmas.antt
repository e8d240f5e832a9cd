-- What the tests find out of a graph.
use Rattle.std.proofs.Common.{ℕ, zero, suc, ◌≡◌, ◌+◌, ◌<◌, ◌≤◌, ◌^◌, ⊎_elim, Bool, true, false, List, [], ◌∷◌, Option, None, Some, IfSome, All, length, replicate, set, refl, sym, ap, subst, ◌∙◌, arith}
use Rattle.std.specs.List.{Contains, slice_get, slice_index_or}
use Rattle.std.proofs.lemmas.Bool.{cases_lt}
use Rattle.std.proofs.lemmas.List.Elements.{All-contains, All-weaker, All-contains_itself}
use Rattle.std.proofs.lemmas.Option.{none-some, same_Some, slice_get_within, slice_get-get_or}
use Rattle.wc_model.specs.declared.graphs.Context.{Context}
use Rattle.wc_model.specs.declared.graphs.Graph.{Graph}
use Rattle.wc_model.specs.declared.graphs.Step.{Step}
use Rattle.wc_model.specs.Program.Graphs.{LeadsIn, IsGraph}
use Rattle.wc_model.specs.Program.Reaching.{Reaches, here, along, Ends, exits, onward}
use Rattle.wc_model.proofs.Places.{contains_from_get, get_from_contains, get_set_cases, get_within}
use Rattle.wc_nest.specs.Inner.Checks.{AreJoined, AreEnding, AreOrdered, IsAfter, IsEnding, IsKnown}
use Rattle.wc_nest.proofs.ListLemmas.{pairs_from}

-- one more step
pub ordered_more : (nodes : ℕ) (steps : List Step) (k : ℕ) (s : Step) → slice_get steps k ≡ Some s → IsKnown nodes s → IsAfter steps k → AreOrdered nodes steps k → AreOrdered nodes steps (k + 1)
ordered_more nodes steps k s at known after was =
    record {
      known = λ i t less at_t. ⊎_elim
          (λ (before : i < k). was.known i t before at_t)
          (λ (now : k ≤ i). let same : k ≡ i = omega arith in subst (λ (x : Step). IsKnown nodes x) (same_Some s t (sym at ∙ ap (slice_get steps) same ∙ at_t)) known)
          (cases_lt i k);
      after = λ i less. ⊎_elim
          (λ (before : i < k). was.after i before)
          (λ (now : k ≤ i). let same : k ≡ i = omega arith in subst (λ (n : ℕ). IsAfter steps n) same after)
          (cases_lt i k);
    }

sorted_to : (steps : List Step) → ((k : ℕ) → k < length steps → IsAfter steps k) → (k i : ℕ) (s t : Step) → i < k → slice_get steps i ≡ Some s → slice_get steps k ≡ Some t → s.source ≤ t.source
sorted_to steps after zero i s t less at_s at_t = absurd (omega arith)
sorted_to steps after (suc k) i s t less at_s at_t =
    let within : suc k < length steps = slice_get_within steps (suc k) t at_t in
    let u = get_within steps k (omega arith) in
    let last : u.0.source ≤ t.source = after (suc k) within k u.0 t refl u.1 at_t in
    ⊎_elim
    (λ (before : i < k). let first : s.source ≤ u.0.source = sorted_to steps after k i s u.0 before at_s u.1 in omega arith)
    (λ (now : k ≤ i). let same : i ≡ k = omega arith in let one : s ≡ u.0 = same_Some s u.0 (sym at_s ∙ ap (slice_get steps) same ∙ u.1) in omega (arith, ap (λ (x : Step). x.source) one))
    (cases_lt i k)

-- nodes that are joined to the start
pub joined_first : (steps : List Step) (nodes start : ℕ) → AreJoined steps start (set (replicate nodes false) start true)
joined_first steps nodes start k at = ⊎_elim
    (λ same. subst (λ (n : ℕ). Reaches (LeadsIn steps) start n) (sym same.0) here)
    (λ other. absurd (no_flag nodes k other.1))
    (get_set_cases (replicate nodes false) start k true true at)
  where
    no_flag : (n q : ℕ) → slice_get (replicate n false) q ≡ Some true → ⊥
    no_flag zero q at = none-some true at
    no_flag (suc n) zero at = let e : false ≡ true = same_Some false true at in cc
    no_flag (suc n) (suc q) at = no_flag n q at

flag_at : (flags : List Bool) (q : ℕ) → slice_index_or flags q false ≡ true → slice_get flags q ≡ Some true
flag_at [] q is = let e : false ≡ true = is in cc
flag_at (b ∷ flags) zero is = ap Some is
flag_at (b ∷ flags) (suc q) is = flag_at flags q is

pub joins_on : (steps : List Step) (k q : ℕ) (s : Step) (flags : List Bool) → slice_get steps k ≡ Some s → s.target ≡ Some q → slice_index_or flags s.source false ≡ true → (start : ℕ) → AreJoined steps start flags → AreJoined steps start (set flags q true)
joins_on steps k q s flags at to from start joined j at_j = ⊎_elim
    (λ same. subst (λ (n : ℕ). Reaches (LeadsIn steps) start n) (sym same.0) (along q (joined s.source (flag_at flags s.source from)) (s, contains_from_get steps k s at, refl, to)))
    (λ other. joined j other.1)
    (get_set_cases flags q j true true at_j)

-- nodes from which a walk comes to the exit
pub ends_on : (steps : List Step) (k : ℕ) (s : Step) (flags : List Bool) → slice_get steps k ≡ Some s → IsEnding flags s.target → AreEnding steps flags → AreEnding steps (set flags s.source true)
ends_on steps k s flags at to ending j at_j = ⊎_elim
    (λ same. subst (λ (n : ℕ). Ends (LeadsIn steps) n) (sym same.0) (by s.target refl to))
    (λ other. ending j other.1)
    (get_set_cases flags s.source j true true at_j)
  where
    by : (o : Option ℕ) → s.target ≡ o → IsEnding flags o → Ends (LeadsIn steps) s.source
    by None is to_o = exits (s, contains_from_get steps k s at, refl, is)
    by (Some q) is to_o = onward q (s, contains_from_get steps k s at, refl, is) (ending q (flag_at flags q to_o))

pub none_ending : (steps : List Step) (nodes : ℕ) → AreEnding steps (replicate nodes false)
none_ending steps nodes k at = absurd (no_flag nodes k at)
  where
    no_flag : (n q : ℕ) → slice_get (replicate n false) q ≡ Some true → ⊥
    no_flag zero q at = none-some true at
    no_flag (suc n) zero at = let e : false ≡ true = same_Some false true at in cc
    no_flag (suc n) (suc q) at = no_flag n q at

-- all of it
flagged : (flags : List Bool) (k : ℕ) → All (λ b. b ≡ true) flags → k < length flags → slice_get flags k ≡ Some true
flagged flags k all within = slice_get-get_or flags k false within ∙ ap Some (all k false within)

pub graph_from : (graph : Graph) (joined ending : List Bool) → length graph.nodes ≤ 100000 → length graph.steps ≤ 100000 → graph.start < length graph.nodes → All (λ n. n.context < length graph.contexts) graph.nodes → All (λ c. c.parent ≡ None) graph.contexts → AreOrdered (length graph.nodes) graph.steps (length graph.steps)
    → length joined ≡ length graph.nodes → AreJoined graph.steps graph.start joined → All (λ b. b ≡ true) joined → length ending ≡ length graph.nodes → AreEnding graph.steps ending → All (λ b. b ≡ true) ending → IsGraph graph
graph_from graph joined ending few few_steps starts placed roots ordered joined_counted joins all_joined ending_counted ends all_ending =
    record {
      few = few;
      few_steps = let power : 100000 < 2 ^ 32 = omega arith in omega arith;
      starts = starts;
      sources = All-weaker (Contains graph.steps) (λ (s : Step). s.source < length graph.nodes) (λ s among. (known s among).0) graph.steps (All-contains_itself graph.steps);
      targets = All-weaker (Contains graph.steps) (λ (s : Step). IfSome s.target (λ q. q < length graph.nodes)) (λ s among. (known s among).1) graph.steps (All-contains_itself graph.steps);
      sorted = pairs_from (λ (s t : Step). s.source ≤ t.source) graph.steps (λ i j s t less at_s at_t. sorted_to graph.steps ordered.after j i s t less at_s at_t);
      live = λ k less. (joins k (flagged joined k all_joined (omega arith)), ends k (flagged ending k all_ending (omega arith)));
      placed = placed;
      parents = λ k c at. let none : c.parent ≡ None = All-contains (λ (x : Context). x.parent ≡ None) graph.contexts c roots (contains_from_get graph.contexts k c at) in rw none tt;
    }
  where
    known : (s : Step) → Contains graph.steps s → IsKnown (length graph.nodes) s
    known s among = let placed_s = get_from_contains graph.steps s among in ordered.known placed_s.0 s (slice_get_within graph.steps placed_s.0 s placed_s.1) placed_s.1
