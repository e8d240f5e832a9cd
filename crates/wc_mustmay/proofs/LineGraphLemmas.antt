-- Each node of a line of nodes lies on a walk from the first one to the exit.
use Rattle.std.proofs.Common.{ℕ, zero, suc, ◌≡◌, ◌<◌, ◌≤◌, ◌+◌, ◌-◌, Bool, true, false, if◌then◌else◌, List, [], ◌∷◌, ◌++◌, Option, None, Some, IfSome, All, length, refl, sym, ap, subst, ◌∙◌, ⊎_elim, arith, length-append}
use Rattle.std.specs.Prelude.{nat_lt}
use Rattle.std.specs.List.{AllPairs, Contains, slice_get}
use Rattle.std.proofs.lemmas.Bool.{cases_lt}
use Rattle.std.proofs.lemmas.Bool.Decides.{nat_tests}
use Rattle.std.proofs.lemmas.List.{append_assoc, get_or_append_left}
use Rattle.std.proofs.lemmas.List.Elements.{All-push, All-weaker}
use Rattle.std.proofs.lemmas.List.Quantifiers.{all_pairs_push}
use Rattle.std.proofs.lemmas.Option.{none-some, same_Some}
use Rattle.wc_model.specs.declared.graphs.Context.{Context}
use Rattle.wc_model.specs.declared.graphs.Graph.{Graph}
use Rattle.wc_model.specs.declared.graphs.Step.{Step}
use Rattle.wc_model.specs.Program.Graphs.{IsGraph, LeadsIn}
use Rattle.wc_model.specs.Program.Reaching.{Reaches, Ends, IsLive}
use Rattle.wc_model.specs.Program.Reaching.Reaches.{here, along}
use Rattle.wc_model.specs.Program.Reaching.Ends.{exits, onward}
use Rattle.wc_mustmay.specs.Inner.LineGraphs.{next_of, onward_at, steps_at, IsLine, AreOfOneStack}

next_some : (nodes j : ℕ) → j + 1 < nodes → next_of nodes j ≡ Some (j + 1)
next_some nodes j less = ap (λ (b : Bool). if b then Some (j + 1) else None) (let e : nat_lt (j + 1) nodes ≡ true = grind (arith, nat_tests) in e)

next_none : (nodes j : ℕ) → nodes ≤ j + 1 → next_of nodes j ≡ None
next_none nodes j more = ap (λ (b : Bool). if b then Some (j + 1) else None) (let e : nat_lt (j + 1) nodes ≡ false = grind (arith, nat_tests) in e)

next_inside : (nodes j : ℕ) → IfSome (next_of nodes j) (λ q. q < nodes)
next_inside nodes j = ⊎_elim
    (λ (less : j + 1 < nodes). subst (λ (x : Option ℕ). IfSome x (λ q. q < nodes)) (sym (next_some nodes j less)) less)
    (λ (more : nodes ≤ j + 1). subst (λ (x : Option ℕ). IfSome x (λ q. q < nodes)) (sym (next_none nodes j more)) tt)
    (cases_lt (j + 1) nodes)

contains_left : {X : Type 0} (xs ys : List X) (x : X) → Contains xs x → Contains (xs ++ ys) x
contains_left xs ys x among = (among.0, omega (arith, length-append xs ys, among.1), get_or_append_left xs ys x among.0 among.1 ∙ among.2)

contains_last : {X : Type 0} (xs : List X) (x : X) → Contains (xs ++ x ∷ []) x
contains_last [] x = (0, omega arith, refl)
contains_last (y ∷ xs) x = let h = contains_last xs x in (suc h.0, omega (arith, h.1), h.2)

-- one step more
record IsPart (nodes count : ℕ) (steps : List Step) : Type 0 where
  sources : All (λ s. s.source ≤ count) steps
  targets : All (λ s. IfSome s.target (λ q. q < nodes)) steps
  sorted : AllPairs (λ s t. s.source ≤ t.source) steps

part_push : (nodes count : ℕ) (steps : List Step) (s : Step) → s.source ≡ count → IfSome s.target (λ q. q < nodes) → IsPart nodes count steps → IsPart nodes count (steps ++ s ∷ [])
part_push nodes count steps s at to part = record {
  sources = All-push (λ (t : Step). t.source ≤ count) steps s part.sources (omega (arith, at));
  targets = All-push (λ (t : Step). IfSome t.target (λ q. q < nodes)) steps s part.targets to;
  sorted = all_pairs_push (λ (t u : Step). t.source ≤ u.source) steps s part.sorted (All-weaker (λ (t : Step). t.source ≤ count) (λ (t : Step). t.source ≤ s.source) (λ t less. omega (arith, less, at)) steps part.sources);
}

line_part : (nodes count : ℕ) (steps : List Step) → IsLine nodes count steps → IsPart nodes count steps
line_part nodes count steps line = record {
  sources = All-weaker (λ (t : Step). t.source < count) (λ (t : Step). t.source ≤ count) (λ t less. omega (arith, less)) steps line.sources;
  targets = line.targets;
  sorted = line.sorted;
}

part_line : (nodes count : ℕ) (old steps : List Step) → IsLine nodes count old → ((s : Step) → Contains old s → Contains steps s) → length steps ≤ length old + 2 → Contains steps (onward_at nodes count) → IsPart nodes count steps → IsLine nodes (count + 1) steps
part_line nodes count old steps line kept few last part = record {
  few = omega (arith, line.few, few);
  sources = All-weaker (λ (t : Step). t.source ≤ count) (λ (t : Step). t.source < count + 1) (λ t less. omega (arith, less)) steps part.sources;
  targets = part.targets;
  sorted = part.sorted;
  straight = λ j below. ⊎_elim
      (λ (less : j < count). kept (onward_at nodes j) (line.straight j less))
      (λ (more : count ≤ j). let e : count ≡ j = omega arith in subst (λ (n : ℕ). Contains steps (onward_at nodes n)) e last)
      (cases_lt j count);
}

pub line_more : (nodes count : ℕ) (jump : Option ℕ) (old steps : List Step) → IfSome jump (λ q. q < nodes) → steps ≡ old ++ steps_at nodes count jump → IsLine nodes count old → IsLine nodes (count + 1) steps
line_more nodes count None old steps inside is line =
    let new : List Step = old ++ onward_at nodes count ∷ [] in
    let part = part_push nodes count old (onward_at nodes count) refl (next_inside nodes count) (line_part nodes count old line) in
    subst (IsLine nodes (count + 1)) (sym is) (part_line nodes count old new line (λ s among. contains_left old (onward_at nodes count ∷ []) s among) (omega (arith, length-append old (onward_at nodes count ∷ []))) (contains_last old (onward_at nodes count)) part)
line_more nodes count (Some target) old steps inside is line =
    let jump : Step = record { source = count; target = Some target; taken = true } in
    let first : List Step = old ++ jump ∷ [] in
    let new : List Step = first ++ onward_at nodes count ∷ [] in
    let part = part_push nodes count first (onward_at nodes count) refl (next_inside nodes count) (part_push nodes count old jump refl inside (line_part nodes count old line)) in
    let same : new ≡ old ++ (jump ∷ onward_at nodes count ∷ []) = append_assoc old (jump ∷ []) (onward_at nodes count ∷ []) in
    subst (IsLine nodes (count + 1)) (same ∙ sym is) (part_line nodes count old new line
    (λ s among. contains_left first (onward_at nodes count ∷ []) s (contains_left old (jump ∷ []) s among))
    (omega (arith, length-append first (onward_at nodes count ∷ []), length-append old (jump ∷ []))) (contains_last first (onward_at nodes count)) part)

pub line_none : (nodes : ℕ) → IsLine nodes 0 []
line_none nodes = record {
  few = omega arith;
  sources = λ k d within. absurd (omega arith);
  targets = λ k d within. absurd (omega arith);
  sorted = λ i j d less within. absurd (omega arith);
  straight = λ j below. absurd (omega arith);
}

line_leads : (nodes : ℕ) (steps : List Step) → IsLine nodes nodes steps → (j : ℕ) (t : Option ℕ) → j < nodes → next_of nodes j ≡ t → LeadsIn steps j t
line_leads nodes steps line j t within to = (onward_at nodes j, line.straight j within, refl, to)

line_reaches : (nodes : ℕ) (steps : List Step) → IsLine nodes nodes steps → (k : ℕ) → k < nodes → Reaches (LeadsIn steps) 0 k
line_reaches nodes steps line zero within = here
line_reaches nodes steps line (suc k) within =
    let e : k + 1 ≡ suc k = omega arith in
    along (suc k) (line_reaches nodes steps line k (omega arith)) (line_leads nodes steps line k (Some (suc k)) (omega arith) (next_some nodes k (omega arith) ∙ ap Some e))

line_ends : (nodes : ℕ) (steps : List Step) → IsLine nodes nodes steps → (m k : ℕ) → k + suc m ≡ nodes → Ends (LeadsIn steps) k
line_ends nodes steps line zero k is = exits (line_leads nodes steps line k None (omega arith) (next_none nodes k (omega arith)))
line_ends nodes steps line (suc m) k is = onward (k + 1) (line_leads nodes steps line k (Some (k + 1)) (omega arith) (next_some nodes k (omega arith))) (line_ends nodes steps line m (k + 1) (omega arith))

pub line_live : (nodes : ℕ) (steps : List Step) → IsLine nodes nodes steps → (k : ℕ) → k < nodes → IsLive (LeadsIn steps) 0 k
line_live nodes steps line k within = (line_reaches nodes steps line k within, line_ends nodes steps line (nodes - suc k) k (omega arith))

-- the parts of a graph that is such a line, with the empty stack alone
pub line_graph : (graph : Graph) (empty : Context) (count : ℕ) → empty.parent ≡ None → graph.contexts ≡ empty ∷ [] → AreOfOneStack count graph.nodes → IsLine count count graph.steps → graph.start ≡ 0 → 1 ≤ count → count ≤ 100000 → IsGraph graph
line_graph graph empty count root contexts nodes line start some few =
    let at : IsLine (length graph.nodes) (length graph.nodes) graph.steps = subst (λ (n : ℕ). IsLine n n graph.steps) (sym nodes.counted) line in
    record {
      few = omega (arith, nodes.counted, few);
      few_steps = omega (arith, line.few, few);
      starts = omega (arith, nodes.counted, start, some);
      sources = at.sources;
      targets = at.targets;
      sorted = at.sorted;
      live = λ k within. subst (λ (n : ℕ). IsLive (LeadsIn graph.steps) n k) (sym start) (line_live (length graph.nodes) graph.steps at k within);
      placed = subst (λ (xs : List Context). All (λ n. n.context < length xs) graph.nodes) (sym contexts) nodes.placed;
      parents = λ k c there. alone k c (sym (ap (λ (xs : List Context). slice_get xs k) contexts) ∙ there);
    }
  where
    alone : (k : ℕ) (c : Context) → slice_get (empty ∷ []) k ≡ Some c → IfSome c.parent (λ j. j < k)
    alone zero c is = subst (λ (x : Option ℕ). IfSome x (λ j. j < 0)) (sym root ∙ ap (λ (d : Context). d.parent) (same_Some empty c is)) tt
    alone (suc k) c is = absurd (none-some c is)
