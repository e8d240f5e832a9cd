-- The bounds of the heads, one by one.
use Rattle.std.proofs.Common.{ℕ, zero, suc, ◌≡◌, ◌+◌, ◌<◌, ◌≤◌, ⊎_elim, List, [], ◌∷◌, ◌++◌, Option, None, Some, IfSome, lt-ltb, map, length, refl, sym, ap, subst, ◌∙◌, arith}
use Rattle.std.specs.List.{AllZip, Contains, slice_get}
use Rattle.std.proofs.lemmas.Bool.{cases_lt, le-ltb}
use Rattle.std.proofs.lemmas.List.{length_push}
use Rattle.std.proofs.lemmas.List.Elements.{All-contains, All-weaker, All-contains_itself}
use Rattle.std.proofs.lemmas.Option.{none-some, same_Some, slice_get_within}
use Rattle.wc_model.specs.declared.flow_facts.Fact.{Fact}
use Rattle.wc_model.specs.declared.graphs.Graph.{Graph}
use Rattle.wc_model.specs.declared.graphs.Head.{Head}
use Rattle.wc_model.specs.declared.graphs.Nest.{Nest}
use Rattle.wc_model.specs.declared.graphs.Node.{Node}
use Rattle.wc_model.specs.declared.graphs.Step.{Step}
use Rattle.wc_model.specs.Flow.Bounds.{StandsFor, IsBoundOf, HasNoBound, AreBounds, IsUnbounded}
use Rattle.wc_model.specs.Flow.Nest.{StepsAt, IsNest}
use Rattle.wc_model.specs.Program.Graphs.{LeadsIn, IsGraph}
use Rattle.wc_model.specs.Program.Positions.{Position}
use Rattle.wc_model.proofs.Places.{contains_from_get, get_from_contains, get_push_cases}
use Rattle.wc_bounds.specs.declared.best.Best.{Best}
use Rattle.wc_bounds.specs.declared.tallies.Tally.{Tally}
use Rattle.wc_bounds.specs.Heads.{HavePlaces}
use Rattle.wc_bounds.specs.Inner.Best.{offered, IsAt}
use Rattle.wc_bounds.specs.Inner.Stated.{IsBestFrom}
use Rattle.wc_bounds.specs.Inner.Tallies.{lesser_at, HasBound, IsCounted, IsNodeOf, IsTally}
use Rattle.wc_bounds.proofs.BestLemmas.{states_offered, offered_states}
use Rattle.wc_bounds.proofs.FitLemmas.{calls_for}

get_map : {A B : Type 0} (f : A → B) (xs : List A) (i : ℕ) (y : B) → slice_get (map f xs) i ≡ Some y → (x : A) × (slice_get xs i ≡ Some x) × (f x ≡ y)
get_map f [] i y at = absurd (none-some y at)
get_map f (x ∷ xs) zero y at = (x, refl, same_Some (f x) y at)
get_map f (x ∷ xs) (suc i) y at = get_map f xs i y at

map_get : {A B : Type 0} (f : A → B) (xs : List A) (i : ℕ) (x : A) → slice_get xs i ≡ Some x → slice_get (map f xs) i ≡ Some (f x)
map_get f [] i x at = absurd (none-some x at)
map_get f (y ∷ xs) zero x at = ap Some (ap f (same_Some y x at))
map_get f (y ∷ xs) (suc i) x at = map_get f xs i x at

zip_from : {A B : Type 0} (R : A → B → Type 0) (xs : List A) (ys : List B) → length xs ≡ length ys → ((i : ℕ) (x : A) (y : B) → slice_get xs i ≡ Some x → slice_get ys i ≡ Some y → R x y) → AllZip R xs ys
zip_from R [] [] same all = tt
zip_from R [] (y ∷ ys) same all = absurd (omega arith)
zip_from R (x ∷ xs) [] same all = absurd (omega arith)
zip_from R (x ∷ xs) (y ∷ ys) same all = (all 0 x y refl refl, zip_from R xs ys (omega arith) (λ i v w at_v at_w. all (suc i) v w at_v at_w))

-- what the best of the facts says
module _ (facts : List (ℕ × Fact)) (p : Position) where
  placed_fact : (fact : Fact) → Contains (map (λ (f : ℕ × Fact). f.1) facts) fact → (i : ℕ) × (f : ℕ × Fact) × (slice_get facts i ≡ Some f) × (f.1 ≡ fact)
  placed_fact fact among =
      let placed = get_from_contains (map (λ (f : ℕ × Fact). f.1) facts) fact among in
      let of = get_map (λ (f : ℕ × Fact). f.1) facts placed.0 fact placed.1 in
      (placed.0, of.0, of.1, of.2)

  pub no_bound : IsBestFrom facts p 0 None → HasNoBound (map (λ f. f.1) facts) p
  no_bound none fact k n among states =
      let of = placed_fact fact among in
      none-some (record { depth = k; bound = n }) (sym (none of.0 of.1 (omega arith) of.2) ∙ ap (offered p) of.3 ∙ states_offered p k n fact states)

  pub bound_is : (b : Best) → IsBestFrom facts p 0 (Some b) → IsBoundOf (map (λ f. f.1) facts) p b.bound
  bound_is b is =
      record {
        depth = b.depth;
        stated = (is.0.1.1, contains_from_get (map (λ (f : ℕ × Fact). f.1) facts) is.0.0 is.0.1.1 (map_get (λ (f : ℕ × Fact). f.1) facts is.0.0 is.0.1 is.0.2), offered_states p b is.0.1.1 is.0.3);
        longest = λ fact k n among states.
            let of = placed_fact fact among in
            ⊎_elim (λ less. omega arith) (λ same. omega (arith, same.0)) (is.1 of.0 of.1 (record { depth = k; bound = n }) (omega arith) of.2 (ap (offered p) of.3 ∙ states_offered p k n fact states));
        least = λ fact n among states.
            let of = placed_fact fact among in
            ⊎_elim (λ less. absurd (omega arith)) (λ same. same.1) (is.1 of.0 of.1 (record { depth = b.depth; bound = n }) (omega arith) of.2 (ap (offered p) of.3 ∙ states_offered p b.depth n fact states));
      }

-- a graph and its nest have their places
pub places_of : (graph : Graph) (nest : Nest) → IsGraph graph → IsNest graph nest → HavePlaces graph nest
places_of graph nest is_graph is_nest =
    record {
      heads = All-weaker (Contains nest.heads) (λ (h : Head). h.node < length graph.nodes) (λ h among. let placed = get_from_contains nest.heads h among in known placed.0 h placed.1) nest.heads (All-contains_itself nest.heads);
      placed = is_graph.placed;
      parents = is_graph.parents;
    }
  where
    outermost : (k p q : ℕ) → StepsAt (LeadsIn graph.steps) graph.start k p (Some q) → LeadsIn graph.steps p (Some q)
    outermost zero p q step = step
    outermost (suc k) p q step = outermost k p q step.0

    known : (i : ℕ) (x : Head) → slice_get nest.heads i ≡ Some x → x.node < length graph.nodes
    known i x at =
        let placed = is_nest.places i x at in
        let last = placed.1.0 in
        let step = outermost placed.0 last.0 x.node last.2 in
        rw step.3 at (All-contains (λ (s : Step). IfSome s.target (λ q. q < length graph.nodes)) graph.steps step.0 is_graph.targets step.1)

pub position_for : (graph : Graph) (nest : Nest) → HavePlaces graph nest → (i : ℕ) (node : Node) → slice_get graph.nodes i ≡ Some node → (p : Position) × IsAt graph.contexts node p
position_for graph nest places i node at =
    let within : node.context < length graph.contexts = All-contains (λ (n : Node). n.context < length graph.contexts) graph.nodes node places.placed (contains_from_get graph.nodes i node at) in
    let calls = calls_for graph.contexts places.parents (node.context + 1) node.context (omega arith) within in
    (record { calls = calls.0; pc = node.pc }, (refl, calls.1))

-- no head is counted yet
pub tally_first : (graph : Graph) (nest : Nest) (facts : List Fact) (tally : Tally) → tally.of.items ≡ [] → tally.least ≡ None → IsTally graph nest facts 0 tally
tally_first graph nest facts tally of_is least_is =
    record {
      low = λ j x p less. absurd (omega arith);
      unbounded = λ at is. absurd (none-some at (sym least_is ∙ is));
      counted = λ none. ap length of_is;
      bounded = λ none j x b at_x at_b. absurd (none-some b (subst (λ (xs : List ℕ). slice_get xs j ≡ Some b) of_is at_b));
    }

-- one more head
module _ (graph : Graph) (nest : Nest) (facts : List Fact) (k : ℕ) (head : Head) (node : Node) (old new : Tally) (at : slice_get nest.heads k ≡ Some head) (node_at : slice_get graph.nodes head.node ≡ Some node) (was : IsTally graph nest facts k old) where
  stands_at : (p : Position) → StandsFor graph head p → IsAt graph.contexts node p
  stands_at p stands = let same : stands.0 ≡ node = same_Some stands.0 node (sym stands.1 ∙ node_at) in subst (λ (n : Node). IsAt graph.contexts n p) same (stands.2, stands.3)

  pub counts_bound : (p : Position) (bound : ℕ) → IsAt graph.contexts node p → IsBoundOf facts p bound → ((q : Position) → IsAt graph.contexts node q → HasNoBound facts q → ⊥) → new.of.items ≡ old.of.items ++ bound ∷ [] → new.least ≡ old.least → IsTally graph nest facts (k + 1) new
  counts_bound p bound is_at bounded never of_is least_is =
      record {
        low = λ j x q less at_x stands none. ⊎_elim
            (λ (before : j < k). let was_low = was.low j x q before at_x stands none in (was_low.0, least_is ∙ was_low.1, was_low.2))
            (λ (there : k ≤ j). let same : k ≡ j = omega arith in let is : x ≡ head = same_Some x head (sym at_x ∙ ap (slice_get nest.heads) (sym same) ∙ at) in absurd (never q (stands_at q (subst (λ (h : Head). StandsFor graph h q) is stands)) none))
            (cases_lt j k);
        unbounded = λ low_at is. was.unbounded low_at (sym least_is ∙ is);
        counted = λ none. ap length of_is ∙ length_push old.of.items bound ∙ ap (λ (n : ℕ). n + 1) (was.counted (sym least_is ∙ none));
        bounded = λ none j x b at_x at_b. ⊎_elim
            (λ before. was.bounded (sym least_is ∙ none) j x b at_x before)
            (λ now.
            let same : j ≡ k = now.0 ∙ was.counted (sym least_is ∙ none) in
            let is : head ≡ x = same_Some head x (sym at ∙ ap (slice_get nest.heads) (sym same) ∙ at_x) in
            subst (λ (h : Head). HasBound graph nest facts h b) is (subst (λ (n : ℕ). HasBound graph nest facts head n) now.1 (p, (node, node_at, is_at.0, is_at.1), bounded)))
            (get_push_cases old.of.items bound j b (subst (λ (xs : List ℕ). slice_get xs j ≡ Some b) of_is at_b));
      }

  pub counts_none : (p : Position) → IsAt graph.contexts node p → ((q : Position) → IsAt graph.contexts node q → HasNoBound facts q) → new.least ≡ Some (lesser_at old.least node.pc) → IsTally graph nest facts (k + 1) new
  counts_none p is_at none least_is =
      record {
        low = λ j x q less at_x stands no. ⊎_elim
            (λ (before : j < k). let was_low = was.low j x q before at_x stands no in (lesser_at old.least node.pc, least_is, omega (arith, was_low.2, lesser_old old.least node.pc was_low.0 was_low.1)))
            (λ (there : k ≤ j).
            let same : k ≡ j = omega arith in
            let is : x ≡ head = same_Some x head (sym at_x ∙ ap (slice_get nest.heads) (sym same) ∙ at) in
            let here_q = stands_at q (subst (λ (h : Head). StandsFor graph h q) is stands) in
            (lesser_at old.least node.pc, least_is, omega (arith, here_q.0, lesser_new old.least node.pc)))
            (cases_lt j k);
        unbounded = λ low_at is. found old.least low_at refl (same_Some (lesser_at old.least node.pc) low_at (sym least_is ∙ is));
        counted = λ is. absurd (none-some (lesser_at old.least node.pc) (sym is ∙ least_is));
        bounded = λ is. absurd (none-some (lesser_at old.least node.pc) (sym is ∙ least_is));
      }
    where
      lesser_new : (least : Option ℕ) (pc : ℕ) → lesser_at least pc ≤ pc
      lesser_new None pc = omega arith
      lesser_new (Some before) pc = ⊎_elim (λ (less : before < pc). rw (lt-ltb before pc less) (omega arith)) (λ (high : pc ≤ before). rw (le-ltb before pc high) (omega arith)) (cases_lt before pc)

      lesser_old : (least : Option ℕ) (pc low_at : ℕ) → least ≡ Some low_at → lesser_at least pc ≤ low_at
      lesser_old None pc low_at is = absurd (none-some low_at is)
      lesser_old (Some before) pc low_at is = ⊎_elim (λ (less : before < pc). rw (lt-ltb before pc less) (omega (arith, same_Some before low_at is))) (λ (high : pc ≤ before). rw (le-ltb before pc high) (omega (arith, same_Some before low_at is))) (cases_lt before pc)

      this : (low_at : ℕ) → node.pc ≡ low_at → (q : Position) × IsUnbounded graph nest facts q × (q.pc ≡ low_at)
      this low_at is = (p, (head, contains_from_get nest.heads k head at, (node, node_at, is_at.0, is_at.1), none p is_at), sym is_at.0 ∙ is)

      found : (least : Option ℕ) (low_at : ℕ) → old.least ≡ least → lesser_at least node.pc ≡ low_at → (q : Position) × IsUnbounded graph nest facts q × (q.pc ≡ low_at)
      found None low_at was_none is = this low_at is
      found (Some before) low_at was_some is = ⊎_elim
          (λ (less : before < node.pc). was.unbounded low_at (was_some ∙ ap Some (rw (lt-ltb before node.pc less) at is)))
          (λ (high : node.pc ≤ before). this low_at (rw (le-ltb before node.pc high) at is))
          (cases_lt before node.pc)

-- a head with its best bound
module _ (graph : Graph) (nest : Nest) (places : HavePlaces graph nest) (facts : List (ℕ × Fact)) (k : ℕ) (node : Node) (of : IsNodeOf graph nest k node) (old new : Tally) where
  abbrev stated : List Fact
  stated = map (λ (f : ℕ × Fact). f.1) facts

  pub count_some : (b : Best) → ((p : Position) → IsAt graph.contexts node p → IsBestFrom facts p 0 (Some b)) → new.of.items ≡ old.of.items ++ b.bound ∷ [] → new.least ≡ old.least → IsCounted graph nest facts k old new
  count_some b best of_is least_is was =
      let p = position_for graph nest places of.0.node node of.2 in
      counts_bound graph nest stated k of.0 node old new of.1 of.2 was p.0 b.bound p.1 (bound_is facts p.0 b (best p.0 p.1)) (λ q is_at none. let some = (bound_is facts q b (best q is_at)).stated in none some.0 (bound_is facts q b (best q is_at)).depth b.bound some.1 some.2) of_is least_is

  pub count_none : ((p : Position) → IsAt graph.contexts node p → IsBestFrom facts p 0 None) → new.least ≡ Some (lesser_at old.least node.pc) → IsCounted graph nest facts k old new
  count_none best least_is was =
      let p = position_for graph nest places of.0.node node of.2 in
      counts_none graph nest stated k of.0 node old new of.1 of.2 was p.0 p.1 (λ q is_at. no_bound facts q (best q is_at)) least_is

-- all heads
pub bounds_from : (graph : Graph) (nest : Nest) (facts : List Fact) (tally : Tally) → IsTally graph nest facts (length nest.heads) tally → tally.least ≡ None → AreBounds graph nest facts tally.of.items
bounds_from graph nest facts tally is none = zip_from (HasBound graph nest facts) nest.heads tally.of.items (sym (is.counted none)) (λ i head bound at_head at_bound. is.bounded none i head bound at_head at_bound)

pub least_from : (graph : Graph) (nest : Nest) (facts : List Fact) (tally : Tally) (low_at : ℕ) → IsTally graph nest facts (length nest.heads) tally → tally.least ≡ Some low_at → (p : Position) × IsUnbounded graph nest facts p × (p.pc ≡ low_at) × ((q : Position) → IsUnbounded graph nest facts q → p.pc ≤ q.pc)
least_from graph nest facts tally low_at is some =
    let found = is.unbounded low_at some in (
      found.0,
      found.1,
      found.2,
      λ q unbounded.
          let placed = get_from_contains nest.heads unbounded.0 unbounded.1 in
          let low = is.low placed.0 unbounded.0 q (slice_get_within nest.heads placed.0 unbounded.0 placed.1) placed.1 unbounded.2 unbounded.3 in
          omega (arith, low.2, same_Some low_at low.0 (sym some ∙ low.1), found.2),
    )
