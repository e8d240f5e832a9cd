-- The loop nest of a graph is one.
use Rattle.std.proofs.Common.{ℕ, zero, suc, ◌≡◌, ◌<◌, ◌≤◌, ◌⊎◌, ◌↔◌, ⊎_elim, Bool, true, false, List, Option, None, Some, length, map, refl, sym, ap, subst, ◌∙◌, arith}
use Rattle.std.specs.List.{AllPairs, Contains, slice_get}
use Rattle.std.proofs.lemmas.Bool.{cases_order}
use Rattle.std.proofs.lemmas.List.{length-map}
use Rattle.std.proofs.lemmas.Option.{same_Some}
use Rattle.wc_model.proofs.Places.{contains_from_get, get_from_contains}
use Rattle.wc_model.specs.declared.graphs.Graph.{Graph}
use Rattle.wc_model.specs.declared.graphs.Head.{Head}
use Rattle.wc_model.specs.declared.graphs.Nest.{Nest}
use Rattle.wc_model.specs.Flow.Nest.{ClassAt, ComesBefore, HeadAt, IsBack, IsHeadFor, IsInside, IsListed, IsNest, IsParent}
use Rattle.wc_graph.proofs.AssemblyLemmas.{get_map}
use Rattle.wc_nest.specs.Inner.Nests.{StepAt}
use Rattle.wc_nest.proofs.NestLemmas.{class_below}
use Rattle.wc_nest.proofs.RelationLemmas.{head_leaves, together_sym, together_then}
use Rattle.wc_laws.proofs.OneListLemmas.{map_get, pairs_map, place_once, same_members, same_places, zip_right_once}

abbrev node_of : Head → ℕ
node_of x = x.node

same_test : (b c : Bool) {P : Type 0} → ((b ≡ true) ↔ P) → ((c ≡ true) ↔ P) → b ≡ c
same_test true true is also = refl
same_test true false is also = sym (also.1 (is.0 refl))
same_test false true is also = is.1 (also.0 refl)
same_test false false is also = refl

module _ (graph : Graph) where
  -- a head is one of one level, where its class has one least member
  not_deeper : (k l h : ℕ) → HeadAt graph k h → HeadAt graph l h → k < l → ⊥
  not_deeper k l h head other less =
      let deep : ClassAt graph (suc k) h h = class_below graph l (suc k) h h (omega arith) (other.0, other.0) in
      head_leaves (StepAt graph k) graph.start h h head deep.0

  level_once : (k l h : ℕ) → HeadAt graph k h → HeadAt graph l h → k ≡ l
  level_once k l h head other = ⊎_elim
      (λ (same : k ≡ l). same)
      (λ (apart : (k < l) ⊎ (l < k)). absurd (⊎_elim (λ (less : k < l). not_deeper k l h head other less) (λ (more : l < k). not_deeper l k h other head more) apart))
      (cases_order k l)

  least_once : (k h a b : ℕ) → IsListed graph k h a → IsListed graph k h b → a ≡ b
  least_once k h a b is also =
      let low : a ≤ b = is.below b also.member in
      let high : b ≤ a = also.below a is.member in
      omega arith

  -- the order of heads, by their nodes
  abbrev at_node : ℕ → Head
  at_node p = record { node = p; parent = None }

  abbrev NodeBefore : ℕ → ℕ → Type 0
  NodeBefore p q = ComesBefore graph (at_node p) (at_node q)

  by_nodes : (x y : Head) → ComesBefore graph x y → NodeBefore (node_of x) (node_of y)
  by_nodes x y before = record {
    level_x = before.level_x;
    level_y = before.level_y;
    least_x = before.least_x;
    least_y = before.least_y;
    listed_x = before.listed_x;
    listed_y = before.listed_y;
    order = before.order;
  }

  orders_clash : (k l m n a b c d : ℕ) → k ≡ n → l ≡ m → a ≡ d → b ≡ c → (k < l) ⊎ ((k ≡ l) × (a < b)) → (m < n) ⊎ ((m ≡ n) × (c < d)) → ⊥
  orders_clash k l m n a b c d first second third fourth order other = ⊎_elim
      (λ (less : k < l). ⊎_elim (λ (more : m < n). omega arith) (λ (beside : (m ≡ n) × (c < d)). let equal : m ≡ n = beside.0 in omega arith) other)
      (λ (here : (k ≡ l) × (a < b)).
      let same : k ≡ l = here.0 in
      let low : a < b = here.1 in
      ⊎_elim (λ (more : m < n). omega arith) (λ (beside : (m ≡ n) × (c < d)). let high : c < d = beside.1 in omega arith) other)
      order

  one_way : (p q : ℕ) → NodeBefore p q → NodeBefore q p → ⊥
  one_way p q is also =
      let level_p : is.level_x ≡ also.level_y = level_once is.level_x also.level_y p is.listed_x.head also.listed_y.head in
      let level_q : is.level_y ≡ also.level_x = level_once is.level_y also.level_x q is.listed_y.head also.listed_x.head in
      let least_p : is.least_x ≡ also.least_y = least_once is.level_x p is.least_x also.least_y is.listed_x (subst (λ (k : ℕ). IsListed graph k p also.least_y) (sym level_p) also.listed_y) in
      let least_q : is.least_y ≡ also.least_x = least_once is.level_y q is.least_y also.least_x is.listed_y (subst (λ (k : ℕ). IsListed graph k q also.least_x) (sym level_q) also.listed_x) in
      orders_clash is.level_x is.level_y also.level_x also.level_y is.least_x is.least_y also.least_x also.least_y level_p level_q least_p least_q is.order also.order

  abbrev nodes_of : Nest → List ℕ
  nodes_of nest = map node_of nest.heads

  in_order : (nest : Nest) → IsNest graph nest → AllPairs NodeBefore (nodes_of nest)
  in_order nest is = pairs_map node_of NodeBefore nest.heads (λ i j d less within. by_nodes _ _ (is.ordered i j d less within))

  goes_over : (a b : Nest) → IsNest graph a → IsNest graph b → (p : ℕ) → Contains (nodes_of a) p → Contains (nodes_of b) p
  goes_over a b is also p among =
      let placed = get_from_contains (nodes_of a) p among in
      let x = map_get node_of a.heads placed.0 p placed.1 in
      let level = is.places placed.0 x.0 x.1 in
      let other = also.all level.0 x.0.node level.1 in
      contains_from_get (nodes_of b) other.0 p (get_map node_of b.heads other.0 other.1 other.2 ∙ ap (λ (n : ℕ). Some n) (other.3 ∙ x.2))

  module _ (a b : Nest) (is : IsNest graph a) (also : IsNest graph b) where
    nodes_once : nodes_of a ≡ nodes_of b
    nodes_once = same_members NodeBefore one_way (nodes_of a) (nodes_of b) (in_order a is) (in_order b also) (goes_over a b is also) (goes_over b a also is)

    -- heads of one node stand at one place
    head_place : (i j : ℕ) (x y : Head) → slice_get a.heads i ≡ Some x → slice_get b.heads j ≡ Some y → x.node ≡ y.node → i ≡ j
    head_place i j x y at_x at_y same = place_once NodeBefore one_way (nodes_of a) (in_order a is) i j x.node
        (get_map node_of a.heads i x at_x)
        (ap (λ (ps : List ℕ). slice_get ps j) nodes_once ∙ get_map node_of b.heads j y at_y ∙ ap (λ (n : ℕ). Some n) (sym same))

    head_for_once : (k p i j : ℕ) → IsHeadFor graph a.heads k i p → IsHeadFor graph b.heads k j p → i ≡ j
    head_for_once k p i j (x, at_x, head_x, with_x) (y, at_y, head_y, with_y) =
        let class : ClassAt graph k x.node y.node = together_then (StepAt graph k) graph.start x.node p y.node with_x (together_sym (StepAt graph k) graph.start y.node p with_y) in
        head_place i j x y at_x at_y (is.single k x.node y.node head_x head_y class)

    parent_once : (k h : ℕ) (o u : Option ℕ) → IsParent graph a.heads k h o → IsParent graph b.heads k h u → o ≡ u
    parent_once zero h o u none other = none ∙ sym other
    parent_once (suc k) h o u (i, at, of) (j, at_too, of_too) = at ∙ ap (λ (n : ℕ). Some n) (head_for_once k h i j of of_too) ∙ sym at_too

    heads_once : a.heads ≡ b.heads
    heads_once = same_places a.heads b.heads (sym (length-map a.heads node_of) ∙ ap (λ (ps : List ℕ). length ps) nodes_once ∙ length-map b.heads node_of) each
      where
        each : (i : ℕ) (x y : Head) → slice_get a.heads i ≡ Some x → slice_get b.heads i ≡ Some y → x ≡ y
        each i x y at_x at_y =
            let node : x.node ≡ y.node = same_Some x.node y.node (sym (get_map node_of a.heads i x at_x) ∙ ap (λ (ps : List ℕ). slice_get ps i) nodes_once ∙ get_map node_of b.heads i y at_y) in
            let left = is.places i x at_x in
            let right = also.places i y at_y in
            let head : HeadAt graph right.0 x.node = subst (λ (p : ℕ). HeadAt graph right.0 p) (sym node) right.1 in
            let level : left.0 ≡ right.0 = level_once left.0 right.0 x.node left.1 head in
            let other : IsParent graph b.heads left.0 x.node y.parent = subst (λ (k : ℕ). IsParent graph b.heads k x.node y.parent) (sym level) (subst (λ (p : ℕ). IsParent graph b.heads right.0 p y.parent) (sym node) right.2) in
            let parent : x.parent ≡ y.parent = parent_once left.0 x.node x.parent y.parent left.2 other in
            λ n. record { node = node n; parent = parent n }

    -- the smallest class of a node
    in_class : (k p i : ℕ) (heads : List Head) → IsHeadFor graph heads k i p → ClassAt graph k p p
    in_class k p i heads (x, at, head, with_p) = together_then (StepAt graph k) graph.start p x.node p (together_sym (StepAt graph k) graph.start x.node p with_p) with_p

    not_smaller : (k l p i : ℕ) (heads : List Head) → (ClassAt graph (suc k) p p → ⊥) → IsHeadFor graph heads l i p → k < l → ⊥
    not_smaller k l p i heads none of less = none (class_below graph l (suc k) p p (omega arith) (in_class l p i heads of))

    inside_same : (p : ℕ) (o u : Option ℕ) → IsInside graph a.heads p o → IsInside graph b.heads p u → o ≡ u
    inside_same p None None none other = refl
    inside_same p None (Some j) none (l, of, last) = absurd (none (class_below graph l 0 p p (omega arith) (in_class l p j b.heads of)))
    inside_same p (Some i) None (k, of, last) none = absurd (none (class_below graph k 0 p p (omega arith) (in_class k p i a.heads of)))
    inside_same p (Some i) (Some j) (k, of, last) (l, of_too, last_too) =
        let level : k ≡ l = ⊎_elim
        (λ (same : k ≡ l). same)
        (λ (apart : (k < l) ⊎ (l < k)). absurd (⊎_elim (λ (less : k < l). not_smaller k l p j b.heads last of_too less) (λ (more : l < k). not_smaller l k p i a.heads last_too of more) apart))
        (cases_order k l) in
        ap (λ (n : ℕ). Some n) (head_for_once k p i j of (subst (λ (m : ℕ). IsHeadFor graph b.heads m j p) (sym level) of_too))

    inside_once : a.inside ≡ b.inside
    inside_once = same_places a.inside b.inside (is.inside_counted ∙ sym also.inside_counted)
        (λ p o u at_o at_u. inside_same p o u (is.smallest p o at_o) (also.smallest p u at_u))

    back_once : a.back ≡ b.back
    back_once = zip_right_once (λ s c. (c ≡ true) ↔ IsBack graph s) (λ s c. (c ≡ true) ↔ IsBack graph s) (λ s c d marks marks_too. same_test c d marks marks_too) graph.steps a.back b.back is.backs also.backs

    pub nest_once : a ≡ b
    nest_once = λ n. record { heads = heads_once n; inside = inside_once n; back = back_once n }
