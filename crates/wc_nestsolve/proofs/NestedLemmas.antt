-- What the lists of a nest say of its loops.
use Rattle.std.proofs.Common.{ℕ, zero, suc, ◌≡◌, ◌<◌, ◌≤◌, ◌⊎◌, inl, inr, ⊎_elim, Bool, true, false, ◌==◌, ◌||◌, List, Option, None, Some, length, refl, sym, ap, subst, ◌∙◌, arith}
use Rattle.std.specs.List.{Contains, slice_get, slice_index_or}
use Rattle.std.specs.Option.{option_and_then}
use Rattle.std.proofs.lemmas.Bool.{cases_lt}
use Rattle.std.proofs.lemmas.List.Elements.{All-contains}
use Rattle.std.proofs.lemmas.Option.{none-some, same_Some, slice_get_within, slice_get-get_or}
use Rattle.std.proofs.Math.ListN.{get_or-eq_default}
use Rattle.wc_model.specs.declared.graphs.Graph.{Graph}
use Rattle.wc_model.specs.declared.graphs.Head.{Head}
use Rattle.wc_model.specs.declared.graphs.Nest.{Nest}
use Rattle.wc_model.specs.declared.graphs.Step.{Step}
use Rattle.wc_model.specs.Flow.Ceiling.{loops_out, parent_of}
use Rattle.wc_model.specs.Flow.Nest.{HeadAt, ClassAt, ComesBefore, IsHeadFor, IsParent, IsInside, IsNest}
use Rattle.wc_model.specs.Flow.Places.{is_listed}
use Rattle.wc_model.specs.Program.Graphs.{IsGraph}
use Rattle.wc_nest.specs.Inner.Nests.{StepAt}
use Rattle.wc_nest.proofs.FlagLemmas.{true_or_false, not_both}
use Rattle.wc_nest.proofs.ListLemmas.{pairs_at}
use Rattle.wc_nest.proofs.NestLemmas.{class_down, class_below}
use Rattle.wc_nest.proofs.NestingLemmas.{known_target, known_class, apart}
use Rattle.wc_nest.proofs.RelationLemmas.{head_leaves, together_self, together_then}
use Rattle.wc_nestsolve.specs.Inner.Nested.{lies}
use Rattle.wc_nestsolve.proofs.WeightLemmas.{same_by, test_same}

or_true : (a b : Bool) → (a || b) ≡ true → (a ≡ true) ⊎ (b ≡ true)
or_true true b is = inl refl
or_true false b is = inr is

parent_at : (heads : List Head) (i : ℕ) (x : Head) → slice_get heads i ≡ Some x → parent_of heads i ≡ x.parent
parent_at heads i x at = ap (option_and_then (λ h. h.parent)) at

module _ (graph : Graph) (is_graph : IsGraph graph) (nest : Nest) (of : IsNest graph nest) where
  -- loop `k`, of some level, has the node
  abbrev Lies : ℕ → ℕ → Type 0
  Lies k p = (l : ℕ) × IsHeadFor graph nest.heads l k p

  -- a head is of one level
  one_level : (k l h : ℕ) → HeadAt graph k h → HeadAt graph l h → k ≡ l
  one_level k l h at_k at_l = ⊎_elim
      (λ (less : k < l). absurd (head_leaves (StepAt graph k) graph.start h h at_k (class_below graph l (suc k) h h (omega arith) (at_l.0, at_l.0)).0))
      (λ (high : l ≤ k). ⊎_elim
      (λ (more : l < k). absurd (head_leaves (StepAt graph l) graph.start h h at_l (class_below graph k (suc l) h h (omega arith) (at_k.0, at_k.0)).0))
      (λ (low : k ≤ l). omega arith)
      (cases_lt l k))
      (cases_lt k l)

  -- a head stands at one place
  pub one_place : (k m : ℕ) (x y : Head) → slice_get nest.heads k ≡ Some x → slice_get nest.heads m ≡ Some y → x.node ≡ y.node → k ≡ m
  one_place k m x y at_x at_y same = ⊎_elim
      (λ (less : k < m). absurd (apart graph is_graph x y (pairs_at (ComesBefore graph) nest.heads k m x y of.ordered less at_x at_y) same))
      (λ (high : m ≤ k). ⊎_elim
      (λ (more : m < k). absurd (apart graph is_graph y x (pairs_at (ComesBefore graph) nest.heads m k y x of.ordered more at_y at_x) (sym same)))
      (λ (low : k ≤ m). omega arith)
      (cases_lt m k))
      (cases_lt k m)

  -- the head of a class stands at one place
  one_head : (l i k p : ℕ) → IsHeadFor graph nest.heads l i p → IsHeadFor graph nest.heads l k p → i ≡ k
  one_head l i k p (x, at_x, head_x, class_x) (y, at_y, head_y, class_y) = one_place i k x y at_x at_y (of.single l x.node y.node head_x head_y (together_then (StepAt graph l) graph.start x.node p y.node class_x (class_y.1, class_y.0)))

  -- the head of the next larger class stands before
  parent_before : (l i j : ℕ) (x y : Head) → slice_get nest.heads i ≡ Some x → slice_get nest.heads j ≡ Some y → HeadAt graph (suc l) x.node → HeadAt graph l y.node → j < i
  parent_before l i j x y at_x at_y head_x head_y = ⊎_elim
      (λ (before : j < i). before)
      (λ (later : i ≤ j). absurd (never later))
      (cases_lt j i)
    where
      never : i ≤ j → ⊥
      never later = ⊎_elim
          (λ (less : i < j).
          let order = pairs_at (ComesBefore graph) nest.heads i j x y of.ordered less at_x at_y in
          let is_x : order.level_x ≡ suc l = one_level order.level_x (suc l) x.node order.listed_x.head head_x in
          let is_y : order.level_y ≡ l = one_level order.level_y l y.node order.listed_y.head head_y in
          ⊎_elim (λ lower. omega arith) (λ same. omega (arith, same.0)) order.order)
          (λ (same : j ≤ i).
          let one : i ≡ j = omega arith in
          let is : x ≡ y = same_Some x y (sym at_x ∙ ap (slice_get nest.heads) one ∙ at_y) in
          let levels : suc l ≡ l = one_level (suc l) l x.node head_x (subst (λ (h : Head). HeadAt graph l h.node) (sym is) head_y) in
          omega arith)
          (cases_lt i j)

  -- the next larger loop stands before
  pub parent_known : (i : ℕ) (x : Head) → slice_get nest.heads i ≡ Some x → (j : ℕ) → x.parent ≡ Some j → j < i
  parent_known i x at j is = let placed = of.places i x at in by placed.0 placed.1 placed.2
    where
      by : (k : ℕ) → HeadAt graph k x.node → IsParent graph nest.heads k x.node x.parent → j < i
      by zero head up = absurd (none-some j (sym up ∙ is))
      by (suc k) head up =
          let same : up.0 ≡ j = same_Some up.0 j (sym up.1 ∙ is) in
          let y = up.2.0 in
          omega (arith, parent_before k i up.0 x y at up.2.1 head up.2.2)

  -- one level further out
  parent_for : (l i p : ℕ) → IsHeadFor graph nest.heads (suc l) i p → (j : ℕ) × (parent_of nest.heads i ≡ Some j) × (j < i) × IsHeadFor graph nest.heads l j p
  parent_for l i p (x, at, head, class) =
      let placed = of.places i x at in
      let level : placed.0 ≡ suc l = one_level placed.0 (suc l) x.node placed.1 head in
      let up : IsParent graph nest.heads (suc l) x.node x.parent = subst (λ (k : ℕ). IsParent graph nest.heads k x.node x.parent) level placed.2 in
      let y = up.2.0 in
      (up.0, parent_at nest.heads i x at ∙ up.1, parent_before l i up.0 x y at up.2.1 head up.2.2, (y, up.2.1, up.2.2, together_then (StepAt graph l) graph.start y.node x.node p up.2.3 (class_down graph l x.node p class)))

  top_parent : (i p : ℕ) → IsHeadFor graph nest.heads 0 i p → parent_of nest.heads i ≡ None
  top_parent i p (x, at, head, class) =
      let placed = of.places i x at in
      let level : placed.0 ≡ 0 = one_level placed.0 0 x.node placed.1 head in
      let up : IsParent graph nest.heads 0 x.node x.parent = subst (λ (k : ℕ). IsParent graph nest.heads k x.node x.parent) level placed.2 in
      parent_at nest.heads i x at ∙ up

  -- at each level below there is the loop of a node
  loop_at : (l m i p : ℕ) → m ≤ l → IsHeadFor graph nest.heads l i p → (j : ℕ) × IsHeadFor graph nest.heads m j p
  loop_at zero m i p low is = let same : zero ≡ m = omega arith in (i, subst (λ (n : ℕ). IsHeadFor graph nest.heads n i p) same is)
  loop_at (suc l) m i p low is = ⊎_elim
      (λ (less : m < suc l). let up = parent_for l i p is in loop_at l m up.0 p (omega arith) up.3)
      (λ (top : suc l ≤ m). let same : suc l ≡ m = omega arith in (i, subst (λ (n : ℕ). IsHeadFor graph nest.heads n i p) same is))
      (cases_lt m (suc l))

  -- the chain of the loops round a node
  up_sound : (n l i k p : ℕ) → IsHeadFor graph nest.heads l i p → is_listed k (loops_out nest.heads n (Some i)) ≡ true → Lies k p
  up_sound zero l i k p is led = absurd (not_both led refl)
  up_sound (suc n) l i k p is led = ⊎_elim
      (λ (same : (k == i) ≡ true). (l, subst (λ (j : ℕ). IsHeadFor graph nest.heads l j p) (sym (same_by k i same)) is))
      (λ (further : is_listed k (loops_out nest.heads n (parent_of nest.heads i)) ≡ true). by_level l is further (λ m j up rest. up_sound n m j k p up rest))
      (or_true (k == i) (is_listed k (loops_out nest.heads n (parent_of nest.heads i))) led)
    where
      by_level : (l : ℕ) → IsHeadFor graph nest.heads l i p → is_listed k (loops_out nest.heads n (parent_of nest.heads i)) ≡ true → ((m j : ℕ) → IsHeadFor graph nest.heads m j p → is_listed k (loops_out nest.heads n (Some j)) ≡ true → Lies k p) → Lies k p
      by_level zero is' further onward = absurd (not_both (sym (ap (λ o. is_listed k (loops_out nest.heads n o)) (top_parent i p is')) ∙ further) refl)
      by_level (suc m) is' further onward = let up = parent_for m i p is' in onward m up.0 up.3 (sym (ap (λ o. is_listed k (loops_out nest.heads n o)) up.1) ∙ further)

  here_up : (n l i m k p : ℕ) → IsHeadFor graph nest.heads l i p → m ≡ l → IsHeadFor graph nest.heads m k p → is_listed k (loops_out nest.heads (suc n) (Some i)) ≡ true
  here_up n l i m k p is same of_k = ap (λ b. b || is_listed k (loops_out nest.heads n (parent_of nest.heads i)))
      (test_same k i (sym (one_head l i k p is (subst (λ (j : ℕ). IsHeadFor graph nest.heads j k p) same of_k))))

  up_all : (n l i m k p : ℕ) → i < n → IsHeadFor graph nest.heads l i p → m ≤ l → IsHeadFor graph nest.heads m k p → is_listed k (loops_out nest.heads n (Some i)) ≡ true
  up_all zero l i m k p fuel is low of_k = absurd (omega arith)
  up_all (suc n) zero i m k p fuel is low of_k = here_up n 0 i m k p is (omega arith) of_k
  up_all (suc n) (suc l) i m k p fuel is low of_k = ⊎_elim
      (λ (less : m < suc l).
      let up = parent_for l i p is in
      let rest = up_all n l up.0 m k p (omega (arith, up.2)) up.3 (omega arith) of_k in
      further (k == i) (is_listed k (loops_out nest.heads n (parent_of nest.heads i))) (ap (λ o. is_listed k (loops_out nest.heads n o)) up.1 ∙ rest))
      (λ (top : suc l ≤ m). here_up n (suc l) i m k p is (omega arith) of_k)
      (cases_lt m (suc l))
    where
      further : (a b : Bool) → b ≡ true → (a || b) ≡ true
      further true b is' = refl
      further false b is' = is'

  -- a node lies in a loop exactly where its class has it
  pub lies_is : (k p : ℕ) → lies nest k p ≡ true → p < length graph.nodes → Lies k p
  lies_is k p is known = by_inside (slice_index_or nest.inside p None) refl is
    where
      by_inside : (o : Option ℕ) → slice_index_or nest.inside p None ≡ o → is_listed k (loops_out nest.heads (length nest.heads) o) ≡ true → Lies k p
      by_inside None at led = absurd (not_both led refl)
      by_inside (Some i) at led =
          let inside : IsInside graph nest.heads p (Some i) = of.smallest p (Some i) (slice_get-get_or nest.inside p None (omega (arith, of.inside_counted)) ∙ ap Some at) in
          up_sound (length nest.heads) inside.0 i k p inside.1 led

  class_self : (l p q : ℕ) → ClassAt graph l p q → ClassAt graph l q q
  class_self l p q both = let led = together_self (StepAt graph l) graph.start q p (both.1, both.0) in (led, led)

  pub all_lies : (k p : ℕ) → Lies k p → lies nest k p ≡ true
  all_lies k p (m, of_k) = by_inside (slice_index_or nest.inside p None) refl
    where
      known : p < length graph.nodes
      known = known_class graph is_graph m p of_k.0.node (of_k.3.1, of_k.3.0)

      looped : ClassAt graph m p p
      looped = class_self m of_k.0.node p of_k.3

      inside_at : (o : Option ℕ) → slice_index_or nest.inside p None ≡ o → IsInside graph nest.heads p o
      inside_at o at = of.smallest p o (slice_get-get_or nest.inside p None (omega (arith, of.inside_counted, known)) ∙ ap Some at)

      by_inside : (o : Option ℕ) → slice_index_or nest.inside p None ≡ o → is_listed k (loops_out nest.heads (length nest.heads) o) ≡ true
      by_inside None at = absurd (inside_at None at (class_below graph m 0 p p (omega arith) looped))
      by_inside (Some i) at =
          let inside = inside_at (Some i) at in
          let low : m ≤ inside.0 = ⊎_elim
          (λ (less : inside.0 < m). absurd (inside.2 (class_below graph m (suc inside.0) p p (omega arith) looped)))
          (λ (fine : m ≤ inside.0). fine)
          (cases_lt inside.0 m) in
          up_all (length nest.heads) inside.0 i m k p (slice_get_within nest.heads i inside.1.0 inside.1.1) inside.1 low of_k

  -- a head with its level
  pub level_of : (k : ℕ) (x : Head) → slice_get nest.heads k ≡ Some x → (l : ℕ) × HeadAt graph l x.node
  level_of k x at = let placed = of.places k x at in (placed.0, placed.1)

  pub node_known : (k : ℕ) (x : Head) → slice_get nest.heads k ≡ Some x → x.node < length graph.nodes
  node_known k x at = let level = level_of k x at in known_class graph is_graph level.0 x.node x.node (level.1.0, level.1.0)

  -- the class of a listed head
  pub lies_class : (k p l : ℕ) (x : Head) → slice_get nest.heads k ≡ Some x → HeadAt graph l x.node → Lies k p → ClassAt graph l x.node p
  lies_class k p l x at head (m, (y, at_y, head_y, class_y)) =
      let same : y ≡ x = same_Some y x (sym at_y ∙ at) in
      let level : m ≡ l = one_level m l x.node (subst (λ (h : Head). HeadAt graph m h.node) same head_y) head in
      subst (λ (n : ℕ). ClassAt graph n x.node p) level (subst (λ (h : Head). ClassAt graph m h.node p) same class_y)

  pub lies_inside : (k : ℕ) (x : Head) → slice_get nest.heads k ≡ Some x → lies nest k x.node ≡ true
  lies_inside k x at = let level = level_of k x at in all_lies k x.node (level.0, (x, at, level.1, (level.1.0, level.1.0)))

  pub lies_started : (k : ℕ) (x : Head) → slice_get nest.heads k ≡ Some x → lies nest k graph.start ≡ true → graph.start ≡ x.node
  lies_started k x at is =
      let level = level_of k x at in
      let class = lies_class k graph.start level.0 x at level.1 (lies_is k graph.start is is_graph.starts) in
      let head : HeadAt graph level.0 graph.start = ((class_self level.0 x.node graph.start class).0, inl refl) in
      of.single level.0 graph.start x.node head level.1 (class.1, class.0)

  -- the smallest loop of a node in a loop
  pub innermost : (l p : ℕ) → ClassAt graph l p p → (n : ℕ) × (i : ℕ) × IsHeadFor graph nest.heads n i p × (l ≤ n) × (ClassAt graph (suc n) p p → ⊥)
  innermost l p looped = by_inside (slice_index_or nest.inside p None) refl
    where
      inside_at : (o : Option ℕ) → slice_index_or nest.inside p None ≡ o → IsInside graph nest.heads p o
      inside_at o at = of.smallest p o (slice_get-get_or nest.inside p None (omega (arith, of.inside_counted, known_class graph is_graph l p p looped)) ∙ ap Some at)

      by_inside : (o : Option ℕ) → slice_index_or nest.inside p None ≡ o → (n : ℕ) × (i : ℕ) × IsHeadFor graph nest.heads n i p × (l ≤ n) × (ClassAt graph (suc n) p p → ⊥)
      by_inside None at = absurd (inside_at None at (class_below graph l 0 p p (omega arith) looped))
      by_inside (Some i) at =
          let inside = inside_at (Some i) at in (
            inside.0,
            i,
            inside.1,
            ⊎_elim
                (λ (less : inside.0 < l). absurd (inside.2 (class_below graph l (suc inside.0) p p (omega arith) looped)))
                (λ (fine : l ≤ inside.0). fine)
                (cases_lt inside.0 l),
            inside.2,
          )

  -- a step into a loop from outside of it leads to its head
  pub lies_entered : (k : ℕ) (x : Head) (s : Step) (q : ℕ) → slice_get nest.heads k ≡ Some x → Contains graph.steps s → s.target ≡ Some q → lies nest k q ≡ true → lies nest k s.source ≡ false → q ≡ x.node
  lies_entered k x s q at among to is_in is_out =
      let known_q : q < length graph.nodes = known_target graph is_graph s.source q (s, among, refl, to) in
      let level = level_of k x at in
      let class = lies_class k q level.0 x at level.1 (lies_is k q is_in known_q) in
      let step : StepAt graph level.0 s.source (Some q) = stays level.0 (omega arith) class in
      let out : ClassAt graph level.0 s.source q → ⊥ = λ both. not_both (all_lies k s.source (level.0, (x, at, level.1, together_then (StepAt graph level.0) graph.start x.node q s.source class (both.1, both.0)))) is_out in
      let head : HeadAt graph level.0 q = ((class_self level.0 x.node q class).0, inr (s.source, step, out)) in
      of.single level.0 q x.node head level.1 (class.1, class.0)
    where
      -- it is a step of each level out to the loop's
      stays : {l : ℕ} (m : ℕ) → m ≤ l → ClassAt graph l x.node q → StepAt graph m s.source (Some q)
      stays zero low class = (s, among, refl, to)
      stays {l} (suc m) low class =
          let before : StepAt graph m s.source (Some q) = stays m (omega arith) class in
          let looped : ClassAt graph l q q = class_self l x.node q class in
          let no_head : HeadAt graph m q → ⊥ = λ head. head_leaves (StepAt graph m) graph.start q q head (class_below graph l (suc m) q q low looped).0 in
          let of_q = innermost l q looped in
          let loop = loop_at of_q.0 m of_q.1 q (omega (arith, of_q.3)) of_q.2 in
          (before, together m before no_head loop.0 loop.1, no_head)
        where
          together : (m : ℕ) → StepAt graph m s.source (Some q) → (HeadAt graph m q → ⊥) → (j : ℕ) → IsHeadFor graph nest.heads m j q → ClassAt graph m s.source q
          together m before no_head j (y, at_y, head_y, class_y) = ⊎_elim
              (λ (is : lies nest j s.source ≡ true).
              let class_s = lies_class j s.source m y at_y head_y (lies_is j s.source is (All-contains (λ (t : Step). t.source < length graph.nodes) graph.steps s is_graph.sources among)) in
              together_then (StepAt graph m) graph.start s.source y.node q (class_s.1, class_s.0) class_y)
              (λ (is : lies nest j s.source ≡ false). absurd (no_head ((class_self m y.node q class_y).0, inr (s.source, before, λ both. not_both (all_lies j s.source (m, (y, at_y, head_y, together_then (StepAt graph m) graph.start y.node q s.source class_y (both.1, both.0)))) is))))
              (true_or_false (lies nest j s.source))

  pub lies_outer : (k m : ℕ) (x y : Head) → slice_get nest.heads k ≡ Some x → slice_get nest.heads m ≡ Some y → lies nest k y.node ≡ true → k ≤ m
  lies_outer k m x y at_x at_y is = ⊎_elim (λ (less : m < k). absurd (never less)) (λ (fine : k ≤ m). fine) (cases_lt m k)
    where
      never : m < k → ⊥
      never less =
          let level_x = level_of k x at_x in
          let class = lies_class k y.node level_x.0 x at_x level_x.1 (lies_is k y.node is (node_known m y at_y)) in
          let order = pairs_at (ComesBefore graph) nest.heads m k y x of.ordered less at_y at_x in
          let is_x : order.level_y ≡ level_x.0 = one_level order.level_y level_x.0 x.node order.listed_y.head level_x.1 in
          ⊎_elim
          (λ (lower : order.level_x < order.level_y). head_leaves (StepAt graph order.level_x) graph.start y.node y.node order.listed_x.head (class_below graph level_x.0 (suc order.level_x) y.node y.node (omega arith) (class_self level_x.0 x.node y.node class)).0)
          (λ same.
          let head_y : HeadAt graph level_x.0 y.node = subst (λ (n : ℕ). HeadAt graph n y.node) (same.0 ∙ is_x) order.listed_x.head in
          let one : m ≡ k = one_place m k y x at_y at_x (sym (of.single level_x.0 x.node y.node level_x.1 head_y class)) in
          omega arith)
          order.order

  -- no loop has what is no node
  lies_none : (k p : ℕ) → length graph.nodes ≤ p → lies nest k p ≡ false
  lies_none k p high = ap (λ o. is_listed k (loops_out nest.heads (length nest.heads) o)) (get_or-eq_default nest.inside None (omega (arith, of.inside_counted)))

  pub lies_larger : (k m p : ℕ) (x y : Head) → slice_get nest.heads k ≡ Some x → slice_get nest.heads m ≡ Some y → lies nest k y.node ≡ true → lies nest m p ≡ true → lies nest k p ≡ true
  lies_larger k m p x y at_x at_y is_y is_p = ⊎_elim
      (λ (known : p < length graph.nodes).
      let level_x = level_of k x at_x in
      let level_y = level_of m y at_y in
      let class_y = lies_class k y.node level_x.0 x at_x level_x.1 (lies_is k y.node is_y (node_known m y at_y)) in
      let class_p = lies_class m p level_y.0 y at_y level_y.1 (lies_is m p is_p known) in
      let low : level_x.0 ≤ level_y.0 = ⊎_elim
      (λ (less : level_y.0 < level_x.0). absurd (head_leaves (StepAt graph level_y.0) graph.start y.node y.node level_y.1 (class_below graph level_x.0 (suc level_y.0) y.node y.node (omega arith) (class_self level_x.0 x.node y.node class_y)).0))
      (λ (fine : level_x.0 ≤ level_y.0). fine)
      (cases_lt level_y.0 level_x.0) in
      all_lies k p (level_x.0, (x, at_x, level_x.1, together_then (StepAt graph level_x.0) graph.start x.node y.node p class_y (class_below graph level_y.0 level_x.0 y.node p low class_p))))
      (λ (unknown : length graph.nodes ≤ p). absurd (not_both is_p (lies_none m p unknown)))
      (cases_lt p (length graph.nodes))
