-- The nest grows by one level, and is whole where no step is left.
use Rattle.std.proofs.Common.{ℕ, zero, suc, ◌≡◌, ◌+◌, ◌-◌, ◌<◌, ◌≤◌, inl, inr, ⊎_elim, Bool, true, false, List, [], ◌∷◌, Option, None, Some, length, replicate, refl, sym, ap, subst, ◌∙◌, arith}
use Rattle.std.specs.List.{AllZip, slice_get, slice_index_or}
use Rattle.std.proofs.lemmas.Bool.{cases_lt}
use Rattle.std.proofs.lemmas.List.{length-replicate}
use Rattle.std.proofs.lemmas.Option.{none-some, same_Some, slice_get-get_or}
use Rattle.wc_model.specs.declared.graphs.Graph.{Graph}
use Rattle.wc_model.specs.declared.graphs.Head.{Head}
use Rattle.wc_model.specs.declared.graphs.Nest.{Nest}
use Rattle.wc_model.specs.declared.graphs.Step.{Step}
use Rattle.wc_model.specs.Flow.Nest.{HeadAt, ClassAt, IsListed, ComesBefore, IsHeadFor, IsParent, IsInside, IsBack, IsNest}
use Rattle.wc_model.specs.Program.Graphs.{LeadsIn}
use Rattle.wc_model.proofs.Places.{get_left}
use Rattle.wc_nest.specs.Inner.Nests.{StepAt, GoesBackAt, IsInsideBelow, IsNestBelow, IsNestAt}
use Rattle.wc_nest.proofs.ListLemmas.{get_front, pairs_from}
use Rattle.wc_nest.proofs.RelationLemmas.{inner_leads, together_then, led_then}

pub zip_from : {A B : Type 0} (R : A → B → Type 0) (xs : List A) (ys : List B) → length xs ≡ length ys → ((i : ℕ) (x : A) (y : B) → slice_get xs i ≡ Some x → slice_get ys i ≡ Some y → R x y) → AllZip R xs ys
zip_from R [] [] same all = tt
zip_from R [] (y ∷ ys) same all = absurd (omega arith)
zip_from R (x ∷ xs) [] same all = absurd (omega arith)
zip_from R (x ∷ xs) (y ∷ ys) same all = (all 0 x y refl refl, zip_from R xs ys (omega arith) (λ i v w at_v at_w. all (suc i) v w at_v at_w))

pub zip_at : {A B : Type 0} (R : A → B → Type 0) (xs : List A) (ys : List B) → AllZip R xs ys → (i : ℕ) (x : A) → slice_get xs i ≡ Some x → (y : B) × (slice_get ys i ≡ Some y) × R x y
zip_at R [] ys all i x at = absurd (none-some x at)
zip_at R (z ∷ xs) [] all i x at = absurd all
zip_at {A} R (z ∷ xs) (y ∷ ys) all zero x at = (y, refl, subst (λ (v : A). R v y) (same_Some z x at) all.0)
zip_at R (z ∷ xs) (y ∷ ys) all (suc i) x at = zip_at R xs ys all.1 i x at

module _ (graph : Graph) where
  -- levels lie inside of one another
  pub class_down : (k p q : ℕ) → ClassAt graph (suc k) p q → ClassAt graph k p q
  class_down k p q both = (inner_leads (StepAt graph k) graph.start p q both.0, inner_leads (StepAt graph k) graph.start q p both.1)

  pub class_below : (to k p q : ℕ) → k ≤ to → ClassAt graph to p q → ClassAt graph k p q
  class_below zero k p q low both = let same : zero ≡ k = omega arith in subst (λ (n : ℕ). ClassAt graph n p q) same both
  class_below (suc to) k p q low both = ⊎_elim
      (λ (less : k < suc to). class_below to k p q (omega arith) (class_down to p q both))
      (λ (top : suc to ≤ k). let same : suc to ≡ k = omega arith in subst (λ (n : ℕ). ClassAt graph n p q) same both)
      (cases_lt k (suc to))

  step_down : (d to p q : ℕ) → StepAt graph (d + to) p (Some q) → StepAt graph to p (Some q)
  step_down zero to p q step = let same : zero + to ≡ to = omega arith in subst (λ (n : ℕ). StepAt graph n p (Some q)) same step
  step_down (suc d) to p q step = let same : suc d + to ≡ suc (d + to) = omega arith in step_down d to p q (subst (λ (n : ℕ). StepAt graph n p (Some q)) same step).0

  pub step_below : (k to p q : ℕ) → to ≤ k → StepAt graph k p (Some q) → StepAt graph to p (Some q)
  step_below k to p q low step = let same : k ≡ (k - to) + to = omega arith in step_down (k - to) to p q (subst (λ (n : ℕ). StepAt graph n p (Some q)) same step)

  -- a step to a node of the same class is one of the level
  pub step_at : (k p q : ℕ) → LeadsIn graph.steps p (Some q) → ClassAt graph k p q → StepAt graph k p (Some q)
  step_at zero p q led both = led
  step_at (suc k) p q led both = (step_at k p q led (class_down k p q both), class_down k p q both, both.0.2.2)

  -- one more level
  module _ (to : ℕ) (heads : List Head) (inside : List (Option ℕ)) (back : List Bool) (below : IsNestBelow graph to heads inside back) where
    inside_is : (p : ℕ) (o : Option ℕ) → ClassAt graph to p p → IsInsideBelow graph heads to p o → IsParent graph heads to p o
    inside_is p o looped is = by_level to (λ k low. class_below to k p p low looped) o is
      where
        by_level : (n : ℕ) → ((k : ℕ) → k ≤ n → ClassAt graph k p p) → (o : Option ℕ) → IsInsideBelow graph heads n p o → IsParent graph heads n p o
        by_level zero in_class None is = refl
        by_level zero in_class (Some i) is = absurd (omega (arith, is.1))
        by_level (suc n) in_class None is = absurd (is (omega arith) (in_class 0 (omega arith)))
        by_level (suc n) in_class (Some i) (k, less, of, none) = ⊎_elim
            (λ (lower : suc k < suc n). absurd (none lower (in_class (suc k) (omega arith))))
            (λ (top : suc n ≤ suc k). let same : k ≡ n = omega arith in (i, refl, subst (λ (m : ℕ). IsHeadFor graph heads m i p) same of))
            (cases_lt (suc k) (suc n))

    -- the loop that a node was in before is the next larger one
    pub parent_at : (p : ℕ) → p < length graph.nodes → ClassAt graph to p p → IsParent graph heads to p (slice_index_or inside p None)
    parent_at p known looped = inside_is p (slice_index_or inside p None) looped (below.smallest p (slice_index_or inside p None) (slice_get-get_or inside p None (omega (arith, below.inside_counted))))

    parent_for : (n p h : ℕ) (o : Option ℕ) → ((k : ℕ) → k < n → ClassAt graph k p h) → IsParent graph heads n p o → IsParent graph heads n h o
    parent_for zero p h o both is = is
    parent_for (suc k) p h o both (i, same, (x, at, head, class)) = (i, same, (x, at, head, together_then (StepAt graph k) graph.start x.node p h class (both k (omega arith))))

    module _ (new_heads : List Head) (new_inside : List (Option ℕ)) (new_back : List Bool) (now : IsNestAt graph to heads inside back new_heads new_inside new_back) (known : (p q : ℕ) → ClassAt graph to p q → p < length graph.nodes) where
      grows : (i : ℕ) (x : Head) → slice_get heads i ≡ Some x → slice_get new_heads i ≡ Some x
      grows i x at = subst (λ (xs : List Head). slice_get xs i ≡ Some x) (sym now.grown.1) (get_left heads now.grown.0 i x at)

      shrinks : (i : ℕ) (x : Head) → i < length heads → slice_get new_heads i ≡ Some x → slice_get heads i ≡ Some x
      shrinks i x less at = get_front heads now.grown.0 i x less (subst (λ (xs : List Head). slice_get xs i ≡ Some x) now.grown.1 at)

      head_for : (k i p : ℕ) → IsHeadFor graph heads k i p → IsHeadFor graph new_heads k i p
      head_for k i p (x, at, head, class) = (x, grows i x at, head, class)

      parent_grows : (k h : ℕ) (o : Option ℕ) → IsParent graph heads k h o → IsParent graph new_heads k h o
      parent_grows zero h o is = is
      parent_grows (suc k) h o (i, same, of) = (i, same, head_for k i h of)

      new_parent : (x : Head) (least : ℕ) → IsListed graph to x.node least → x.parent ≡ slice_index_or inside least None → IsParent graph new_heads to x.node x.parent
      new_parent x least is same =
          let led = led_then (StepAt graph to) least x.node least is.member.0 is.member.1 in
          let of_least = parent_at least (known least x.node is.member) (led, led) in
          parent_grows to x.node x.parent (subst (λ (o : Option ℕ). IsParent graph heads to x.node o) (sym same) (parent_for to least x.node (slice_index_or inside least None) (λ k less. class_below to k least x.node (omega arith) is.member) of_least))

      placed : (i : ℕ) (x : Head) → slice_get new_heads i ≡ Some x → (k : ℕ) × (least : ℕ) × (k < suc to) × IsListed graph k x.node least × IsParent graph new_heads k x.node x.parent
      placed i x at = ⊎_elim
          (λ (less : i < length heads). let was = below.places i x (shrinks i x less at) in (was.0, was.1, omega (arith, was.2), was.3, parent_grows was.0 x.node x.parent was.4))
          (λ (later : length heads ≤ i). let new = now.added_head i x later at in (to, new.0, omega arith, new.1, new_parent x new.0 new.1 new.2))
          (cases_lt i (length heads))

      in_order : (i j : ℕ) (x y : Head) → i < j → slice_get new_heads i ≡ Some x → slice_get new_heads j ≡ Some y → ComesBefore graph x y
      in_order i j x y less at_x at_y = ⊎_elim
          (λ (old_j : j < length heads). below.ordered i j x y less (shrinks i x (omega arith) at_x) (shrinks j y old_j at_y))
          (λ (new_j : length heads ≤ j).
          let of_y = now.added_head j y new_j at_y in
          ⊎_elim
          (λ (old_i : i < length heads).
          let of_x = below.places i x (shrinks i x old_i at_x) in
          record { level_x = of_x.0; level_y = to; least_x = of_x.1; least_y = of_y.0; listed_x = of_x.3; listed_y = of_y.1; order = inl of_x.2 })
          (λ (new_i : length heads ≤ i).
          let of_x = now.added_head i x new_i at_x in
          record { level_x = to; level_y = to; least_x = of_x.0; least_y = of_y.0; listed_x = of_x.1; listed_y = of_y.1; order = inr (refl, now.ordered i j x y of_x.0 of_y.0 new_i less at_x at_y of_x.1 of_y.1) })
          (cases_lt i (length heads)))
          (cases_lt j (length heads))

      still_inside : (p : ℕ) (o : Option ℕ) → (ClassAt graph to p p → ⊥) → IsInsideBelow graph heads to p o → IsInsideBelow graph new_heads (suc to) p o
      still_inside p None none is = λ some looped. ⊎_elim
          (λ (less : 0 < to). is less looped)
          (λ (zero_to : to ≤ 0). let same : 0 ≡ to = omega arith in none (subst (λ (n : ℕ). ClassAt graph n p p) same looped))
          (cases_lt 0 to)
      still_inside p (Some i) none (k, less, of, other) = (
        k,
        omega arith,
        head_for k i p of,
        λ within looped. ⊎_elim
            (λ (lower : suc k < to). other lower looped)
            (λ (top : to ≤ suc k). let same : suc k ≡ to = omega arith in none (subst (λ (n : ℕ). ClassAt graph n p p) same looped))
            (cases_lt (suc k) to),
      )

      inside_now : (p : ℕ) (o : Option ℕ) → slice_get new_inside p ≡ Some o → IsInsideBelow graph new_heads (suc to) p o
      inside_now p o at = ⊎_elim
          (λ (looped : ClassAt graph to p p).
          let of = now.in_loop p looped in
          subst (λ (x : Option ℕ). IsInsideBelow graph new_heads (suc to) p x) (same_Some (Some of.0) o (sym of.1 ∙ at)) (to, omega arith, of.2, λ within. absurd (omega arith)))
          (λ (none : ClassAt graph to p p → ⊥). still_inside p o none (below.smallest p o (sym (now.outside p none) ∙ at)))
          (now.decides p)

      pub below_more : IsNestBelow graph (suc to) new_heads new_inside new_back
      below_more =
          record {
            single = λ k p q less head_p head_q both. ⊎_elim
                (λ (lower : k < to). below.single k p q lower head_p head_q both)
                (λ (top : to ≤ k). let same : k ≡ to = omega arith in now.single p q (subst (λ (n : ℕ). HeadAt graph n p) same head_p) (subst (λ (n : ℕ). HeadAt graph n q) same head_q) (subst (λ (n : ℕ). ClassAt graph n p q) same both))
                (cases_lt k to);
            all = λ k h less head. ⊎_elim
                (λ (lower : k < to). let was = below.all k h lower head in (was.0, was.1, grows was.0 was.1 was.2, was.3))
                (λ (top : to ≤ k). let same : k ≡ to = omega arith in now.all h (subst (λ (n : ℕ). HeadAt graph n h) same head))
                (cases_lt k to);
            places = placed;
            ordered = in_order;
            inside_counted = now.inside_counted ∙ below.inside_counted;
            smallest = inside_now;
            back_counted = now.back_counted ∙ below.back_counted;
            backs = λ i s at. let new = now.backs i s at in let old = below.backs i s at in (
              λ is. ⊎_elim (λ before. let was = old.0 before in (was.0, omega (arith, was.1), was.2)) (λ goes. (to, omega arith, goes)) (new.0 is),
              λ of. new.1 (⊎_elim
                  (λ (lower : of.0 < to). inl (old.1 (of.0, lower, of.2)))
                  (λ (top : to ≤ of.0). let same : of.0 ≡ to = omega (arith, of.1) in inr (subst (λ (n : ℕ). GoesBackAt graph n s) same of.2))
                  (cases_lt of.0 to)),
            );
          }

  -- before the first level
  no_flag : (n q : ℕ) → slice_get (replicate n false) q ≡ Some true → ⊥
  no_flag zero q at = none-some true at
  no_flag (suc n) zero at = let e : false ≡ true = same_Some false true at in cc
  no_flag (suc n) (suc q) at = no_flag n q at

  none_inside : (n p : ℕ) (o : Option ℕ) → slice_get (replicate n None) p ≡ Some o → o ≡ None
  none_inside zero p o at = absurd (none-some o at)
  none_inside (suc n) zero o at = sym (same_Some None o at)
  none_inside (suc n) (suc p) o at = none_inside n p o at

  pub below_first : IsNestBelow graph 0 [] (replicate (length graph.nodes) None) (replicate (length graph.steps) false)
  below_first =
      record {
        single = λ k p q less. absurd (omega arith);
        all = λ k h less. absurd (omega arith);
        places = λ i x at. absurd (none-some x at);
        ordered = λ i j x y less at. absurd (none-some x at);
        inside_counted = length-replicate (length graph.nodes) None;
        smallest = λ p o at. subst (λ (x : Option ℕ). IsInsideBelow graph [] 0 p x) (sym (none_inside (length graph.nodes) p o at)) (λ less. absurd (omega arith));
        back_counted = length-replicate (length graph.steps) false;
        backs = λ i s at. (λ is. absurd (no_flag (length graph.steps) i is), λ of. absurd (omega (arith, of.1)));
      }

  -- where no step is left
  module _ (to : ℕ) (nest : Nest) (below : IsNestBelow graph to nest.heads nest.inside nest.back) (none : (p q : ℕ) → StepAt graph to p (Some q) → ⊥) where
    no_class : (k p q : ℕ) → to ≤ k → ClassAt graph k p q → ⊥
    no_class k p q high both = none both.0.0 q (step_below k to both.0.0 q high both.0.2)

    no_head : (k h : ℕ) → to ≤ k → HeadAt graph k h → ⊥
    no_head k h high head = no_class k h h high (head.0, head.0)

    inside_whole : (p : ℕ) (o : Option ℕ) → IsInsideBelow graph nest.heads to p o → IsInside graph nest.heads p o
    inside_whole p None is = λ looped. ⊎_elim (λ (less : 0 < to). is less looped) (λ (zero_to : to ≤ 0). no_class 0 p p zero_to looped) (cases_lt 0 to)
    inside_whole p (Some i) (k, less, of, other) = (k, of, λ looped. ⊎_elim (λ (lower : suc k < to). other lower looped) (λ (high : to ≤ suc k). no_class (suc k) p p high looped) (cases_lt (suc k) to))

    flag_is : (i : ℕ) (s : Step) (b : Bool) → slice_get graph.steps i ≡ Some s → slice_get nest.back i ≡ Some b → ((b ≡ true) → IsBack graph s) × (IsBack graph s → b ≡ true)
    flag_is i s b at_s at_b =
        let of = below.backs i s at_s in (
          λ is. let goes = of.0 (at_b ∙ ap Some is) in (goes.0, goes.2.0, goes.2.1, goes.2.2),
          λ is. ⊎_elim
              (λ (less : is.0 < to). same_Some b true (sym at_b ∙ of.1 (is.0, less, (is.1, is.2, is.3))))
              (λ (high : to ≤ is.0). absurd (no_head is.0 is.1 high is.3.0))
              (cases_lt is.0 to),
        )

    pub whole : IsNest graph nest
    whole =
        record {
          single = λ k p q head_p head_q both. ⊎_elim (λ (less : k < to). below.single k p q less head_p head_q both) (λ (high : to ≤ k). absurd (no_class k p q high both)) (cases_lt k to);
          all = λ k h head. ⊎_elim (λ (less : k < to). below.all k h less head) (λ (high : to ≤ k). absurd (no_head k h high head)) (cases_lt k to);
          places = λ i x at. let was = below.places i x at in (was.0, was.3.head, was.4);
          ordered = pairs_from (ComesBefore graph) nest.heads below.ordered;
          inside_counted = below.inside_counted;
          smallest = λ p o at. inside_whole p o (below.smallest p o at);
          backs = zip_from (λ (s : Step) (b : Bool). ((b ≡ true) → IsBack graph s) × (IsBack graph s → b ≡ true)) graph.steps nest.back (sym below.back_counted) flag_is;
        }
