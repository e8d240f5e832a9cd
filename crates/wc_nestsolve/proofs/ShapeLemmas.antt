-- The lists of a nest fit its graph.
use Rattle.std.proofs.Common.{ℕ, zero, suc, ◌≡◌, ◌≢◌, ◌<◌, ◌≤◌, List, [], ◌∷◌, map, Option, None, Some, length, get_or, refl, sym, ap, subst, ◌∙◌, arith}
use Rattle.std.specs.Prelude.{IfSome}
use Rattle.std.specs.List.{AllZip, slice_get}
use Rattle.std.proofs.lemmas.List.{length-map}
use Rattle.std.proofs.lemmas.Option.{none-some, same_Some, slice_get_within, slice_get-get_or}
use Rattle.wc_model.specs.declared.graphs.Graph.{Graph}
use Rattle.wc_model.specs.declared.graphs.Head.{Head}
use Rattle.wc_model.specs.declared.graphs.Nest.{Nest}
use Rattle.wc_model.specs.Flow.Nest.{IsInside, IsNest}
use Rattle.wc_model.specs.Flow.Systems.{IsNestShape}
use Rattle.wc_model.specs.Program.Graphs.{IsGraph}
use Rattle.wc_model.proofs.Places.{get_from_contains}
use Rattle.wc_nest.proofs.ListLemmas.{pairs_from}
use Rattle.wc_nest.proofs.NestingLemmas.{distinct_fits}
use Rattle.wc_nestsolve.proofs.NestedLemmas.{node_known, one_place, parent_known}

pub zip_length : {A B : Type 0} (R : A → B → Type 0) (xs : List A) (ys : List B) → AllZip R xs ys → length ys ≡ length xs
zip_length R [] [] all = refl
zip_length R [] (y ∷ ys) all = absurd all
zip_length R (x ∷ xs) [] all = absurd all
zip_length R (x ∷ xs) (y ∷ ys) all = ap suc (zip_length R xs ys all.1)

head_at : (heads : List Head) (i p : ℕ) → slice_get (map (λ h. h.node) heads) i ≡ Some p → (x : Head) × (slice_get heads i ≡ Some x) × (x.node ≡ p)
head_at [] i p at = absurd (none-some p at)
head_at (x ∷ heads) zero p at = (x, refl, same_Some x.node p at)
head_at (x ∷ heads) (suc i) p at = head_at heads i p at

module _ (graph : Graph) (is_graph : IsGraph graph) (nest : Nest) (of : IsNest graph nest) where
  few_heads : length nest.heads ≤ length graph.nodes
  few_heads =
      let fits : length (map (λ (h : Head). h.node) nest.heads) ≤ length graph.nodes = distinct_fits (map (λ (h : Head). h.node) nest.heads) (length graph.nodes)
      (pairs_from (λ p q. p ≢ q) (map (λ (h : Head). h.node) nest.heads) (λ i j p q less at_p at_q. apart i j p q less at_p at_q))
      (λ p among. let placed = get_from_contains (map (λ (h : Head). h.node) nest.heads) p among in low placed.0 p placed.1) in
      omega (arith, fits, length-map nest.heads (λ (h : Head). h.node))
    where
      apart : (i j p q : ℕ) → i < j → slice_get (map (λ h. h.node) nest.heads) i ≡ Some p → slice_get (map (λ h. h.node) nest.heads) j ≡ Some q → p ≡ q → ⊥
      apart i j p q less at_p at_q same =
          let x = head_at nest.heads i p at_p in
          let y = head_at nest.heads j q at_q in
          let one : i ≡ j = one_place graph is_graph nest of i j x.0 y.0 x.1 y.1 (x.2 ∙ same ∙ sym y.2) in
          omega arith

      low : (i p : ℕ) → slice_get (map (λ h. h.node) nest.heads) i ≡ Some p → p < length graph.nodes
      low i p at = let x = head_at nest.heads i p at in subst (λ (q : ℕ). q < length graph.nodes) x.2 (node_known graph is_graph nest of i x.0 x.1)

  pub nest_shape : IsNestShape graph nest
  nest_shape = record {
    few = few_heads;
    heads = λ k d within. node_known graph is_graph nest of k (get_or nest.heads k d) (slice_get-get_or nest.heads k d within);
    apart = one_place graph is_graph nest of;
    parents = λ k h at. parent_low k h at h.parent refl;
    inside_counted = of.inside_counted;
    inside = λ k d within. inside_low k (get_or nest.inside k d) (slice_get-get_or nest.inside k d within);
    back_counted = zip_length (λ s b. _) graph.steps nest.back of.backs;
  }
    where
      parent_low : (k : ℕ) (h : Head) → slice_get nest.heads k ≡ Some h → (o : Option ℕ) → h.parent ≡ o → IfSome o (λ j. j < k)
      parent_low k h at None is = tt
      parent_low k h at (Some j) is = parent_known graph is_graph nest of k h at j is

      inside_low : (p : ℕ) (o : Option ℕ) → slice_get nest.inside p ≡ Some o → IfSome o (λ k. k < length nest.heads)
      inside_low p None at = tt
      inside_low p (Some i) at = let inside : IsInside graph nest.heads p (Some i) = of.smallest p (Some i) at in slice_get_within nest.heads i inside.1.0 inside.1.1
