-- One step more, found from its target.
use Rattle.std.proofs.Common.{ℕ, zero, suc, ◌≡◌, ◌≢◌, ◌+◌, ◌<◌, ◌⊎◌, inl, inr, ⊎_elim, List, [], ◌∷◌, ◌++◌, map, Option, None, Some, length, set, replicate, refl, sym, ap, subst, ◌∙◌, arith, append_assoc, append-nil}
use Rattle.std.specs.List.{slice_get}
use Rattle.std.proofs.lemmas.List.{length-set, length-replicate}
use Rattle.std.proofs.lemmas.Option.{none-some, same_Some, slice_get_within}
use Rattle.wc_model.proofs.Places.{get_set_cases}
use Rattle.wc_graph.specs.declared.frames.Leap.{Leap}
use Rattle.wc_graph.specs.declared.sources.Sources.{Sources}
use Rattle.wc_graph.specs.Inner.Lists.{Has, Inside}
use Rattle.wc_graph.specs.Inner.Spreads.{AllInside}
use Rattle.wc_graph.specs.Inner.Sources.{AreSources, Edge, edge_of, edges_from}
use Rattle.wc_graph.proofs.ListLemmas.{get_filled}
use Rattle.wc_graph.proofs.RisingLemmas.{has_append, append_has, has_map, map_has}

pub sources_empty : (count : ℕ) (s : Sources) → s.into ≡ replicate count [] → s.exits.items ≡ [] → AreSources count [] s
sources_empty count s empty exits = record {
  counted = ap length empty ∙ length-replicate count [];
  exits = λ k. (λ has. subst (λ (xs : List ℕ). Has xs k) exits has, λ has. absurd has);
  into = λ t v at k. (λ has. subst (λ (xs : List ℕ). Has xs k) (get_filled count t [] v (subst (λ (xs : List (List ℕ)). slice_get xs t ≡ Some v) empty at)) has, λ has. absurd has);
}

edge_more : (edges : List Edge) (e f : Edge) → Has (edges ++ e ∷ []) f → Has edges f ⊎ (e ≡ f)
edge_more edges e f has = ⊎_elim (λ (old : Has edges f). inl old) (λ (new : (e ≡ f) ⊎ ⊥). inr (last new)) (has_append edges (e ∷ []) f has)
  where
    last : (e ≡ f) ⊎ ⊥ → e ≡ f
    last (inl same) = same
    last (inr none) = absurd none

number_more : (xs : List ℕ) (n k : ℕ) → Has (xs ++ n ∷ []) k → Has xs k ⊎ (n ≡ k)
number_more xs n k has = ⊎_elim (λ (old : Has xs k). inl old) (λ (new : (n ≡ k) ⊎ ⊥). inr (last new)) (has_append xs (n ∷ []) k has)
  where
    last : (n ≡ k) ⊎ ⊥ → n ≡ k
    last (inl same) = same
    last (inr none) = absurd none

module _ (count : ℕ) (edges : List Edge) (old new : Sources) (source : ℕ) (are : AreSources count edges old) where
  abbrev edge_to : Option ℕ → Edge
  edge_to t = (source, t)

  kept : (t : Option ℕ) (f : Edge) → Has edges f → Has (edges ++ edge_to t ∷ []) f
  kept t f has = append_has edges (edge_to t ∷ []) f (inl has)

  pub exit_more : new.exits.items ≡ old.exits.items ++ source ∷ [] → new.into ≡ old.into → AreSources count (edges ++ edge_to None ∷ []) new
  exit_more exits into = record {
    counted = ap length into ∙ are.counted;
    exits = λ k. (
      λ has. ⊎_elim
          (λ (was : Has old.exits.items k). kept None (k, None) ((are.exits k).0 was))
          (λ (same : source ≡ k). append_has edges (edge_to None ∷ []) (k, None) (inr (inl (ap (λ (n : ℕ). (n, None)) same))))
          (number_more old.exits.items source k (subst (λ (xs : List ℕ). Has xs k) exits has)),
      λ has. subst (λ (xs : List ℕ). Has xs k) (sym exits) (append_has old.exits.items (source ∷ []) k (⊎_elim
          (λ (was : Has edges (k, None)). inl ((are.exits k).1 was))
          (λ (same : edge_to None ≡ (k, None)). inr (inl (ap (λ (e : Edge). e.0) same)))
          (edge_more edges (edge_to None) (k, None) has))),
    );
    into = λ t v at k.
        let was = are.into t v (subst (λ (xs : List (List ℕ)). slice_get xs t ≡ Some v) into at) k in (
          λ has. kept None (k, Some t) (was.0 has),
          λ has. was.1 (⊎_elim
              (λ (old_has : Has edges (k, Some t)). old_has)
              (λ (same : edge_to None ≡ (k, Some t)). absurd (none-some t (ap (λ (e : Edge). e.1) same)))
              (edge_more edges (edge_to None) (k, Some t) has)),
        );
  }

  pub into_more : (target : ℕ) (v : List ℕ) → slice_get old.into target ≡ Some v → new.into ≡ set old.into target (source ∷ v) → new.exits.items ≡ old.exits.items → AreSources count (edges ++ edge_to (Some target) ∷ []) new
  into_more target v at_v into exits = record {
    counted = ap length into ∙ length-set old.into target (source ∷ v) ∙ are.counted;
    exits = λ k. (
      λ has. kept (Some target) (k, None) ((are.exits k).0 (subst (λ (xs : List ℕ). Has xs k) exits has)),
      λ has. subst (λ (xs : List ℕ). Has xs k) (sym exits) ((are.exits k).1 (⊎_elim
          (λ (old_has : Has edges (k, None)). old_has)
          (λ (same : edge_to (Some target) ≡ (k, None)). absurd (none-some target (sym (ap (λ (e : Edge). e.1) same))))
          (edge_more edges (edge_to (Some target)) (k, None) has))),
    );
    into = λ t u at k. ⊎_elim
        (λ (here : (t ≡ target) × ((source ∷ v) ≡ u)).
        let was = are.into target v at_v k in (
          λ has. ⊎_elim
              (λ (same : source ≡ k). append_has edges (edge_to (Some target) ∷ []) (k, Some t) (inr (inl (pair_same source k target t same (sym here.0)))))
              (λ (old_has : Has v k). kept (Some target) (k, Some t) (subst (λ (i : ℕ). Has edges (k, Some i)) (sym here.0) (was.0 old_has)))
              (subst (λ (xs : List ℕ). Has xs k) (sym here.1) has),
          λ has. subst (λ (xs : List ℕ). Has xs k) here.1 (⊎_elim
              (λ (old_has : Has edges (k, Some t)). inr (was.1 (subst (λ (i : ℕ). Has edges (k, Some i)) here.0 old_has)))
              (λ (same : edge_to (Some target) ≡ (k, Some t)). inl (ap (λ (e : Edge). e.0) same))
              (edge_more edges (edge_to (Some target)) (k, Some t) has)),
        ))
        (λ (other : (t ≢ target) × (slice_get old.into t ≡ Some u)).
        let was = are.into t u other.1 k in (
          λ has. kept (Some target) (k, Some t) (was.0 has),
          λ has. was.1 (⊎_elim
              (λ (old_has : Has edges (k, Some t)). old_has)
              (λ (same : edge_to (Some target) ≡ (k, Some t)). absurd (other.0 (sym (same_Some target t (ap (λ (e : Edge). e.1) same)))))
              (edge_more edges (edge_to (Some target)) (k, Some t) has)),
        ))
        (get_set_cases old.into target t (source ∷ v) u (subst (λ (xs : List (List ℕ)). slice_get xs t ≡ Some u) into at));
  }
    where
      pair_same : (a b c d : ℕ) → a ≡ b → c ≡ d → ◌≡◌ {A = Edge} (a, Some c) (b, Some d)
      pair_same a b c d one two = ap (λ (n : ℕ). (n, Some c)) one ∙ ap (λ (n : ℕ). (b, Some n)) two

-- the steps of several positions
pub edges_push : (n m : ℕ) (xs : List (List Leap)) (v : List Leap) → m ≡ n + length xs → edges_from n (xs ++ v ∷ []) ≡ edges_from n xs ++ map (edge_of m) v
edges_push n m [] v is = append-nil (map (edge_of n) v) ∙ ap (λ (i : ℕ). map (edge_of i) v) (sym (omega (arith, is)))
edges_push n m (x ∷ xs) v is =
    ap (λ (es : List Edge). map (edge_of n) x ++ es) (edges_push (n + 1) m xs v (omega (arith, is)))
    ∙ sym (append_assoc (map (edge_of n) x) (edges_from (n + 1) xs) (map (edge_of m) v))

-- a step stands among those of its source
pub record IsLeapOf (leaps : List (List Leap)) (k : ℕ) (target : Option ℕ) : Type 0 where
  pub own : List Leap
  pub at : slice_get leaps k ≡ Some own
  pub leap : Leap
  pub among : Has own leap
  pub to : leap.target ≡ target

pub edge_leap : (n : ℕ) (leaps : List (List Leap)) (k : ℕ) (t : Option ℕ) → Has (edges_from n leaps) (k, t) → (j : ℕ) × (k ≡ n + j) × IsLeapOf leaps j t
edge_leap n [] k t has = absurd has
edge_leap n (v ∷ leaps) k t has = ⊎_elim
    (λ (here : Has (map (edge_of n) v) (k, t)).
    let from = has_map (edge_of n) v (k, t) here in
    (0, omega (arith, ap (λ (e : Edge). e.0) from.2), record { own = v; at = refl; leap = from.0; among = from.1; to = ap (λ (e : Edge). e.1) from.2 }))
    (λ (later : Has (edges_from (n + 1) leaps) (k, t)).
    let from = edge_leap (n + 1) leaps k t later in
    (suc from.0, omega (arith, from.1), record { own = from.2.own; at = from.2.at; leap = from.2.leap; among = from.2.among; to = from.2.to }))
    (has_append (map (edge_of n) v) (edges_from (n + 1) leaps) (k, t) has)

pub leap_edge : (n : ℕ) (leaps : List (List Leap)) (j : ℕ) (t : Option ℕ) (own : List Leap) (leap : Leap) → slice_get leaps j ≡ Some own → Has own leap → leap.target ≡ t → Has (edges_from n leaps) (n + j, t)
leap_edge n [] j t own leap at among to = absurd (none-some own at)
leap_edge n (v ∷ leaps) zero t own leap at among to =
    append_has (map (edge_of n) v) (edges_from (n + 1) leaps) (n + 0, t) (inl (subst (λ (e : Edge). Has (map (edge_of n) v) e) (pair (omega arith) to) (map_has (edge_of n) v leap (subst (λ (x : List Leap). Has x leap) (sym (same_Some v own at)) among))))
  where
    pair : n ≡ n + 0 → leap.target ≡ t → ◌≡◌ {A = Edge} (n, leap.target) (n + 0, t)
    pair one two = ap (λ (i : ℕ). (i, leap.target)) one ∙ ap (λ (o : Option ℕ). (n + 0, o)) two
leap_edge n (v ∷ leaps) (suc j) t own leap at among to =
    append_has (map (edge_of n) v) (edges_from (n + 1) leaps) (n + suc j, t) (inr (subst (λ (i : ℕ). Has (edges_from (n + 1) leaps) (i, t)) (omega arith) (leap_edge (n + 1) leaps j t own leap at among to)))

-- sources are among the positions
module _ (leaps : List (List Leap)) (s : Sources) (are : AreSources (length leaps) (edges_from 0 leaps) s) where
  edge_inside : (k : ℕ) (t : Option ℕ) → Has (edges_from 0 leaps) (k, t) → k < length s.into
  edge_inside k t has =
      let leap = edge_leap 0 leaps k t has in
      let less : leap.0 < length leaps = slice_get_within leaps leap.0 leap.2.own leap.2.at in
      omega (arith, less, leap.1, are.counted)

  pub sources_inside : AllInside s.into
  sources_inside t v at k has = edge_inside k (Some t) ((are.into t v at k).0 has)

  pub exits_inside : Inside (length s.into) s.exits.items
  exits_inside k has = edge_inside k None ((are.exits k).0 has)
