-- The steps ahead have no cycle, and lead from the start to all nodes.
use Rattle.std.proofs.Common.{◌≡◌, ℕ, zero, suc, ◌+◌, ◌<◌, ◌≤◌, ◌++◌, List, [], ◌∷◌, drop, length, slice_get, slice_index_or, get_or, Option, Some, None, option_map, Bool, true, false, refl, sym, ap, ap₂, subst, ◌∙◌, arith}
use Rattle.std.proofs.lemmas.List.{append-nil}
use Rattle.std.proofs.lemmas.Option.{get_or_from_slice_get, same_Some, slice_get-get_or}
use Rattle.std.specs.Prelude.{All, IfSome}
use Rattle.wc_model.specs.declared.flow_system.System.{System}
use Rattle.wc_model.specs.declared.flow_system.SystemLoop.{SystemLoop}
use Rattle.wc_model.specs.declared.flow_system.SystemStep.{SystemStep}
use Rattle.wc_model.specs.declared.graphs.Nest.{Nest}
use Rattle.wc_model.specs.Flow.Ends.{system_ends}
use Rattle.wc_model.specs.Flow.Systems.{is_marked}
use Rattle.wc_model.specs.Flow.Walks.{AreSteps, IsCycle, IsOrder, Joins}
use Rattle.wc_model.specs.Program.Reaching.{Reaches, here, along}
use Rattle.wc_model.proofs.Places.{contains_from_get, get_from_contains}
use Rattle.wc_nestsolve.specs.Inner.Nested.{IsLoop, IsStep, lies}
use Rattle.wc_nestsolve.specs.Inner.Orders.{IsDownOrder, loose, loosened}
use Rattle.wc_nestsolve.specs.Inner.Solvable.{IsSolvable, LeadsAhead}
use Rattle.wc_nestsolve.proofs.ListedSums.{get_all}

pub loosened_get : (marks : List Bool) (steps : List SystemStep) (i : ℕ) → slice_get (loosened marks steps) i ≡ option_map (loose (slice_index_or marks i false)) (slice_get steps i)
loosened_get marks [] i = refl
loosened_get [] (t ∷ steps) zero = refl
loosened_get [] (t ∷ steps) (suc i) = loosened_get [] steps i
loosened_get (m ∷ marks) (t ∷ steps) zero = refl
loosened_get (m ∷ marks) (t ∷ steps) (suc i) = loosened_get marks steps i

loosened_length : (marks : List Bool) (steps : List SystemStep) → length (loosened marks steps) ≡ length steps
loosened_length marks [] = refl
loosened_length [] (t ∷ steps) = ap suc (loosened_length [] steps)
loosened_length (m ∷ marks) (t ∷ steps) = ap suc (loosened_length marks steps)

drop_nil : (i : ℕ) → drop {A = Bool} i [] ≡ []
drop_nil zero = refl
drop_nil (suc i) = refl

dropped : (marks : List Bool) (steps : List SystemStep) (i : ℕ) (t : SystemStep) → slice_get steps i ≡ Some t
    → loosened (drop i marks) (drop i steps) ≡ loose (slice_index_or marks i false) t ∷ loosened (drop (suc i) marks) (drop (suc i) steps)
dropped marks [] i t at = cc
dropped [] (x ∷ steps) zero t at = ap (λ y. y ∷ loosened [] steps) (same_Some x t at)
dropped (m ∷ marks) (x ∷ steps) zero t at = ap (λ y. loose m y ∷ loosened marks steps) (same_Some x t at)
dropped [] (x ∷ steps) (suc i) t at =
    sym (ap (λ ms. loosened ms (drop i steps)) (drop_nil i)) ∙ dropped [] steps i t at ∙ ap (λ ms. t ∷ loosened ms (drop (suc i) steps)) (drop_nil (suc i))
dropped (m ∷ marks) (x ∷ steps) (suc i) t at = dropped marks steps i t at

-- one more
pub loosened_drop : (marks : List Bool) (steps : List SystemStep) (i : ℕ) (t : SystemStep) → slice_get steps i ≡ Some t
    → loosened (drop i marks) (drop i steps) ≡ loose (slice_index_or marks i false) t ∷ loosened (drop (i + 1) marks) (drop (i + 1) steps)
loosened_drop marks steps i t at =
    let next : suc i ≡ i + 1 = omega arith in
    dropped marks steps i t at ∙ ap (λ n. loose (slice_index_or marks i false) t ∷ loosened (drop n marks) (drop n steps)) next

pub ahead_more : (marks : List Bool) (steps : List SystemStep) (i : ℕ) (t : SystemStep) (done : List SystemStep) → slice_get steps i ≡ Some t
    → done ++ loosened (drop i marks) (drop i steps) ≡ loosened marks steps → (done ++ loose (slice_index_or marks i false) t ∷ []) ++ loosened (drop (i + 1) marks) (drop (i + 1) steps) ≡ loosened marks steps
ahead_more marks steps i t done at old =
    append_one done (loose (slice_index_or marks i false) t) (loosened (drop (i + 1) marks) (drop (i + 1) steps)) ∙ sym (ap (λ xs. done ++ xs) (loosened_drop marks steps i t at)) ∙ old
  where
    append_one : (xs : List SystemStep) (x : SystemStep) (ys : List SystemStep) → (xs ++ x ∷ []) ++ ys ≡ xs ++ x ∷ ys
    append_one [] x ys = refl
    append_one (y ∷ xs) x ys = ap (λ zs. y ∷ zs) (append_one xs x ys)

pub ahead_all : (marks : List Bool) (steps done : List SystemStep) (i : ℕ) → length steps ≤ i → done ++ loosened (drop i marks) (drop i steps) ≡ loosened marks steps → done ≡ loosened marks steps
ahead_all marks steps done i all old = sym (append-nil done) ∙ sym (ap (λ xs. done ++ xs) (ap (loosened (drop i marks)) (none steps i all) ∙ empty (drop i marks))) ∙ old
  where
    none : (steps : List SystemStep) (i : ℕ) → length steps ≤ i → drop i steps ≡ []
    none [] zero all' = refl
    none [] (suc i) all' = refl
    none (x ∷ steps) zero all' = absurd (omega arith)
    none (x ∷ steps) (suc i) all' = none steps i (omega arith)

    empty : (marks : List Bool) → loosened marks [] ≡ []
    empty marks = refl

loose_source : (b : Bool) (t : SystemStep) → (loose b t).source ≡ t.source
loose_source true t = refl
loose_source false t = refl

loose_target : (b : Bool) (t : SystemStep) (q : ℕ) → (loose b t).target ≡ Some q → (b ≡ false) × (t.target ≡ Some q)
loose_target true t q is = cc
loose_target false t q is = (refl, is)

module _ (nest : Nest) (s : System) (is : IsSolvable nest s) where
  abbrev steps : List SystemStep
  steps = loosened nest.back s.steps

  -- a step of the list is one of the system, loosened by its mark
  from_list : (i : ℕ) (r : SystemStep) → slice_get steps i ≡ Some r → (t : SystemStep) × IsStep s nest i t × (r ≡ loose (is_marked nest i) t)
  from_list i r at = by (slice_get s.steps i) refl
    where
      by : (o : Option SystemStep) → slice_get s.steps i ≡ o → (t : SystemStep) × IsStep s nest i t × (r ≡ loose (is_marked nest i) t)
      by None there = let none : slice_get steps i ≡ None = loosened_get nest.back s.steps i ∙ ap (option_map (loose (is_marked nest i))) there in cc
      by (Some t) there = (t, there, same_Some r (loose (is_marked nest i) t) (sym at ∙ loosened_get nest.back s.steps i ∙ ap (option_map (loose (is_marked nest i))) there))

  ahead_of_list : (p q : ℕ) → Joins system_ends steps p (Some q) → LeadsAhead s nest p (Some q)
  ahead_of_list p q (r, among, from, to) =
      let place = get_from_contains steps r among in
      let t = from_list place.0 r place.1 in
      let target = loose_target (is_marked nest place.0) t.0 q (sym (ap (λ x. x.target) t.2) ∙ to) in
      (place.0, t.0, t.1, target.0, sym (ap (λ x. x.source) t.2 ∙ loose_source (is_marked nest place.0) t.0) ∙ from, target.1)

  list_of_ahead : (p q : ℕ) → LeadsAhead s nest p (Some q) → Joins system_ends steps p (Some q)
  list_of_ahead p q (i, t, at, ahead, from, to) =
      (t, contains_from_get steps i t (loosened_get nest.back s.steps i ∙ ap₂ (λ b o. option_map (loose b) o) ahead at), from, to)

  all_from : (P : SystemStep → Type 0) → ((i : ℕ) (r : SystemStep) → slice_get steps i ≡ Some r → P r) → All P steps
  all_from P each i d within = each i (get_or steps i d) (slice_get-get_or steps i d within)

  pub list_steps : AreSteps system_ends s.nodes steps
  list_steps = record {
    sources = all_from (λ r. r.source < s.nodes) (λ i r at.
        let t = from_list i r at in
        let known = get_all (λ x. x.source < s.nodes) s.steps i t.0 t.1 is.sound.sources in
        omega (arith, known, ap (λ x. x.source) t.2, loose_source (is_marked nest i) t.0));
    targets = all_from (λ r. IfSome r.target (λ q. q < s.nodes)) (λ i r at.
        let t = from_list i r at in
        subst (λ x. IfSome x.target (λ q. q < s.nodes)) (sym t.2) (loosely (is_marked nest i) t.0 (get_all (λ x. IfSome x.target (λ q. q < s.nodes)) s.steps i t.0 t.1 is.sound.targets)));
    sorted = λ i j d less within.
        let a = from_list i (get_or steps i d) (slice_get-get_or steps i d (omega arith)) in
        let b = from_list j (get_or steps j d) (slice_get-get_or steps j d within) in
        let le = is.sorted i j d less (omega (arith, within, loosened_length nest.back s.steps)) in
        omega (
          arith,
          le,
          ap (λ x. x.source) a.2,
          loose_source (is_marked nest i) a.0,
          ap (λ x. x.source) b.2,
          loose_source (is_marked nest j) b.0,
          ap (λ x. x.source) (get_or_from_slice_get s.steps i a.0 d a.1),
          ap (λ x. x.source) (get_or_from_slice_get s.steps j b.0 d b.1),
        );
  }
    where
      loosely : (b : Bool) (t : SystemStep) → IfSome t.target (λ q. q < s.nodes) → IfSome (loose b t).target (λ q. q < s.nodes)
      loosely true t known = tt
      loosely false t known = known

  -- no cycle
  reaches_ahead : (p q : ℕ) → Reaches (Joins system_ends steps) p q → Reaches (LeadsAhead s nest) p q
  reaches_ahead p q here = here
  reaches_ahead p q (along {q = m} r way step) = along r (reaches_ahead p m way) (ahead_of_list m r step)

  pub no_cycle : (p : ℕ) → IsCycle (Joins system_ends steps) s.start p → ⊥
  no_cycle p (reached, (last, way, step)) = is.acyclic p (last, reaches_ahead p last way, ahead_of_list last p step)

  -- all nodes
  head_reached : (k : ℕ) (l : SystemLoop) → IsLoop s nest k l → (q : ℕ) → Reaches (Joins system_ends steps) s.start q → lies nest k q ≡ true → Reaches (Joins system_ends steps) s.start l.head
  head_reached k l at q here inside = subst (λ p. Reaches (Joins system_ends steps) s.start p) (is.nested.started k l at inside) here
  head_reached k l at q (along {q = m} r way step) inside = by (λ within. head_reached k l at m way within) (lies nest k m) refl
    where
      by : (lies nest k m ≡ true → Reaches (Joins system_ends steps) s.start l.head) → (b : Bool) → lies nest k m ≡ b → Reaches (Joins system_ends steps) s.start l.head
      by before true within = before within
      by before false without =
          let t = ahead_of_list m r step in
          let head = is.nested.entered t.0 k r t.1 l t.2 at t.5 inside (subst (λ p. lies nest k p ≡ false) (sym t.4) without) in
          subst (λ p. Reaches (Joins system_ends steps) s.start p) head (along r way step)

  pub all_reached : (p : ℕ) → Reaches (Joins system_ends s.steps) s.start p → Reaches (Joins system_ends steps) s.start p
  all_reached p here = here
  all_reached p (along {q = m} r way (t, among, from, to)) =
      let place = get_from_contains s.steps t among in
      by place.0 place.1 (is_marked nest place.0) refl (all_reached m way)
    where
      by : (i : ℕ) → IsStep s nest i t → (b : Bool) → is_marked nest i ≡ b → Reaches (Joins system_ends steps) s.start m → Reaches (Joins system_ends steps) s.start r
      by i at false ahead before = along r before (list_of_ahead m r (i, t, at, ahead, from, to))
      by i at true marked before =
          let own = is.nested.owned i t at marked in
          let inside = is.nested.marked i own.0 t own.1 at own.2 own.3 marked in
          let head : own.1.head ≡ r = same_Some own.1.head r (sym own.3 ∙ to) in
          subst (λ p. Reaches (Joins system_ends steps) s.start p) head
          (head_reached own.0 own.1 own.2 m before (subst (λ p. lies nest own.0 p ≡ true) from inside))

  pub order_is : (order : List ℕ) → IsOrder (Joins system_ends steps) s.start order → IsDownOrder s nest order
  order_is order of = record {
    down = record {
      once = of.ordered.once;
      lower = λ n i j q t at ahead to here there.
          let earlier = of.ordered.earlier i t.source q here (list_of_ahead t.source q (n, t, at, ahead, refl, to)) in
          let same = of.ordered.once earlier.0 j q earlier.2 there in
          omega (arith, earlier.1, same);
    };
    known = λ i p at. known_at p ((of.exactly p).0 (contains_from_get order i p at));
    all = λ p within. get_from_contains order p ((of.exactly p).1 (all_reached p (is.reached p within)));
  }
    where
      known_at : (p : ℕ) → Reaches (Joins system_ends steps) s.start p → p < s.nodes
      known_at p here = is.sound.start
      known_at p (along r way (t, among, from, to)) =
          let place = get_from_contains steps t among in
          let known = get_all (λ x. IfSome x.target (λ q. q < s.nodes)) steps place.0 t place.1 list_steps.targets in
          subst (λ o. IfSome o (λ q. q < s.nodes)) to known
