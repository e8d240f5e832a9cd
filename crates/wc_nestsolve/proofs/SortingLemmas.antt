-- There is an order of all nodes by the steps ahead: node by node, each after those that its steps lead to.
use Rattle.std.proofs.Common.{◌≡◌, ◌≢◌, ℕ, zero, suc, ◌==◌, ◌||◌, ◌+◌, ◌<◌, ◌≤◌, ◌++◌, ◌⊎◌, inl, inr, List, [], ◌∷◌, length, slice_get, Option, None, Some, Bool, true, false, refl, sym, ap, subst, ◌∙◌, arith}
use Rattle.std.specs.Prelude.{IfSome}
use Rattle.std.proofs.lemmas.Bool.{cases_eq, cases_lt}
use Rattle.std.proofs.lemmas.List.{length-append}
use Rattle.std.proofs.lemmas.Option.{none-some, same_Some, slice_get_within}
use Rattle.wc_model.specs.declared.flow_system.System.{System}
use Rattle.wc_model.specs.declared.flow_system.SystemStep.{SystemStep}
use Rattle.wc_model.specs.declared.graphs.Nest.{Nest}
use Rattle.wc_model.specs.Flow.Places.{IsOnce, is_listed}
use Rattle.wc_model.specs.Flow.Systems.{is_marked}
use Rattle.wc_model.specs.Flow.Walks.{LeadsOn}
use Rattle.wc_model.proofs.Places.{get_from_contains, get_left, get_push_cases, get_within}
use Rattle.wc_nest.proofs.FlagLemmas.{not_both}
use Rattle.wc_nest.proofs.ListLemmas.{pairs_from}
use Rattle.wc_nest.proofs.NestingLemmas.{distinct_fits}
use Rattle.wc_nest.proofs.RelationLemmas.{led_one, led_then}
use Rattle.wc_nestsolve.specs.Inner.Nested.{IsStep}
use Rattle.wc_nestsolve.specs.Inner.Orders.{IsDownOrder}
use Rattle.wc_nestsolve.specs.Inner.Solvable.{IsSolvable, LeadsAhead}
use Rattle.wc_nestsolve.specs.Inner.Tables.{IsDownward}
use Rattle.wc_nestsolve.proofs.ListedSums.{get_all}
use Rattle.wc_nestsolve.proofs.WeightLemmas.{test_apart, test_same}

-- Listed numbers and their places.
listed_at : (xs : List ℕ) (i p : ℕ) → slice_get xs i ≡ Some p → is_listed p xs ≡ true
listed_at [] i p at = absurd (none-some p at)
listed_at (x ∷ xs) zero p at = ap (λ b. b || is_listed p xs) (test_same p x (sym (same_Some x p at)))
listed_at (x ∷ xs) (suc i) p at = by (p == x) (listed_at xs i p at)
  where
    by : (b : Bool) → is_listed p xs ≡ true → (b || is_listed p xs) ≡ true
    by true rest = refl
    by false rest = rest

place_of : (xs : List ℕ) (p : ℕ) → is_listed p xs ≡ true → (i : ℕ) × (slice_get xs i ≡ Some p)
place_of [] p is = absurd (not_both is refl)
place_of (x ∷ xs) p is = by (cases_eq p x) (place_of xs p)
  where
    by : (p ≡ x) ⊎ (p ≡ x → ⊥) → (is_listed p xs ≡ true → (i : ℕ) × (slice_get xs i ≡ Some p)) → (i : ℕ) × (slice_get (x ∷ xs) i ≡ Some p)
    by (inl same) rest = (0, ap Some (sym same))
    by (inr apart) rest = let there = rest (sym (ap (λ b. b || is_listed p xs) (test_apart p x apart)) ∙ is) in (suc there.0, there.1)

once_apart : (xs : List ℕ) → IsOnce xs → (i j x y : ℕ) → i < j → slice_get xs i ≡ Some x → slice_get xs j ≡ Some y → x ≢ y
once_apart [] once i j x y less at_x at_y same = none-some x at_x
once_apart (z ∷ xs) once zero zero x y less at_x at_y same = absurd (omega arith)
once_apart (z ∷ xs) once zero (suc j) x y less at_x at_y same = not_both (listed_at xs j z (at_y ∙ ap Some (sym (same_Some z x at_x ∙ same)))) once.0
once_apart (z ∷ xs) once (suc i) zero x y less at_x at_y same = absurd (omega arith)
once_apart (z ∷ xs) once (suc i) (suc j) x y less at_x at_y same = once_apart xs once.1 i j x y (omega arith) at_x at_y same

once_few : (xs : List ℕ) (n : ℕ) → IsOnce xs → ((p : ℕ) → is_listed p xs ≡ true → p < n) → length xs ≤ n
once_few xs n once known = distinct_fits xs n (pairs_from (λ x y. x ≢ y) xs (once_apart xs once)) (λ p among. let place = get_from_contains xs p among in known p (listed_at xs place.0 p place.1))

module _ (nest : Nest) (s : System) (is : IsSolvable nest s) where
  abbrev Ahead : ℕ → Option ℕ → Type 0
  Ahead = LeadsAhead s nest

  -- the first nodes of an order: the steps ahead of each lead to nodes before
  record IsFront (order : List ℕ) : Type 0 where
    down : IsDownward s nest order
    known : (i p : ℕ) → slice_get order i ≡ Some p → p < s.nodes
    closed : (i p q : ℕ) → slice_get order i ≡ Some p → Ahead p (Some q) → is_listed q order ≡ true

  -- one that may come next
  record IsNext (order : List ℕ) (q : ℕ) : Type 0 where
    node : q < s.nodes
    fresh : is_listed q order ≡ false
    led : (r : ℕ) → Ahead q (Some r) → is_listed r order ≡ true

  target_known : (q r : ℕ) → Ahead q (Some r) → r < s.nodes
  target_known q r (n, t, at, ahead, from, to) = subst (λ o. IfSome o (λ x. x < s.nodes)) to (get_all (λ x. IfSome x.target (λ y. y < s.nodes)) s.steps n t at is.sound.targets)

  -- whether a step ahead of a node leads to one that isn't listed, among the first steps
  abbrev AllLed : List ℕ → ℕ → ℕ → Type 0
  AllLed order q m = (n r : ℕ) (t : SystemStep) → n < m → IsStep s nest n t → is_marked nest n ≡ false → t.source ≡ q → t.target ≡ Some r → is_listed r order ≡ true

  abbrev OneOut : List ℕ → ℕ → Type 0
  OneOut order q = (r : ℕ) × Ahead q (Some r) × (is_listed r order ≡ false)

  scan : (order : List ℕ) (q m : ℕ) → m ≤ length s.steps → AllLed order q m ⊎ OneOut order q
  scan order q zero low = inl (λ n r t less at ahead from to. absurd (omega arith))
  scan order q (suc m) low = by (scan order q m (omega arith))
    where
      step : (t : SystemStep) × IsStep s nest m t
      step = get_within s.steps m (omega arith)

      more : AllLed order q m → ((r : ℕ) → is_marked nest m ≡ false → step.0.source ≡ q → step.0.target ≡ Some r → is_listed r order ≡ true) → AllLed order q (suc m)
      more before own n r t less at ahead from to = at_place (cases_lt n m)
        where
          at_place : (n < m) ⊎ (m ≤ n) → is_listed r order ≡ true
          at_place (inl low') = before n r t low' at ahead from to
          at_place (inr high) =
              let same : n ≡ m = omega arith in
              let one : t ≡ step.0 = same_Some t step.0 (sym at ∙ ap (slice_get s.steps) same ∙ step.1) in
              own r (sym (ap (is_marked nest) same) ∙ ahead) (sym (ap (λ x. x.source) one) ∙ from) (sym (ap (λ x. x.target) one) ∙ to)

      here : AllLed order q m → (b : Bool) → is_marked nest m ≡ b → (step.0.source ≡ q) ⊎ (step.0.source ≡ q → ⊥) → (o : Option ℕ) → step.0.target ≡ o → AllLed order q (suc m) ⊎ OneOut order q
      here before true marked from o to = inl (more before (λ r ahead' from' to'. absurd (not_both marked ahead')))
      here before false ahead (inr other) o to = inl (more before (λ r ahead' from' to'. absurd (other from')))
      here before false ahead (inl from) None to = inl (more before (λ r ahead' from' to'. absurd (none-some r (sym to ∙ to'))))
      here before false ahead (inl from) (Some r) to = listed (is_listed r order) refl
        where
          listed : (c : Bool) → is_listed r order ≡ c → AllLed order q (suc m) ⊎ OneOut order q
          listed true yes' = inl (more before (λ r' ahead' from' to'. ap (λ x. is_listed x order) (same_Some r' r (sym to' ∙ to)) ∙ yes'))
          listed false no' = inr (r, (m, step.0, step.1, ahead, from, to), no')

      by : AllLed order q m ⊎ OneOut order q → AllLed order q (suc m) ⊎ OneOut order q
      by (inr out) = inr out
      by (inl before) = here before (is_marked nest m) refl (cases_eq step.0.source q) step.0.target refl

  -- from a node that isn't listed steps ahead lead on until one may come next: no node comes twice
  find : (fuel : ℕ) (order : List ℕ) (q : ℕ) (path : List ℕ) → IsOnce (q ∷ path) → ((p : ℕ) → is_listed p path ≡ true → (p < s.nodes) × LeadsOn Ahead p q) → q < s.nodes → is_listed q order ≡ false → s.nodes ≤ fuel + length path
      → (p : ℕ) × IsNext order p
  find zero order q path once on known fresh fuel = absurd (let few = once_few (q ∷ path) s.nodes once (λ p listed. inside p listed) in omega (arith, few))
    where
      inside : (p : ℕ) → is_listed p (q ∷ path) ≡ true → p < s.nodes
      inside p listed = by (cases_eq p q)
        where
          by : (p ≡ q) ⊎ (p ≡ q → ⊥) → p < s.nodes
          by (inl same) = omega (arith, same, known)
          by (inr apart) = (on p (sym (ap (λ b. b || is_listed p path) (test_apart p q apart)) ∙ listed)).0
  find (suc fuel') order q path once on known fresh fuel =
      go (scan order q (length s.steps) (omega arith)) (λ r out once' on'. find fuel' order r (q ∷ path) once' on' (target_known q r out.0) out.1 (omega arith))
    where
      leads : (r : ℕ) → Ahead q (Some r) → (p : ℕ) → is_listed p (q ∷ path) ≡ true → (p < s.nodes) × LeadsOn Ahead p r
      leads r step p listed = by (cases_eq p q)
        where
          by : (p ≡ q) ⊎ (p ≡ q → ⊥) → (p < s.nodes) × LeadsOn Ahead p r
          by (inl same) = (omega (arith, same, known), subst (λ x. LeadsOn Ahead x r) (sym same) (led_one Ahead q r step))
          by (inr apart) = let before = on p (sym (ap (λ b. b || is_listed p path) (test_apart p q apart)) ∙ listed) in (before.0, led_then Ahead p q r before.1 (led_one Ahead q r step))

      fresh_path : (r : ℕ) → Ahead q (Some r) → is_listed r (q ∷ path) ≡ false
      fresh_path r step = by (is_listed r (q ∷ path)) refl
        where
          by : (b : Bool) → is_listed r (q ∷ path) ≡ b → is_listed r (q ∷ path) ≡ false
          by true listed = absurd (is.acyclic r (leads r step r listed).1)
          by false no' = no'

      go : AllLed order q (length s.steps) ⊎ OneOut order q → ((r : ℕ) → Ahead q (Some r) × (is_listed r order ≡ false) → IsOnce (r ∷ q ∷ path) → ((p : ℕ) → is_listed p (q ∷ path) ≡ true → (p < s.nodes) × LeadsOn Ahead p r) → (p : ℕ) × IsNext order p)
          → (p : ℕ) × IsNext order p
      go (inl all) onward = (q, record { node = known; fresh = fresh; led = λ r step. let (n, t, at, ahead, from, to) = step in all n r t (slice_get_within s.steps n t at) at ahead from to })
      go (inr (r, step, out)) onward = onward r (step, out) (fresh_path r step, once) (leads r step)

  listed_more : (xs : List ℕ) (q p : ℕ) → is_listed p xs ≡ true → is_listed p (xs ++ q ∷ []) ≡ true
  listed_more xs q p listed = let place = place_of xs p listed in listed_at (xs ++ q ∷ []) place.0 p (get_left xs (q ∷ []) place.0 p place.1)

  extend : (order : List ℕ) (q : ℕ) → IsFront order → IsNext order q → IsFront (order ++ q ∷ [])
  extend order q front next = record {
    down = record {
      once = λ i j p at_i at_j. once i j p (get_push_cases order q i p at_i) (get_push_cases order q j p at_j);
      lower = λ n i j r t at ahead to at_i at_j. lower i j r t.source (n, t, at, ahead, refl, to) (get_push_cases order q i t.source at_i) (get_push_cases order q j r at_j);
    };
    known = λ i p at. known i p (get_push_cases order q i p at);
    closed = λ i p r at step. closed i p r step (get_push_cases order q i p at);
  }
    where
      unlisted : (i : ℕ) → slice_get order i ≡ Some q → ⊥
      unlisted i at = not_both (listed_at order i q at) next.fresh

      once : (i j p : ℕ) → (slice_get order i ≡ Some p) ⊎ ((i ≡ length order) × (q ≡ p)) → (slice_get order j ≡ Some p) ⊎ ((j ≡ length order) × (q ≡ p)) → i ≡ j
      once i j p (inl at_i) (inl at_j) = front.down.once i j p at_i at_j
      once i j p (inl at_i) (inr new) = absurd (unlisted i (at_i ∙ ap Some (sym new.1)))
      once i j p (inr new) (inl at_j) = absurd (unlisted j (at_j ∙ ap Some (sym new.1)))
      once i j p (inr new) (inr also) = omega (arith, new.0, also.0)

      lower : (i j r p : ℕ) → Ahead p (Some r) → (slice_get order i ≡ Some p) ⊎ ((i ≡ length order) × (q ≡ p)) → (slice_get order j ≡ Some r) ⊎ ((j ≡ length order) × (q ≡ r)) → j < i
      lower i j r p (n, t, at, ahead, from, to) (inl at_i) (inl at_j) = front.down.lower n i j r t at ahead to (at_i ∙ ap Some (sym from)) at_j
      lower i j r p step (inl at_i) (inr new) = absurd (not_both (front.closed i p r at_i step) (ap (λ x. is_listed x order) (sym new.1) ∙ next.fresh))
      lower i j r p step (inr new) (inl at_j) = omega (arith, new.0, slice_get_within order j r at_j)
      lower i j r p step (inr new) (inr also) =
          absurd (not_both (next.led r (subst (λ x. Ahead x (Some r)) (sym new.1) step)) (ap (λ x. is_listed x order) (sym also.1) ∙ next.fresh))

      known : (i p : ℕ) → (slice_get order i ≡ Some p) ⊎ ((i ≡ length order) × (q ≡ p)) → p < s.nodes
      known i p (inl at) = front.known i p at
      known i p (inr new) = omega (arith, new.1, next.node)

      closed : (i p r : ℕ) → Ahead p (Some r) → (slice_get order i ≡ Some p) ⊎ ((i ≡ length order) × (q ≡ p)) → is_listed r (order ++ q ∷ []) ≡ true
      closed i p r step (inl at) = listed_more order q r (front.closed i p r at step)
      closed i p r step (inr new) = listed_more order q r (next.led r (subst (λ x. Ahead x (Some r)) (sym new.1) step))

  front_few : (order : List ℕ) → IsFront order → length order ≤ s.nodes
  front_few order front = distinct_fits order s.nodes
      (pairs_from (λ x y. x ≢ y) order (λ i j x y less at_x at_y same. let one = front.down.once i j y (at_x ∙ ap Some same) at_y in omega (arith, one)))
      (λ p among. let place = get_from_contains order p among in front.known place.0 p place.1)

  -- a node that isn't listed yet
  missing : (order : List ℕ) (m : ℕ) → m ≤ s.nodes → ((p : ℕ) → p < m → is_listed p order ≡ true) ⊎ ((p : ℕ) × (p < s.nodes) × (is_listed p order ≡ false))
  missing order zero low = inl (λ p less. absurd (omega arith))
  missing order (suc m) low = by (missing order m (omega arith)) (is_listed m order) refl
    where
      by : ((p : ℕ) → p < m → is_listed p order ≡ true) ⊎ ((p : ℕ) × (p < s.nodes) × (is_listed p order ≡ false)) → (b : Bool) → is_listed m order ≡ b
          → ((p : ℕ) → p < suc m → is_listed p order ≡ true) ⊎ ((p : ℕ) × (p < s.nodes) × (is_listed p order ≡ false))
      by (inr out) b is' = inr out
      by (inl all) false out = inr (m, omega arith, out)
      by (inl all) true listed = inl (λ p less. at_place p less (cases_lt p m))
        where
          at_place : (p : ℕ) → p < suc m → (p < m) ⊎ (m ≤ p) → is_listed p order ≡ true
          at_place p less (inl low') = all p low'
          at_place p less (inr high) = let same : p ≡ m = omega arith in ap (λ x. is_listed x order) same ∙ listed

  grow : (fuel : ℕ) (order : List ℕ) → IsFront order → s.nodes < length order + fuel → (done : List ℕ) × IsDownOrder s nest done
  grow zero order front fuel = absurd (omega (arith, front_few order front))
  grow (suc fuel') order front fuel = go (missing order s.nodes (omega arith)) (λ q more. grow fuel' (order ++ q ∷ []) more (omega (arith, length-append order (q ∷ []))))
    where
      go : ((p : ℕ) → p < s.nodes → is_listed p order ≡ true) ⊎ ((p : ℕ) × (p < s.nodes) × (is_listed p order ≡ false)) → ((q : ℕ) → IsFront (order ++ q ∷ []) → (done : List ℕ) × IsDownOrder s nest done) → (done : List ℕ) × IsDownOrder s nest done
      go (inl all) onward = (order, record { down = front.down; known = front.known; all = λ p known. place_of order p (all p known) })
      go (inr (p, known, out)) onward =
          let next = find s.nodes order p [] (refl, tt) (λ x listed. absurd (not_both listed refl)) known out (omega arith) in
          onward next.0 (extend order next.0 front next.1)

  pub order_exists : (order : List ℕ) × IsDownOrder s nest order
  order_exists = grow (suc s.nodes) [] (record {
    down = record { once = λ i j p at_i at_j. absurd (none-some p at_i); lower = λ n i j r t at ahead to at_i at_j. absurd (none-some t.source at_i) };
    known = λ i p at. absurd (none-some p at);
    closed = λ i p q at step. absurd (none-some p at);
  }) (omega arith)
