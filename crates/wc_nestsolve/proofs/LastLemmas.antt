-- One loop more of the last pass.
use Rattle.std.proofs.Common.{◌≡◌, ℕ, ◌+◌, ◌*◌, ◌<◌, ◌≤◌, ◌^◌, ◌⊎◌, inl, inr, ℤ, pos, neg_ℤ, ◌+ℤ◌, ◌-ℤ◌, ◌≤ℤ◌, List, length, slice_index, Option, Some, None, option_map, Bool, true, false, refl, sym, ap, ap₂, subst, ◌∙◌, arith}
use Rattle.std.proofs.lemmas.Option.{same_Some}
use Rattle.std.proofs.lemmas.Bool.{cases_lt}
use Rattle.std.proofs.lemmas.Int.{ints}
use Rattle.std.specs.Int.{int_max}
use Rattle.std.specs.Prelude.{IfSome}
use Rattle.wc_model.specs.declared.flow_system.System.{System}
use Rattle.wc_model.specs.declared.flow_system.SystemLoop.{SystemLoop}
use Rattle.wc_model.specs.declared.flow_system.SystemStep.{SystemStep}
use Rattle.wc_model.specs.declared.graphs.Nest.{Nest}
use Rattle.wc_model.specs.Flow.Ends.{system_ends}
use Rattle.wc_model.specs.Flow.Systems.{IsSystem, is_marked}
use Rattle.wc_model.specs.Flow.Walks.{Joins}
use Rattle.wc_model.specs.Program.Reaching.{Ends, exits, onward}
use Rattle.wc_model.proofs.Places.{get_from_contains}
use Rattle.wc_nestsolve.specs.declared.found.Found.{Found}
use Rattle.wc_nestsolve.specs.Inner.LastPass.{ArePotentials}
use Rattle.wc_nestsolve.specs.Inner.Nested.{IsLoop, IsNested, IsStep, lies}
use Rattle.wc_nestsolve.specs.Inner.Passes.{numbers}
use Rattle.wc_nestsolve.specs.Inner.Potentials.{Covers, IsMet, IsPotential, after_loop, plus, potential_ahead}
use Rattle.wc_nestsolve.specs.Inner.Raising.{potential_at}
use Rattle.wc_nestsolve.specs.Inner.Tables.{IsTable, found_at, reach, value_of_found}
use Rattle.wc_nestsolve.specs.Inner.Weights.{surcharge, weight}
use Rattle.wc_nestsolve.proofs.ListedSums.{get_all}
use Rattle.wc_nestsolve.proofs.PotentialLemmas.{head_same, potential_after}

-- The start has a way to the exit ahead: a node that comes to the exit has one, or else the head of a loop round it has.
module _ (s : System) (nest : Nest) (is : IsNested s nest) (Inside : ℕ → Type 0) (extra : List ℕ) (best : List (Option Found)) (table : IsTable s nest None Inside extra best)
    (all : (i : ℕ) (t : SystemStep) → IsStep s nest i t → Inside t.source) where
  abbrev HasWay : ℕ → Type 0
  HasWay p = (f : Found) × (found_at best p ≡ Some f)

  abbrev HasHead : ℕ → Type 0
  HasHead p = (k : ℕ) × (l : SystemLoop) × IsLoop s nest k l × (lies nest k p ≡ true) × HasWay l.head

  by_worth : (i z : ℕ) (t : SystemStep) → IsStep s nest i t → reach None (is_marked nest i) t.cost t.target extra best ≡ Some z → HasWay t.source
  by_worth i z t at worth = let top = table.most i z t at (all i t at) worth in (top.0, top.1)

  way_on : (i r : ℕ) (t : SystemStep) → IsStep s nest i t → t.target ≡ Some r → HasWay r ⊎ HasHead r → HasWay t.source ⊎ HasHead t.source
  way_on i r t at to next = by (is_marked nest i) refl next
    where
      from_way : (b : Bool) → is_marked nest i ≡ b → HasWay r → HasWay t.source ⊎ HasHead t.source
      from_way false ahead (f, found) =
          inl (by_worth i (t.cost + (slice_index extra r + f.value)) t at
          (ap₂ (λ c o. reach None c t.cost o extra best) ahead to ∙ ap (λ o. option_map (λ g. t.cost + (slice_index extra r + g.value)) o) found))
      from_way true marked (f, found) =
          let own = is.owned i t at marked in
          let head : r ≡ own.1.head = same_Some r own.1.head (sym to ∙ own.3) in
          inr (own.0, own.1, own.2, is.marked i own.0 t own.1 at own.2 own.3 marked, (f, ap (found_at best) (sym head) ∙ found))

      by : (b : Bool) → is_marked nest i ≡ b → HasWay r ⊎ HasHead r → HasWay t.source ⊎ HasHead t.source
      by b is_b (inl way) = from_way b is_b way
      by b is_b (inr (k, l, here, inside, way)) = within (lies nest k t.source) refl
        where
          within : (c : Bool) → lies nest k t.source ≡ c → HasWay t.source ⊎ HasHead t.source
          within true in_k = inr (k, l, here, in_k, way)
          within false out = from_way b is_b (way.0, ap (found_at best) (is.entered i k r t l at here to inside out) ∙ way.1)

  ends_way : (p : ℕ) → Ends (Joins system_ends s.steps) p → HasWay p ⊎ HasHead p
  ends_way p (exits (t, among, from, to)) =
      let place = get_from_contains s.steps t among in
      inl (subst HasWay from (by_worth place.0 t.cost t place.1 (ap (λ o. reach None (is_marked nest place.0) t.cost o extra best) to)))
  ends_way p (onward r (t, among, from, to) rest) =
      let place = get_from_contains s.steps t among in
      subst (λ q. HasWay q ⊎ HasHead q) from (way_on place.0 r t place.1 to (ends_way r rest))

  pub start_found : Ends (Joins system_ends s.steps) s.start → (f : Found) × (found_at best s.start ≡ Some f)
  start_found ending = by (ends_way s.start ending)
    where
      by : HasWay s.start ⊎ HasHead s.start → (f : Found) × (found_at best s.start ≡ Some f)
      by (inl way) = way
      by (inr (k, l, here, inside, way)) = (way.0, ap (found_at best) (is.started k l here inside) ∙ way.1)

-- potentials that are the same at all nodes
pub potential_same : (s : System) (nest : Nest) (v : ℕ → ℤ) (count : ℕ) (sound : IsSystem s) (u w : ℕ → Option ℤ) → ((p : ℕ) → p < s.nodes → u p ≡ w p) → IsPotential s nest v count u → IsPotential s nest v count w
potential_same s nest v count sound u w same is = record {
  ahead = λ i t at ahead. moved i t at (is.ahead i t at ahead);
  back = λ i m t o at there less marked to. moved i t at (is.back i m t o at there less marked to);
}
  where
    ahead_same : (o : Option ℕ) → IfSome o (λ q. q < s.nodes) → potential_ahead u o ≡ potential_ahead w o
    ahead_same None known = refl
    ahead_same (Some q) known = same q known

    moved : (i : ℕ) (t : SystemStep) → IsStep s nest i t → IsMet s nest v u i t → IsMet s nest v w i t
    moved i t at met =
        subst (λ o. Covers o (plus (weight s v i t) (potential_ahead w t.target))) (same t.source (get_all (λ x. x.source < s.nodes) s.steps i t at sound.sources))
        (subst (λ o. Covers (u t.source) (plus (weight s v i t) o)) (ahead_same t.target (get_all (λ x. IfSome x.target (λ q. q < s.nodes)) s.steps i t at sound.targets)) met)

-- the potentials once a loop is looked at
module _ (s : System) (nest : Nest) (is : IsNested s nest) (sound : IsSystem s) (v : List ℕ) (value : ℤ) (k : ℕ) (l : SystemLoop) (here : IsLoop s nest k l) (extra : List ℕ) (best : List (Option Found))
    (table : IsTable s nest (Some l.head) (λ p. (lies nest k p ≡ true) × (p < s.nodes)) extra best) (charged : (q : ℕ) → pos (slice_index extra q) ≡ surcharge s (numbers v) q)
    (round : value_of_found (found_at best l.head) ≡ slice_index v k) (small : (p : ℕ) (f : Found) → found_at best p ≡ Some f → f.value < 2 ^ 100) (u : List (Option ℤ)) (old : ArePotentials s nest v value k u) where
  abbrev next : ℕ → Option ℤ
  next p = after_loop (potential_at u l.head) (numbers v k) (lies nest k p) (potential_at u p) (found_at best p)

  next_met : IsPotential s nest (numbers v) (k + 1) next
  next_met = potential_after s nest is (numbers v) (λ i t at. get_all (λ x. x.source < s.nodes) s.steps i t at sound.sources)
      (λ i q t at to. subst (λ o. IfSome o (λ r. r < s.nodes)) to (get_all (λ x. IfSome x.target (λ r. r < s.nodes)) s.steps i t at sound.targets))
      k l here extra best table (λ q known. charged q) (ap pos round) (potential_at u) old.met

  next_start : next s.start ≡ Some value
  next_start = by (lies nest k s.start) refl ∙ old.at_start
    where
      by : (b : Bool) → lies nest k s.start ≡ b → next s.start ≡ potential_at u s.start
      by true inside =
          let head : s.start ≡ l.head = is.started k l here inside in
          ap next head ∙ head_same (potential_at u l.head) (numbers v k) (lies nest k l.head) (found_at best l.head) (inr (ap pos round)) ∙ sym (ap (potential_at u) head)
      by false outside = ap (λ b. after_loop (potential_at u l.head) (numbers v k) b (potential_at u s.start) (found_at best s.start)) outside ∙ same (potential_at u l.head)
        where
          same : (o : Option ℤ) → after_loop o (numbers v k) false (potential_at u s.start) (found_at best s.start) ≡ potential_at u s.start
          same None = refl
          same (Some a) = refl

  round_small : slice_index v k < 2 ^ 100
  round_small = by (found_at best l.head) refl
    where
      by : (o : Option Found) → found_at best l.head ≡ o → slice_index v k < 2 ^ 100
      by None at = omega (arith, round, ap value_of_found at)
      by (Some f) at = omega (arith, round, ap value_of_found at, small l.head f at)

  more : (k + 1 + 1) * 2 ^ 100 ≡ (k + 1) * 2 ^ 100 + 2 ^ 100
  more = omega arith

  next_near : (p : ℕ) (z : ℤ) → next p ≡ Some z → (neg_ℤ (pos ((k + 1 + 1) * 2 ^ 100)) ≤ℤ z) × (z ≤ℤ pos ((k + 1 + 1) * 2 ^ 100))
  next_near p z at = by (potential_at u l.head) refl (lies nest k p) (found_at best p) refl (potential_at u p) refl at
    where
      before : (y : ℤ) → potential_at u p ≡ Some y → (neg_ℤ (pos ((k + 1 + 1) * 2 ^ 100)) ≤ℤ y) × (y ≤ℤ pos ((k + 1 + 1) * 2 ^ 100))
      before y there = (omega (arith, ints, old.low p y there), omega (arith, ints, old.high p y there))

      through : (a : ℤ) (f : Found) → potential_at u l.head ≡ Some a → found_at best p ≡ Some f → (y : ℤ) → y ≡ pos f.value +ℤ (a -ℤ numbers v k) → (neg_ℤ (pos ((k + 1 + 1) * 2 ^ 100)) ≤ℤ y) × (y ≤ℤ pos ((k + 1 + 1) * 2 ^ 100))
      through a f head found y is_y =
          (omega (arith, ints, old.low l.head a head, small p f found, round_small), omega (arith, ints, old.high l.head a head, small p f found, round_small))

      one : (x y : ℤ) → Some x ≡ Some y → x ≡ y
      one x y same = cc

      pick : (a b : ℤ) → (int_max a b ≡ a) ⊎ (int_max a b ≡ b)
      pick a b = grind (arith, ints)

      by : (o : Option ℤ) → potential_at u l.head ≡ o → (b : Bool) (f : Option Found) → found_at best p ≡ f → (w : Option ℤ) → potential_at u p ≡ w → after_loop o (numbers v k) b w f ≡ Some z
          → (neg_ℤ (pos ((k + 1 + 1) * 2 ^ 100)) ≤ℤ z) × (z ≤ℤ pos ((k + 1 + 1) * 2 ^ 100))
      by None head b f found w there gives = before z (there ∙ gives)
      by (Some a) head false f found w there gives = before z (there ∙ gives)
      by (Some a) head true None found w there gives = before z (there ∙ gives)
      by (Some a) head true (Some f) found None there gives = through a f head found z (sym (one (pos f.value +ℤ (a -ℤ numbers v k)) z gives))
      by (Some a) head true (Some f) found (Some w) there gives = picked (pick w (pos f.value +ℤ (a -ℤ numbers v k)))
        where
          picked : (int_max w (pos f.value +ℤ (a -ℤ numbers v k)) ≡ w) ⊎ (int_max w (pos f.value +ℤ (a -ℤ numbers v k)) ≡ pos f.value +ℤ (a -ℤ numbers v k)) → (neg_ℤ (pos ((k + 1 + 1) * 2 ^ 100)) ≤ℤ z) × (z ≤ℤ pos ((k + 1 + 1) * 2 ^ 100))
          picked (inl same) = before z (there ∙ ap Some (sym same ∙ one (int_max w (pos f.value +ℤ (a -ℤ numbers v k))) z gives))
          picked (inr same) = through a f head found z (sym (one (int_max w (pos f.value +ℤ (a -ℤ numbers v k))) z gives) ∙ same)

  pub potentials_after : (new : List (Option ℤ)) → length new ≡ length u → ((p : ℕ) → p < s.nodes → potential_at new p ≡ next p) → ((p : ℕ) → s.nodes ≤ p → potential_at new p ≡ None) → ArePotentials s nest v value (k + 1) new
  potentials_after new counted same past = record {
    counted = counted ∙ old.counted;
    met = potential_same s nest (numbers v) (k + 1) sound next (potential_at new) (λ p known. sym (same p known)) next_met;
    at_start = same s.start sound.start ∙ next_start;
    low = λ p z at. (near p z at (cases_lt p s.nodes)).0;
    high = λ p z at. (near p z at (cases_lt p s.nodes)).1;
  }
    where
      near : (p : ℕ) (z : ℤ) → potential_at new p ≡ Some z → (p < s.nodes) ⊎ (s.nodes ≤ p) → (neg_ℤ (pos ((k + 1 + 1) * 2 ^ 100)) ≤ℤ z) × (z ≤ℤ pos ((k + 1 + 1) * 2 ^ 100))
      near p z at (inl known) = next_near p z (sym (same p known) ∙ at)
      near p z at (inr out) = absurd (never (sym (past p out) ∙ at))
        where
          never : None ≡ Some z → ⊥
          never is' = cc
