-- The classes of the loops, node by node.
use Rattle.std.proofs.Common.{◌≡◌, ℕ, zero, suc, ◌==◌, ◌+◌, ◌<◌, ◌≤◌, ◌||◌, ◌++◌, ◌⊎◌, inl, inr, cond, List, [], ◌∷◌, take, length, set, replicate, slice_get, get_or, Option, Some, None, Bool, true, false, if◌then◌else◌, refl, sym, ap, ap₂, subst, ◌∙◌, arith}
use Rattle.std.proofs.lemmas.Bool.{cases_eq, cases_lt}
use Rattle.std.proofs.lemmas.Bool.Decides.{nat_tests}
use Rattle.std.proofs.lemmas.List.{append-nil, get_or-set_same, get_or-set_other, length-set}
use Rattle.std.proofs.lemmas.List.Elements.{filter_more}
use Rattle.std.proofs.lemmas.List.Kept.{AllPairs-filter}
use Rattle.std.proofs.lemmas.Option.{get_or_from_slice_get, same_Some, slice_get-get_or, slice_get_within}
use Rattle.std.specs.List.{AllPairs, filter}
use Rattle.std.specs.Option.{option_and_then}
use Rattle.std.specs.Prelude.{IfSome}
use Rattle.wc_model.specs.declared.flow_system.System.{System}
use Rattle.wc_model.specs.declared.flow_system.SystemStep.{SystemStep}
use Rattle.wc_model.specs.declared.graphs.Head.{Head}
use Rattle.wc_model.specs.declared.graphs.Nest.{Nest}
use Rattle.wc_model.specs.Flow.Ceiling.{loops_out, loops_round, parent_of}
use Rattle.wc_model.specs.Flow.Places.{is_listed}
use Rattle.wc_model.specs.Flow.Systems.{is_marked}
use Rattle.wc_nestsolve.specs.Inner.Nested.{IsStep, lies}
use Rattle.wc_nestsolve.specs.Inner.Passes.{AreClasses, HasJoined, IsJoining, class_of, loops_from, more_if, rank_of}
use Rattle.wc_nestsolve.specs.Inner.Tables.{IsDownward}
use Rattle.wc_nestsolve.proofs.WeightLemmas.{test_apart, test_same}

-- The loops round a node, whatever the number that limits the walk outwards.
module _ (heads : List Head) (parents : (k : ℕ) (h : Head) → slice_get heads k ≡ Some h → IfSome h.parent (λ j. j < k)) where
  pub parent_before : (k j : ℕ) → parent_of heads k ≡ Some j → j < k
  parent_before k j is = by (slice_get heads k) refl is
    where
      by : (o : Option Head) → slice_get heads k ≡ o → option_and_then (λ h. h.parent) o ≡ Some j → j < k
      by None at is' = cc
      by (Some h) at is' = subst (λ o. IfSome o (λ i. i < k)) is' (parents k h at)

  out_same : (a b : ℕ) (o : Option ℕ) → ((j : ℕ) → o ≡ Some j → loops_out heads a (Some j) ≡ loops_out heads b (Some j)) → loops_out heads a o ≡ loops_out heads b o
  out_same a b None each = refl
  out_same a b (Some j) each = each j refl

  pub enough : (a b k : ℕ) → k < a → k < b → loops_out heads a (Some k) ≡ loops_out heads b (Some k)
  enough zero b k less-a less-b = absurd (omega arith)
  enough (suc a) zero k less-a less-b = absurd (omega arith)
  enough (suc a) (suc b) k less-a less-b = ap (λ ks. k ∷ ks) (out_same a b (parent_of heads k)
      (λ j is. enough a b j (omega (arith, parent_before k j is)) (omega (arith, parent_before k j is))))

  -- a loop, and those round it
  pub out_on : (n k : ℕ) → k < n → loops_out heads n (Some k) ≡ k ∷ loops_out heads n (parent_of heads k)
  out_on zero k less = absurd (omega arith)
  out_on (suc n) k less = ap (λ ks. k ∷ ks) (out_same n (suc n) (parent_of heads k) (λ j is. enough n (suc n) j (omega (arith, parent_before k j is)) (omega (arith, parent_before k j is))))

  -- they stand before it
  pub listed_low : (n j m : ℕ) → is_listed m (loops_out heads n (Some j)) ≡ true → m ≤ j
  listed_low zero j m is = cc
  listed_low (suc n) j m is = by (λ i. listed_low n i m) (m == j) refl is
    where
      same : (m == j) ≡ true → m ≤ j
      same is' = let one : m ≡ j = same_number is' in omega arith
        where
          same_number : (m == j) ≡ true → m ≡ j
          same_number is'' = grind (arith, nat_tests)

      rest : (o : Option ℕ) → parent_of heads j ≡ o → is_listed m (loops_out heads n o) ≡ true → ((i : ℕ) → is_listed m (loops_out heads n (Some i)) ≡ true → m ≤ i) → m ≤ j
      rest None up is' low = cc
      rest (Some i) up is' low = omega (arith, low i is', parent_before j i up)

      by : ((i : ℕ) → is_listed m (loops_out heads n (Some i)) ≡ true → m ≤ i) → (b : Bool) → (m == j) ≡ b → (b || is_listed m (loops_out heads n (parent_of heads j))) ≡ true → m ≤ j
      by low true is' listed = same is'
      by low false is' listed = rest (parent_of heads j) refl listed low

  pub not_above : (n k : ℕ) → is_listed k (loops_out heads n (parent_of heads k)) ≡ false
  not_above n k = by (parent_of heads k) refl
    where
      by : (o : Option ℕ) → parent_of heads k ≡ o → is_listed k (loops_out heads n o) ≡ false
      by None up = none n
        where
          none : (n : ℕ) → is_listed k (loops_out heads n None) ≡ false
          none zero = refl
          none (suc n) = refl
      by (Some j) up = at (is_listed k (loops_out heads n (Some j))) refl
        where
          at : (b : Bool) → is_listed k (loops_out heads n (Some j)) ≡ b → b ≡ false
          at false is = refl
          at true is = absurd (let low = listed_low n j k is in let high = parent_before k j up in omega arith)

-- One loop of the node.
module _ (nest : Nest) (parents : (k : ℕ) (h : Head) → slice_get nest.heads k ≡ Some h → IfSome h.parent (λ j. j < k)) (ns : List ℕ) (p : ℕ) (old : List (List ℕ)) where
  pub joins_first : IsJoining ns ns p old old
  joins_first = record { counted = refl; each = λ m within. refl }

  pub joins_more : (k : ℕ) (new : List (List ℕ)) → k < length nest.heads → length old ≡ length nest.heads → IsJoining ns (loops_from nest (Some k)) p old new
      → IsJoining ns (loops_from nest (parent_of nest.heads k)) p old (set new k (class_of new k ++ p ∷ []))
  joins_more k new known counted is = record {
    counted = length-set new k (class_of new k ++ p ∷ []) ∙ is.counted;
    each = λ m within. by m within (cases_eq m k);
  }
    where
      on : loops_from nest (Some k) ≡ k ∷ loops_from nest (parent_of nest.heads k)
      on = out_on nest.heads parents (length nest.heads) k known

      by : (m : ℕ) → m < length old → (m ≡ k) ⊎ (m ≡ k → ⊥) → more_if (loops_from nest (parent_of nest.heads k)) m (class_of (set new k (class_of new k ++ p ∷ [])) m) p ≡ more_if ns m (class_of old m) p
      by m within (inl same) =
          let value : class_of (set new k (class_of new k ++ p ∷ [])) m ≡ class_of new k ++ p ∷ [] = ap (class_of (set new k (class_of new k ++ p ∷ []))) same ∙ get_or-set_same new k (class_of new k ++ p ∷ []) [] (omega (arith, is.counted, counted)) in
          let none : is_listed m (loops_from nest (parent_of nest.heads k)) ≡ false = ap (λ n. is_listed n (loops_from nest (parent_of nest.heads k))) same ∙ not_above nest.heads parents (length nest.heads) k in
          let listed : is_listed m (loops_from nest (Some k)) ≡ true = ap (is_listed m) on ∙ ap (λ b. b || is_listed m (loops_from nest (parent_of nest.heads k))) (test_same m k same) in
          ap₂ (λ c b. c ++ (if b then p ∷ [] else [])) value none ∙ append-nil (class_of new k ++ p ∷ [])
          ∙ sym (ap₂ (λ n b. class_of new n ++ (if b then p ∷ [] else [])) same listed) ∙ is.each m within
      by m within (inr apart) =
          ap (λ c. more_if (loops_from nest (parent_of nest.heads k)) m c p) (get_or-set_other new k m (class_of new k ++ p ∷ []) [] apart)
          ∙ sym (ap (λ b. class_of new m ++ (if b then p ∷ [] else [])) (ap (is_listed m) on ∙ ap (λ b. b || is_listed m (loops_from nest (parent_of nest.heads k))) (test_apart m k apart)))
          ∙ is.each m within

  pub joins_all : (new : List (List ℕ)) → IsJoining ns (loops_from nest None) p old new → HasJoined ns p old new
  joins_all new is = record { counted = is.counted; each = λ m within. sym (append-nil (class_of new m)) ∙ sym (ap (λ b. class_of new m ++ (if b then p ∷ [] else [])) (none (length nest.heads) m)) ∙ is.each m within }
    where
      none : (n m : ℕ) → is_listed m (loops_out nest.heads n None) ≡ false
      none zero m = refl
      none (suc n) m = refl

-- a round of the loop over the loops round a node
pub join_on : (nest : Nest) (parents : (k : ℕ) (h : Head) → slice_get nest.heads k ≡ Some h → IfSome h.parent (λ j. j < k)) (ns : List ℕ) (p : ℕ) (old now new : List (List ℕ)) (k : ℕ) (at : Option ℕ) (hs : List Head) (d : Head)
    → hs ≡ nest.heads → at ≡ Some k → length old ≡ length nest.heads → IsJoining ns (loops_from nest at) p old now → IfSome at (λ j. j < length nest.heads) → new ≡ set now k (class_of now k ++ p ∷ [])
    → IsJoining ns (loops_from nest (get_or hs k d).parent) p old new × IfSome (get_or hs k d).parent (λ j. j < length nest.heads)
join_on nest parents ns p old now new k at hs d heads here counted joining known pushed =
    let within : k < length nest.heads = subst (λ o. IfSome o (λ j. j < length nest.heads)) here known in
    let up : parent_of nest.heads k ≡ (get_or hs k d).parent =
    ap (option_and_then (λ h. h.parent)) (slice_get-get_or nest.heads k d within) ∙ sym (ap (λ xs. (get_or xs k d).parent) heads) in (
      subst (λ o. IsJoining ns (loops_from nest o) p old new) up
          (subst (λ xs. IsJoining ns (loops_from nest (parent_of nest.heads k)) p old xs) (sym pushed)
          (joins_more nest parents ns p old k now within counted (subst (λ o. IsJoining ns (loops_from nest o) p old now) here joining))),
      below (get_or hs k d).parent (subst (λ x. IfSome x.parent (λ j. j < k)) (sym (ap (λ xs. get_or xs k d) heads)) (parents k (get_or nest.heads k d) (slice_get-get_or nest.heads k d within))) within,
    )
  where
    below : (o : Option ℕ) → IfSome o (λ j. j < k) → k < length nest.heads → IfSome o (λ j. j < length nest.heads)
    below None up within = tt
    below (Some j) up within = omega arith

pub rank_less : (nest : Nest) (parents : (k : ℕ) (h : Head) → slice_get nest.heads k ≡ Some h → IfSome h.parent (λ j. j < k)) (k : ℕ) (at : Option ℕ) (hs : List Head) (d : Head)
    → hs ≡ nest.heads → at ≡ Some k → IfSome at (λ j. j < length nest.heads) → rank_of (get_or hs k d).parent < rank_of at
rank_less nest parents k at hs d heads here known =
    let within : k < length nest.heads = subst (λ o. IfSome o (λ j. j < length nest.heads)) here known in
    subst (λ o. rank_of (get_or hs k d).parent < rank_of o) (sym here)
    (by (get_or hs k d).parent (subst (λ x. IfSome x.parent (λ j. j < k)) (sym (ap (λ xs. get_or xs k d) heads)) (parents k (get_or nest.heads k d) (slice_get-get_or nest.heads k d within))))
  where
    by : (o : Option ℕ) → IfSome o (λ j. j < k) → rank_of o < k + 1
    by None up = omega arith
    by (Some j) up = omega arith

-- one node more of the order
pub classes_more : (nest : Nest) (order : List ℕ) (i p : ℕ) (old new : List (List ℕ)) → slice_get order i ≡ Some p → AreClasses nest (take i order) old → HasJoined (loops_round nest p) p old new → AreClasses nest (take (i + 1) order) new
classes_more nest order i p old new here are joined = record {
  counted = joined.counted ∙ are.counted;
  each = λ m within.
      joined.each m (omega (arith, are.counted)) ∙ ap (λ c. c ++ (if lies nest m p then p ∷ [] else [])) (are.each m within)
      ∙ sym (filter_more (lies nest m) order i p (slice_get_within order i p here) ∙ ap (λ q. filter (lies nest m) (take i order) ++ (if lies nest m q then q ∷ [] else [])) (get_or_from_slice_get order i p p here));
}

pub no_classes_yet : (nest : Nest) (order : List ℕ) (classes : List (List ℕ)) → classes ≡ replicate (length nest.heads) [] → AreClasses nest (take 0 order) classes
no_classes_yet nest order classes is = record {
  counted = ap length is ∙ counted (length nest.heads);
  each = λ m within. ap (λ xs. class_of xs m) is ∙ none (length nest.heads) m;
}
  where
    counted : (n : ℕ) → length (replicate {A = List ℕ} n []) ≡ n
    counted zero = refl
    counted (suc n) = ap suc (counted n)

    none : (n m : ℕ) → class_of (replicate n []) m ≡ []
    none zero m = refl
    none (suc n) zero = refl
    none (suc n) (suc m) = none n m

-- The nodes of a class.
pub filter_from : (test : ℕ → Bool) (xs : List ℕ) (i p : ℕ) → slice_get (filter test xs) i ≡ Some p → (test p ≡ true) × ((j : ℕ) × (slice_get xs j ≡ Some p))
filter_from test [] i p at = cc
filter_from test (x ∷ xs) i p at = by (λ n at'. filter_from test xs n p at') (test x) refl i at
  where
    later : ((n : ℕ) → slice_get (filter test xs) n ≡ Some p → (test p ≡ true) × ((j : ℕ) × (slice_get xs j ≡ Some p))) → (i : ℕ) → slice_get (filter test xs) i ≡ Some p → (test p ≡ true) × ((j : ℕ) × (slice_get (x ∷ xs) j ≡ Some p))
    later more i at' = let rest = more i at' in (rest.0, (suc rest.1.0, rest.1.1))

    by : ((n : ℕ) → slice_get (filter test xs) n ≡ Some p → (test p ≡ true) × ((j : ℕ) × (slice_get xs j ≡ Some p))) → (b : Bool) → test x ≡ b → (i : ℕ) → slice_get (cond b (x ∷ filter test xs) (filter test xs)) i ≡ Some p
        → (test p ≡ true) × ((j : ℕ) × (slice_get (x ∷ xs) j ≡ Some p))
    by more true is zero at' = let same : x ≡ p = same_Some x p at' in (ap test (sym same) ∙ is, (zero, ap Some same))
    by more true is (suc i) at' = later more i at'
    by more false is i at' = later more i at'

pub filter_into : (test : ℕ → Bool) (xs : List ℕ) (j p : ℕ) → slice_get xs j ≡ Some p → test p ≡ true → (i : ℕ) × (slice_get (filter test xs) i ≡ Some p)
filter_into test [] j p at is = cc
filter_into test (x ∷ xs) zero p at is =
    let same : x ≡ p = same_Some x p at in
    (zero, ap (λ b. slice_get (cond b (x ∷ filter test xs) (filter test xs)) zero) (ap test same ∙ is) ∙ ap Some same)
filter_into test (x ∷ xs) (suc j) p at is = by (test x) (filter_into test xs j p at is)
  where
    by : (b : Bool) → (i : ℕ) × (slice_get (filter test xs) i ≡ Some p) → (i : ℕ) × (slice_get (cond b (x ∷ filter test xs) (filter test xs)) i ≡ Some p)
    by true rest = (suc rest.0, rest.1)
    by false rest = rest

-- a part of a downward list is one
module _ (s : System) (nest : Nest) (order : List ℕ) (down : IsDownward s nest order) (test : ℕ → Bool) where
  abbrev Apart : ℕ → ℕ → Type 0
  Apart a b = (a ≡ b → ⊥) × ((n : ℕ) (t : SystemStep) → IsStep s nest n t → is_marked nest n ≡ false → t.source ≡ a → t.target ≡ Some b → ⊥)

  pairs : AllPairs Apart order
  pairs = λ i j d less within.
      let at_i = slice_get-get_or order i d (omega arith) in
      let at_j = slice_get-get_or order j d within in (
        (λ same. absurd (let one = down.once i j (get_or order i d) at_i (at_j ∙ ap Some (sym same)) in omega arith)),
        (λ n t at ahead from to. absurd (let low = down.lower n i j (get_or order j d) t at ahead to (at_i ∙ ap Some (sym from)) at_j in omega arith)),
      )

  part : AllPairs Apart (filter test order)
  part = AllPairs-filter Apart test order pairs

  pair_at : (i j p q : ℕ) → i < j → slice_get (filter test order) i ≡ Some p → slice_get (filter test order) j ≡ Some q → Apart p q
  pair_at i j p q less at_i at_j =
      subst (λ b. Apart p b) (get_or_from_slice_get (filter test order) j q 0 at_j)
      (subst (λ a. Apart a (get_or (filter test order) j 0)) (get_or_from_slice_get (filter test order) i p 0 at_i) (part i j 0 less (slice_get_within (filter test order) j q at_j)))

  pub down_filter : IsDownward s nest (filter test order)
  down_filter = record {
    once = λ i j p at_i at_j. one i j p at_i at_j (cases_lt i j);
    lower = λ n i j q t at ahead to at_i at_j. low n i j q t at ahead to at_i at_j (cases_lt j i);
  }
    where
      one : (i j p : ℕ) → slice_get (filter test order) i ≡ Some p → slice_get (filter test order) j ≡ Some p → (i < j) ⊎ (j ≤ i) → i ≡ j
      one i j p at_i at_j (inl less) = absurd ((pair_at i j p p less at_i at_j).0 refl)
      one i j p at_i at_j (inr more) = two (cases_lt j i)
        where
          two : (j < i) ⊎ (i ≤ j) → i ≡ j
          two (inl less) = absurd ((pair_at j i p p less at_j at_i).0 refl)
          two (inr even) = omega arith

      low : (n i j q : ℕ) (t : SystemStep) → IsStep s nest n t → is_marked nest n ≡ false → t.target ≡ Some q → slice_get (filter test order) i ≡ Some t.source → slice_get (filter test order) j ≡ Some q → (j < i) ⊎ (i ≤ j) → j < i
      low n i j q t at ahead to at_i at_j (inl less) = less
      low n i j q t at ahead to at_i at_j (inr more) = two (cases_lt i j)
        where
          two : (i < j) ⊎ (j ≤ i) → j < i
          two (inl less) = absurd ((pair_at i j t.source q less at_i at_j).1 n t at ahead refl to)
          two (inr even) =
              let same : i ≡ j = omega arith in
              let self : t.source ≡ q = same_Some t.source q (sym at_i ∙ ap (slice_get (filter test order)) same ∙ at_j) in
              let place = (filter_from test order i t.source at_i).1 in
              let lower = down.lower n place.0 place.0 q t at ahead to place.1 (place.1 ∙ ap Some self) in
              absurd (omega arith)
