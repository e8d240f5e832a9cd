-- Steps out of and into nodes, counted from the last one back.
use Rattle.std.proofs.Common.{◌≡◌, ℕ, zero, suc, ◌+◌, ◌-◌, ◌<◌, ◌≤◌, ◌==◌, Bool, true, false, not, ◌&&◌, if◌then◌else◌, List, [], ◌∷◌, ◌++◌, get_or, set, drop, replicate, length, Option, None, Some, option_and_then, option_map, slice_get, inl, inr, ⊎_elim, refl, sym, ap, ap₂, subst, ◌∙◌, append_assoc, arith}
use Rattle.std.specs.List.{All}
use Rattle.std.specs.Option.{IfSome}
use Rattle.std.proofs.lemmas.Bool.{cases_eq, eq-eqb, ne_eqb}
use Rattle.std.proofs.lemmas.Bool.Decides.{nat_tests}
use Rattle.std.proofs.lemmas.List.{drop_all, drop_more, get_or-replicate, get_or-set_other, get_or-set_same, get_or_append_left, get_or_default, get_or_push, length-replicate, length-set, length_push}
use Rattle.std.proofs.lemmas.Option.{slice_get-get_or}
use Rattle.wc_base.proofs.TestLemmas.{if_false, if_true}
use Rattle.wc_model.specs.declared.flow_system.System.{System}
use Rattle.wc_model.specs.declared.flow_system.SystemStep.{SystemStep}
use Rattle.wc_model.specs.Flow.Cells.{column_from, ins_of, is_passed, next_of, only_of, outs_of, passed_out}
use Rattle.wc_model.specs.Flow.Places.{places_from}
use Rattle.wc_model.specs.Flow.Systems.{leads_to}
use Rattle.wc_simplex.specs.declared.only.Only.{Only}
use Rattle.wc_simplex.specs.declared.only.Only.TheVariants.{Nothing, One, Several}
use Rattle.wc_simplex.specs.Inner.Columns.{AreCounted, AreIns, AreOuts, ArePassedTo, IfOne, comes_to, leaves_at, with_lead}
use Rattle.wc_simplex.specs.Inner.Only.{and_one, only_as, through}

only_cons : (i : ℕ) (l : List ℕ) → only_as (i ∷ l) ≡ and_one i (only_as l)
only_cons i [] = refl
only_cons i (j ∷ []) = refl
only_cons i (j ∷ k ∷ m) = refl

one_inside : (P : ℕ → Type 0) (i : ℕ) (o : Only) → P i → IfOne (and_one i o) P
one_inside P i Nothing p = p
one_inside P i (One j) p = tt
one_inside P i Several p = tt

module _ (test : ℕ → SystemStep → Bool) (nodes : ℕ) (steps : List SystemStep) where
  -- at the end no step is counted yet
  pub none_counted : (k : ℕ) (found : List Only) → found ≡ replicate nodes Nothing → length steps ≤ k → AreCounted test nodes steps k found
  none_counted k found is past =
      let here : (p : ℕ) → p < nodes → get_or found p Nothing ≡ Nothing = λ p within. ap (λ f. get_or f p Nothing) is ∙ get_or-replicate nodes p Nothing Nothing within in
      record {
        counted = ap length is ∙ length-replicate nodes Nothing;
        each = λ p within. here p within ∙ sym (ap (λ ss. only_as (places_from k (λ i t. test p t) ss)) (drop_all k steps past));
        inside = λ p within. subst (λ (o : Only). IfOne o (λ i. i < length steps)) (sym (here p within)) tt;
      }

  taken : (k p : ℕ) (t : SystemStep) → drop k steps ≡ t ∷ drop (k + 1) steps → test p t ≡ true
      → places_from k (λ i u. test p u) (drop k steps) ≡ k ∷ places_from (k + 1) (λ i u. test p u) (drop (k + 1) steps)
  taken k p t at passes =
      ap (places_from k (λ i u. test p u)) at
      ∙ if_true (test p t) (k ∷ places_from (k + 1) (λ i u. test p u) (drop (k + 1) steps)) (places_from (k + 1) (λ i u. test p u) (drop (k + 1) steps)) passes

  left_out : (k p : ℕ) (t : SystemStep) → drop k steps ≡ t ∷ drop (k + 1) steps → test p t ≡ false
      → places_from k (λ i u. test p u) (drop k steps) ≡ places_from (k + 1) (λ i u. test p u) (drop (k + 1) steps)
  left_out k p t at fails =
      ap (places_from k (λ i u. test p u)) at
      ∙ if_false (test p t) (k ∷ places_from (k + 1) (λ i u. test p u) (drop (k + 1) steps)) (places_from (k + 1) (λ i u. test p u) (drop (k + 1) steps)) fails

  -- one step more, which passes at one node
  pub counted_set : (k q : ℕ) (t : SystemStep) (found : List Only) → AreCounted test nodes steps (k + 1) found → k < length steps → drop k steps ≡ t ∷ drop (k + 1) steps
      → q < nodes → test q t ≡ true → ((p : ℕ) → (p ≡ q → ⊥) → test p t ≡ false) → AreCounted test nodes steps k (set found q (and_one k (get_or found q Nothing)))
  counted_set k q t found old within at few passes others =
      let new : List Only = set found q (and_one k (get_or found q Nothing)) in
      let there : get_or new q Nothing ≡ and_one k (get_or found q Nothing) = get_or-set_same found q (and_one k (get_or found q Nothing)) Nothing (omega (arith, old.counted)) in
      let other : (p : ℕ) → (p ≡ q → ⊥) → get_or new p Nothing ≡ get_or found p Nothing = λ p apart. get_or-set_other found q p (and_one k (get_or found q Nothing)) Nothing apart in
      record {
        counted = length-set found q (and_one k (get_or found q Nothing)) ∙ old.counted;
        each = λ p small.
            ⊎_elim
            (λ (same : p ≡ q).
            subst (λ n. get_or new n Nothing ≡ only_as (places_from k (λ i u. test n u) (drop k steps))) (sym same)
            (there ∙ ap (and_one k) (old.each q few) ∙ sym (only_cons k (places_from (k + 1) (λ i u. test q u) (drop (k + 1) steps))) ∙ ap only_as (sym (taken k q t at passes))))
            (λ (apart : p ≡ q → ⊥). other p apart ∙ old.each p small ∙ ap only_as (sym (left_out k p t at (others p apart))))
            (cases_eq p q);
        inside = λ p small.
            ⊎_elim
            (λ (same : p ≡ q).
            subst (λ n. IfOne (get_or new n Nothing) (λ i. i < length steps)) (sym same)
            (subst (λ (o : Only). IfOne o (λ i. i < length steps)) (sym there) (one_inside (λ i. i < length steps) k (get_or found q Nothing) within)))
            (λ (apart : p ≡ q → ⊥). subst (λ (o : Only). IfOne o (λ i. i < length steps)) (sym (other p apart)) (old.inside p small))
            (cases_eq p q);
      }

  -- one step more, which passes at none
  pub counted_same : (k : ℕ) (t : SystemStep) (found : List Only) → AreCounted test nodes steps (k + 1) found → drop k steps ≡ t ∷ drop (k + 1) steps
      → ((p : ℕ) → test p t ≡ false) → AreCounted test nodes steps k found
  counted_same k t found old at fails =
      record {
        counted = old.counted;
        each = λ p small. old.each p small ∙ ap only_as (sym (left_out k p t at (fails p)));
        inside = old.inside;
      }

pub outs_more : (nodes k : ℕ) (steps : List SystemStep) (t : SystemStep) (found : List Only) → AreCounted leaves_at nodes steps (k + 1) found → k < length steps
    → get_or steps k t ≡ t → t.source < nodes → AreCounted leaves_at nodes steps k (set found t.source (and_one k (get_or found t.source Nothing)))
outs_more nodes k steps t found old within at few =
    counted_set leaves_at nodes steps k t.source t found old within (drop_more steps k t within ∙ ap (λ u. u ∷ drop (k + 1) steps) at) few
    (eq-eqb t.source t.source refl) (λ p apart. ne_eqb t.source p (λ same. apart (sym same)))

pub ins_more : (nodes k : ℕ) (steps : List SystemStep) (t : SystemStep) (found : List Only) → AreCounted comes_to nodes steps (k + 1) found → k < length steps
    → get_or steps k t ≡ t → IfSome t.target (λ q. q < nodes) → AreCounted comes_to nodes steps k (with_lead found t.target k)
ins_more nodes k steps t found old within at few = by t.target refl
  where
    here : drop k steps ≡ t ∷ drop (k + 1) steps
    here = drop_more steps k t within ∙ ap (λ u. u ∷ drop (k + 1) steps) at

    by : (o : Option ℕ) → t.target ≡ o → AreCounted comes_to nodes steps k (with_lead found o k)
    by None is = counted_same comes_to nodes steps k t found old here (λ p. ap (λ u. leads_to u p) is)
    by (Some q) is =
        let small : q < nodes = subst (λ (u : Option ℕ). IfSome u (λ n. n < nodes)) is few in
        counted_set comes_to nodes steps k q t found old within here small (ap (λ u. leads_to u q) is ∙ eq-eqb q q refl)
        (λ p apart. ap (λ u. leads_to u p) is ∙ ne_eqb q p (λ same. apart (sym same)))

-- the one step out of a node that is passed through
through_is : (is_start : Bool) (ins outs : List ℕ) → through is_start (only_as ins) (only_as outs) ≡ (if not is_start && length ins == 1 && length outs == 1 then only_of outs else None)
through_is true ins outs = refl
through_is false [] outs = refl
through_is false (i ∷ []) [] = refl
through_is false (i ∷ []) (o ∷ []) = refl
through_is false (i ∷ []) (o ∷ p ∷ more) = sym (if_false (suc (suc (length more)) == 1) (Some o) None (many_lists more))
  where
    many_lists : (l : List ℕ) → (suc (suc (length l)) == 1) ≡ false
    many_lists l = grind (arith, nat_tests)
through_is false (i ∷ j ∷ more) outs = sym (ap (λ b. if b && length outs == 1 then only_of outs else None) (many_lists more))
  where
    many_lists : (l : List ℕ) → (suc (suc (length l)) == 1) ≡ false
    many_lists l = grind (arith, nat_tests)

pub through_passed : (s : System) (ins outs : List Only) (q : ℕ) → AreIns s 0 ins → AreOuts s 0 outs → q < s.nodes
    → through (q == s.start) (get_or ins q Nothing) (get_or outs q Nothing) ≡ passed_out s q
through_passed s ins outs q are_ins are_outs within =
    ap₂ (λ a b. through (q == s.start) a b) (are_ins.each q within) (are_outs.each q within) ∙ through_is (q == s.start) (ins_of s.steps q) (outs_of s.steps q)

pub through_inside : (is_start : Bool) (ins outs : Only) (P : ℕ → Type 0) → IfOne outs P → IfSome (through is_start ins outs) P
through_inside true ins outs P h = tt
through_inside false Nothing outs P h = tt
through_inside false Several outs P h = tt
through_inside false (One i) Nothing P h = tt
through_inside false (One i) (One o) P h = h
through_inside false (One i) Several P h = tt

-- the step after a step of a column
pub next_is : (s : System) (i : ℕ) (t : SystemStep) → i < length s.steps → get_or s.steps i t ≡ t → next_of s i ≡ option_and_then (passed_out s) t.target
next_is s i t within at =
    ap (λ o. option_and_then (passed_out s) (option_and_then (λ (u : SystemStep). u.target) o)) (slice_get-get_or s.steps i t within ∙ ap Some at)

pub column_more : (s : System) (n k i : ℕ) → k < n → column_from s (n - k) (Some i) ≡ i ∷ column_from s (n - (k + 1)) (next_of s i)
column_more s n k i within =
    let less : n - k ≡ suc (n - (k + 1)) = omega arith in
    ap (λ m. column_from s m (Some i)) less

pub column_none : (s : System) (n : ℕ) → column_from s n None ≡ []
column_none s n = refl

pub column_end : (s : System) (n k : ℕ) (o : Option ℕ) → n ≤ k → column_from s (n - k) o ≡ []
column_end s n k None past = refl
column_end s n k (Some i) past =
    let none_left : n - k ≡ 0 = omega arith in
    ap (λ m. column_from s m (Some i)) none_left

pub passed_more : (s : System) (n : ℕ) (passed : List (Option ℕ)) (o : Option ℕ) → ArePassedTo s n passed → o ≡ passed_out s n → IfSome o (λ i. i < length s.steps)
    → ArePassedTo s (n + 1) (passed ++ o ∷ [])
passed_more s n passed o old is within =
    let end : get_or (passed ++ o ∷ []) n None ≡ o = get_or_push passed o None n old.counted in
    record {
      counted = length_push passed o ∙ ap (λ m. m + 1) old.counted;
      each = λ p small.
          ⊎_elim (λ (same : p ≡ n). subst (λ m. get_or (passed ++ o ∷ []) m None ≡ passed_out s m) (sym same) (end ∙ is))
          (λ (apart : p ≡ n → ⊥). get_or_append_left passed (o ∷ []) None p (omega (arith, old.counted)) ∙ old.each p (omega arith)) (cases_eq p n);
      inside = λ p small.
          ⊎_elim (λ (same : p ≡ n). subst (λ m. IfSome (get_or (passed ++ o ∷ []) m None) (λ i. i < length s.steps)) (sym same) (subst (λ (q : Option ℕ). IfSome q (λ i. i < length s.steps)) (sym end) within))
          (λ (apart : p ≡ n → ⊥). subst (λ (q : Option ℕ). IfSome q (λ i. i < length s.steps)) (sym (get_or_append_left passed (o ∷ []) None p (omega (arith, old.counted)))) (old.inside p (omega arith))) (cases_eq p n);
    }

pub passed_none : (s : System) → ArePassedTo s 0 []
passed_none s = record { counted = refl; each = λ p few. absurd (omega arith); inside = λ p few. absurd (omega arith) }

-- one step back
pub ins_step : (nodes place : ℕ) (steps now : List SystemStep) (found : List Only) (d : SystemStep) → now ≡ steps → AreCounted comes_to nodes steps place found → 0 < place → place ≤ length steps
    → All (λ t. IfSome t.target (λ q. q < nodes)) steps → AreCounted comes_to nodes steps (place - 1) (with_lead found (get_or now (place - 1) d).target (place - 1))
ins_step nodes place steps now found d same old some within targets =
    let back : place ≡ place - 1 + 1 = omega arith in
    let few : place - 1 < length steps = omega arith in
    subst (λ (l : List SystemStep). AreCounted comes_to nodes steps (place - 1) (with_lead found (get_or l (place - 1) d).target (place - 1))) (sym same)
    (ins_more nodes (place - 1) steps (get_or steps (place - 1) d) found (subst (λ n. AreCounted comes_to nodes steps n found) back old) few
    (get_or_default steps (place - 1) (get_or steps (place - 1) d) d few) (targets (place - 1) d few))

pub through_step : (s : System) (ins outs : List Only) (q : ℕ) (a b : Only) (o : Option ℕ) → AreIns s 0 ins → AreOuts s 0 outs → q < s.nodes
    → a ≡ get_or ins q a → b ≡ get_or outs q b → o ≡ through (q == s.start) a b → (o ≡ passed_out s q) × IfSome o (λ i. i < length s.steps)
through_step s ins outs q a b o are_ins are_outs within read_a read_b is =
    let is_a : a ≡ get_or ins q Nothing = read_a ∙ get_or_default ins q a Nothing (omega (arith, are_ins.counted)) in
    let is_b : b ≡ get_or outs q Nothing = read_b ∙ get_or_default outs q b Nothing (omega (arith, are_outs.counted)) in
    let all : o ≡ through (q == s.start) (get_or ins q Nothing) (get_or outs q Nothing) = is ∙ ap₂ (λ x y. through (q == s.start) x y) is_a is_b in (
      all ∙ through_passed s ins outs q are_ins are_outs within,
      subst (λ (p : Option ℕ). IfSome p (λ i. i < length s.steps)) (sym all) (through_inside (q == s.start) (get_or ins q Nothing) (get_or outs q Nothing) (λ i. i < length s.steps) (are_outs.inside q within)),
    )

pub column_step : (s : System) (n k i : ℕ) (next now : Option ℕ) (places new whole : List ℕ) → k < n → new ≡ places ++ i ∷ [] → now ≡ Some i
    → places ++ column_from s (n - k) now ≡ whole → next ≡ next_of s i → new ++ column_from s (n - (k + 1)) next ≡ whole
column_step s n k i next now places new whole within pushed here so_far is =
    ap₂ (λ a b. a ++ column_from s (n - (k + 1)) b) pushed is ∙ append_assoc places (i ∷ []) (column_from s (n - (k + 1)) (next_of s i))
    ∙ ap (λ l. places ++ l) (sym (column_more s n k i within)) ∙ ap (λ o. places ++ column_from s (n - k) o) (sym here) ∙ so_far
