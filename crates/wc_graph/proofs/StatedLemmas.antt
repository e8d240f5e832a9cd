-- What the sets of numbers say of the facts.
use Rattle.std.proofs.Common.{ℕ, zero, suc, ◌≡◌, ◌+◌, ◌*◌, ◌/◌, ◌<◌, ◌≤◌, ◌⊎◌, inl, inr, ⊎_elim, ◌==◌, ◌&&◌, ◌||◌, Bool, true, false, not, if◌then◌else◌, List, [], ◌∷◌, ◌++◌, map, filter, length, get_or, drop, refl, sym, ap, subst, ◌∙◌, arith, nat_cmp, Less, Equal, Greater, append_assoc, append-nil}
use Rattle.std.specs.BTreeMap.Range.{range_contains}
use Rattle.std.specs.declared.ops.Bound.TheVariants.{Included}
use Rattle.std.specs.List.{flat_map}
use Rattle.std.specs.Ordering.{is_le, is_lt, is_eq}
use Rattle.std.specs.Cmp.{nat_cmp_is}
use Rattle.std.proofs.lemmas.Bool.{cases_lt, cases_eq, false≢true, eqb-true, eq-eqb}
use Rattle.std.proofs.lemmas.Bool.Decides.{eqb_tells}
use Rattle.std.proofs.lemmas.List.{drop_more, length-append, get_or_append_left}
use Rattle.std.proofs.lemmas.List.Concat.{flat_map-append}
use Rattle.std.proofs.lemmas.List.Elements.{All-append, All-head, All-tail, All-nil}
use Rattle.wc_model.specs.declared.flow_facts.Fact.{Fact}
use Rattle.wc_model.specs.declared.flow_facts.Fact.TheVariants.{Loop, Multibranch, Multicall, Noreturn, Checksum, Limit}
use Rattle.wc_model.specs.Program.Steps.{with_target, rising_once, jumps_stated, calls_stated, jump_targets, call_targets, is_noreturn}
use Rattle.wc_graph.specs.declared.stated.Stated.{Stated}
use Rattle.wc_graph.specs.Inner.Stated.{key_of, is_of, low, targets_in, with_all, has_number, jump_keys, call_keys, noreturn_keys, targets_of, Fits, Adds, AreStated}
use Rattle.wc_graph.proofs.RisingLemmas.{Has, rises_same, all_append, all_rises, all_in, in_all, once_rises, once_in, in_once, has_append, append_has, has_map, map_has, has_filter, filter_has, filter_rises}

-- one key more, from the front of what is to come
pub next_key : (f : ℕ → ℕ) (keys new to : List ℕ) (i d : ℕ) → i < length to → new ≡ with_target (f (get_or to i d)) keys → with_all new (map f (drop (i + 1) to)) ≡ with_all keys (map f (drop i to))
next_key f keys new to i d less is = ap (λ (xs : List ℕ). with_all xs (map f (drop (i + 1) to))) is ∙ sym (ap (λ (xs : List ℕ). with_all keys (map f xs)) (drop_more to i d less))

-- the lowest digits of one key more, and of all
pub low_more : (found new later rest all : List ℕ) (key : ℕ) → rest ≡ key ∷ later → new ≡ found ++ low key ∷ [] → found ++ map low rest ≡ all → new ++ map low later ≡ all
low_more found new later rest all key rest_is new_is so_far =
    ap (λ (xs : List ℕ). xs ++ map low later) new_is
    ∙ append_assoc found (low key ∷ []) (map low later)
    ∙ ap (λ (xs : List ℕ). found ++ map low xs) (sym rest_is)
    ∙ so_far

pub low_all : (found rest all : List ℕ) → rest ≡ [] → found ++ map low rest ≡ all → found ≡ all
low_all found rest all none so_far = sym (append-nil found) ∙ ap (λ (xs : List ℕ). found ++ map low xs) (sym none) ∙ so_far

append_nothing : (xs ys : List ℕ) → xs ++ ys ≡ xs ++ (ys ++ [])
append_nothing [] [] = refl
append_nothing [] (y ∷ ys) = ap (λ (zs : List ℕ). y ∷ zs) (append_nothing [] ys)
append_nothing (x ∷ xs) ys = ap (λ (zs : List ℕ). x ∷ zs) (append_nothing xs ys)

pub stated_more : (facts : List Fact) (fact : Fact) (old new : Stated) → AreStated facts old → Adds fact old new → AreStated (facts ++ fact ∷ []) new
stated_more facts fact old new are adds = record {
  jumps = adds.jumps ∙ one jump_keys old.jumps.keys are.jumps;
  calls = adds.calls ∙ one call_keys old.calls.keys are.calls;
  noreturns = adds.noreturns ∙ one noreturn_keys old.noreturns.keys are.noreturns;
  fits = subst Fits (sym (flat_map-append targets_of facts (fact ∷ []))) (All-append (λ t. t < 4294967296) (flat_map targets_of facts) (targets_of fact ++ []) are.fits (All-append (λ t. t < 4294967296) (targets_of fact) [] adds.fits (All-nil (λ t. t < 4294967296))));
}
  where
    one : (keyed : Fact → List ℕ) (keys : List ℕ) → keys ≡ with_all [] (flat_map keyed facts) → with_all keys (keyed fact) ≡ with_all [] (flat_map keyed (facts ++ fact ∷ []))
    one keyed keys is =
        ap (λ (xs : List ℕ). with_all xs (keyed fact)) is
        ∙ sym (all_append [] (flat_map keyed facts) (keyed fact))
        ∙ ap (with_all []) (sym (flat_map-append keyed facts (fact ∷ []) ∙ sym (append_nothing (flat_map keyed facts) (keyed fact))))

-- keys between two bounds
le_case : (a q : ℕ) → ((is_le (nat_cmp a q) ≡ true) × (a ≤ q)) ⊎ ((is_le (nat_cmp a q) ≡ false) × (q < a))
le_case a q = ⊎_elim
    (λ (less : q < a). inr (ap is_le (sym (nat_cmp_is a q Greater less)), less))
    (λ (more : a ≤ q). ⊎_elim
    (λ (same : a ≡ q). inl (ap is_le (sym (nat_cmp_is a q Equal same)), more))
    (λ (apart : a ≡ q → ⊥). inl (ap is_le (sym (nat_cmp_is a q Less (omega (arith, apart)))), more))
    (cases_eq a q))
    (cases_lt q a)

lt_case : (b q : ℕ) → ((is_lt (nat_cmp b q) ≡ true) × (b < q)) ⊎ ((is_lt (nat_cmp b q) ≡ false) × (q ≤ b))
lt_case b q = ⊎_elim
    (λ (less : b < q). inl (ap is_lt (sym (nat_cmp_is b q Less less)), less))
    (λ (more : q ≤ b). ⊎_elim
    (λ (same : b ≡ q). inr (ap is_lt (sym (nat_cmp_is b q Equal same)), more))
    (λ (apart : b ≡ q → ⊥). inr (ap is_lt (sym (nat_cmp_is b q Greater (omega (arith, apart)))), more))
    (cases_eq b q))
    (cases_lt b q)

and_both : (s t u : Bool) → s ≡ true → t ≡ false → u ≡ true → (s && not t) ≡ u
and_both s t u is fails same = ap (λ (x : Bool). x && not t) is ∙ ap not fails ∙ sym same

and_low : (s t u : Bool) → s ≡ false → u ≡ false → (s && not t) ≡ u
and_low s t u is same = ap (λ (x : Bool). x && not t) is ∙ sym same

and_high : (s t u : Bool) → s ≡ true → t ≡ true → u ≡ false → (s && not t) ≡ u
and_high s t u is holds same = ap (λ (x : Bool). x && not t) is ∙ ap not holds ∙ sym same

not_of : (at key : ℕ) → (key / 4294967296 ≡ at → ⊥) → is_of at key ≡ false
not_of at key apart = ⊎_elim (λ holds. absurd (apart holds.1)) (λ fails. fails.0) (eqb_tells (key / 4294967296) at)

pub between : (at first last key : ℕ) → first ≡ at * 4294967296 → last ≡ first + 4294967295 → range_contains nat_cmp (Included first) (Included last) key ≡ is_of at key
between at first last key first_is last_is = ⊎_elim
    (λ from. ⊎_elim
    (λ past. and_high (is_le (nat_cmp first key)) (is_lt (nat_cmp last key)) (is_of at key) from.0 past.0 (not_of at key (λ same. let more : first ≤ key = from.1 in let far : last < key = past.1 in absurd (omega arith))))
    (λ within. let more : first ≤ key = from.1 in let near : key ≤ last = within.1 in and_both (is_le (nat_cmp first key)) (is_lt (nat_cmp last key)) (is_of at key) from.0 within.0 (eq-eqb (key / 4294967296) at (omega arith)))
    (lt_case last key))
    (λ low_of. let less : key < first = low_of.1 in and_low (is_le (nat_cmp first key)) (is_lt (nat_cmp last key)) (is_of at key) low_of.0 (not_of at key (λ same. absurd (omega arith))))
    (le_case first key)

-- the targets of an address, from the facts
key_up : (pc m n : ℕ) → is_of pc m ≡ true → is_of pc n ≡ true → m < n → low m < low n
key_up pc m n is at less = let one : m / 4294967296 ≡ pc = eqb-true (m / 4294967296) pc is in let two : n / 4294967296 ≡ pc = eqb-true (n / 4294967296) pc at in omega arith

module _ (keyed stated : Fact → List ℕ) (pc : ℕ) (there : (fact : Fact) → Fits (targets_of fact) → (k : ℕ) → Has (keyed fact) k → is_of pc k ≡ true → Has (stated fact) (low k)) (back : (fact : Fact) → Fits (targets_of fact) → (t : ℕ) → Has (stated fact) t → Has (keyed fact) (key_of pc t) × (t < 4294967296)) where
  fits_head : (fact : Fact) (facts : List Fact) → Fits (flat_map targets_of (fact ∷ facts)) → Fits (targets_of fact)
  fits_head fact facts fits k d less = let longer : length (targets_of fact ++ flat_map targets_of facts) ≡ length (targets_of fact) + length (flat_map targets_of facts) = length-append (targets_of fact) (flat_map targets_of facts) in subst (λ (n : ℕ). n < 4294967296) (get_or_append_left (targets_of fact) (flat_map targets_of facts) d k less) (fits k d (omega arith))

  fits_tail : (fact : Fact) (facts : List Fact) → Fits (flat_map targets_of (fact ∷ facts)) → Fits (flat_map targets_of facts)
  fits_tail fact facts = all_behind (targets_of fact) (flat_map targets_of facts)
    where
      all_behind : (xs ys : List ℕ) → Fits (xs ++ ys) → Fits ys
      all_behind [] ys fits = fits
      all_behind (x ∷ xs) ys fits = all_behind xs ys (All-tail (λ t. t < 4294967296) x (xs ++ ys) fits)

  all_there : (facts : List Fact) → Fits (flat_map targets_of facts) → (k : ℕ) → Has (flat_map keyed facts) k → is_of pc k ≡ true → Has (flat_map stated facts) (low k)
  all_there [] fits k has is = absurd has
  all_there (fact ∷ facts) fits k has is = append_has (stated fact) (flat_map stated facts) (low k) (⊎_elim
      (λ (here : Has (keyed fact) k). inl (there fact (fits_head fact facts fits) k here is))
      (λ (later : Has (flat_map keyed facts) k). inr (all_there facts (fits_tail fact facts fits) k later is))
      (has_append (keyed fact) (flat_map keyed facts) k has))

  all_back : (facts : List Fact) → Fits (flat_map targets_of facts) → (t : ℕ) → Has (flat_map stated facts) t → Has (flat_map keyed facts) (key_of pc t) × (t < 4294967296)
  all_back [] fits t has = absurd has
  all_back (fact ∷ facts) fits t has = ⊎_elim
      (λ (here : Has (stated fact) t). let is = back fact (fits_head fact facts fits) t here in (append_has (keyed fact) (flat_map keyed facts) (key_of pc t) (inl is.0), is.1))
      (λ (later : Has (flat_map stated facts) t). let is = all_back facts (fits_tail fact facts fits) t later in (append_has (keyed fact) (flat_map keyed facts) (key_of pc t) (inr is.0), is.1))
      (has_append (stated fact) (flat_map stated facts) t has)

  targets_are : (facts : List Fact) → Fits (flat_map targets_of facts) → targets_in (with_all [] (flat_map keyed facts)) pc ≡ rising_once (flat_map stated facts)
  targets_are facts fits =
      let keys : List ℕ = with_all [] (flat_map keyed facts) in
      rises_same (targets_in keys pc) (rising_once (flat_map stated facts))
      (filter_rises (is_of pc) low (key_up pc) keys (all_rises [] (flat_map keyed facts) tt))
      (once_rises (flat_map stated facts))
      (λ t has.
      let from = has_map low (filter (is_of pc) keys) t has in
      let both = has_filter (is_of pc) keys from.0 from.1 in
      let among : Has (flat_map keyed facts) from.0 = ⊎_elim (λ (none : ⊥). absurd none) (λ (is : Has (flat_map keyed facts) from.0). is) (all_in [] (flat_map keyed facts) from.0 both.0) in
      in_once (flat_map stated facts) t (subst (Has (flat_map stated facts)) from.2 (all_there facts fits from.0 among both.1)))
      (λ t has.
      let is = all_back facts fits t (once_in (flat_map stated facts) t has) in
      let low_is : low (key_of pc t) ≡ t = let small : t < 4294967296 = is.1 in omega arith in
      let high : key_of pc t / 4294967296 ≡ pc = let small : t < 4294967296 = is.1 in omega arith in
      let among : Has keys (key_of pc t) = in_all [] (flat_map keyed facts) (key_of pc t) (inr is.0) in
      subst (Has (targets_in keys pc)) low_is (map_has low (filter (is_of pc) keys) (key_of pc t) (filter_has (is_of pc) keys (key_of pc t) (eq-eqb (key_of pc t / 4294967296) pc high) among)))

-- of one fact
fits_has : (ts : List ℕ) (t : ℕ) → Fits ts → Has ts t → t < 4294967296
fits_has [] t fits has = absurd has
fits_has (x ∷ xs) t fits (inl same) = subst (λ (n : ℕ). n < 4294967296) same (All-head (λ n. n < 4294967296) x xs fits)
fits_has (x ∷ xs) t fits (inr later) = fits_has xs t (All-tail (λ n. n < 4294967296) x xs fits) later

own_there : (pc at : ℕ) (to : List ℕ) (k : ℕ) → Fits to → Has (map (key_of at) to) k → is_of pc k ≡ true → (b : Bool) → (at == pc) ≡ b → Has (if b then to else []) (low k)
own_there pc at to k fits has is true same =
    let from = has_map (key_of at) to k has in
    let small : from.0 < 4294967296 = fits_has to from.0 fits from.1 in
    let one : from.0 ≡ low k = let key : at * 4294967296 + from.0 ≡ k = from.2 in omega arith in
    subst (Has to) one from.1
own_there pc at to k fits has is false apart =
    let from = has_map (key_of at) to k has in
    let small : from.0 < 4294967296 = fits_has to from.0 fits from.1 in
    let high : k / 4294967296 ≡ pc = eqb-true (k / 4294967296) pc is in
    let one : at ≡ pc = let key : at * 4294967296 + from.0 ≡ k = from.2 in omega arith in
    absurd (false≢true (sym apart ∙ eq-eqb at pc one))

own_back : (pc at : ℕ) (to : List ℕ) (t : ℕ) → Fits to → (b : Bool) → (at == pc) ≡ b → Has (if b then to else []) t → Has (map (key_of at) to) (key_of pc t) × (t < 4294967296)
own_back pc at to t fits true same has = (subst (λ (n : ℕ). Has (map (key_of at) to) (key_of n t)) (eqb-true at pc same) (map_has (key_of at) to t has), fits_has to t fits has)
own_back pc at to t fits false apart has = absurd has

jump_there : (pc : ℕ) (fact : Fact) → Fits (targets_of fact) → (k : ℕ) → Has (jump_keys fact) k → is_of pc k ≡ true → Has (jumps_stated pc fact) (low k)
jump_there pc (Multibranch at to) fits k has is = own_there pc at to k fits has is (at == pc) refl
jump_there pc (Loop at bound within) fits k has is = absurd has
jump_there pc (Multicall at to) fits k has is = absurd has
jump_there pc (Noreturn at) fits k has is = absurd has
jump_there pc (Checksum name value) fits k has is = absurd has
jump_there pc (Limit left right) fits k has is = absurd has

jump_back : (pc : ℕ) (fact : Fact) → Fits (targets_of fact) → (t : ℕ) → Has (jumps_stated pc fact) t → Has (jump_keys fact) (key_of pc t) × (t < 4294967296)
jump_back pc (Multibranch at to) fits t has = own_back pc at to t fits (at == pc) refl has
jump_back pc (Loop at bound within) fits t has = absurd has
jump_back pc (Multicall at to) fits t has = absurd has
jump_back pc (Noreturn at) fits t has = absurd has
jump_back pc (Checksum name value) fits t has = absurd has
jump_back pc (Limit left right) fits t has = absurd has

call_there : (pc : ℕ) (fact : Fact) → Fits (targets_of fact) → (k : ℕ) → Has (call_keys fact) k → is_of pc k ≡ true → Has (calls_stated pc fact) (low k)
call_there pc (Multicall at to) fits k has is = own_there pc at to k fits has is (at == pc) refl
call_there pc (Loop at bound within) fits k has is = absurd has
call_there pc (Multibranch at to) fits k has is = absurd has
call_there pc (Noreturn at) fits k has is = absurd has
call_there pc (Checksum name value) fits k has is = absurd has
call_there pc (Limit left right) fits k has is = absurd has

call_back : (pc : ℕ) (fact : Fact) → Fits (targets_of fact) → (t : ℕ) → Has (calls_stated pc fact) t → Has (call_keys fact) (key_of pc t) × (t < 4294967296)
call_back pc (Multicall at to) fits t has = own_back pc at to t fits (at == pc) refl has
call_back pc (Loop at bound within) fits t has = absurd has
call_back pc (Multibranch at to) fits t has = absurd has
call_back pc (Noreturn at) fits t has = absurd has
call_back pc (Checksum name value) fits t has = absurd has
call_back pc (Limit left right) fits t has = absurd has

-- functions that don't return
or_true : (b : Bool) → (b || true) ≡ true
or_true true = refl
or_true false = refl

number_has : (n : ℕ) (keys : List ℕ) → has_number n keys ≡ true → Has keys n
number_has n [] is = absurd (false≢true is)
number_has n (k ∷ keys) is = ⊎_elim
    (λ (less : n < k). inr (number_has n keys (ap (λ o. is_eq o || has_number n keys) (nat_cmp_is n k Less less) ∙ is)))
    (λ (more : k ≤ n). ⊎_elim
    (λ (same : k ≡ n). inl same)
    (λ (apart : k ≡ n → ⊥). inr (number_has n keys (ap (λ o. is_eq o || has_number n keys) (nat_cmp_is n k Greater (omega (arith, apart))) ∙ is)))
    (cases_eq k n))
    (cases_lt n k)

has_one : (n : ℕ) (keys : List ℕ) → Has keys n → has_number n keys ≡ true
has_one n [] has = absurd has
has_one n (k ∷ keys) (inl same) = ap (λ o. is_eq o || has_number n keys) (sym (nat_cmp_is n k Equal (sym same)))
has_one n (k ∷ keys) (inr later) = ap (λ b. is_eq (nat_cmp n k) || b) (has_one n keys later) ∙ or_true (is_eq (nat_cmp n k))

noreturn_there : (facts : List Fact) (callee : ℕ) → Has (flat_map noreturn_keys facts) callee → is_noreturn facts callee ≡ true
noreturn_there [] callee has = absurd has
noreturn_there (Noreturn at ∷ facts) callee (inl same) = ap (λ b. b || is_noreturn facts callee) (eq-eqb at callee same)
noreturn_there (Noreturn at ∷ facts) callee (inr later) = ap (λ b. at == callee || b) (noreturn_there facts callee later) ∙ or_true (at == callee)
noreturn_there (Loop at bound within ∷ facts) callee has = noreturn_there facts callee has
noreturn_there (Multibranch at to ∷ facts) callee has = noreturn_there facts callee has
noreturn_there (Multicall at to ∷ facts) callee has = noreturn_there facts callee has
noreturn_there (Checksum name value ∷ facts) callee has = noreturn_there facts callee has
noreturn_there (Limit left right ∷ facts) callee has = noreturn_there facts callee has

first_or : (b : Bool) (at callee : ℕ) (facts : List Fact) → (at == callee) ≡ b → (is_noreturn facts callee ≡ true → Has (flat_map noreturn_keys facts) callee) → (b || is_noreturn facts callee) ≡ true → (at ≡ callee) ⊎ Has (flat_map noreturn_keys facts) callee
first_or true at callee facts same later holds = inl (eqb-true at callee same)
first_or false at callee facts apart later holds = inr (later holds)

noreturn_back : (facts : List Fact) (callee : ℕ) → is_noreturn facts callee ≡ true → Has (flat_map noreturn_keys facts) callee
noreturn_back [] callee is = absurd (false≢true is)
noreturn_back (Noreturn at ∷ facts) callee is = first_or (at == callee) at callee facts refl (λ later. noreturn_back facts callee later) is
noreturn_back (Loop at bound within ∷ facts) callee is = noreturn_back facts callee is
noreturn_back (Multibranch at to ∷ facts) callee is = noreturn_back facts callee is
noreturn_back (Multicall at to ∷ facts) callee is = noreturn_back facts callee is
noreturn_back (Checksum name value ∷ facts) callee is = noreturn_back facts callee is
noreturn_back (Limit left right ∷ facts) callee is = noreturn_back facts callee is

pub same_bool : (s t : Bool) → (s ≡ true → t ≡ true) → (t ≡ true → s ≡ true) → s ≡ t
same_bool true true there back = refl
same_bool true false there back = absurd (false≢true (there refl))
same_bool false true there back = absurd (false≢true (back refl))
same_bool false false there back = refl

module _ (facts : List Fact) (stated : Stated) (are : AreStated facts stated) where
  pub jumps_are : (pc : ℕ) → targets_in stated.jumps.keys pc ≡ jump_targets facts pc
  jumps_are pc = ap (λ (xs : List ℕ). targets_in xs pc) are.jumps ∙ targets_are jump_keys (jumps_stated pc) pc (jump_there pc) (jump_back pc) facts are.fits

  pub calls_are : (pc : ℕ) → targets_in stated.calls.keys pc ≡ call_targets facts pc
  calls_are pc = ap (λ (xs : List ℕ). targets_in xs pc) are.calls ∙ targets_are call_keys (calls_stated pc) pc (call_there pc) (call_back pc) facts are.fits

  pub noreturns_are : (callee : ℕ) → has_number callee stated.noreturns.keys ≡ is_noreturn facts callee
  noreturns_are callee = ap (has_number callee) are.noreturns ∙ same_bool (has_number callee (with_all [] (flat_map noreturn_keys facts))) (is_noreturn facts callee)
      (λ holds. noreturn_there facts callee (⊎_elim (λ (none : ⊥). absurd none) (λ (is : Has (flat_map noreturn_keys facts) callee). is) (all_in [] (flat_map noreturn_keys facts) callee (number_has callee (with_all [] (flat_map noreturn_keys facts)) holds))))
      (λ holds. has_one callee (with_all [] (flat_map noreturn_keys facts)) (in_all [] (flat_map noreturn_keys facts) callee (inr (noreturn_back facts callee holds))))

-- numbers in range, whatever stands for those past the end
pub fits_any : (ts : List ℕ) → ((k : ℕ) → get_or ts k 0 < 4294967296) → Fits ts
fits_any [] all k d less = absurd (omega arith)
fits_any (t ∷ ts) all zero d less = all zero
fits_any (t ∷ ts) all (suc k) d less = fits_any ts (λ j. all (suc j)) k d (omega arith)

-- no fact
pub stated_none : (stated : Stated) → stated.jumps.keys ≡ [] → stated.calls.keys ≡ [] → stated.noreturns.keys ≡ [] → AreStated [] stated
stated_none stated jumps calls noreturns = record { jumps = jumps; calls = calls; noreturns = noreturns; fits = All-nil (λ t. t < 4294967296) }
