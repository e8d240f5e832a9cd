-- Sets as digital search trees: what a key's way tells, and one more key.
use Rattle.std.proofs.Common.{ℕ, ◌≡◌, ◌+◌, ◌<◌, ◌≤◌, ◌/◌, ◌%◌, ◌==◌, ◌⊎◌, inl, inr, ⊎_elim, Bool, true, false, if◌then◌else◌, List, [], ◌∷◌, ◌++◌, append-nil, length-append, Option, None, Some, length, refl, sym, ap, subst, ◌∙◌, arith, append_assoc}
use Rattle.std.specs.List.{slice_get}
use Rattle.std.proofs.lemmas.Bool.{true≢false}
use Rattle.std.proofs.lemmas.List.{length_push}
use Rattle.std.proofs.lemmas.Option.{none-some, same_Some, slice_get_within}
use Rattle.wc_model.proofs.Places.{get_left, get_push, get_push_cases, get_within}
use Rattle.wc_graph.specs.declared.keys.Branch.{Branch}
use Rattle.wc_graph.specs.Inner.Keys.{AreBranches, IsIn, here, below, HasKey, after, child, with_child}

pub none_in : (bs : List Branch) (key : ℕ) {digits : ℕ} {r : Option ℕ} → r ≡ None → IsIn bs key digits r → ⊥
none_in bs key is (here k b at same) = none-some k (sym is)
none_in bs key is (below k b at rest) = none-some k (sym is)

pub in_cases : (bs : List Branch) (key : ℕ) {digits : ℕ} {r : Option ℕ} (k : ℕ) (b : Branch) → r ≡ Some k → slice_get bs k ≡ Some b → IsIn bs key digits r → (b.key ≡ key) ⊎ IsIn bs key (digits / 2) (child b digits)
in_cases bs key k b is at (here j c at_j same) =
    let one : c ≡ b = same_Some c b (sym at_j ∙ ap (slice_get bs) (same_Some j k is) ∙ at) in
    inl (ap (λ (x : Branch). x.key) (sym one) ∙ same)
in_cases bs key {digits} k b is at (below j c at_j rest) =
    let one : c ≡ b = same_Some c b (sym at_j ∙ ap (slice_get bs) (same_Some j k is) ∙ at) in
    inr (subst (λ (x : Branch). IsIn bs key (digits / 2) (child x digits)) one rest)

pub in_grown : (old more : List Branch) (key : ℕ) {digits : ℕ} {r : Option ℕ} → IsIn old key digits r → IsIn (old ++ more) key digits r
in_grown old more key (here k b at same) = here k b (get_left old more k b at) same
in_grown old more key (below k b at rest) = below k b (get_left old more k b at) (in_grown old more key rest)

pub get_front : {X : Type 0} (old more : List X) (k : ℕ) (x : X) → k < length old → slice_get (old ++ more) k ≡ Some x → slice_get old k ≡ Some x
get_front old more k x less at =
    let found = get_within old k less in
    found.1 ∙ sym (get_left old more k found.0 found.1) ∙ at

pub child_below : (bs : List Branch) (k : ℕ) (b : Branch) (digits : ℕ) → AreBranches bs → slice_get bs k ≡ Some b → after (child b digits) ≤ k
child_below bs k b digits are at = by (digits % 2 == 0)
  where
    by : (t : Bool) → after (if t then b.low else b.high) ≤ k
    by true = (are k b at).0
    by false = (are k b at).1

pub in_shrunk : (old more : List Branch) (key : ℕ) {digits : ℕ} {r : Option ℕ} → AreBranches old → after r ≤ length old → IsIn (old ++ more) key digits r → IsIn old key digits r
in_shrunk old more key are less (here k b at same) = here k b (get_front old more k b (omega arith) at) same
in_shrunk old more key {digits} are less (below k b at rest) =
    let at_old : slice_get old k ≡ Some b = get_front old more k b (omega arith) at in
    let lower : after (child b digits) ≤ k = child_below old k b digits are at_old in
    below k b at_old (in_shrunk old more key are (omega arith) rest)

-- the new part is met by exactly the keys with this digit
abbrev pick : Branch → Bool → Option ℕ
pick b t = if t then b.low else b.high

abbrev put : Branch → Bool → ℕ → Branch
put b t part = if t then record { key = b.key; low = Some part; high = b.high } else record { key = b.key; low = b.low; high = Some part }

part_cases : (b : Branch) (u v : Bool) (part : ℕ) → ((v ≡ u) × (pick (put b u part) v ≡ Some part)) ⊎ ((v ≡ u → ⊥) × (pick (put b u part) v ≡ pick b v))
part_cases b true true part = inl (refl, refl)
part_cases b true false part = inr (λ e. true≢false (sym e), refl)
part_cases b false true part = inr (λ e. true≢false e, refl)
part_cases b false false part = inl (refl, refl)

abbrev IsPart : Branch → ℕ → ℕ → ℕ → Type 0
IsPart b digits others part = (((others % 2 == 0) ≡ (digits % 2 == 0)) × (child (with_child b digits part) others ≡ Some part)) ⊎ (((others % 2 == 0) ≡ (digits % 2 == 0) → ⊥) × (child (with_child b digits part) others ≡ child b others))

is_part : (b : Branch) (digits others part : ℕ) → IsPart b digits others part
is_part b digits others part = part_cases b (digits % 2 == 0) (others % 2 == 0) part

are_more : (bs : List Branch) (c : Branch) → AreBranches bs → after c.low ≤ length bs → after c.high ≤ length bs → AreBranches (bs ++ c ∷ [])
are_more bs c are low high k b at = ⊎_elim
    (λ (old : slice_get bs k ≡ Some b). are k b old)
    (λ (new : (k ≡ length bs) × (c ≡ b)). subst (λ (x : Branch). (after x.low ≤ k) × (after x.high ≤ k)) new.1 (omega (arith, new.0), omega (arith, new.0)))
    (get_push_cases bs c k b at)

abbrev no_part : Option ℕ
no_part = None

-- a set of one key
pub alone : (bs : List Branch) (root : Option ℕ) (key digits : ℕ) → AreBranches bs → root ≡ None → HasKey bs (bs ++ (record { key = key; low = None; high = None }) ∷ []) root key digits (length bs)
alone bs root key digits are none =
    let c : Branch = record { key = key; low = None; high = None } in
    record {
      more = c ∷ [];
      grown = refl;
      are = are_more bs c are (omega arith) (omega arith);
      inside = omega (arith, length_push bs c);
      is = λ other others agree. (
        λ (is : IsIn (bs ++ c ∷ []) other others (Some (length bs))). ⊎_elim
            (λ (same : key ≡ other). inr (sym same))
            (λ (rest : IsIn (bs ++ c ∷ []) other (others / 2) (child c others)). absurd (none_in (bs ++ c ∷ []) other (no_child others) rest))
            (in_cases (bs ++ c ∷ []) other (length bs) c refl (get_push bs c) is),
        λ either. ⊎_elim
            (λ (old : IsIn bs other others root). absurd (none_in bs other none old))
            (λ (same : other ≡ key). here (length bs) c (get_push bs c) (sym same))
            either,
      );
    }
  where
    no_child : (others : ℕ) → child (record { key = key; low = None; high = None }) others ≡ None
    no_child others = by (others % 2 == 0)
      where
        by : (t : Bool) → (if t then None else None) ≡ no_part
        by true = refl
        by false = refl

-- the key is there already
pub found : (bs : List Branch) (root : Option ℕ) (key digits number : ℕ) (b : Branch) → AreBranches bs → root ≡ Some number → slice_get bs number ≡ Some b → b.key ≡ key → HasKey bs bs root key digits number
found bs root key digits number b are is at same =
    record {
      more = [];
      grown = sym (append-nil bs);
      are = are;
      inside = slice_get_within bs number b at;
      is = λ other others agree. (
        λ (in_it : IsIn bs other others (Some number)). inl (subst (IsIn bs other others) (sym is) in_it),
        λ either. ⊎_elim
            (λ (old : IsIn bs other others root). subst (IsIn bs other others) is old)
            (λ (one : other ≡ key). here number b at (same ∙ sym one))
            either,
      );
    }

-- one more key in a part
module _ (old new : List Branch) (root : Option ℕ) (key digits number part : ℕ) (b : Branch) (are : AreBranches old) (is : root ≡ Some number) (at : slice_get old number ≡ Some b) (has : HasKey old new (child b digits) key (digits / 2) part) where
  abbrev c : Branch
  c = with_child b digits part

  abbrev all : List Branch
  all = new ++ c ∷ []

  c_key : c.key ≡ b.key
  c_key = by (digits % 2 == 0)
    where
      by : (t : Bool) → (put b t part).key ≡ b.key
      by true = refl
      by false = refl

  old_below : (after b.low ≤ length new) × (after b.high ≤ length new)
  old_below =
      let parts = are number b at in
      let less : number < length old = slice_get_within old number b at in
      let longer : length new ≡ length old + length has.more = ap length has.grown ∙ length-append old has.more in
      (omega (arith, parts.0), omega (arith, parts.1))

  c_below : (after c.low ≤ length new) × (after c.high ≤ length new)
  c_below = by (digits % 2 == 0)
    where
      by : (t : Bool) → (after (put b t part).low ≤ length new) × (after (put b t part).high ≤ length new)
      by true = (omega (arith, has.inside), old_below.1)
      by false = (old_below.0, omega (arith, has.inside))

  all_is : all ≡ old ++ (has.more ++ c ∷ [])
  all_is = ap (λ (xs : List Branch). xs ++ c ∷ []) has.grown ∙ append_assoc old has.more (c ∷ [])

  at_end : slice_get all (length new) ≡ Some c
  at_end = get_push new c

  -- back to the part of the old set
  module _ (other others : ℕ) (agree : other ≡ key → others ≡ digits) where
    halves : other ≡ key → others / 2 ≡ digits / 2
    halves same = ap (λ (n : ℕ). n / 2) (agree same)

    in_part : ((others % 2 == 0) ≡ (digits % 2 == 0)) → child c others ≡ Some part → IsIn all other (others / 2) (child c others) → IsIn old other others root ⊎ (other ≡ key)
    in_part same leads rest =
        let there : IsIn new other (others / 2) (Some part) = in_shrunk new (c ∷ []) other has.are (omega (arith, has.inside)) (subst (IsIn all other (others / 2)) leads rest) in
        ⊎_elim
        (λ (before : IsIn old other (others / 2) (child b digits)). inl (subst (IsIn old other others) (sym is) (below number b at (subst (IsIn old other (others / 2)) (ap (pick b) (sym same)) before))))
        (λ (one : other ≡ key). inr one)
        ((has.is other (others / 2) halves).0 there)

    in_rest : child c others ≡ child b others → IsIn all other (others / 2) (child c others) → IsIn old other others root
    in_rest leads rest =
        let lower : after (child b others) ≤ number = child_below old number b others are at in
        let less : number < length old = slice_get_within old number b at in
        let there : IsIn old other (others / 2) (child b others) = in_shrunk old (has.more ++ c ∷ []) other are (omega arith) (subst (λ (xs : List Branch). IsIn xs other (others / 2) (child b others)) all_is (subst (IsIn all other (others / 2)) leads rest)) in
        subst (IsIn old other others) (sym is) (below number b at there)

    back : IsIn all other others (Some (length new)) → IsIn old other others root ⊎ (other ≡ key)
    back in_it = ⊎_elim
        (λ (same : c.key ≡ other). inl (subst (IsIn old other others) (sym is) (here number b at (sym c_key ∙ same))))
        (λ (rest : IsIn all other (others / 2) (child c others)). ⊎_elim (λ into. in_part into.0 into.1 rest) (λ past. inl (in_rest past.1 rest)) (is_part b digits others part))
        (in_cases all other (length new) c refl at_end in_it)

    through : IsIn new other (others / 2) (Some part) → (others % 2 == 0) ≡ (digits % 2 == 0) → IsIn all other others (Some (length new))
    through there same = ⊎_elim
        (λ into. below (length new) c at_end (subst (IsIn all other (others / 2)) (sym into.1) (in_grown new (c ∷ []) other there)))
        (λ past. absurd (past.0 same))
        (is_part b digits others part)

    kept : IsIn old other others root → IsIn all other others (Some (length new))
    kept in_it = ⊎_elim
        (λ (same : b.key ≡ other). here (length new) c at_end (c_key ∙ same))
        (λ (rest : IsIn old other (others / 2) (child b others)). ⊎_elim
        (λ into. through ((has.is other (others / 2) halves).1 (inl (subst (IsIn old other (others / 2)) (ap (pick b) into.0) rest))) into.0)
        (λ past. below (length new) c at_end (subst (IsIn all other (others / 2)) (sym past.1) (subst (λ (xs : List Branch). IsIn xs other (others / 2) (child b others)) (sym all_is) (in_grown old (has.more ++ c ∷ []) other rest))))
        (is_part b digits others part))
        (in_cases old other number b is at in_it)

    added : other ≡ key → IsIn all other others (Some (length new))
    added same = through ((has.is other (others / 2) halves).1 (inr same)) (ap (λ (n : ℕ). n % 2 == 0) (agree same))

  pub deeper : HasKey old all root key digits (length new)
  deeper =
      record {
        more = has.more ++ c ∷ [];
        grown = all_is;
        are = are_more new c has.are c_below.0 c_below.1;
        inside = omega (arith, length_push new c);
        is = λ other others agree. (back other others agree, λ either. ⊎_elim (kept other others agree) (added other others agree) either);
      }
