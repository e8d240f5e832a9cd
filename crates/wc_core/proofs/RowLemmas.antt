-- The rows of the replay's store: no kind stands twice in one, so there is room for each.
use Rattle.std.proofs.Common.{◌≡◌, ◌≢◌, ℕ, zero, suc, ◌+◌, ◌<◌, ◌≤◌, ◌==◌, ◌&&◌, ◌||◌, Bool, true, false, cond, drop, if◌then◌else◌, List, [], ◌∷◌, ◌++◌, length, map, nat_le, refl, sym, ap, ap₂, ◌∙◌, arith, ⊎_elim}
use Rattle.std.specs.List.{All, list_any, filter}
use Rattle.std.proofs.lemmas.Bool.{and_parts, eq-eqb, eqb-true, eqb-false, false≢true, or_parts}
use Rattle.std.proofs.lemmas.List.Elements.{All-append, All-cons, All-head, All-nil, All-tail, All-weaker}
use Rattle.wc_model.specs.Workspace.Closures.{has_kind}
use Rattle.wc_model.specs.Workspace.Firsts.{change_first, without_first}
use Rattle.wc_model.specs.Workspace.History.{key_with}
use Rattle.wc_model.specs.Workspace.States.{Key, Row, has_key, has_row, in_store, same_name, stored, with_key, with_room}
use Rattle.wc_core.specs.Inner.Stocks.{AreSingle}
use Rattle.wc_core.proofs.CopyLemmas.{same_name_refl}
use Rattle.wc_core.proofs.TestLemmas.{or_cases, or_false}

or_later : (a b : Bool) → b ≡ true → (a || b) ≡ true
or_later true b is = refl
or_later false b is = is

and_false : (a b : Bool) → (a && b) ≡ false → b ≡ true → a ≡ false
and_false true b none is = cc
and_false false b none is = refl

and_right : (a b : Bool) → (a && b) ≡ false → a ≡ true → b ≡ false
and_right true b none is = none
and_right false b none is = cc

-- a row has no key of a kind of which none is stored
no_key : (kind : ℕ) (keys : List (ℕ × ℕ)) → ((s : ℕ) → has_key kind s keys ≡ false) → list_any (λ j. j.0 == kind) keys ≡ false
no_key kind [] none = refl
no_key kind (k ∷ ks) none =
    let here = or_parts (k.0 == kind && k.1 == k.1) (has_key kind k.1 ks) (none k.1) in
    ap₂ (λ a b. a || b) (and_false (k.0 == kind) (k.1 == k.1) here.0 (eq-eqb k.1 k.1 refl))
    (no_key kind ks (λ s. (or_parts (k.0 == kind && k.1 == s) (has_key kind s ks) (none s)).1))

pub no_kind : (kind : ℕ) (name : List ℕ) (rows : List Row) → ((s : ℕ) → in_store (key_with kind name s) rows ≡ false) → All (λ (r : Row). same_name r.name name ≡ true → list_any (λ j. j.0 == kind) r.keys ≡ false) rows
no_kind kind name [] none = All-nil (λ (r : Row). same_name r.name name ≡ true → list_any (λ j. j.0 == kind) r.keys ≡ false)
no_kind kind name (r ∷ rs) none =
    All-cons (λ (x : Row). same_name x.name name ≡ true → list_any (λ j. j.0 == kind) x.keys ≡ false) r rs
    (λ is. no_key kind r.keys (λ s. and_right (same_name r.name name) (has_key kind s r.keys) (or_parts (same_name r.name name && has_key kind s r.keys) (in_store (key_with kind name s) rs) (none s)).0 is))
    (no_kind kind name rs (λ s. (or_parts (same_name r.name name && has_key kind s r.keys) (in_store (key_with kind name s) rs) (none s)).1))

-- what stands in a row is stored
abbrev pub StoresAll : List Row → Row → Type 0
StoresAll rows r = (k s : ℕ) → has_key k s r.keys ≡ true → in_store (key_with k r.name s) rows ≡ true

pub row_stored : (rows : List Row) → All (StoresAll rows) rows
row_stored [] = All-nil (StoresAll [])
row_stored (r ∷ rs) =
    All-cons (StoresAll (r ∷ rs)) r rs (λ k s is. ap₂ (λ a b. (a && b) || in_store (key_with k r.name s) rs) (same_name_refl r.name) is)
    (All-weaker (StoresAll rs) (StoresAll (r ∷ rs)) (λ x all k s is. or_later (same_name r.name x.name && has_key k s r.keys) (in_store (key_with k x.name s) rs) (all k s is)) rs (row_stored rs))

-- a key at the end
any_snoc : (kind : ℕ) (keys : List (ℕ × ℕ)) (k : ℕ × ℕ) → list_any (λ j. j.0 == kind) (keys ++ k ∷ []) ≡ (list_any (λ j. j.0 == kind) keys || (k.0 == kind))
any_snoc kind [] k = or_false (k.0 == kind)
any_snoc kind (j ∷ js) k = ap (λ b. (j.0 == kind) || b) (any_snoc kind js k) ∙ or_assoc (j.0 == kind) (list_any (λ i. i.0 == kind) js) (k.0 == kind) where
  or_assoc : (a b c : Bool) → (a || (b || c)) ≡ ((a || b) || c)
  or_assoc true b c = refl
  or_assoc false b c = refl

pub single_snoc : (keys : List (ℕ × ℕ)) (kind stamp : ℕ) → AreSingle keys → list_any (λ j. j.0 == kind) keys ≡ false → AreSingle (keys ++ (kind, stamp) ∷ [])
single_snoc [] kind stamp single none = (refl, tt)
single_snoc (k ∷ ks) kind stamp single none =
    let both = or_parts (k.0 == kind) (list_any (λ j. j.0 == kind) ks) none in
    (any_snoc k.0 ks (kind, stamp) ∙ ap₂ (λ a b. a || b) single.0 (apart (kind == k.0) refl both.0), single_snoc ks kind stamp single.1 both.1) where
      apart : (b : Bool) → (kind == k.0) ≡ b → (k.0 == kind) ≡ false → (kind == k.0) ≡ false
      apart false is none = is
      apart true is none = absurd (false≢true (sym none ∙ eq-eqb k.0 kind (sym (eqb-true kind k.0 is))))

keys_case : (key : Key) (r : Row) (rs : List Row) (here : Bool) → same_name r.name key.name ≡ here → AreSingle r.keys → (same_name r.name key.name ≡ true → list_any (λ j. j.0 == key.kind) r.keys ≡ false) → All (λ (x : Row). AreSingle x.keys) rs
    → All (λ (x : Row). AreSingle x.keys) (change_first (λ x. same_name x.name key.name) (with_key key) rs) → All (λ (x : Row). AreSingle x.keys) (if here then with_key key r ∷ rs else r ∷ change_first (λ x. same_name x.name key.name) (with_key key) rs)
keys_case key r rs true is single none rest later = All-cons (λ (x : Row). AreSingle x.keys) (with_key key r) rs (single_snoc r.keys key.kind key.stamp single (none is)) rest
keys_case key r rs false is single none rest later = All-cons (λ (x : Row). AreSingle x.keys) r (change_first (λ x. same_name x.name key.name) (with_key key) rs) single later

single_there : (key : Key) (rows : List Row) → All (λ (x : Row). AreSingle x.keys) rows → All (λ (x : Row). same_name x.name key.name ≡ true → list_any (λ j. j.0 == key.kind) x.keys ≡ false) rows → All (λ (x : Row). AreSingle x.keys) (change_first (λ x. same_name x.name key.name) (with_key key) rows)
single_there key [] all none = all
single_there key (r ∷ rs) all none =
    let P : Row → Type 0 = λ x. AreSingle x.keys in
    let N : Row → Type 0 = λ x. same_name x.name key.name ≡ true → list_any (λ j. j.0 == key.kind) x.keys ≡ false in
    keys_case key r rs (same_name r.name key.name) refl (All-head P r rs all) (All-head N r rs none) (All-tail P r rs all) (single_there key rs (All-tail P r rs all) (All-tail N r rs none))

all_room : (P : Row → Type 0) (rows : List Row) (full : Bool) → All P rows → All P (if full then drop 1 rows else rows)
all_room P rows false all = all
all_room P [] true all = all
all_room P (r ∷ rs) true all = All-tail P r rs all

-- after a value is kept
pub single_stored : (key : Key) (rows : List Row) → All (λ (x : Row). AreSingle x.keys) rows → ((s : ℕ) → in_store (key_with key.kind key.name s) rows ≡ false) → All (λ (x : Row). AreSingle x.keys) (stored key rows)
single_stored key rows all none = by (has_row key.name rows) where
  by : (there : Bool) → All (λ (x : Row). AreSingle x.keys) (if there then change_first (λ x. same_name x.name key.name) (with_key key) rows else with_room rows ++ record { name = key.name; keys = (key.kind, key.stamp) ∷ [] } ∷ [])
  by true = single_there key rows all (no_kind key.kind key.name rows none)
  by false = All-append (λ (x : Row). AreSingle x.keys) (with_room rows) (record { name = key.name; keys = (key.kind, key.stamp) ∷ [] } ∷ []) (all_room (λ (x : Row). AreSingle x.keys) rows (nat_le 32 (length rows)) all)
      (All-cons (λ (x : Row). AreSingle x.keys) (record { name = key.name; keys = (key.kind, key.stamp) ∷ [] }) [] (refl, tt) (All-nil (λ (x : Row). AreSingle x.keys)))

-- Keys of different kinds are no more than the kinds.
without_case : (k x : ℕ) (order : List ℕ) (here : Bool) → (here || has_kind k order) ≡ true → (has_kind k order ≡ true → length (without_first (λ o. o == k) order) + 1 ≡ length order) → length (if here then order else x ∷ without_first (λ o. o == k) order) + 1 ≡ length order + 1
without_case k x order true is later = refl
without_case k x order false is later = omega (arith, later is)

length-less : (k : ℕ) (order : List ℕ) → has_kind k order ≡ true → length (without_first (λ o. o == k) order) + 1 ≡ length order
length-less k [] is = cc
length-less k (x ∷ xs) is = let more = without_case k x xs (x == k) is (λ later. length-less k xs later) in omega (arith, more)

others_case : (k j x : ℕ) (order : List ℕ) (here : Bool) → (x == k) ≡ here → (k == j) ≡ false → has_kind j (without_first (λ o. o == k) order) ≡ has_kind j order → has_kind j (if here then order else x ∷ without_first (λ o. o == k) order) ≡ ((x == j) || has_kind j order)
others_case k j x order true is apart later = sym (ap (λ b. b || has_kind j order) (ap (λ y. y == j) (eqb-true x k is) ∙ apart))
others_case k j x order false is apart later = ap (λ b. (x == j) || b) later

others_stay : (k j : ℕ) (order : List ℕ) → (k == j) ≡ false → has_kind j (without_first (λ o. o == k) order) ≡ has_kind j order
others_stay k j [] apart = refl
others_stay k j (x ∷ xs) apart = others_case k j x xs (x == k) refl apart (others_stay k j xs apart)

abbrev AllListed : List (ℕ × ℕ) → List ℕ → Type 0
AllListed keys order = (j : ℕ) → list_any (λ k. k.0 == j) keys ≡ true → has_kind j order ≡ true

pub pigeons : (keys : List (ℕ × ℕ)) (order : List ℕ) → AreSingle keys → AllListed keys order → length keys ≤ length order
pigeons [] order single listed = omega arith
pigeons (k ∷ ks) order single listed =
    let here : has_kind k.0 order ≡ true = listed k.0 (ap (λ b. b || list_any (λ i. i.0 == k.0) ks) (eq-eqb k.0 k.0 refl)) in
    let rest = pigeons ks (without_first (λ o. o == k.0) order) single.1
    (λ j is. others_stay k.0 j order (apart j is (k.0 == j) refl) ∙ listed j (or_later (k.0 == j) (list_any (λ i. i.0 == j) ks) is)) in
    omega (arith, rest, length-less k.0 order here) where
      apart : (j : ℕ) → list_any (λ i. i.0 == j) ks ≡ true → (b : Bool) → (k.0 == j) ≡ b → (k.0 == j) ≡ false
      apart j is false same = same
      apart j is true same = absurd (false≢true (sym single.0 ∙ ap (λ x. list_any (λ i. i.0 == x) ks) (eqb-true k.0 j same) ∙ is))

-- keys with their stamps
stamp_case : (k : ℕ × ℕ) (ks : List (ℕ × ℕ)) (j : ℕ) → (k.0 == j || list_any (λ i. i.0 == j) ks) ≡ true → (list_any (λ i. i.0 == j) ks ≡ true → (s : ℕ) × (has_key j s ks ≡ true)) → (s : ℕ) × (has_key j s (k ∷ ks) ≡ true)
stamp_case k ks j is later =
    ⊎_elim (λ (here : (k.0 == j) ≡ true). (k.1, ap₂ (λ a b. (a && b) || has_key j k.1 ks) here (eq-eqb k.1 k.1 refl)))
    (λ (more : list_any (λ i. i.0 == j) ks ≡ true). let at = later more in (at.0, or_later (k.0 == j && k.1 == at.0) (has_key j at.0 ks) at.1))
    (or_cases (k.0 == j) (list_any (λ i. i.0 == j) ks) is)

pub stamp_of_kind : (ks : List (ℕ × ℕ)) (j : ℕ) → list_any (λ i. i.0 == j) ks ≡ true → (s : ℕ) × (has_key j s ks ≡ true)
stamp_of_kind [] j is = cc
stamp_of_kind (k ∷ ks) j is = stamp_case k ks j is (λ later. stamp_of_kind ks j later)

-- a row in which a kind is missing has fewer keys than there are kinds
pub fewer_keys : (keys : List (ℕ × ℕ)) (kind : ℕ) (order : List ℕ) → AreSingle keys → list_any (λ j. j.0 == kind) keys ≡ false → has_kind kind order ≡ true → ((k s : ℕ) → has_key k s keys ≡ true → has_kind k order ≡ true) → length keys < length order
fewer_keys keys kind order single none among listed =
    pigeons ((kind, 0) ∷ keys) order (none, single)
    (λ j is. ⊎_elim (λ (here : (kind == j) ≡ true). ap (λ x. has_kind x order) (sym (eqb-true kind j here)) ∙ among)
    (λ (later : list_any (λ i. i.0 == j) keys ≡ true). let at = stamp_of_kind keys j later in listed j at.0 at.1)
    (or_cases (kind == j) (list_any (λ i. i.0 == j) keys) is))

-- an edit takes keys out
cut_single_case : (q : ℕ → Bool) (k : ℕ × ℕ) (ks : List (ℕ × ℕ)) (stays : Bool) → list_any (λ j. j.0 == k.0) ks ≡ false → AreSingle (filter (λ j. q j.0) ks) → AreSingle (cond stays (k ∷ filter (λ j. q j.0) ks) (filter (λ j. q j.0) ks))
cut_single_case q k ks true none later = (gone ks none, later) where
  gone_case : (j : ℕ × ℕ) (js : List (ℕ × ℕ)) (b : Bool) → (j.0 == k.0) ≡ false → list_any (λ i. i.0 == k.0) (filter (λ i. q i.0) js) ≡ false → list_any (λ i. i.0 == k.0) (cond b (j ∷ filter (λ i. q i.0) js) (filter (λ i. q i.0) js)) ≡ false
  gone_case j js true here rest = ap₂ (λ a b. a || b) here rest
  gone_case j js false here rest = rest

  gone : (js : List (ℕ × ℕ)) → list_any (λ j. j.0 == k.0) js ≡ false → list_any (λ j. j.0 == k.0) (filter (λ j. q j.0) js) ≡ false
  gone [] is = refl
  gone (j ∷ js) is = let both = or_parts (j.0 == k.0) (list_any (λ i. i.0 == k.0) js) is in gone_case j js (q j.0) both.0 (gone js both.1)
cut_single_case q k ks false none later = later

pub cut_single : (q : ℕ → Bool) (keys : List (ℕ × ℕ)) → AreSingle keys → AreSingle (filter (λ j. q j.0) keys)
cut_single q [] single = tt
cut_single q (k ∷ ks) single = cut_single_case q k ks (q k.0) single.0 (cut_single q ks single.1)
