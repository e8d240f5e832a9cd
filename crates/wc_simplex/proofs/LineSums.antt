-- Sums over the lines of a system, each as often as its price says.
use Rattle.std.proofs.Common.{◌≡◌, ℕ, zero, suc, ◌+◌, ◌-◌, ◌<◌, ◌≤◌, ◌==◌, ◌||◌, not, ℤ, pos, ◌+ℤ◌, ◌-ℤ◌, ◌*ℤ◌, neg_ℤ, ◌≤ℤ◌, Bool, true, false, if◌then◌else◌, List, [], ◌∷◌, ◌++◌, map, get_or, take, drop, length, inl, inr, ◌⊎◌, Option, None, Some, option_and_then, option_map, refl, sym, ap, ap₂, subst, ◌∙◌, arith}
use Rattle.std.specs.List.{filter, range_with_len}
use Rattle.std.proofs.Math.IntN.{*ℤ-zero, zero-*ℤ, *ℤ_comm}
use Rattle.std.proofs.lemmas.Bool.{cases_eq, eq-eqb, ne_eqb, or_parts}
use Rattle.std.proofs.lemmas.Int.{ints}
use Rattle.std.proofs.lemmas.List.{get_or-append_right, get_or_append_left, length-append, length-map, length-replicate, get_or-replicate, get_or-map}
use Rattle.std.proofs.lemmas.List.FromFn.{get_or-range_with_len, length-range_with_len}
use Rattle.std.proofs.lemmas.Option.{same_Some}
use Rattle.wc_base.specs.Sums.{chosen, sum_in, sum_placed}
use Rattle.wc_base.proofs.Products.{neg_times, spread_left, spread_sub, times_neg, times_one}
use Rattle.wc_base.proofs.SumLemmas.{sum_add, sum_scale, sum_zero}
use Rattle.wc_dual.proofs.DualityLemmas.{turned}
use Rattle.wc_model.specs.declared.flow_system.System.{System}
use Rattle.wc_model.specs.declared.flow_system.SystemLimit.{SystemLimit}
use Rattle.wc_model.specs.declared.flow_system.SystemLoop.{SystemLoop}
use Rattle.wc_model.specs.declared.flow_system.SystemStep.{SystemStep}
use Rattle.wc_model.specs.Flow.Certificates.{ahead_of, back_price, entry_price, factor_of, limit_price}
use Rattle.wc_model.specs.Flow.Exact.{add_exact, each_of, sum_exact}
use Rattle.wc_model.specs.Flow.Places.{IsOnce, is_listed}
use Rattle.wc_model.specs.Flow.RowMachine.{entry}
use Rattle.wc_model.specs.Flow.RowResults.{numbered, price_ahead, price_of}
use Rattle.wc_model.specs.Flow.Systems.{leads_to}
use Rattle.wc_model.specs.Flow.Tableaus.{Half, Line, column_entry, count_slacks, limit_line, loop_line, no_step, node_line, one_if, slack_entries, step_entry, unit_row, whole_row, whole_rows}
use Rattle.wc_simplex.proofs.BeginLemmas.{no_half, parted_real, parted_side}
use Rattle.wc_simplex.proofs.ExactLemmas.{kept_is}
use Rattle.wc_simplex.proofs.GoalLemmas.{priced_sum}
use Rattle.wc_simplex.proofs.StartLemmas.{AreHalves, IsHalf, each_length, turn}

-- exact sums and lists are the plain ones
pub sum_is : {X : Type 0} (f : X → ℤ) (acc : ℤ) (xs : List X) (v : ℤ) → sum_exact acc (map f xs) ≡ Some v → v ≡ acc +ℤ sum_in f xs
sum_is f acc [] v is = omega (arith, ints, same_Some acc v is)
sum_is {X} f acc (x ∷ xs) v is = by (add_exact acc (f x)) refl (λ sum e. sum_is f sum xs v e) is
  where
    by : (o : Option ℤ) → add_exact acc (f x) ≡ o → ((sum : ℤ) → sum_exact sum (map f xs) ≡ Some v → v ≡ sum +ℤ sum_in f xs)
        → option_and_then (λ sum. sum_exact sum (map f xs)) o ≡ Some v → v ≡ acc +ℤ (f x +ℤ sum_in f xs)
    by None p go e = absurd (cc)
    by (Some sum) p go e = omega (arith, ints, go sum e, (kept_is (acc +ℤ f x) sum p).0)

pub each_at : {X Y : Type 0} (f : X → Option Y) (xs : List X) (ys : List Y) (k : ℕ) (d : X) (e : Y) → each_of f xs ≡ Some ys → k < length xs → f (get_or xs k d) ≡ Some (get_or ys k e)
each_at f [] ys k d e is within = absurd (omega arith)
each_at {X} {Y} f (x ∷ xs) ys k d e is within = by (f x) refl (each_of f xs) refl (λ zs m few p. each_at f xs zs m d e p few) is k within
  where
    by : (o : Option Y) → f x ≡ o → (l : Option (List Y)) → each_of f xs ≡ l → ((zs : List Y) (m : ℕ) → m < length xs → each_of f xs ≡ Some zs → f (get_or xs m d) ≡ Some (get_or zs m e))
        → option_and_then (λ z. option_map (λ zs. z ∷ zs) l) o ≡ Some ys → (m : ℕ) → m < suc (length xs) → f (get_or (x ∷ xs) m d) ≡ Some (get_or ys m e)
    by None p l q go r m few = absurd (cc)
    by (Some z) p None q go r m few = absurd (cc)
    by (Some z) p (Some zs) q go r zero few = p ∙ ap (λ (l : List Y). Some (get_or l 0 e)) (same_Some (z ∷ zs) ys r)
    by (Some z) p (Some zs) q go r (suc m) few = go zs m (omega arith) q ∙ ap (λ (l : List Y). Some (get_or l (suc m) e)) (same_Some (z ∷ zs) ys r)

abbrev pub line_value : System → Line → List ℕ → ℤ
line_value s l column = sum_in (step_entry s l) column

-- Sums over lines, of what may depend on the slack column.
abbrev pub own_sum : (ℕ → ℤ) → ℕ → ℕ → List Line → (ℕ → Line → ℤ) → ℤ
own_sum q k own [] f = pos 0
own_sum q k own (l ∷ ls) f = q k *ℤ f own l +ℤ own_sum q (suc k) (if l.slack then suc own else own) ls f

abbrev pub line_sum : (ℕ → ℤ) → ℕ → List Line → (Line → ℤ) → ℤ
line_sum q k [] f = pos 0
line_sum q k (l ∷ ls) f = q k *ℤ f l +ℤ line_sum q (suc k) ls f

pub own_line : (q : ℕ → ℤ) (k own : ℕ) (ls : List Line) (f : Line → ℤ) → own_sum q k own ls (λ o l. f l) ≡ line_sum q k ls f
own_line q k own [] f = refl
own_line q k own (l ∷ ls) f = ap (λ z. q k *ℤ f l +ℤ z) (own_line q (suc k) (if l.slack then suc own else own) ls f)

turn_product : (b : Bool) (p x : ℤ) → p *ℤ turn b x ≡ turn b p *ℤ x
turn_product true p x = times_neg p x ∙ sym (neg_times p x)
turn_product false p x = refl

-- The prices are turned where their rows were negated.
abbrev pub AreTurned : (ℕ → ℤ) → (ℕ → ℤ) → ℕ → List Half → Type 0
AreTurned p q k hs = (i : ℕ) → i < length hs → q (k + i) ≡ turn (get_or hs i no_half).negated (p (k + i))

turned_tail : (p q : ℕ → ℤ) (k : ℕ) (h : Half) (hs : List Half) → AreTurned p q k (h ∷ hs) → AreTurned p q (suc k) hs
turned_tail p q k h hs are i within =
    let more : k + suc i ≡ suc k + i = omega arith in
    subst (λ (n : ℕ). q n ≡ turn (get_or hs i no_half).negated (p n)) more (are (suc i) (omega (arith, within)))

pub halves_priced : (s : System) (columns : List (List ℕ)) (slacks n m : ℕ) (f : ℕ → Line → ℤ) (p q : ℕ → ℤ)
    → ((own place : ℕ) (l : Line) (h : Half) → IsHalf s columns slacks own l h → entry (whole_row n place h) m ≡ turn h.negated (f own l))
    → (k own place : ℕ) (ls : List Line) (hs : List Half) → AreHalves s columns slacks own ls hs → AreTurned p q k hs → priced_sum p k (whole_rows n place hs) m ≡ own_sum q k own ls f
halves_priced s columns slacks n m f p q each k own place [] [] are turned = refl
halves_priced s columns slacks n m f p q each k own place [] (h ∷ hs) are turned = absurd are
halves_priced s columns slacks n m f p q each k own place (l ∷ ls) [] are turned = absurd are
halves_priced s columns slacks n m f p q each k own place (l ∷ ls) (h ∷ hs) are turned =
    let here : k + 0 ≡ k = omega arith in
    let own_turned : q k ≡ turn h.negated (p k) = subst (λ (i : ℕ). q i ≡ turn h.negated (p i)) here (turned 0 (omega arith)) in
    ap₂ (λ x y. x +ℤ y)
    (ap (λ z. p k *ℤ z) (each own place l h are.0) ∙ turn_product h.negated (p k) (f own l) ∙ ap (λ z. z *ℤ f own l) (sym own_turned))
    (halves_priced s columns slacks n m f p q each (suc k) (if l.slack then suc own else own) (suc place) ls hs are.1 (turned_tail p q k h hs turned))

-- the slack entry of a line
abbrev pub slack_at : ℕ → ℕ → Line → ℤ
slack_at m own l = if l.slack then one_if (m == own) else pos 0

module _ (s : System) (columns : List (List ℕ)) (slacks n : ℕ) (own place : ℕ) (l : Line) (h : Half) (is : IsHalf s columns slacks own l h) where
  real_at : (m : ℕ) → m < length columns + slacks → entry (whole_row n place h) m ≡ turn h.negated (entry (is.entries ++ slack_entries slacks own l.slack) m)
  real_at m within =
      parted_real h.real (unit_row n place) h.side (pos 0) (length columns + slacks) (length columns + slacks + length (unit_row n place)) is.wide refl m within ∙ is.real m

  entries_wide : length is.entries ≡ length columns
  entries_wide = each_length (column_entry s l) columns is.entries is.are

  pub at_column : (j : ℕ) → j < length columns → entry (whole_row n place h) j ≡ turn h.negated (line_value s l (get_or columns j []))
  at_column j within =
      real_at j (omega (arith, within))
      ∙ ap (turn h.negated)
      (get_or_append_left is.entries (slack_entries slacks own l.slack) (pos 0) j (omega (arith, within, entries_wide))
      ∙ sum_is (step_entry s l) (pos 0) (get_or columns j []) (entry is.entries j) (each_at (column_entry s l) columns is.entries j [] (pos 0) is.are within)
      ∙ zero_add (line_value s l (get_or columns j [])))
    where
      zero_add : (z : ℤ) → pos 0 +ℤ z ≡ z
      zero_add z = omega (arith, ints)

  slack_entry : (m : ℕ) (b : Bool) → m < slacks → entry (slack_entries slacks own b) m ≡ (if b then one_if (m == own) else pos 0)
  slack_entry m true within =
      let at : 0 + m ≡ m = omega arith in
      get_or-map (λ i. one_if (i == own)) (range_with_len 0 slacks) m 0 (pos 0) (omega (arith, within, length-range_with_len 0 slacks))
      ∙ ap (λ i. one_if (i == own)) (get_or-range_with_len 0 slacks m 0 within ∙ at)
  slack_entry m false within = get_or-replicate slacks m (pos 0) (pos 0) within

  pub at_slack : (m : ℕ) → m < slacks → entry (whole_row n place h) (length columns + m) ≡ turn h.negated (slack_at m own l)
  at_slack m within =
      let at : length columns + m - length columns ≡ m = omega arith in
      real_at (length columns + m) (omega (arith, within))
      ∙ ap (turn h.negated)
      (get_or-append_right is.entries (slack_entries slacks own l.slack) (length columns) (length columns + m) (pos 0) entries_wide (omega arith)
      ∙ ap (λ i. entry (slack_entries slacks own l.slack) i) at ∙ slack_entry m l.slack within)

  pub at_side : entry (whole_row n place h) (length columns + slacks + n) ≡ turn h.negated l.side
  at_side =
      parted_side h.real (unit_row n place) h.side (pos 0) (length columns + slacks) (length columns + slacks + n) is.wide
      (ap (λ i. length columns + slacks + i) (length-map (range_with_len 0 n) (λ i. one_if (i == place)) ∙ length-range_with_len 0 n)) ∙ is.side

-- A slack column stands in one line alone, so its sum is the line's price.
abbrev pub SlacksPriced : (ℕ → ℤ) → ℕ → List Line → Type 0
SlacksPriced q k [] = Unit {0}
SlacksPriced q k (l ∷ ls) = (l.slack ≡ true → pos 0 ≤ℤ q k) × SlacksPriced q (suc k) ls

slack_below : (q : ℕ → ℤ) (k own m : ℕ) (ls : List Line) → m < own → own_sum q k own ls (slack_at m) ≡ pos 0
slack_below q k own m [] few = refl
slack_below q k own m (l ∷ ls) few = by l.slack (λ next far. slack_below q (suc k) next m ls far)
  where
    by : (b : Bool) → ((next : ℕ) → m < next → own_sum q (suc k) next ls (slack_at m) ≡ pos 0)
        → q k *ℤ (if b then one_if (m == own) else pos 0) +ℤ own_sum q (suc k) (if b then suc own else own) ls (slack_at m) ≡ pos 0
    by true go =
        omega (arith, ints, ap (λ b. q k *ℤ one_if b) (ne_eqb m own (λ same. omega (arith, few, same))), *ℤ-zero (q k), go (suc own) (omega (arith, few)))
    by false go = omega (arith, ints, *ℤ-zero (q k), go own few)

pub slack_prices : (q : ℕ → ℤ) (k own slacks : ℕ) (ls : List Line) → own + count_slacks ls ≤ slacks → ((m : ℕ) → m < slacks → own ≤ m → pos 0 ≤ℤ own_sum q k own ls (slack_at m)) → SlacksPriced q k ls
slack_prices q k own slacks [] few each = tt
slack_prices q k own slacks (l ∷ ls) few each = by l.slack refl few each (λ next fits sums. slack_prices q (suc k) next slacks ls fits sums)
  where
    by : (b : Bool) → l.slack ≡ b → own + (if b then suc (count_slacks ls) else count_slacks ls) ≤ slacks
        → ((m : ℕ) → m < slacks → own ≤ m → pos 0 ≤ℤ (q k *ℤ (if b then one_if (m == own) else pos 0) +ℤ own_sum q (suc k) (if b then suc own else own) ls (slack_at m)))
        → ((next : ℕ) → next + count_slacks ls ≤ slacks → ((m : ℕ) → m < slacks → next ≤ m → pos 0 ≤ℤ own_sum q (suc k) next ls (slack_at m)) → SlacksPriced q (suc k) ls)
        → (l.slack ≡ true → pos 0 ≤ℤ q k) × SlacksPriced q (suc k) ls
    by true is fits sums go = (
      λ slack. omega (arith, ints, sums own (omega (arith, fits)) (omega arith), ap (λ b. q k *ℤ one_if b) (eq-eqb own own refl), times_one (q k), slack_below q (suc k) (suc own) own ls (omega arith)),
      go (suc own) (omega (arith, fits)) (λ m within past. omega (
        arith,
        ints,
        sums m within (omega (arith, past)),
        ap (λ b. q k *ℤ one_if b) (ne_eqb m own (λ same. omega (arith, past, same))),
        *ℤ-zero (q k),
      )),
    )
    by false is fits sums go = (
      λ slack. absurd (cc),
      go own fits (λ m within past. omega (arith, ints, sums m within past, *ℤ-zero (q k))),
    )

-- Lines in a row.
pub line_append : (q : ℕ → ℤ) (k : ℕ) (front back : List Line) (f : Line → ℤ) → line_sum q k (front ++ back) f ≡ line_sum q k front f +ℤ line_sum q (k + length front) back f
line_append q k [] back f =
    let here : k + 0 ≡ k = omega arith in
    omega (arith, ints, ap (λ n. line_sum q n back f) here)
line_append q k (l ∷ front) back f =
    let more : k + suc (length front) ≡ suc k + length front = omega arith in
    omega (arith, ints, line_append q (suc k) front back f, ap (λ n. line_sum q n back f) more)

pub slacks_priced_append : (q : ℕ → ℤ) (k : ℕ) (front back : List Line) → SlacksPriced q k (front ++ back) → SlacksPriced q (k + length front) back
slacks_priced_append q k [] back are =
    let here : k ≡ k + 0 = omega arith in
    subst (λ (n : ℕ). SlacksPriced q n back) here are
slacks_priced_append q k (l ∷ front) back are =
    let more : suc k + length front ≡ k + suc (length front) = omega arith in
    subst (λ (n : ℕ). SlacksPriced q n back) more (slacks_priced_append q (suc k) front back are.1)

pub slacks_priced_at : {X : Type 0} (line : X → Line) (q : ℕ → ℤ) (k : ℕ) (xs : List X) (i : ℕ) → ((x : X) → (line x).slack ≡ true) → SlacksPriced q k (map line xs) → i < length xs → pos 0 ≤ℤ q (k + i)
slacks_priced_at line q k [] i slack are within = absurd (omega arith)
slacks_priced_at line q k (x ∷ xs) zero slack are within =
    let here : k ≡ k + 0 = omega arith in
    subst (λ (n : ℕ). pos 0 ≤ℤ q n) here (are.0 (slack x))
slacks_priced_at line q k (x ∷ xs) (suc i) slack are within =
    let more : suc k + i ≡ k + suc i = omega arith in
    subst (λ (n : ℕ). pos 0 ≤ℤ q n) more (slacks_priced_at line q (suc k) xs i slack are.1 (omega arith))

-- a column's sum of the lines is the sum of its steps' sums
pub line_swap : (s : System) (q : ℕ → ℤ) (k : ℕ) (ls : List Line) (column : List ℕ) → line_sum q k ls (λ l. line_value s l column) ≡ sum_in (λ i. line_sum q k ls (λ l. step_entry s l i)) column
line_swap s q k [] column = sym (sum_zero (λ i x. pos 0) column (λ i x at. refl))
line_swap s q k (l ∷ ls) column =
    ap₂ (λ x y. x +ℤ y) (sym (sum_scale (q k) (λ i x. step_entry s l x) column)) (line_swap s q (suc k) ls column)
    ∙ sym (sum_add (λ i x. q k *ℤ step_entry s l x) (λ i x. line_sum q (suc k) ls (λ o. step_entry s o x)) column)

-- The lines of nodes.
pub price_unlisted : (p : ℕ) (qs : List ℕ) (xs : List ℤ) → is_listed p qs ≡ false → price_of (numbered qs xs) p ≡ pos 0
price_unlisted p [] xs none = refl
price_unlisted p (q ∷ qs) [] none = refl
price_unlisted p (q ∷ qs) (x ∷ xs) none =
    let parts : ((p == q) ≡ false) × (is_listed p qs ≡ false) = or_parts (p == q) (is_listed p qs) none in
    ap (λ b. if b then x else price_of (numbered qs xs) p) (turned p q ∙ parts.0) ∙ price_unlisted p qs xs parts.1

price_split : (q p : ℕ) (x : ℤ) (qs : List ℕ) (xs : List ℤ) → is_listed q qs ≡ false → (if q == p then x else price_of (numbered qs xs) p) ≡ x *ℤ one_if (p == q) +ℤ price_of (numbered qs xs) p
price_split q p x qs xs none = by (cases_eq q p)
  where
    by : (q ≡ p) ⊎ (q ≡ p → ⊥) → (if q == p then x else price_of (numbered qs xs) p) ≡ x *ℤ one_if (p == q) +ℤ price_of (numbered qs xs) p
    by (inl same) =
        ap (λ b. if b then x else price_of (numbered qs xs) p) (eq-eqb q p same)
        ∙ omega (arith, ints, ap (λ b. x *ℤ one_if b) (eq-eqb p q (sym same)), times_one x, subst (λ n. price_of (numbered qs xs) n ≡ pos 0) same (price_unlisted q qs xs none))
    by (inr apart) =
        ap (λ b. if b then x else price_of (numbered qs xs) p) (ne_eqb q p apart)
        ∙ omega (arith, ints, ap (λ b. x *ℤ one_if b) (ne_eqb p q (λ same. apart (sym same))), *ℤ-zero x)

ahead_split : (q : ℕ) (o : Option ℕ) (x : ℤ) (qs : List ℕ) (xs : List ℤ) → is_listed q qs ≡ false → price_ahead ((q, x) ∷ numbered qs xs) o ≡ x *ℤ one_if (leads_to o q) +ℤ price_ahead (numbered qs xs) o
ahead_split q None x qs xs none = omega (arith, ints, *ℤ-zero x)
ahead_split q (Some p) x qs xs none = price_split q p x qs xs none

-- what the lines of these nodes are worth is what stands in a list
abbrev pub ListedFrom : (ℕ → ℤ) → ℕ → ℕ → List ℤ → Type 0
ListedFrom q k n xs = (i : ℕ) → i < n → q (k + i) ≡ get_or xs i (pos 0)

listed_head : (q : ℕ → ℤ) (k n : ℕ) (x : ℤ) (xs : List ℤ) → ListedFrom q k (suc n) (x ∷ xs) → q k ≡ x
listed_head q k n x xs is =
    let here : k + 0 ≡ k = omega arith in
    subst (λ (i : ℕ). q i ≡ x) here (is 0 (omega arith))

listed_tail : (q : ℕ → ℤ) (k n : ℕ) (x : ℤ) (xs : List ℤ) → ListedFrom q k (suc n) (x ∷ xs) → ListedFrom q (suc k) n xs
listed_tail q k n x xs is i within =
    let more : k + suc i ≡ suc k + i = omega arith in
    subst (λ (m : ℕ). q m ≡ get_or xs i (pos 0)) more (is (suc i) (omega (arith, within)))

pub node_sums : (s : System) (i : ℕ) (t : SystemStep) (q : ℕ → ℤ) (k : ℕ) (qs : List ℕ) (xs : List ℤ) → IsOnce qs → length qs ≤ length xs → ListedFrom q k (length qs) xs
    → line_sum q k (map (node_line s) qs) (λ l. l.at_step i t) ≡ price_of (numbered qs xs) t.source -ℤ price_ahead (numbered qs xs) t.target
node_sums s i t q k [] xs once few is = none_ahead t.target
  where
    none_ahead : (o : Option ℕ) → pos 0 ≡ pos 0 -ℤ price_ahead [] o
    none_ahead None = refl
    none_ahead (Some p) = refl
node_sums s i t q k (p ∷ qs) [] once few is = absurd (omega (arith, few))
node_sums s i t q k (p ∷ qs) (x ∷ xs) once few is =
    omega (
      arith,
      ints,
      ap (λ z. z *ℤ (one_if (t.source == p) -ℤ one_if (leads_to t.target p))) (listed_head q k (length qs) x xs is),
      spread_sub x (one_if (t.source == p)) (one_if (leads_to t.target p)),
      node_sums s i t q (suc k) qs xs once.1 (omega (arith, few)) (listed_tail q k (length qs) x xs is),
      price_split p t.source x qs xs once.0,
      ahead_split p t.target x qs xs once.0,
    )

pub node_sides : (s : System) (q : ℕ → ℤ) (k : ℕ) (qs : List ℕ) (xs : List ℤ) → IsOnce qs → length qs ≤ length xs → ListedFrom q k (length qs) xs
    → line_sum q k (map (node_line s) qs) (λ l. l.side) ≡ price_of (numbered qs xs) s.start
node_sides s q k [] xs once few is = refl
node_sides s q k (p ∷ qs) [] once few is = absurd (omega (arith, few))
node_sides s q k (p ∷ qs) (x ∷ xs) once few is =
    omega (
      arith,
      ints,
      ap (λ z. z *ℤ one_if (p == s.start)) (listed_head q k (length qs) x xs is),
      ap (λ b. x *ℤ one_if b) (turned s.start p),
      node_sides s q (suc k) qs xs once.1 (omega (arith, few)) (listed_tail q k (length qs) x xs is),
      price_split p s.start x qs xs once.0,
    )

-- The lines of loops and of limits.
abbrev pub Priced : (ℕ → ℤ) → ℕ → ℕ → (ℕ → ℤ) → Type 0
Priced q k n v = (i : ℕ) → i < n → q (k + i) ≡ v i

priced_head : (q : ℕ → ℤ) (k n : ℕ) (v : ℕ → ℤ) → Priced q k (suc n) v → q k ≡ v 0
priced_head q k n v is =
    let here : k + 0 ≡ k = omega arith in
    subst (λ (i : ℕ). q i ≡ v 0) here (is 0 (omega arith))

priced_tail : (q : ℕ → ℤ) (k n : ℕ) (v : ℕ → ℤ) → Priced q k (suc n) v → Priced q (suc k) n (λ i. v (suc i))
priced_tail q k n v is i within =
    let more : k + suc i ≡ suc k + i = omega arith in
    subst (λ (m : ℕ). q m ≡ v (suc i)) more (is (suc i) (omega (arith, within)))

times_one_if : (b : Bool) (v : ℤ) → v *ℤ one_if b ≡ chosen b v
times_one_if true v = times_one v
times_one_if false v = *ℤ-zero v

times_bound : (b : Bool) (v n : ℤ) → v *ℤ (if b then n else pos 0) ≡ chosen b (n *ℤ v)
times_bound true v n = *ℤ_comm v n
times_bound false v n = *ℤ-zero v

pub loop_sums : (s : System) (i : ℕ) (t : SystemStep) (q : ℕ → ℤ) (k : ℕ) (loops : List SystemLoop) (v : ℕ → ℤ) → Priced q k (length loops) v
    → line_sum q k (map (loop_line s) loops) (λ l. l.at_step i t) ≡ back_price v loops i -ℤ entry_price v loops i
loop_sums s i t q k [] v is = refl
loop_sums s i t q k (l ∷ loops) v is =
    omega (
      arith,
      ints,
      ap (λ z. z *ℤ (one_if (is_listed i l.back) -ℤ (if is_listed i l.entry then pos l.bound else pos 0))) (priced_head q k (length loops) v is),
      spread_sub (v 0) (one_if (is_listed i l.back)) (if is_listed i l.entry then pos l.bound else pos 0),
      times_one_if (is_listed i l.back) (v 0),
      times_bound (is_listed i l.entry) (v 0) (pos l.bound),
      loop_sums s i t q (suc k) loops (λ m. v (suc m)) (priced_tail q k (length loops) v is),
    )

pub loop_sides : (s : System) (q : ℕ → ℤ) (k : ℕ) (loops : List SystemLoop) (v : ℕ → ℤ) → Priced q k (length loops) v
    → line_sum q k (map (loop_line s) loops) (λ l. l.side) ≡ sum_placed (λ m l. chosen (l.head == s.start) (pos l.bound *ℤ v m)) loops
loop_sides s q k [] v is = refl
loop_sides s q k (l ∷ loops) v is =
    omega (
      arith,
      ints,
      ap (λ z. z *ℤ (if l.head == s.start then pos l.bound else pos 0)) (priced_head q k (length loops) v is),
      times_bound (l.head == s.start) (v 0) (pos l.bound),
      loop_sides s q (suc k) loops (λ m. v (suc m)) (priced_tail q k (length loops) v is),
    )

pub limit_sums : (i : ℕ) (t : SystemStep) (q : ℕ → ℤ) (k : ℕ) (limits : List SystemLimit) (w : ℕ → ℤ) → Priced q k (length limits) w
    → line_sum q k (map limit_line limits) (λ l. l.at_step i t) ≡ limit_price w limits t.source
limit_sums i t q k [] w is = refl
limit_sums i t q k (l ∷ limits) w is =
    omega (
      arith,
      ints,
      ap (λ z. z *ℤ factor_of t.source l.factors) (priced_head q k (length limits) w is),
      *ℤ_comm (w 0) (factor_of t.source l.factors),
      limit_sums i t q (suc k) limits (λ m. w (suc m)) (priced_tail q k (length limits) w is),
    )

pub limit_sides : (q : ℕ → ℤ) (k : ℕ) (limits : List SystemLimit) (w : ℕ → ℤ) → Priced q k (length limits) w
    → line_sum q k (map limit_line limits) (λ l. l.side) ≡ sum_placed (λ m l. l.constant *ℤ w m) limits
limit_sides q k [] w is = refl
limit_sides q k (l ∷ limits) w is =
    omega (
      arith,
      ints,
      ap (λ z. z *ℤ l.constant) (priced_head q k (length limits) w is),
      *ℤ_comm (w 0) l.constant,
      limit_sides q (suc k) limits (λ m. w (suc m)) (priced_tail q k (length limits) w is),
    )

-- nodes with rows stand once each
pub range_listed : (p first n : ℕ) (keep : ℕ → Bool) → p < first → is_listed p (filter keep (range_with_len first n)) ≡ false
range_listed p first zero keep few = refl
range_listed p first (suc n) keep few = by (keep first) (range_listed p (first + 1) n keep (omega (arith, few)))
  where
    by : (b : Bool) → is_listed p (filter keep (range_with_len (first + 1) n)) ≡ false
        → is_listed p (if b then first ∷ filter keep (range_with_len (first + 1) n) else filter keep (range_with_len (first + 1) n)) ≡ false
    by true later = ap (λ b. b || is_listed p (filter keep (range_with_len (first + 1) n))) (ne_eqb p first (λ same. omega (arith, few, same))) ∙ later
    by false later = later

pub range_once : (first n : ℕ) (keep : ℕ → Bool) → IsOnce (filter keep (range_with_len first n))
range_once first zero keep = tt
range_once first (suc n) keep = by (keep first) (range_once (first + 1) n keep)
  where
    by : (b : Bool) → IsOnce (filter keep (range_with_len (first + 1) n)) → IsOnce (if b then first ∷ filter keep (range_with_len (first + 1) n) else filter keep (range_with_len (first + 1) n))
    by true later = (range_listed first (first + 1) n keep (omega arith), later)
    by false later = later
