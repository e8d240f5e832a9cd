-- Runs of bytes, place by place.
use Rattle.std.proofs.Common.{◌≡◌, ℕ, suc, ◌+◌, ◌-◌, ◌^◌, ◌<◌, ◌≤◌, Bool, true, false, ◌&&◌, ◌==◌, nat_lt, List, [], ◌∷◌, length, get_or, slice_index, take, drop, Option, None, Some, refl, sym, ap, ◌∙◌, subst, arith, drop-cons, add-one, add-zero, length-drop, get_or-drop}
use Rattle.std.proofs.lemmas.List.{drop_all}
use Rattle.std.proofs.lemmas.Bool.Decides.{nat_tests}
use Rattle.std.specs.Prelude.{option_map, cond, slice_range}
use Rattle.wc_f4.specs.declared.runs.Kind.{Kind}
use Rattle.std.proofs.lemmas.Grind.{common_steps}
use Rattle.std.specs.Char.{digit_value}
use Rattle.std.specs.List.{AllByRecursion}
use Rattle.std.specs.Str.Parse.{AllDigits, IsNumeral, digits_value}
use Rattle.wc_base.specs.Decimals.{IsNumber}
use Rattle.wc_f4.specs.declared.runs.Kind.TheVariants as kind
use Rattle.wc_f4.specs.Bytes.{run_length, is_of, closing_length, has_at}
use Rattle.wc_f4.specs.Tokens.{number, number_of, wrong}

run_cons : (k : Kind) (b : ℕ) (bs : List ℕ) → is_of k b ≡ true → run_length k (b ∷ bs) ≡ suc (run_length k bs)
unfolding run_length
run_cons k b bs is = rw is refl

stop_cons : (k : Kind) (b : ℕ) (bs : List ℕ) → is_of k b ≡ false → run_length k (b ∷ bs) ≡ 0
unfolding run_length
stop_cons k b bs is = rw is refl

run_nil : (k : Kind) → run_length k [] ≡ 0
unfolding run_length
run_nil k = refl

pub run_next : (k : Kind) (bytes : List ℕ) (i : ℕ) → i < length bytes → is_of k (slice_index bytes i) ≡ true
    → i + run_length k (drop i bytes) ≡ (i + 1) + run_length k (drop (i + 1) bytes)
run_next k bytes i more is = rw (drop-cons bytes i 0 more, run_cons k (get_or bytes i 0) (drop (suc i) bytes) is, add-one) (omega arith)

pub run_stops : (k : Kind) (bytes : List ℕ) (i : ℕ) → i < length bytes → is_of k (slice_index bytes i) ≡ false
    → run_length k (drop i bytes) ≡ 0
run_stops k bytes i more is = rw (drop-cons bytes i 0 more) (stop_cons k (get_or bytes i 0) (drop (suc i) bytes) is)

pub run_ends : (k : Kind) (bytes : List ℕ) (i : ℕ) → length bytes ≤ i → run_length k (drop i bytes) ≡ 0
run_ends k bytes i end = rw (drop_all i bytes end) (run_nil k)

-- a run that begins isn't empty
pub run_some : (k : Kind) (bytes : List ℕ) → 0 < length bytes → is_of k (slice_index bytes 0) ≡ true → 1 ≤ run_length k bytes
run_some k [] some is = absurd (omega arith)
run_some k (b ∷ bs) some is = rw (run_cons k b bs is) (omega arith)

-- the end of a comment
below : (n i : ℕ) → nat_lt 0 (n - i) ≡ nat_lt i n
below n i = grind (arith, nat_tests)

has_at_front : (bytes : List ℕ) (i x : ℕ) → has_at (drop i bytes) 0 x ≡ has_at bytes i x
has_at_front bytes i x = rw (length-drop, get_or-drop, add-zero) (ap (λ b. b && slice_index bytes i == x) (below (length bytes) i))

closing_cons : (b : ℕ) (bs : List ℕ) (t : Bool) → (b == 42 && has_at bs 0 47) ≡ t
    → closing_length (b ∷ bs) ≡ cond t (Some 2) (option_map (λ n. n + 1) (closing_length bs))
unfolding closing_length
closing_cons b bs t is = rw is refl

closing_at : (bytes : List ℕ) (i : ℕ) (t : Bool) → i < length bytes → (slice_index bytes i == 42 && has_at bytes (i + 1) 47) ≡ t
    → closing_length (drop i bytes) ≡ cond t (Some 2) (option_map (λ n. n + 1) (closing_length (drop (i + 1) bytes)))
closing_at bytes i t more is =
    rw (drop-cons bytes i 0 more, ← add-one i)
    (closing_cons (slice_index bytes i) (drop (i + 1) bytes) t (ap (λ h. slice_index bytes i == 42 && h) (has_at_front bytes (i + 1) 47) ∙ is))

shift_next : (i : ℕ) (end : Option ℕ) → option_map (λ n. (i + 1) + n) end ≡ option_map (λ n. i + n) (option_map (λ n. n + 1) end)
shift_next i None = refl
shift_next i (Some n) = ap Some (omega arith)

pub closes_here : (bytes : List ℕ) (i : ℕ) → i < length bytes → (slice_index bytes i == 42 && has_at bytes (i + 1) 47) ≡ true
    → Some (i + 2) ≡ option_map (λ n. i + n) (closing_length (drop i bytes))
closes_here bytes i more is = rw (closing_at bytes i true more is) refl

pub closes_later : (bytes : List ℕ) (i : ℕ) → i < length bytes → (slice_index bytes i == 42 && has_at bytes (i + 1) 47) ≡ false
    → option_map (λ n. (i + 1) + n) (closing_length (drop (i + 1) bytes)) ≡ option_map (λ n. i + n) (closing_length (drop i bytes))
closes_later bytes i more is = rw (closing_at bytes i false more is) (shift_next i (closing_length (drop (i + 1) bytes)))

pub closes_never : (bytes : List ℕ) (i : ℕ) → length bytes ≤ i → None ≡ option_map (λ n. i + n) (closing_length (drop i bytes))
unfolding closing_length
closes_never bytes i end = rw (drop_all i bytes end) refl

-- the bytes of a run
run_step : (k : Kind) (b : ℕ) (bs : List ℕ) (n : ℕ) (same : Bool) → is_of k b ≡ same → AllByRecursion (λ c. is_of k c ≡ true) (take n bs)
    → AllByRecursion (λ c. is_of k c ≡ true) (take (cond same (suc n) 0) (b ∷ bs))
run_step k b bs n true is all = (is, all)
run_step k b bs n false is all = tt

pub run_sound : (k : Kind) (bytes : List ℕ) → AllByRecursion (λ b. is_of k b ≡ true) (take (run_length k bytes) bytes)
unfolding run_length
run_sound k [] = tt
run_sound k (b ∷ bs) = run_step k b bs (run_length k bs) (is_of k b) refl (run_sound k bs)

-- digits
pub decimal_digit : (b : ℕ) → is_of kind.Decimal b ≡ true → digit_value b < 10
decimal_digit b is = grind (arith, nat_tests)

pub hexadecimal_digit : (b : ℕ) → is_of kind.Hexadecimal b ≡ true → digit_value b < 16
hexadecimal_digit b is = grind (arith, nat_tests)

digits_of : (k : Kind) (base : ℕ) → ((b : ℕ) → is_of k b ≡ true → digit_value b < base) → (ds : List ℕ) → AllByRecursion (λ b. is_of k b ≡ true) ds → AllDigits base ds
digits_of k base digit [] all = tt
digits_of k base digit (d ∷ ds) (is, all) = (digit d is, digits_of k base digit ds all)

-- a run at the front, and one behind other bytes
pub run_front : (k : Kind) (base : ℕ) → ((b : ℕ) → is_of k b ≡ true → digit_value b < base) → (bytes : List ℕ) (n : ℕ) → n ≡ run_length k bytes → 0 < n → n ≤ length bytes
    → IsNumeral base (take n bytes)
run_front k base digit bytes n is some inside =
    let long : length (take n bytes) ≡ n = grind (arith, common_steps) in
    (omega (arith, long), digits_of k base digit (take n bytes) (subst (λ (m : ℕ). AllByRecursion (λ b. is_of k b ≡ true) (take m bytes)) (sym is) (run_sound k bytes)))

pub run_behind : (k : Kind) (base : ℕ) → ((b : ℕ) → is_of k b ≡ true → digit_value b < base) → (bytes : List ℕ) (at n : ℕ) → n ≡ run_length k (drop at bytes) → 0 < n → n ≤ length (drop at bytes)
    → IsNumeral base (slice_range bytes at (at + n))
run_behind k base digit bytes at n is some inside =
    let same : n ≡ at + n - at = omega arith in
    subst (λ (m : ℕ). IsNumeral base (take m (drop at bytes))) same (run_front k base digit (drop at bytes) n is some inside)

number_above : (n : ℕ) → 2 ^ 32 ≤ n → cond (nat_lt n (2 ^ 32)) (number n) wrong ≡ wrong
number_above n many = let no : nat_lt n (2 ^ 32) ≡ false = grind (arith, nat_tests) in rw no refl

pub number_below : (n : ℕ) → n < 2 ^ 32 → cond (nat_lt n (2 ^ 32)) (number n) wrong ≡ number n
number_below n few = let is : nat_lt n (2 ^ 32) ≡ true = grind (arith, nat_tests) in rw is refl

pub read_some : (base : ℕ) (digits : List ℕ) (n : ℕ) → IsNumber base digits n → n ≤ 2 ^ 32 - 1 → number n ≡ number_of base digits
read_some base digits n (numeral, is) few = ap number (sym is) ∙ sym (number_below (digits_value base digits) (omega (arith, is)))

pub read_none : (base : ℕ) (digits : List ℕ) → IsNumeral base digits → ((n : ℕ) → IsNumber base digits n → 2 ^ 32 - 1 < n) → wrong ≡ number_of base digits
read_none base digits numeral many = sym (number_above (digits_value base digits) (omega (arith, many (digits_value base digits) (numeral, refl))))
