-- The first item that passes a test, by its place.
use Rattle.std.proofs.Common.{ℕ, zero, suc, ◌≡◌, ◌+◌, ◌<◌, ◌≤◌, Bool, true, false, cond, nat_lt, if◌then◌else◌, List, [], ◌∷◌, Option, None, Some, length, set, get_or, refl, sym, ap, ◌∙◌, arith}
use Rattle.std.specs.Prelude.{position, remove}
use Rattle.std.specs.List.{find, position_or_len}
use Rattle.std.specs.Option.{option_and_then}
use Rattle.std.proofs.lemmas.Bool.{false≢true, ltb-false, true≢false}
use Rattle.std.proofs.lemmas.List.Quantifiers.{position-Some}
use Rattle.std.proofs.lemmas.List.Sums.{fails_before_first}
use Rattle.std.proofs.lemmas.Option.{none-some}
use Rattle.wc_model.specs.Workspace.Firsts.{change_first, without_first}

-- what stands at the place
pub record IsFirst {A : Type 0} (test : A → Bool) (xs : List A) (n : ℕ) (d : A) : Type 0 where
  pub within : n < length xs
  pub found : find test xs ≡ Some (get_or xs n d)
  pub changed : (change : A → A) → change_first test change xs ≡ set xs n (change (get_or xs n d))
  pub removed : remove xs n ≡ without_first test xs

found_here : {A : Type 0} (test : A → Bool) (x : A) (xs : List A) (d : A) (passes : Bool) → test x ≡ passes → passes ≡ true → IsFirst test (x ∷ xs) 0 d
found_here test x xs d true is given = record { within = omega arith; found = ap (λ b. cond b (Some x) (find test xs)) is; changed = λ change. ap (λ b. if b then change x ∷ xs else x ∷ change_first test change xs) is; removed = sym (ap (λ b. if b then xs else x ∷ without_first test xs) is) }
found_here test x xs d false is given = absurd (false≢true given)

found_later : {A : Type 0} (test : A → Bool) (x : A) (xs : List A) (n : ℕ) (d : A) → test x ≡ false → IsFirst test xs n d → IsFirst test (x ∷ xs) (suc n) d
found_later test x xs n d is later =
    record {
      within = omega (arith, later.within);
      found = ap (λ b. cond b (Some x) (find test xs)) is ∙ later.found;
      changed = λ change. ap (λ b. if b then change x ∷ xs else x ∷ change_first test change xs) is ∙ ap (λ ys. x ∷ ys) (later.changed change);
      removed = ap (λ ys. x ∷ ys) later.removed ∙ sym (ap (λ b. if b then xs else x ∷ without_first test xs) is);
    }

first_at : {A : Type 0} (test : A → Bool) (xs : List A) (n : ℕ) (d : A) → n < length xs → test (get_or xs n d) ≡ true → ((k : ℕ) → k < n → test (get_or xs k d) ≡ false) → IsFirst test xs n d
first_at test [] n d within passes before = absurd (omega arith)
first_at test (x ∷ xs) zero d within passes before = found_here test x xs d (test x) refl passes
first_at test (x ∷ xs) (suc n) d within passes before = found_later test x xs n d (before 0 (omega arith)) (first_at test xs n d (omega arith) passes (λ k less. before (suc k) (omega arith)))

pub position_first : {A : Type 0} (test : A → Bool) (xs : List A) (n : ℕ) (d : A) → position test xs ≡ Some n → IsFirst test xs n d
position_first test xs n d is = let at = position-Some test xs n d is in first_at test xs n d at.0 at.1 at.2

-- the item at the place, changed or read
pub changed_at : {A : Type 0} (test : A → Bool) (change : A → A) (xs : List A) (n : ℕ) (old new : A) → position test xs ≡ Some n → old ≡ get_or xs n old → new ≡ change old → set xs n new ≡ change_first test change xs
changed_at test change xs n old new is at now =
    ap (λ x. set xs n x) (now ∙ ap change at) ∙ sym ((position_first test xs n old is).changed change)

pub read_at : {A B : Type 0} (test : A → Bool) (read : A → Option B) (xs : List A) (n : ℕ) (x : A) → position test xs ≡ Some n → x ≡ get_or xs n x → read x ≡ option_and_then read (find test xs)
read_at test read xs n x is at = ap read at ∙ sym (ap (λ o. option_and_then read o) (position_first test xs n x is).found)

-- where no item passes
pub record IsNowhere {A : Type 0} (test : A → Bool) (xs : List A) : Type 0 where
  pub not_found : find test xs ≡ None
  pub unchanged : (change : A → A) → change_first test change xs ≡ xs
  pub whole : without_first test xs ≡ xs

nowhere_later : {A : Type 0} (test : A → Bool) (x : A) (xs : List A) → test x ≡ false → IsNowhere test xs → IsNowhere test (x ∷ xs)
nowhere_later test x xs is later =
    record {
      not_found = ap (λ b. cond b (Some x) (find test xs)) is ∙ later.not_found;
      unchanged = λ change. ap (λ b. if b then change x ∷ xs else x ∷ change_first test change xs) is ∙ ap (λ ys. x ∷ ys) (later.unchanged change);
      whole = ap (λ b. if b then xs else x ∷ without_first test xs) is ∙ ap (λ ys. x ∷ ys) later.whole;
    }

all_fail : {A : Type 0} (test : A → Bool) (xs : List A) → ((k : ℕ) (d : A) → k < length xs → test (get_or xs k d) ≡ false) → IsNowhere test xs
all_fail test [] fail = record { not_found = refl; unchanged = λ change. refl; whole = refl }
all_fail test (x ∷ xs) fail = nowhere_later test x xs (fail 0 x (omega arith)) (all_fail test xs (λ k d less. fail (suc k) d (omega arith)))

past_end : (b : Bool) (n : ℕ) → cond b (Some n) None ≡ None → b ≡ false
past_end true n is = absurd (none-some n (sym is))
past_end false n is = refl

pub position_none : {A : Type 0} (test : A → Bool) (xs : List A) → position test xs ≡ None → IsNowhere test xs
position_none test xs is =
    let end : length xs ≤ position_or_len test xs = ltb-false (position_or_len test xs) (length xs) (past_end (nat_lt (position_or_len test xs) (length xs)) (position_or_len test xs) is) in
    all_fail test xs (λ k d less. fails_before_first test xs k d (omega arith))

-- where something is found, it has a place
place_case : {A : Type 0} (test : A → Bool) (xs : List A) (x : A) (o : Option ℕ) → position test xs ≡ o → find test xs ≡ Some x → (n : ℕ) × (o ≡ Some n)
place_case test xs x None is found = absurd (none-some x (sym (position_none test xs is).not_found ∙ found))
place_case test xs x (Some n) is found = (n, refl)

pub found_place : {A : Type 0} (test : A → Bool) (xs : List A) (x : A) → find test xs ≡ Some x → (n : ℕ) × (position test xs ≡ Some n)
found_place test xs x found = place_case test xs x (position test xs) refl found
