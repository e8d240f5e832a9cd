-- The work that goes out, and the run that comes home, by their places.
use Rattle.std.proofs.Common.{ℕ, ◌≡◌, ◌==◌, ◌<◌, Bool, true, false, cond, if◌then◌else◌, List, [], ◌∷◌, Option, None, Some, is_some, map, length, get_or, refl, sym, ap, ◌∙◌}
use Rattle.std.specs.Prelude.{position, remove}
use Rattle.std.specs.List.{find}
use Rattle.std.specs.Option.{option_map, unwrap_or}
use Rattle.std.proofs.lemmas.Bool.{eqb-true, false≢true}
use Rattle.std.proofs.lemmas.Option.{none-some}
use Rattle.wc_model.specs.Workspace.Firsts.{without_first}
use Rattle.wc_core.specs.Inner.Works.{IsTaken, is_of}
use Rattle.wc_core.proofs.FindLemmas.{find_map, found_passes}
use Rattle.wc_core.proofs.FirstLemmas.{found_place, position_first}

some_at : {A : Type 0} (o : Option A) → is_some o ≡ true → (a : A) × (o ≡ Some a)
some_at None is = absurd (false≢true is)
some_at (Some a) is = (a, refl)

some_map : {A B : Type 0} (f : A → B) (o : Option A) → is_some (option_map f o) ≡ true → is_some o ≡ true
some_map f None is = is
some_map f (Some a) is = refl

-- What stands at the first place where a test passes.
pub record IsPlace {A : Type 0} (test : A → Bool) (xs : List A) (n : ℕ) : Type 0 where
  pub within : n < length xs
  pub found : (d : A) → find test xs ≡ Some (get_or xs n d)
  pub passes : (d : A) → test (get_or xs n d) ≡ true
  pub removed : remove xs n ≡ without_first test xs

pub place_is : {A : Type 0} (test : A → Bool) (xs : List A) (x : A) → find test xs ≡ Some x → IsPlace test xs (unwrap_or (position test xs) 0)
place_is test xs x found =
    let at = found_place test xs x found in
    let n : ℕ = unwrap_or (position test xs) 0 in
    let same : position test xs ≡ Some n = at.1 ∙ ap (λ o. Some (unwrap_or o 0)) (sym at.1) in
    let first = position_first test xs n x same in
    record {
      within = first.within;
      found = λ d. (position_first test xs n d same).found;
      passes = λ d. found_passes test xs (get_or xs n d) (position_first test xs n d same).found;
      removed = first.removed;
    }

module _ {A : Type 0} (f : A → ℕ × ℕ) (kind : ℕ) where
  map_case : (x : A) (xs : List A) (here : Bool) → map f (without_first (λ y. is_of kind (f y)) xs) ≡ without_first (is_of kind) (map f xs) → map f (if here then xs else x ∷ without_first (λ y. is_of kind (f y)) xs) ≡ (if here then map f xs else f x ∷ without_first (is_of kind) (map f xs))
  map_case x xs true later = refl
  map_case x xs false later = ap (λ l. f x ∷ l) later

  map_without : (xs : List A) → map f (without_first (λ y. is_of kind (f y)) xs) ≡ without_first (is_of kind) (map f xs)
  map_without [] = refl
  map_without (x ∷ xs) = map_case x xs (is_of kind (f x)) (map_without xs)

  -- the place of a work of the kind
  pub work_place : (xs : List A) → is_some (find (is_of kind) (map f xs)) ≡ true → IsPlace (λ y. is_of kind (f y)) xs (unwrap_or (position (λ y. is_of kind (f y)) xs) 0)
  work_place xs is =
      let at = some_at (find (λ y. is_of kind (f y)) xs) (some_map f (find (λ y. is_of kind (f y)) xs) (ap is_some (sym (find_map (is_of kind) f xs)) ∙ is)) in
      place_is (λ y. is_of kind (f y)) xs at.0 at.1

  pub taken_at : (xs : List A) (n : ℕ) (x : A) (rest : List A) → IsPlace (λ y. is_of kind (f y)) xs n → x ≡ get_or xs n x → rest ≡ remove xs n → (((f x).0) ≡ kind) × IsTaken kind (f x).1 (map f xs) (map f rest)
  taken_at xs n x rest place at rest_is =
      let own : (f x).0 ≡ kind = eqb-true (f x).0 kind (ap (λ y. is_of kind (f y)) at ∙ place.passes x) in (
        own,
        record {
          found = find_map (is_of kind) f xs ∙ ap (option_map f) (place.found x) ∙ ap (λ y. Some (f y)) (sym at) ∙ ap (λ k. Some (k, (f x).1)) own;
          rest = ap (map f) (rest_is ∙ place.removed) ∙ map_without xs;
        },
      )

  -- whether there is one
  missing : (ys : List A) (n : ℕ) → position (λ y. is_of kind (f y)) ys ≡ Some n → find (λ y. is_of kind (f y)) ys ≡ None → ⊥
  missing [] n at none = none-some n at
  missing (y ∷ ys) n at none = none-some (get_or (y ∷ ys) n y) (sym none ∙ (position_first (λ z. is_of kind (f z)) (y ∷ ys) n y at).found)

  none_case : (xs : List A) (o : Option ℕ) → position (λ y. is_of kind (f y)) xs ≡ o → find (λ y. is_of kind (f y)) xs ≡ None → is_some o ≡ false
  none_case xs None at is = refl
  none_case xs (Some n) at is = absurd (missing xs n at is)

  has_case : (xs : List A) (found : Option A) → find (λ y. is_of kind (f y)) xs ≡ found → is_some (position (λ y. is_of kind (f y)) xs) ≡ is_some found
  has_case xs (Some x) is = ap is_some (found_place (λ y. is_of kind (f y)) xs x is).1
  has_case xs None is = none_case xs (position (λ y. is_of kind (f y)) xs) refl is

  map_some : (found : Option A) → is_some found ≡ is_some (option_map f found)
  map_some None = refl
  map_some (Some x) = refl

  pub has_place : (xs : List A) → is_some (position (λ y. is_of kind (f y)) xs) ≡ is_some (find (is_of kind) (map f xs))
  has_place xs = has_case xs (find (λ y. is_of kind (f y)) xs) refl ∙ map_some (find (λ y. is_of kind (f y)) xs) ∙ ap is_some (sym (find_map (is_of kind) f xs))
