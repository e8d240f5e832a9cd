-- The first item of a list that passes a test, where an item changes, is left out or comes.
use Rattle.std.proofs.Common.{ℕ, zero, suc, ◌≡◌, ◌<◌, ◌⊎◌, ◌==◌, ◌||◌, Bool, true, false, not, cond, if◌then◌else◌, inl, inr, List, [], ◌∷◌, ◌++◌, Option, None, Some, is_some, map, refl, sym, ap, subst, ◌∙◌}
use Rattle.std.specs.List.{All, find, filter, list_any}
use Rattle.std.specs.Option.{option_and_then, option_map}
use Rattle.std.proofs.lemmas.Bool.{false≢true, true≢false}
use Rattle.std.proofs.lemmas.List.Elements.{All-head, All-tail}
use Rattle.std.proofs.lemmas.Option.{none-some}
use Rattle.wc_model.specs.Workspace.Firsts.{change_first}

pub any_found : {A : Type 0} (p : A → Bool) (xs : List A) → list_any p xs ≡ is_some (find p xs)
any_found p [] = refl
any_found p (x ∷ xs) = any_case (p x) (any_found p xs) where
  any_case : (here : Bool) → list_any p xs ≡ is_some (find p xs) → (here || list_any p xs) ≡ is_some (cond here (Some x) (find p xs))
  any_case true later = refl
  any_case false later = later

-- another item changes
module _ {A : Type 0} (p test : A → Bool) (f : A → A) (apart : (a : A) → test a ≡ true → (p a ≡ false) × (p (f a) ≡ false)) where
  other_case : (a : A) (xs : List A) (here : Bool) → test a ≡ here → find p (change_first test f xs) ≡ find p xs → find p (if here then f a ∷ xs else a ∷ change_first test f xs) ≡ cond (p a) (Some a) (find p xs)
  other_case a xs true is later = ap (λ b. cond b (Some (f a)) (find p xs)) (apart a is).1 ∙ sym (ap (λ b. cond b (Some a) (find p xs)) (apart a is).0)
  other_case a xs false is later = ap (λ o. cond (p a) (Some a) o) later

  pub find_other : (xs : List A) → find p (change_first test f xs) ≡ find p xs
  find_other [] = refl
  find_other (a ∷ xs) = other_case a xs (test a) refl (find_other xs)

-- this item changes
module _ {A : Type 0} (p : A → Bool) (f : A → A) (stays : (a : A) → p (f a) ≡ p a) where
  same_case : (a : A) (xs : List A) (here : Bool) → p a ≡ here → find p (change_first p f xs) ≡ option_map f (find p xs) → find p (if here then f a ∷ xs else a ∷ change_first p f xs) ≡ option_map f (cond here (Some a) (find p xs))
  same_case a xs true is later = ap (λ b. cond b (Some (f a)) (find p xs)) (stays a ∙ is)
  same_case a xs false is later = ap (λ b. cond b (Some a) (find p (change_first p f xs))) is ∙ later

  pub find_changed : (xs : List A) → find p (change_first p f xs) ≡ option_map f (find p xs)
  find_changed [] = refl
  find_changed (a ∷ xs) = same_case a xs (p a) refl (find_changed xs)

-- all items change
module _ {A B : Type 0} (p : B → Bool) (f : A → B) where
  map_case : (a : A) (xs : List A) (here : Bool) → find p (map f xs) ≡ option_map f (find (λ x. p (f x)) xs) → cond here (Some (f a)) (find p (map f xs)) ≡ option_map f (cond here (Some a) (find (λ x. p (f x)) xs))
  map_case a xs true later = refl
  map_case a xs false later = later

  pub find_map : (xs : List A) → find p (map f xs) ≡ option_map f (find (λ x. p (f x)) xs)
  find_map [] = refl
  find_map (a ∷ xs) = map_case a xs (p (f a)) (find_map xs)

-- some items are left out
module _ {A : Type 0} (p keep : A → Bool) where
  kept_case : (a : A) (xs : List A) (here stays : Bool) → p a ≡ here → keep a ≡ stays → ((b : A) → p b ≡ true → keep b ≡ true) → find p (filter keep xs) ≡ find p xs → find p (cond stays (a ∷ filter keep xs) (filter keep xs)) ≡ cond here (Some a) (find p xs)
  kept_case a xs here true is stays all later = ap (λ b. cond b (Some a) (find p (filter keep xs))) is ∙ ap (λ o. cond here (Some a) o) later
  kept_case a xs false false is stays all later = later
  kept_case a xs true false is stays all later = absurd (false≢true (sym stays ∙ all a is))

  pub find_kept : (xs : List A) → ((b : A) → p b ≡ true → keep b ≡ true) → find p (filter keep xs) ≡ find p xs
  find_kept [] all = refl
  find_kept (a ∷ xs) all = kept_case a xs (p a) (keep a) refl refl all (find_kept xs all)

  gone_case : (a : A) (xs : List A) (stays : Bool) → keep a ≡ stays → ((b : A) → p b ≡ true → keep b ≡ false) → find p (filter keep xs) ≡ None → find p (cond stays (a ∷ filter keep xs) (filter keep xs)) ≡ None
  gone_case a xs true stays all later = gone_here (p a) refl where
    gone_here : (here : Bool) → p a ≡ here → cond here (Some a) (find p (filter keep xs)) ≡ None
    gone_here true is = absurd (false≢true (sym (all a is) ∙ stays))
    gone_here false is = later
  gone_case a xs false stays all later = later

  pub find_gone : (xs : List A) → ((b : A) → p b ≡ true → keep b ≡ false) → find p (filter keep xs) ≡ None
  find_gone [] all = refl
  find_gone (a ∷ xs) all = gone_case a xs (keep a) refl all (find_gone xs all)

-- an item comes at the end
snoc_case : {A : Type 0} (p : A → Bool) (a x : A) (xs : List A) (y : A) (here : Bool) → cond here (Some a) (find p (xs ++ x ∷ [])) ≡ Some y → (find p (xs ++ x ∷ []) ≡ Some y → (find p xs ≡ Some y) ⊎ ((p x ≡ true) × (x ≡ y))) → (cond here (Some a) (find p xs) ≡ Some y) ⊎ ((p x ≡ true) × (x ≡ y))
snoc_case p a x xs y true is later = inl is
snoc_case p a x xs y false is later = later is

last_case : {A : Type 0} (p : A → Bool) (x y : A) (here : Bool) → p x ≡ here → cond here (Some x) None ≡ Some y → (None ≡ Some y) ⊎ ((p x ≡ true) × (x ≡ y))
last_case p x y true is found = inr (is, let same : Some x ≡ Some y = found in cc)
last_case p x y false is found = inl found

pub find_snoc : {A : Type 0} (p : A → Bool) (xs : List A) (x y : A) → find p (xs ++ x ∷ []) ≡ Some y → (find p xs ≡ Some y) ⊎ ((p x ≡ true) × (x ≡ y))
find_snoc p [] x y is = last_case p x y (p x) refl is
find_snoc p (a ∷ xs) x y is = snoc_case p a x xs y (p a) is (λ later. find_snoc p xs x y later)

-- what is found passes
found_case : {A : Type 0} (p : A → Bool) (a x : A) (xs : List A) (here : Bool) → p a ≡ here → cond here (Some a) (find p xs) ≡ Some x → (find p xs ≡ Some x → p x ≡ true) → p x ≡ true
found_case p a x xs true is found later = ap p (let same : Some x ≡ Some a = sym found in cc) ∙ is
found_case p a x xs false is found later = later found

pub found_passes : {A : Type 0} (p : A → Bool) (xs : List A) (x : A) → find p xs ≡ Some x → p x ≡ true
found_passes p [] x is = absurd (none-some x is)
found_passes p (a ∷ xs) x is = found_case p a x xs (p a) refl is (λ later. found_passes p xs x later)

found_all_case : {A : Type 0} (P : A → Type 0) (p : A → Bool) (a x : A) (xs : List A) (here : Bool) → cond here (Some a) (find p xs) ≡ Some x → P a → (find p xs ≡ Some x → P x) → P x
found_all_case P p a x xs true found is later = subst P (let same : Some a ≡ Some x = found in cc) is
found_all_case P p a x xs false found is later = later found

-- and what holds of all holds of it
pub found_all : {A : Type 0} (P : A → Type 0) (p : A → Bool) (xs : List A) (x : A) → All P xs → find p xs ≡ Some x → P x
found_all P p [] x all is = absurd (none-some x is)
found_all P p (a ∷ xs) x all is = found_all_case P p a x xs (p a) is (All-head P a xs all) (λ later. found_all P p xs x (All-tail P a xs all) later)

pub then_some : {A B : Type 0} (f : A → Option B) (o : Option A) (b : B) → option_and_then f o ≡ Some b → (a : A) × (o ≡ Some a) × (f a ≡ Some b)
then_some f None b is = absurd (none-some b is)
then_some f (Some a) b is = (a, refl, is)
