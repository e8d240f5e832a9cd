-- What holds of each element of a list, as std's `AllByRecursion`.
use Rattle.std.proofs.Common.{List, [], ◌∷◌, ◌++◌}
use Rattle.std.specs.List.{AllByRecursion}

module _ {A : Type 0} (P : A → Type 0) where
  pub each_append : (xs ys : List A) → AllByRecursion P xs → AllByRecursion P ys → AllByRecursion P (xs ++ ys)
  each_append [] ys p q = q
  each_append (x ∷ xs) ys p q = (p.0, each_append xs ys p.1 q)

  pub each_parts : (xs ys : List A) → AllByRecursion P (xs ++ ys) → AllByRecursion P xs × AllByRecursion P ys
  each_parts [] ys p = (tt, p)
  each_parts (x ∷ xs) ys p = let rest = each_parts xs ys p.1 in ((p.0, rest.0), rest.1)

  pub each_last : (xs : List A) (x : A) → AllByRecursion P (xs ++ x ∷ []) → P x
  each_last xs x p = (each_parts xs (x ∷ []) p).1.0

  pub each_weaker : (Q : A → Type 0) → ((x : A) → P x → Q x) → (xs : List A) → AllByRecursion P xs → AllByRecursion Q xs
  each_weaker Q f [] p = tt
  each_weaker Q f (x ∷ xs) p = (f x p.0, each_weaker Q f xs p.1)
