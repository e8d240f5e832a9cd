-- Texts one behind the other, and numbers that pass a test.
use Rattle.std.proofs.Common.{◌≡◌, ℕ, Bool, true, false, cond, List, [], ◌∷◌, ◌++◌, map, flat_map, Option, Some, None, refl, ap, ◌∙◌, sym}
use Rattle.std.proofs.lemmas.List.Concat.{flat_map-cons}
use Rattle.wc_hw.specs.HardwareFile.{checked}
use Rattle.wc_hw.specs.HardwareText.{joined}

pub flat_joined : {X : Type 0} (f : X → List ℕ) (xs : List X) → flat_map f xs ≡ joined (map f xs)
flat_joined f [] = refl
flat_joined f (x ∷ xs) = flat_map-cons f x xs ∙ ap (λ ts. f x ++ ts) (flat_joined f xs)

passes : (b : Bool) (n x : ℕ) (test : ℕ → Bool) → test n ≡ b → cond b (Some n) None ≡ Some x → test x ≡ true
passes true n x test was is = let same : n ≡ x = cc in ap test (sym same) ∙ was
passes false n x test was is = absurd (cc)

pub checked_passes : (test : ℕ → Bool) (n : Option ℕ) (x : ℕ) → checked test n ≡ Some x → test x ≡ true
checked_passes test None x is = absurd (cc)
checked_passes test (Some n) x is = passes (test n) n x test refl is
