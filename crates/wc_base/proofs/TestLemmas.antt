-- What tests say of their parts, beside std's `and_parts`, `and_from`, `or_parts` and `or_from`.
use Rattle.std.proofs.Common.{◌≡◌, Bool, true, false, ◌&&◌, if◌then◌else◌, Option, None, Some, refl}

pub if_true : {A : Type 0} (b : Bool) (x y : A) → b ≡ true → (if b then x else y) ≡ x
if_true true x y is = refl
if_true false x y is = absurd (cc)

pub if_false : {A : Type 0} (b : Bool) (x y : A) → b ≡ false → (if b then x else y) ≡ y
if_false false x y is = refl
if_false true x y is = absurd (cc)

pub if_some : {A : Type 0} (b : Bool) (x : Option A) (a : A) → (if b then x else None) ≡ Some a → (b ≡ true) × (x ≡ Some a)
if_some true x a is = (refl, is)
if_some false x a is = absurd (cc)

-- where not both hold and the first does, the second doesn't
pub and_cut : (a b : Bool) → a ≡ true → (a && b) ≡ false → b ≡ false
and_cut true b is not_both = not_both
and_cut false b is not_both = absurd (cc)

pub and_keeps : (a b c d : Bool) → (a ≡ true → c ≡ true) → (b ≡ true → d ≡ true) → (a && b) ≡ true → (c && d) ≡ true
and_keeps true b c d f g both = rw (f refl) (g both)
and_keeps false b c d f g both = absurd (cc)
