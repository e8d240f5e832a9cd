-- Tests joined by and and or.
use Rattle.std.proofs.Common.{◌≡◌, ◌&&◌, ◌||◌, ◌⊎◌, Bool, true, false, not, inl, inr, refl, sym, ap, ◌∙◌}
use Rattle.std.proofs.lemmas.Bool.{false≢true, true≢false}

pub or_false : (b : Bool) → (b || false) ≡ b
or_false true = refl
or_false false = refl

pub or_true : (b : Bool) → (b || true) ≡ true
or_true true = refl
or_true false = refl

-- What an ask has after one more key, by whether it is this key, whether it is stored, and whether the ask had it.
pub lacked : (same stored had : Bool) → (same ≡ true → stored ≡ false) → had ≡ (had || ((same || false) && stored))
lacked true stored had is = sym (ap (λ s. had || s) (is refl) ∙ or_false had)
lacked false stored had is = sym (or_false had)

pub gained : (same stored had : Bool) → (same ≡ true → stored ≡ true) → (had || same) ≡ (had || ((same || false) && stored))
gained true stored had is = sym (ap (λ s. had || s) (is refl))
gained false stored had is = refl

pub kept : (same stored had : Bool) → (same ≡ true → had ≡ true) → had ≡ (had || ((same || false) && stored))
kept true stored had is = is refl ∙ sym (ap (λ h. h || stored) (is refl))
kept false stored had is = sym (or_false had)

pub joined : (had same others stored : Bool) → ((had || ((same || false) && stored)) || (others && stored)) ≡ (had || ((same || others) && stored))
joined true same others stored = refl
joined false true others true = refl
joined false true true false = refl
joined false true false false = refl
joined false false others stored = refl

pub and_both : (a b : Bool) → a ≡ true → b ≡ true → (a && b) ≡ true
and_both true b p q = q
and_both false b p q = p

pub or_cases : (a b : Bool) → (a || b) ≡ true → (a ≡ true) ⊎ (b ≡ true)
or_cases true b is = inl refl
or_cases false b is = inr is
