-- How many kinds a set has.
use Rattle.std.proofs.Common.{ℕ, zero, suc, ◌≡◌, ◌+◌, ◌<◌, ◌≤◌, ◌||◌, Bool, true, false, not, cond, List, [], ◌∷◌, refl, ◌∙◌, arith}
use Rattle.std.specs.List.{Contains, list_all}
use Rattle.std.proofs.lemmas.Bool.{and_parts, false≢true, not-true, or_left, or_right, true≢false}
use Rattle.std.proofs.lemmas.List.Sums.{sum_by-cons}
use Rattle.wc_model.specs.declared.kinds.Describe.{Describe}
use Rattle.wc_model.specs.Workspace.Closures.{has_kind}
use Rattle.wc_registry.specs.Inner.KindSets.{holds, is_open, size}
use Rattle.wc_registry.proofs.KindLemmas.{one_fails, there_has}

cons_size : (b : Bool) (bs : List Bool) → size (b ∷ bs) ≡ cond b 1 0 + size bs
cons_size b bs = sum_by-cons (λ (c : Bool). cond c 1 0) b bs

head_le : (a b : Bool) → (a ≡ true → b ≡ true) → cond a 1 0 ≤ cond b 1 0
head_le true true within = omega arith
head_le true false within = absurd (false≢true (within refl))
head_le false true within = omega arith
head_le false false within = omega arith

-- A set within another one is no greater, and less where the other one has more.
pub size_le : (old new : List Bool) → ((k : ℕ) → holds old k ≡ true → holds new k ≡ true) → size old ≤ size new
size_le [] new within = omega arith
size_le (a ∷ old) [] within = omega (arith, cons_size a old, size_le old [] (λ k held. within (suc k) held), head_le a false (λ held. within zero held))
size_le (a ∷ old) (b ∷ new) within = omega (arith, cons_size a old, cons_size b new, size_le old new (λ k held. within (suc k) held), head_le a b (λ held. within zero held))

head_lt : (a b : Bool) → a ≡ false → b ≡ true → cond a 1 0 + 1 ≤ cond b 1 0
head_lt true b fresh more = absurd (true≢false fresh)
head_lt false true fresh more = omega arith
head_lt false false fresh more = absurd (false≢true more)

pub size_lt : (old new : List Bool) → ((k : ℕ) → holds old k ≡ true → holds new k ≡ true) → (k : ℕ) → holds old k ≡ false → holds new k ≡ true → size old < size new
size_lt [] [] within k fresh more = absurd (false≢true more)
size_lt [] (b ∷ new) within zero fresh more = omega (arith, cons_size b new, head_lt false b refl more)
size_lt [] (b ∷ new) within (suc k) fresh more = omega (arith, cons_size b new, size_lt [] new (λ j held. absurd (false≢true held)) k refl more)
size_lt (a ∷ old) [] within k fresh more = absurd (false≢true more)
size_lt (a ∷ old) (b ∷ new) within zero fresh more = omega (arith, cons_size a old, cons_size b new, size_le old new (λ j held. within (suc j) held), head_lt a b fresh more)
size_lt (a ∷ old) (b ∷ new) within (suc k) fresh more = omega (arith, cons_size a old, cons_size b new, size_lt old new (λ j held. within (suc j) held) k fresh more, head_le a b (λ held. within zero held))

-- An open kind makes a set greater.
pub open_grows : (d : Describe) (old new : List Bool) → is_open old d ≡ true → ((k : ℕ) → holds new k ≡ (has_kind k d.requires_ || holds old k)) → size old < size new
open_grows d old new is adds =
    let parts : (holds old d.provides ≡ true) × (not (list_all (λ k. holds old k) d.requires_) ≡ true) = and_parts (holds old d.provides) (not (list_all (λ k. holds old k) d.requires_)) is in
    let fails : (k : ℕ) × Contains d.requires_ k × (holds old k ≡ false) = one_fails (λ k. holds old k) d.requires_ (not-true (list_all (λ k. holds old k) d.requires_) parts.1) in
    size_lt old new (λ k held. adds k ∙ or_right (has_kind k d.requires_) (holds old k) held) fails.0 fails.2 (adds fails.0 ∙ or_left (has_kind fails.0 d.requires_) (holds old fails.0) (there_has fails.0 d.requires_ fails.1))
