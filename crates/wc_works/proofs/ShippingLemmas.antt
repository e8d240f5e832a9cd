-- The table of the eleven kinds is a registry: no kind stands twice, each required one is there, and none requires
-- itself. The last two are tests over the whole table.
use Rattle.std.proofs.Common.{ℕ, zero, suc, ◌≡◌, ◌+◌, ◌<◌, ◌==◌, Bool, true, nat_lt, List, [], ◌∷◌, length, Some, Result, Ok, Err, IfErr, IfOk, refl, sym, ap, subst, ◌∙◌, arith}
use Rattle.std.specs.List.{Contains, list_all, list_any, slice_get}
use Rattle.std.proofs.lemmas.Bool.{eqb-true, ltb-true}
use Rattle.std.proofs.lemmas.Option.{same_Some, slice_get_within}
use Rattle.wc_model.specs.declared.kinds.Describe.{Describe}
use Rattle.wc_model.specs.Workspace.Closures.{requires_of}
use Rattle.wc_model.specs.Workspace.Kinds.{eleven_kinds}
use Rattle.wc_model.specs.Workspace.Registry.{IsCyclic, IsDoubled, IsMissing, IsProvided, Requires, directly, through}
use Rattle.wc_registry.specs.declared.faults.RegistryFault.{RegistryFault}
use Rattle.wc_registry.specs.declared.faults.RegistryFault.TheVariants.{Double, Missing, Cycle, Memory}
use Rattle.wc_registry.specs.Sound.{IsRegistryOf, NoneWith}
use Rattle.wc_registry.proofs.KindLemmas.{all_at, any_at, requires_from}
use Rattle.wc_works.specs.Shipped.{IsMemory}

-- each kind is the number of its place
abbrev AreNumbered : ℕ → List Describe → Type 0
AreNumbered n [] = Unit {0}
AreNumbered n (d ∷ ds) = (d.provides ≡ n) × AreNumbered (n + 1) ds

place_is : (n : ℕ) (ds : List Describe) → AreNumbered n ds → (i : ℕ) (d : Describe) → slice_get ds i ≡ Some d → d.provides ≡ n + i
place_is n [] are i d at = let none : i < 0 = slice_get_within [] i d at in absurd (omega (arith, none))
place_is n (x ∷ ds) are zero d at = let first : d.provides ≡ n = ap (λ (y : Describe). y.provides) (sym (same_Some x d at)) ∙ are.0 in omega (arith, first)
place_is n (x ∷ ds) are (suc i) d at = let later = place_is (n + 1) ds are.1 i d at in omega (arith, later)

numbered : AreNumbered 1 eleven_kinds
numbered = (refl, (refl, (refl, (refl, (refl, (refl, (refl, (refl, (refl, (refl, (refl, tt)))))))))))

single : NoneWith (IsDoubled eleven_kinds)
single k (i, j, d, e, less, at_i, at_j, is, also) =
    let one = place_is 1 eleven_kinds numbered i d at_i in
    let other = place_is 1 eleven_kinds numbered j e at_j in
    omega (arith, less, one, other, is, also)

abbrev is_provided : ℕ → Bool
is_provided k = list_any (λ (e : Describe). e.provides == k) eleven_kinds

complete : NoneWith (IsMissing eleven_kinds)
complete k (d, there, among, none) =
    let tested : list_all (λ (e : Describe). list_all is_provided e.requires_) eleven_kinds ≡ true = refl in
    let found = any_at (λ (e : Describe). e.provides == k) eleven_kinds (all_at is_provided d.requires_ k (all_at (λ (e : Describe). list_all is_provided e.requires_) eleven_kinds d tested there) among) in
    none (found.0, found.1, eqb-true found.0.provides k found.2)

-- what a kind requires has a lower number
lower : (k j : ℕ) → Contains (requires_of eleven_kinds k) j → j < k
lower k j there =
    let tested : list_all (λ (e : Describe). list_all (λ i. nat_lt i e.provides) e.requires_) eleven_kinds ≡ true = refl in
    let from = requires_from eleven_kinds k j there in
    let less : nat_lt j from.0.provides ≡ true = all_at (λ i. nat_lt i from.0.provides) from.0.requires_ j (all_at (λ (e : Describe). list_all (λ i. nat_lt i e.provides) e.requires_) eleven_kinds from.0 tested from.1) from.3 in
    let is : j < from.0.provides = ltb-true j from.0.provides less in
    omega (arith, is, from.2)

lower_through : {k j : ℕ} → Requires eleven_kinds k j → j < k
lower_through {k} {j} (directly there) = lower k j there
lower_through {k} {j} (through {i = i} before there) = let one = lower i j there in let other = lower_through before in omega (arith, one, other)

acyclic : NoneWith (IsCyclic eleven_kinds)
acyclic k circle = let less = lower_through circle in omega (arith, less)

pub registry_kinds : (ds : List Describe) (r : Result (List Describe) RegistryFault) → ds ≡ eleven_kinds → IsRegistryOf ds r → IfOk r (λ registry. registry ≡ eleven_kinds)
registry_kinds ds (Ok registry) same is = is.0 ∙ same
registry_kinds ds (Err fault) same is = tt

pub registry_memory : (ds : List Describe) (r : Result (List Describe) RegistryFault) → ds ≡ eleven_kinds → IsRegistryOf ds r → IfErr r IsMemory
registry_memory ds r same is = by r (subst (λ (xs : List Describe). IsRegistryOf xs r) same is)
  where
    by : (t : Result (List Describe) RegistryFault) → IsRegistryOf eleven_kinds t → IfErr t IsMemory
    by (Ok registry) is = tt
    by (Err (Double k)) is = absurd (single k is.0)
    by (Err (Missing k)) is = absurd (complete k is.1.0)
    by (Err (Cycle k)) is = absurd (acyclic k is.2.0)
    by (Err (Memory error)) is = tt
