-- The live positions, by the order of their numbers.
use Rattle.std.proofs.Common.{ℕ, ◌≡◌, inl, inr, List, [], ◌∷◌, Some, get_or, refl, arith}
use Rattle.std.specs.List.{AllPairs, AllZip, slice_get}
use Rattle.std.proofs.lemmas.Option.{slice_get-get_or}
use Rattle.wc_graph.specs.Inner.Lists.{Has}
use Rattle.wc_graph.specs.Inner.Orders.{Pairs}
use Rattle.wc_graph.proofs.OrderedLemmas.{pairs_at}

pub zip_exists : {X : Type 0} (ps : List X) (ks : List ℕ) → ((k : ℕ) → Has ks k → (p : X) × (slice_get ps k ≡ Some p)) → (qs : List X) × AllZip (λ k q. slice_get ps k ≡ Some q) ks qs
zip_exists ps [] all = ([], tt)
zip_exists ps (k ∷ ks) all =
    let first = all k (inl refl) in
    let rest = zip_exists ps ks (λ j has. all j (inr has)) in
    (first.0 ∷ rest.0, (first.1, rest.1))

pub pairs_all : {X : Type 0} (R : X → X → Type 0) (xs : List X) → Pairs R xs → AllPairs R xs
pairs_all R xs pairs i j d less within = pairs_at R xs i j (get_or xs i d) (get_or xs j d) pairs less (slice_get-get_or xs i d (omega arith)) (slice_get-get_or xs j d within)
