use Rattle.std.proofs.Common.{ℕ, ◌≡◌, List, Option, None, Some, get_or, is_some, sym, ap, subst}
use Rattle.std.specs.List.{slice_get}
use Rattle.std.specs.Option.{IsSome}
use Rattle.std.proofs.lemmas.Option.{get_or_from_slice_get, slice_get_within}
use Rattle.wc_graph.proofs.ReachLemmas.{has_get}
use Rattle.wc_graph.proofs.building.assemble.Goals as goal

pub unwrap-requires : goal.unwrap-requires
unwrap-requires c =
    let order : List ℕ = c.args.places.now.order.items in
    let numbers : List (Option ℕ) = c.args.places.now.numbers.items in
    let at = has_get order 0 c.requires.started in
    let there : slice_get numbers 0 ≡ Some (Some at.0) = c.requires.places.placed.there c.requires.places.once at.0 0 (slice_get_within order at.0 0 at.1) at.1 in
    subst (λ (xs : List (Option ℕ)). IsSome (get_or xs 0 None)) (sym c.as_slice-numbers.ensures.value) (ap is_some (get_or_from_slice_get numbers 0 (Some at.0) None there))
