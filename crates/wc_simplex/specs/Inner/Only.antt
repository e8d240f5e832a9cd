-- (inner) Whether a list has no place, one, or several.
use Rattle.std.specs.Prelude.{ℕ, Bool, true, false, List, [], ◌∷◌, Option, None, Some}
use Rattle.wc_simplex.specs.declared.only.Only.{Only}
use Rattle.wc_simplex.specs.declared.only.Only.TheVariants.{Nothing, One, Several}

abbrev pub only_as : List ℕ → Only
only_as [] = Nothing
only_as (i ∷ []) = One i
only_as (i ∷ j ∷ more) = Several

abbrev pub and_one : ℕ → Only → Only
and_one i Nothing = One i
and_one i (One j) = Several
and_one i Several = Several

abbrev pub through : Bool → Only → Only → Option ℕ
through true ins outs = None
through false Nothing outs = None
through false Several outs = None
through false (One i) Nothing = None
through false (One i) (One out) = Some out
through false (One i) Several = None
