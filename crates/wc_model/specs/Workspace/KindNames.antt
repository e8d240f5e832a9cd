-- The names of the eleven kinds of features.
use Rattle.std.specs.Prelude.{ℕ, ◌-◌, List, [], ◌∷◌, codes, slice_index_or}

-- from kind 1 on
abbrev pub kind_names : List (List ℕ)
kind_names =
    codes "GRAPH" ∷ codes "NEST" ∷ codes "BOUNDS" ∷ codes "LINES" ∷ codes "MUST" ∷ codes "MAY"
    ∷ codes "CATEGORY" ∷ codes "COST" ∷ codes "SYSTEM" ∷ codes "SOLUTION" ∷ codes "BOUND" ∷ []

abbrev pub kind_name : ℕ → List ℕ
kind_name kind = slice_index_or kind_names (kind - 1) []

abbrev pub all_kinds : List ℕ
all_kinds = 1 ∷ 2 ∷ 3 ∷ 4 ∷ 5 ∷ 6 ∷ 7 ∷ 8 ∷ 9 ∷ 10 ∷ 11 ∷ []
