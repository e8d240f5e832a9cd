-- The eleven kinds of features, what each requires and which parts of the inputs it reads.
use Rattle.std.specs.Prelude.{ℕ, List, [], ◌∷◌}
use Rattle.wc_model.specs.declared.kinds.Describe.{Describe}
use Rattle.wc_model.specs.declared.kinds.Part.{Part}
use Rattle.wc_model.specs.declared.kinds.Part.TheVariants.{Steer, Loops, Limits, Cache, Cycles}

abbrev pub describe : ℕ → List ℕ → List Part → Describe
describe kind required read = record { provides = kind; requires_ = required; reads = read }

-- graph, nest, bounds, lines, must, may, category, cost, system, solution, bound
abbrev pub eleven_kinds : List Describe
eleven_kinds =
    describe 1 [] (Steer ∷ [])
    ∷ describe 2 (1 ∷ []) []
    ∷ describe 3 (1 ∷ 2 ∷ []) (Loops ∷ [])
    ∷ describe 4 (1 ∷ []) (Cache ∷ [])
    ∷ describe 5 (1 ∷ 4 ∷ []) (Cache ∷ [])
    ∷ describe 6 (1 ∷ 4 ∷ []) (Cache ∷ [])
    ∷ describe 7 (1 ∷ 4 ∷ 5 ∷ 6 ∷ []) []
    ∷ describe 8 (1 ∷ 7 ∷ []) (Cycles ∷ [])
    ∷ describe 9 (1 ∷ 2 ∷ 3 ∷ 8 ∷ []) (Limits ∷ [])
    ∷ describe 10 (1 ∷ 2 ∷ 9 ∷ []) []
    ∷ describe 11 (9 ∷ 10 ∷ []) []
    ∷ []
