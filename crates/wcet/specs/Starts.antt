-- How often the works of each kind were started in a history.
use Rattle.std.specs.Prelude.{ℕ, ◌+◌, ◌==◌, if◌then◌else◌, List, [], ◌∷◌, map}
use Rattle.wc_model.specs.declared.entries.Entry.{Entry}
use Rattle.wc_model.specs.declared.entries.Entry.TheVariants.{Edit, NoFact, Pin, Start, Finish, Answer, List as ListEntry}
use Rattle.wc_model.specs.Workspace.KindNames.{all_kinds}

abbrev pub starts_of : ℕ → List Entry → ℕ
starts_of kind [] = 0
starts_of kind (Start session k name stamp ∷ es) = if k == kind then starts_of kind es + 1 else starts_of kind es
starts_of kind (Edit _ _ _ ∷ es) = starts_of kind es
starts_of kind (NoFact _ _ _ ∷ es) = starts_of kind es
starts_of kind (Pin _ _ _ ∷ es) = starts_of kind es
starts_of kind (Finish _ _ _ _ _ ∷ es) = starts_of kind es
starts_of kind (Answer _ _ _ _ ∷ es) = starts_of kind es
starts_of kind (ListEntry _ _ ∷ es) = starts_of kind es

-- those of the eleven kinds, in their order
abbrev pub all_starts : List Entry → List ℕ
all_starts history = map (λ kind. starts_of kind history) all_kinds

-- a work of the bound alone ran so often
abbrev pub bound_runs : ℕ → List ℕ
bound_runs runs = 0 ∷ 0 ∷ 0 ∷ 0 ∷ 0 ∷ 0 ∷ 0 ∷ 0 ∷ 0 ∷ 0 ∷ runs ∷ []
