-- A set of kinds by a mark for each number.
use Rattle.std.specs.Prelude.{ℕ, ◌≡◌, Bool, false, not, ◌&&◌, ◌||◌, List, Option, None, Some, slice_index_or}
use Rattle.std.specs.List.{count_by, list_all}
use Rattle.wc_model.specs.declared.kinds.Describe.{Describe}
use Rattle.wc_model.specs.Workspace.Registry.{IsLeastWith}
use Rattle.wc_registry.specs.Sound.{NoneWith}

abbrev pub holds : List Bool → ℕ → Bool
holds marks k = slice_index_or marks k false

-- the kinds that pass a test are added
abbrev pub Adds : (ℕ → Bool) → List Bool → List Bool → Type 0
Adds test old new = (k : ℕ) → holds new k ≡ (test k || holds old k)

abbrev pub size : List Bool → ℕ
size marks = count_by (λ mark. mark) marks

-- the least number of which something holds, or nothing where it holds of none
abbrev pub IsLeastOf : (ℕ → Type 0) → Option ℕ → Type 0
IsLeastOf P None = NoneWith P
IsLeastOf P (Some k) = IsLeastWith P k

-- a kind of the set requires one that isn't in it
abbrev pub is_open : List Bool → Describe → Bool
is_open found d = holds found d.provides && not (list_all (λ k. holds found k) d.requires_)
