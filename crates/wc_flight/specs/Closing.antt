-- What is left of a workspace at its end.
use Rattle.std.specs.Prelude.{ℕ, ◌≡◌, ◌==◌, Bool, false, List, filter, find, length, map}
use Rattle.std.specs.List.{sum}
use Rattle.std.specs.Option.{option_map_or}
use Rattle.wc_model.specs.declared.entries.Entry.{Entry}
use Rattle.wc_model.specs.declared.entries.Entry.TheVariants.{Start}
use Rattle.wc_model.specs.Workspace.Entries.{entries_of}
use Rattle.wc_model.specs.Workspace.States.{Opening}
use Rattle.wc_pass.specs.Known.{IsPrefix, KnownPass}

-- What the pass has seen begins the history and has all entries of its session.
pub record IsWhole (history : List Entry) (pass : KnownPass) : Type 0 where
  pub before : IsPrefix pass.seen history
  pub entries : entries_of pass.session history ≡ entries_of pass.session pass.seen

-- how often a kind was started
abbrev pub is_start : ℕ → Entry → Bool
is_start kind (Start session k name stamp) = k == kind
is_start kind _ = false

abbrev pub starts_of : ℕ → List Entry → ℕ
starts_of kind history = length (filter (is_start kind) history)

-- how many works of a kind there are
abbrev pub works_for : ℕ → List (ℕ × ℕ) → ℕ
works_for kind works = option_map_or (λ w. w.1) (find (λ w. w.0 == kind) works) 0

abbrev pub of_kind : {W : Type 0} → (W → ℕ) → ℕ → List W → List W
of_kind kind_of kind works = filter (λ w. kind_of w == kind) works

-- All works are back, and those of a kind have run as often as it was started.
pub record AreBack {W : Type 0} (kind_of runs_of : W → ℕ) (o : Opening) (history : List Entry) (works : List W) : Type 0 where
  pub count : (kind : ℕ) → length (of_kind kind_of kind works) ≡ works_for kind o.works
  pub runs : (kind : ℕ) → sum (map runs_of (of_kind kind_of kind works)) ≡ starts_of kind history
