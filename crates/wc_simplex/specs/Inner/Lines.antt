-- (inner) A stated row as the code holds it, by the steps.
use Rattle.std.specs.Prelude.{◌≡◌, ℕ, ◌<◌, ℤ, pos, ◌-ℤ◌, Bool, true, false, if◌then◌else◌, List, get_or, drop, length}
use Rattle.wc_model.specs.declared.flow_system.System.{System}
use Rattle.wc_model.specs.Flow.Certificates.{factor_of}
use Rattle.wc_model.specs.Flow.Places.{is_listed}
use Rattle.wc_model.specs.Flow.Tableaus.{Line, one_if, step_entry}
use Rattle.wc_simplex.specs.declared.stated.StatedRow.{StatedRow}

pub record IsLine (s : System) (line : Line) (row : StatedRow) : Type 0 where
  pub count : length row.entries.items ≡ length s.steps
  pub entries : (i : ℕ) → i < length s.steps → get_or row.entries.items i (pos 0) ≡ step_entry s line i
  pub side : row.side ≡ line.side
  pub slack : row.slack ≡ line.slack

-- which of the first places are listed from the place `k` of a list on
pub record AreMarks (count : ℕ) (places : List ℕ) (k : ℕ) (marks : List Bool) : Type 0 where
  pub counted : length marks ≡ count
  pub each : (i : ℕ) → i < count → get_or marks i false ≡ is_listed i (drop k places)

-- the factors of the first nodes that are named from the place `k` of a list on
pub record AreFactors (nodes : ℕ) (named : List (ℕ × ℤ)) (k : ℕ) (factors : List ℤ) : Type 0 where
  pub counted : length factors ≡ nodes
  pub each : (p : ℕ) → p < nodes → get_or factors p (pos 0) ≡ factor_of p (drop k named)

abbrev pub loop_entry : Bool → Bool → ℕ → ℤ
loop_entry back entry bound = one_if back -ℤ (if entry then pos bound else pos 0)
