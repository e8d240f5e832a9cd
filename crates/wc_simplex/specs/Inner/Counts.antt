-- (inner) Counts as they are read from the last tableau.
use Rattle.std.specs.Prelude.{◌≡◌, ℕ, ◌+◌, ◌<◌, ◌≤◌, ℤ, pos, ◌≤ℤ◌, ◌<ℤ◌, List, length, get_or, drop, Option, None, IfSome, option_map, option_and_then}
use Rattle.wc_model.specs.declared.flow_system.System.{System}
use Rattle.wc_model.specs.Flow.RowMachine.{Shape, Tableau, cell}
use Rattle.wc_model.specs.Flow.RowResults.{column_of, common_from, counts_of, row_of, scaled, sum_terms, value_terms}
use Rattle.wc_simplex.specs.declared.counts.Counts as code
use Rattle.wc_simplex.specs.declared.tableau.Machine.{Machine}
use Rattle.wc_simplex.specs.Inner.Machines.{seen, shape_of}

-- each row has its basis column, above 0, and no right side is below 0
pub record IsReadable (shape : Shape) (t : Tableau) : Type 0 where
  pub inside : (k : ℕ) → k < length t.rows → get_or t.basis k 0 < shape.right
  pub above : (k : ℕ) → k < length t.rows → pos 0 <ℤ cell t k (get_or t.basis k 0)
  pub sides : (k : ℕ) → k < length t.rows → pos 0 ≤ℤ cell t k shape.right

-- the rows of the columns up to `right`, from the row `k` on
pub record AreRowsOf (right : ℕ) (basis : List ℕ) (k : ℕ) (found : List (Option ℕ)) : Type 0 where
  pub count : length found ≡ right + 1
  pub each : (j : ℕ) → j < right + 1 → get_or found j None ≡ row_of j k (drop k basis)
  pub inside : (j : ℕ) → j < right + 1 → IfSome (get_or found j None) (λ r. r < length basis)

-- the columns of the steps, from the column `k` on
pub record AreColumnsAt (steps : ℕ) (columns : List (List ℕ)) (k : ℕ) (found : List ℕ) : Type 0 where
  pub count : length found ≡ steps
  pub each : (i : ℕ) → i < steps → get_or found i 0 ≡ column_of i k (drop k columns)
  pub inside : (i : ℕ) → i < steps → get_or found i 0 ≤ length columns

abbrev pub counted : Machine → ℕ → List (Option ℕ) → ℕ → Option ℤ
counted m den rows j = scaled (shape_of m) (seen m) (pos den) (get_or rows j None)

pub record Reading : Type 0 where
  pub num : ℤ
  pub den : ℤ
  pub x : List ℤ

abbrev pub read : ℤ → ℤ → List ℤ → Reading
read num den x = record { num = num; den = den; x = x }

abbrev pub counts_as : code.Counts → Reading
counts_as c = read c.num c.den c.x.items

abbrev pub read_counts : System → List (List ℕ) → Shape → Tableau → Option Reading
read_counts system columns shape t =
    option_and_then (λ den. option_and_then (λ x. option_map (λ num. read num den x) (sum_terms (pos 0) (value_terms system.steps x))) (counts_of system shape t columns den)) (common_from shape t 0 (pos 1) t.basis)
