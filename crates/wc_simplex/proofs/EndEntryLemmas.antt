-- The entries of a node's row at columns: of a column's steps only the first one may leave a node that has a row, and
-- only the last one may lead to it.
use Rattle.std.proofs.Common.{◌≡◌, ℕ, suc, ◌-◌, ◌==◌, ℤ, pos, ◌-ℤ◌, Bool, true, false, List, [], ◌∷◌, ◌++◌, map, replicate, get_or, length, Some, option_and_then, option_map, refl, sym, ap, ap₂, subst, ◌∙◌, arith}
use Rattle.std.specs.List.{AllByRecursion}
use Rattle.std.proofs.lemmas.Bool.{ne_eqb}
use Rattle.wc_model.specs.declared.flow_system.System.{System}
use Rattle.wc_model.specs.Flow.Cells.{columns_of, is_passed}
use Rattle.wc_model.specs.Flow.Exact.{add_exact, each_of, exact, sum_exact}
use Rattle.wc_model.specs.Flow.Systems.{leads_to}
use Rattle.wc_model.specs.Flow.Tableaus.{column_entry, half, half_of, node_line, one_if, slack_entries, step_entry}
use Rattle.wc_simplex.specs.Inner.Columns.{node_ends}
use Rattle.wc_simplex.specs.Inner.Halves.{node_half}
use Rattle.wc_simplex.proofs.ChainLemmas.{next_is, step_at}
use Rattle.wc_simplex.proofs.HalfLemmas.{line_half}
use Rattle.wc_simplex.proofs.PartitionLemmas.{IsRun, RunsFrom, runs_each}

bits : (a b : Bool) → add_exact (pos 0) (one_if a -ℤ one_if b) ≡ Some (one_if a -ℤ one_if b)
unfolding exact
bits true true = refl
bits true false = refl
bits false true = refl
bits false false = refl

on_bit : (a b : Bool) → add_exact (one_if a) (one_if false -ℤ one_if b) ≡ Some (one_if a -ℤ one_if b)
unfolding exact
on_bit true true = refl
on_bit true false = refl
on_bit false true = refl
on_bit false false = refl

less_none : (a : Bool) → one_if a -ℤ one_if false ≡ one_if a
less_none true = refl
less_none false = refl

abbrev ends_at : ℕ → List ℕ → ℕ
ends_at m [] = m
ends_at m (i ∷ later) = ends_at i later

last_at : (m : ℕ) (later : List ℕ) → get_or (m ∷ later) (length later) 0 ≡ ends_at m later
last_at m [] = refl
last_at m (i ∷ later) = last_at i later

module _ (s : System) (q : ℕ) (other : is_passed s q ≡ false) where
  abbrev entry_of : ℕ → ℤ
  entry_of = step_entry s (node_line s q)

  abbrev leads : ℕ → Bool
  leads i = leads_to (step_at s i).target q

  apart : (p : ℕ) → is_passed s p ≡ true → (p == q) ≡ false
  apart p passes = ne_eqb p q (λ same. wrong (sym passes ∙ ap (is_passed s) same ∙ other))
    where
      wrong : true ≡ false → ⊥
      wrong e = cc

  rest : (a : Bool) (m : ℕ) (later : List ℕ) → is_passed s (step_at s m).source ≡ true → RunsFrom s m later
      → sum_exact (one_if a) (map entry_of (m ∷ later)) ≡ Some (one_if a -ℤ one_if (leads (ends_at m later)))
  rest a m [] passes runs =
      ap (λ b. option_and_then (λ sum. Some sum) (add_exact (one_if a) (one_if b -ℤ one_if (leads m)))) (apart (step_at s m).source passes)
      ∙ ap (option_and_then (λ sum. Some sum)) (on_bit a (leads m))
  rest a m (i ∷ later) passes runs =
      let is_next = next_is s m i runs.0 in
      ap₂ (λ b c. option_and_then (λ sum. sum_exact sum (map entry_of (i ∷ later))) (add_exact (one_if a) (one_if b -ℤ one_if c))) (apart (step_at s m).source passes)
      (ap (λ o. leads_to o q) is_next.leads ∙ apart (step_at s i).source is_next.passes)
      ∙ ap (option_and_then (λ sum. sum_exact sum (map entry_of (i ∷ later)))) (on_bit a false)
      ∙ ap (λ sum. sum_exact sum (map entry_of (i ∷ later))) (less_none a) ∙ rest a i later is_next.passes runs.1

  run_ends : (m : ℕ) (later : List ℕ) → RunsFrom s m later
      → sum_exact (pos 0) (map entry_of (m ∷ later)) ≡ Some (one_if ((step_at s m).source == q) -ℤ one_if (leads (ends_at m later)))
  run_ends m [] runs = ap (option_and_then (λ sum. Some sum)) (bits ((step_at s m).source == q) (leads m))
  run_ends m (i ∷ later) runs =
      let is_next = next_is s m i runs.0 in
      ap (λ c. option_and_then (λ sum. sum_exact sum (map entry_of (i ∷ later))) (add_exact (pos 0) (one_if ((step_at s m).source == q) -ℤ one_if c)))
      (ap (λ o. leads_to o q) is_next.leads ∙ apart (step_at s i).source is_next.passes)
      ∙ ap (option_and_then (λ sum. sum_exact sum (map entry_of (i ∷ later)))) (bits ((step_at s m).source == q) false)
      ∙ ap (λ sum. sum_exact sum (map entry_of (i ∷ later))) (less_none ((step_at s m).source == q)) ∙ rest ((step_at s m).source == q) i later is_next.passes runs.1

  column_ends : (column : List ℕ) → IsRun s column → column_entry s (node_line s q) column ≡ Some (node_ends s.steps q column)
  column_ends column run =
      subst (λ (c : List ℕ). column_entry s (node_line s q) c ≡ Some (node_ends s.steps q c)) (sym run.is)
      (run_ends run.first run.later run.runs ∙ ap (λ n. Some (one_if ((step_at s run.first).source == q) -ℤ one_if (leads n))) (sym (last_at run.first run.later) ∙ ap (λ n. get_or (run.first ∷ run.later) n 0) one_less))
    where
      one_less : length run.later ≡ length (run.first ∷ run.later) - 1
      one_less = omega arith

  pub columns_ends : (columns : List (List ℕ)) → AllByRecursion (IsRun s) columns → each_of (column_entry s (node_line s q)) columns ≡ Some (map (node_ends s.steps q) columns)
  columns_ends [] runs = refl
  columns_ends (column ∷ columns) runs = ap₂ (λ o l. option_and_then (λ y. option_map (λ ys. y ∷ ys) l) o) (column_ends column runs.0) (columns_ends columns runs.1)

-- the row of a node
pub node_half_is : (s : System) (columns : List (List ℕ)) (slacks q : ℕ) → false ≡ is_passed s q → columns ≡ columns_of s → Some (node_half s columns slacks q) ≡ line_half s columns slacks 0 (node_line s q)
node_half_is s columns slacks q other ordered =
    sym (ap (option_and_then (λ entries. half_of (one_if (q == s.start)) (entries ++ slack_entries slacks 0 false))) (columns_ends s q (sym other) columns (subst (λ (cs : List (List ℕ)). AllByRecursion (IsRun s) cs) (sym ordered) (runs_each s)))
    ∙ stays (q == s.start) (map (node_ends s.steps q) columns ++ replicate slacks (pos 0)))
  where
    stays : (b : Bool) (real : List ℤ) → half_of (one_if b) real ≡ Some (half real (one_if b) false)
    stays true real = refl
    stays false real = refl
