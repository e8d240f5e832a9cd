-- From the machine's end to the answer.
use Rattle.std.proofs.Common.{◌≡◌, ℕ, zero, suc, ◌+◌, ◌-◌, ◌<◌, ◌≤◌, ◌^◌, ℤ, pos, List, [], ◌∷◌, map, get_or, length, Result, Ok, Err, Option, None, Some, refl, sym, ap, ap₂, subst, ◌∙◌, arith}
use Rattle.std.specs.List.{All, AllByRecursion}
use Rattle.std.proofs.lemmas.List.{length-map}
use Rattle.std.proofs.lemmas.List.Elements.{All-cons, All-nil}
use Rattle.wc_model.specs.declared.flow_system.Ray.{Ray}
use Rattle.wc_model.specs.declared.flow_system.Solution.{Solution}
use Rattle.wc_model.specs.declared.flow_system.System.{System}
use Rattle.wc_model.specs.Flow.Cells.{cells_of, columns_of, row_nodes}
use Rattle.wc_model.specs.Flow.Certificates.{ArePrices, Prices, RayHolds, SolutionHolds, scaled}
use Rattle.wc_model.specs.Flow.Ends.{system_ends}
use Rattle.wc_model.specs.Flow.RowMachine as machine
use Rattle.wc_model.specs.Flow.RowMachine.{Shape, Tableau}
use Rattle.wc_model.specs.Flow.RowResults.{IsRowOutcome, RowOutcome, no_path, number_limit, ray_of, read_end, read_ray, read_solution, row_outcome, run_from, solution_of, solved}
use Rattle.wc_model.specs.Flow.Systems.{IsSystem}
use Rattle.wc_model.specs.Flow.Tableaus.{count_slacks, lines_of, starting}
use Rattle.wc_model.specs.Flow.Walks.{Joins}
use Rattle.wc_model.specs.Program.Reaching.{IsLive}
use Rattle.wc_simplex.specs.declared.fault.SolveFault.{SolveFault}
use Rattle.wc_simplex.specs.declared.fault.SolveFault.TheVariants.{Memory, NoPath, NumberLimit, PivotLimit}
use Rattle.wc_simplex.specs.declared.machine_end.MachineEnd.{MachineEnd}
use Rattle.wc_simplex.specs.declared.machine_end.MachineEnd.TheVariants.{Best, Infeasible, Wide, Many, Endless}
use Rattle.wc_simplex.specs.declared.start.Start as begun
use Rattle.wc_simplex.specs.Inner.Columns.{IsChain}
use Rattle.wc_simplex.specs.Inner.Counts.{IsReadable}
use Rattle.wc_simplex.specs.Inner.Endings.{EndsMachine}
use Rattle.wc_simplex.specs.Inner.Finishes.{IsFine, IsPossible, Reads, end_as}
use Rattle.wc_simplex.specs.Inner.Machines.{AreWide, IsRegular, KeepsShape, seen, shape_of}
use Rattle.wc_simplex.specs.Inner.Prices.{IsEnd, ray}
use Rattle.wc_simplex.specs.Inner.Reached.{HaveWidth}
use Rattle.wc_simplex.specs.Inner.Starts.{start_as}
use Rattle.wc_simplex.proofs.BeginLemmas.{IsStartOf, starting_is}
use Rattle.wc_simplex.proofs.ChainLemmas.{IsOnFrom, reached_on, step_at}
use Rattle.wc_simplex.proofs.EndingLaws.{EndFine, machine_fine, ray_holds, solution_holds}
use Rattle.wc_simplex.proofs.PartitionLemmas.{IsRun, run_is_chain, runs_each}
use Rattle.wc_simplex.proofs.PhaseLemmas.{same_shape}
use Rattle.wc_simplex.proofs.StartLemmas.{halves_count}
use Rattle.wc_simplex.proofs.CellLemmas.{few_cells, lines_count, slacks_are}

each_on : (s : System) → IsSystem s → ((p : ℕ) → p < s.nodes → IsLive (Joins system_ends s.steps) s.start p) → (k : ℕ) → k < length s.steps → IsOnFrom s k
each_on s sound live k within =
    reached_on s (step_at s k).source (live (step_at s k).source (sound.sources k (record { source = 0; target = None; cost = 0 }) within)).0 k within refl

chains_all : (s : System) (columns : List (List ℕ)) → AllByRecursion (IsRun s) columns → All (IsChain s) columns
chains_all s [] runs = All-nil (IsChain s)
chains_all s (c ∷ cs) runs = All-cons (IsChain s) c cs (run_is_chain s c runs.0) (chains_all s cs runs.1)

module _ (s : System) (sound : IsSystem s) (columns : List (List ℕ)) (ordered : columns ≡ columns_of s) (small : cells_of s ≤ 250000) (live : (p : ℕ) → p < s.nodes → IsLive (Joins system_ends s.steps) s.start p)
    (prices : Prices) (priced : ArePrices s (scaled (pos 1)) prices) (st : begun.Start) (starts : starting s columns ≡ Some (start_as st)) where
  pub chains : All (IsChain s) columns
  chains = subst (λ (l : List (List ℕ)). All (IsChain s) l) (sym ordered) (chains_all s (columns_of s) (runs_each s))

  of : IsStartOf s (columns_of s) (start_as st)
  of = starting_is s (columns_of s) (start_as st) (ap (starting s) (sym ordered) ∙ starts)

  rows_count : length of.hs ≡ length (row_nodes s) + length s.loops + length s.limits
  rows_count = halves_count s (columns_of s) (count_slacks (lines_of s)) 0 (lines_of s) of.hs of.halves_is ∙ lines_count s

  right_small : st.machine.right < 2 ^ 32
  right_small = omega (arith, of.is.right, of.real, slacks_are s, few_cells s small, halves_count s (columns_of s) (count_slacks (lines_of s)) 0 (lines_of s) of.hs of.halves_is)

  pub regular : IsRegular st.machine
  regular =
      record {
        rows = λ k d within. get_wide k d within;
        z = of.is.wide_z;
        w = of.is.wide_w;
        basis = of.is.bases ∙ sym of.is.counted;
        real = omega (arith, of.is.right);
      }
    where
      get_wide : AreWide (st.machine.right + 2) st.machine.rows.items
      get_wide k d within = by st.machine.rows.items k of.is.wide within
        where
          by : (rows : List (List ℤ)) (k : ℕ) → HaveWidth (st.machine.right + 2) rows → k < length rows → length (get_or rows k d) ≡ st.machine.right + 2
          by [] k wide few = absurd (omega arith)
          by (row ∷ rows) zero wide few = wide.0
          by (row ∷ rows) (suc k) wide few = by rows k wide.1 (omega arith)

  module _ (new : begun.Start) (e : MachineEnd) (most : ℕ) (five : most ≡ 5000) (ends : EndsMachine new.machine e (machine.machine (shape_of st.machine) most (seen st.machine))) (good : IsRegular new.machine)
      (keeps : KeepsShape st.machine new.machine) (signs : new.negated.items ≡ st.negated.items) where
    fine : EndFine s sound (each_on s sound live) (start_as st) of (machine.machine (shape_of st.machine) most (seen st.machine))
    fine = machine_fine s sound (each_on s sound live) (start_as st) of prices priced most

    pub end_is : IsEnd s new
    end_is =
        record {
          regular = good;
          counted = ap length (signs ∙ of.negated) ∙ length-map of.hs (λ h. h.negated) ∙ rows_count;
          right = keeps.right ∙ of.is.right ∙ ap₂ (λ m n. m + n) (sym keeps.real) (sym (ap length (signs ∙ of.negated) ∙ length-map of.hs (λ h. h.negated)));
          small = omega (arith, keeps.right, right_small);
        }

    pub columns_few : length columns ≤ new.machine.right
    columns_few = omega (arith, ap length ordered, keeps.right, of.is.right, of.real)

    end_seen : EndFine s sound (each_on s sound live) (start_as st) of (end_as e (seen new.machine))
    end_seen = subst (λ (x : machine.MachineEnd). EndFine s sound (each_on s sound live) (start_as st) of x) (sym (same_end e ends)) fine
      where
        same_end : (e : MachineEnd) → EndsMachine new.machine e (machine.machine (shape_of st.machine) most (seen st.machine)) → end_as e (seen new.machine) ≡ machine.machine (shape_of st.machine) most (seen st.machine)
        same_end Best is = sym is
        same_end Infeasible is = sym is
        same_end Wide is = sym is
        same_end Many is = sym is
        same_end Endless is = sym is

    pub possible : IsPossible e (IsReadable (shape_of new.machine) (seen new.machine))
    possible = by e end_seen
      where
        by : (e : MachineEnd) → EndFine s sound (each_on s sound live) (start_as st) of (end_as e (seen new.machine)) → IsPossible e (IsReadable (shape_of new.machine) (seen new.machine))
        by Best is =
            subst (λ (x : Shape). IsReadable x (seen new.machine)) (sym (same_shape st.machine new.machine keeps))
            (record { inside = is.0.0.basic.inside; above = is.0.0.above; sides = is.0.0.basic.sides })
        by Infeasible is = tt
        by Wide is = tt
        by Many is = tt
        by Endless is = is

    start_same : (t : Tableau) → solution_of s columns (start_as new) t ≡ solution_of s (columns_of s) (start_as st) t
    start_same t =
        ap₂ (λ (x : Shape) ns. solution_of s columns (record { shape = x; first = seen st.machine; negated = ns }) t) (same_shape st.machine new.machine keeps) signs
        ∙ ap (λ cs. solution_of s cs (start_as st) t) ordered

    ray_same : (t : Tableau) → ray_of s columns (start_as new) t ≡ ray_of s (columns_of s) (start_as st) t
    ray_same t =
        ap₂ (λ (x : Shape) ns. ray_of s columns (record { shape = x; first = seen st.machine; negated = ns }) t) (same_shape st.machine new.machine keeps) signs
        ∙ ap (λ cs. ray_of s cs (start_as st) t) ordered

    outcome_is : row_outcome most s ≡ read_end s columns (start_as new) (end_as e (seen new.machine))
    outcome_is =
        ap (run_from s (columns_of s) most) (ap (starting s) (sym ordered) ∙ starts) ∙ by e ends
      where
        by : (e : MachineEnd) → EndsMachine new.machine e (machine.machine (shape_of st.machine) most (seen st.machine))
            → read_end s (columns_of s) (start_as st) (machine.machine (shape_of st.machine) most (seen st.machine)) ≡ read_end s columns (start_as new) (end_as e (seen new.machine))
        by Best is = ap (read_end s (columns_of s) (start_as st)) is ∙ sym (ap read_solution (start_same (seen new.machine)))
        by Infeasible is = ap (read_end s (columns_of s) (start_as st)) is ∙ sym (ap read_ray (ray_same (seen new.machine)))
        by Wide is = ap (read_end s (columns_of s) (start_as st)) is
        by Many is = ap (read_end s (columns_of s) (start_as st)) is
        by Endless is = ap (read_end s (columns_of s) (start_as st)) is

    pub answers : (result : Result Solution SolveFault) → Reads (read_end s columns (start_as new) (end_as e (seen new.machine))) result → IsFine s result
    answers result reads = at result (subst (λ (x : RowOutcome). Reads x result) (sym outcome_is) reads) reads
      where
        solves : (c : Solution) (e : MachineEnd) → EndFine s sound (each_on s sound live) (start_as st) of (end_as e (seen new.machine)) → read_end s columns (start_as new) (end_as e (seen new.machine)) ≡ solved c → SolutionHolds s c
        solves c Best is f = solution_holds s sound (each_on s sound live) (start_as st) of (seen new.machine) is.0 is.1 c (sym (start_same (seen new.machine)) ∙ got (solution_of s columns (start_as new) (seen new.machine)) f)
          where
            got : (o : Option Solution) → read_solution o ≡ solved c → o ≡ Some c
            got None g = absurd (cc)
            got (Some d) g = let same : d ≡ c = cc in ap Some same
        solves c Infeasible is f = absurd (wrong (ray_of s columns (start_as new) (seen new.machine)) f)
          where
            wrong : (o : Option Ray) → read_ray o ≡ solved c → ⊥
            wrong None g = cc
            wrong (Some d) g = cc
        solves c Wide is f = absurd (cc)
        solves c Many is f = absurd (cc)
        solves c Endless is f = absurd is

        refutes : (r : Ray) (e : MachineEnd) → EndFine s sound (each_on s sound live) (start_as st) of (end_as e (seen new.machine)) → read_end s columns (start_as new) (end_as e (seen new.machine)) ≡ no_path r → RayHolds s r
        refutes r Best is f = absurd (wrong (solution_of s columns (start_as new) (seen new.machine)) f)
          where
            wrong : (o : Option Solution) → read_solution o ≡ no_path r → ⊥
            wrong None g = cc
            wrong (Some d) g = cc
        refutes r Infeasible is f = ray_holds s sound (each_on s sound live) (start_as st) of (seen new.machine) is.0 is.1 is.2 r (sym (ray_same (seen new.machine)) ∙ got (ray_of s columns (start_as new) (seen new.machine)) f)
          where
            got : (o : Option Ray) → read_ray o ≡ no_path r → o ≡ Some r
            got None g = absurd (cc)
            got (Some d) g = let same : d ≡ r = cc in ap Some same
        refutes r Wide is f = absurd (cc)
        refutes r Many is f = absurd (cc)
        refutes r Endless is f = absurd is

        at : (result : Result Solution SolveFault) → Reads (row_outcome most s) result → Reads (read_end s columns (start_as new) (end_as e (seen new.machine))) result → IsFine s result
        at (Ok c) is reads = record { answer = (most, five, is); holds = solves c e end_seen reads; ray = tt }
        at (Err NumberLimit) is reads = record { answer = (most, five, is); holds = tt; ray = tt }
        at (Err PivotLimit) is reads = record { answer = (most, five, is); holds = tt; ray = tt }
        at (Err (NoPath r)) is reads = record { answer = (most, five, is); holds = tt; ray = refutes r e end_seen reads }
        at (Err (Memory x)) is reads = record { answer = tt; holds = tt; ray = tt }

-- Where the start leaves the range.
pub start_wide : (s : System) (columns : List (List ℕ)) (most : ℕ) → most ≡ 5000 → columns ≡ columns_of s → None ≡ starting s columns → IsRowOutcome s number_limit
start_wide s columns most five ordered none = (most, five, ap (run_from s (columns_of s) most) (ap (starting s) (sym ordered) ∙ sym none))
