-- What the row machine answers: the solution or the ray that its end shows, or which limit was met.
use Rattle.std.specs.Prelude.{ℕ, suc, ◌+◌, ◌/◌, ◌==◌, ◌≡◌, Bool, true, false, if◌then◌else◌, ℤ, pos, ◌+ℤ◌, ◌-ℤ◌, ◌*ℤ◌, List, [], ◌∷◌, ◌++◌, map, length, take, drop, get_or, unsigned_abs, Option, None, Some, option_map, option_and_then}
use Rattle.std.specs.List.{range_with_len}
use Rattle.wc_model.specs.declared.flow_system.System.{System}
use Rattle.wc_model.specs.declared.flow_system.SystemStep.{SystemStep}
use Rattle.wc_model.specs.declared.flow_system.SystemLoop.{SystemLoop}
use Rattle.wc_model.specs.declared.flow_system.SystemLimit.{SystemLimit}
use Rattle.wc_model.specs.declared.flow_system.Solution.{Solution}
use Rattle.wc_model.specs.declared.flow_system.Ray.{Ray}
use Rattle.wc_model.specs.Flow.Cells.{row_nodes, columns_of}
use Rattle.wc_model.specs.Flow.Certificates.{factor_of}
use Rattle.wc_model.specs.Flow.Exact.{exact, negate_exact, each_of, gcd}
use Rattle.wc_model.specs.Flow.Places.{is_listed}
use Rattle.wc_model.specs.Flow.RowMachine.{Tableau, Shape, entry, cell, is_real, machine, MachineEnd, best, infeasible, wide, many, endless}
use Rattle.wc_model.specs.Flow.Tableaus.{Start, starting, no_step}

pub data RowOutcome : Type 0 where
  solved : Solution → RowOutcome
  no_path : Ray → RowOutcome
  number_limit : RowOutcome
  pivot_limit : RowOutcome
  unbounded : RowOutcome

-- RowPrices: the row of a node gives its `u`, the row of a loop its `v`, the row of a limit its `w`. The sign of a price
-- is turned where its row was negated when it was made.
abbrev pub signed : Bool → ℤ → Option ℤ
signed true price = negate_exact price
signed false price = Some price

-- the prices of the rows, each the goal row's entry at the row's artificial column less `base`
abbrev pub prices_from : List ℤ → ℕ → ℤ → List Bool → Option (List ℤ)
prices_from goal place base [] = Some []
prices_from goal place base (n ∷ ns) =
    option_and_then (λ price. option_map (λ ps. price ∷ ps) (prices_from goal (suc place) base ns)) (option_and_then (signed n) (exact (entry goal place -ℤ base)))

pub record RowPrices : Type 0 where
  pub nodes : List (ℕ × ℤ)
  pub loops : List ℤ
  pub limits : List ℤ

abbrev pub numbered : List ℕ → List ℤ → List (ℕ × ℤ)
numbered [] prices = []
numbered (q ∷ qs) [] = []
numbered (q ∷ qs) (p ∷ ps) = (q, p) ∷ numbered qs ps

abbrev pub split_prices : System → List ℤ → RowPrices
split_prices system all =
    record {
      nodes = numbered (row_nodes system) all;
      loops = take (length system.loops) (drop (length (row_nodes system)) all);
      limits = drop (length (row_nodes system) + length system.loops) all;
    }

-- the potential of a place, 0 at the exit
abbrev pub price_of : List (ℕ × ℤ) → ℕ → ℤ
price_of [] q = pos 0
price_of (p ∷ ps) q = if p.0 == q then p.1 else price_of ps q

abbrev pub price_ahead : List (ℕ × ℤ) → Option ℕ → ℤ
price_ahead known None = pos 0
price_ahead known (Some q) = price_of known q

-- Inside a column the potentials are found from its end backwards: `u` of the target, plus the cost times the scale,
-- less `v` of each loop whose back step it is, plus bound times `v` of each whose entry step it is, less factor times
-- `w` of each limit that names the source.
abbrev pub sum_terms : ℤ → List (Option ℤ) → Option ℤ
sum_terms acc [] = Some acc
sum_terms acc (t ∷ ts) = option_and_then (λ x. option_and_then (λ sum. sum_terms sum ts) (exact (acc +ℤ x))) t

abbrev pub back_terms : ℕ → List SystemLoop → List ℤ → List (Option ℤ)
back_terms i [] vs = []
back_terms i (l ∷ ls) [] = []
back_terms i (l ∷ ls) (v ∷ vs) = if is_listed i l.back then negate_exact v ∷ back_terms i ls vs else back_terms i ls vs

abbrev pub entry_terms : ℕ → List SystemLoop → List ℤ → List (Option ℤ)
entry_terms i [] vs = []
entry_terms i (l ∷ ls) [] = []
entry_terms i (l ∷ ls) (v ∷ vs) = if is_listed i l.entry then exact (pos l.bound *ℤ v) ∷ entry_terms i ls vs else entry_terms i ls vs

abbrev pub limit_terms : ℕ → List SystemLimit → List ℤ → List (Option ℤ)
limit_terms q [] ws = []
limit_terms q (l ∷ ls) [] = []
limit_terms q (l ∷ ls) (w ∷ ws) = option_and_then negate_exact (exact (factor_of q l.factors *ℤ w)) ∷ limit_terms q ls ws

abbrev pub step_potential : System → ℤ → RowPrices → ℤ → ℕ → SystemStep → Option ℤ
step_potential system scale prices ahead i s =
    sum_terms ahead (exact (pos s.cost *ℤ scale) ∷ back_terms i system.loops prices.loops ++ entry_terms i system.loops prices.loops ++ limit_terms s.source system.limits prices.limits)

-- the potentials at the sources of the steps of a chain, the first one's first
abbrev pub chain_potentials : System → ℤ → RowPrices → List ℕ → Option (List (ℕ × ℤ))
chain_potentials system scale prices [] = Some []
chain_potentials system scale prices (i ∷ later) =
    option_and_then (λ us. option_map (λ u. ((get_or system.steps i no_step).source, u) ∷ us) (step_potential system scale prices (price_ahead (us ++ prices.nodes) (get_or system.steps i no_step).target) i (get_or system.steps i no_step))) (chain_potentials system scale prices later)

abbrev pub inner_potentials : System → ℤ → RowPrices → List (List ℕ) → Option (List (ℕ × ℤ))
inner_potentials system scale prices [] = Some []
inner_potentials system scale prices (column ∷ columns) =
    option_and_then (λ us. option_map (λ more. us ++ more) (inner_potentials system scale prices columns)) (chain_potentials system scale prices (drop 1 column))

-- `u`, `v` and `w` as lists, by node, loop and limit
abbrev pub potentials : System → RowPrices → List (ℕ × ℤ) → List ℤ
potentials system prices inner = map (price_of (prices.nodes ++ inner)) (range_with_len 0 system.nodes)

-- The counts. A basis column's count is its row's right side over its entry there, in lowest terms; every other count
-- is 0.
pub record Fraction : Type 0 where
  pub over : ℕ
  pub under : ℕ

abbrev pub in_lowest : ℕ → ℕ → Fraction
in_lowest over under = record { over = over / gcd over under; under = under / gcd over under }

abbrev pub count_in : Shape → Tableau → ℕ → Fraction
count_in shape t r = in_lowest (unsigned_abs (cell t r shape.right)) (unsigned_abs (cell t r (get_or t.basis r 0)))

-- the row of a basis column
abbrev pub row_of : ℕ → ℕ → List ℕ → Option ℕ
row_of j r [] = None
row_of j r (b ∷ bs) = if b == j then Some r else row_of j (suc r) bs

-- the least common multiple of the denominators, row by row; rows that were left out have none
abbrev pub common : ℕ → ℕ → Option ℤ
common den next = exact (pos (den / gcd den next) *ℤ pos next)

abbrev pub common_from : Shape → Tableau → ℕ → ℤ → List ℕ → Option ℤ
common_from shape t r den [] = Some den
common_from shape t r den (b ∷ bs) =
    if is_real shape b then option_and_then (λ more. common_from shape t (suc r) more bs) (common (unsigned_abs den) (count_in shape t r).under)
    else common_from shape t (suc r) den bs

abbrev pub scaled : Shape → Tableau → ℤ → Option ℕ → Option ℤ
scaled shape t den None = Some (pos 0)
scaled shape t den (Some r) = exact (pos (count_in shape t r).over *ℤ pos (unsigned_abs den / (count_in shape t r).under))

-- the column of a step
abbrev pub column_of : ℕ → ℕ → List (List ℕ) → ℕ
column_of i j [] = j
column_of i j (column ∷ columns) = if is_listed i column then j else column_of i (suc j) columns

abbrev pub counts_of : System → Shape → Tableau → List (List ℕ) → ℤ → Option (List ℤ)
counts_of system shape t columns den = each_of (λ i. scaled shape t den (row_of (column_of i 0 columns) 0 t.basis)) (range_with_len 0 (length system.steps))

abbrev pub value_terms : List SystemStep → List ℤ → List (Option ℤ)
value_terms [] xs = []
value_terms (s ∷ ss) [] = []
value_terms (s ∷ ss) (x ∷ xs) = exact (pos s.cost *ℤ x) ∷ value_terms ss xs

-- The solution at the end of the second phase.
abbrev pub solution : ℤ → ℤ → List ℤ → ℤ → List ℤ → RowPrices → Solution
solution num den x scale u prices = record { num = num; den = den; x = x; scale = scale; u = u; v = prices.loops; w = prices.limits }

abbrev pub solved_with : System → List (List ℕ) → Shape → Tableau → ℤ → RowPrices → List (ℕ × ℤ) → Option Solution
solved_with system columns shape t scale prices inner =
    option_and_then (λ den. option_and_then (λ x. option_map (λ num. solution num den x scale (potentials system prices inner) prices) (sum_terms (pos 0) (value_terms system.steps x))) (counts_of system shape t columns den)) (common_from shape t 0 (pos 1) t.basis)

abbrev pub solution_of : System → List (List ℕ) → Start → Tableau → Option Solution
solution_of system columns start t =
    option_and_then (λ all. option_and_then (solved_with system columns start.shape t (entry t.z (suc start.shape.right)) (split_prices system all)) (inner_potentials system (entry t.z (suc start.shape.right)) (split_prices system all) columns)) (prices_from t.z start.shape.real (pos 0) start.negated)

-- The ray at the end of the first phase where W's right side is below 0: prices less W's own coefficient, no costs.
abbrev pub ray_of : System → List (List ℕ) → Start → Tableau → Option Ray
ray_of system columns start t =
    option_and_then (λ all. option_map (λ inner. record { u = potentials system (split_prices system all) inner; v = (split_prices system all).loops; w = (split_prices system all).limits }) (inner_potentials system (pos 0) (split_prices system all) columns)) (prices_from t.w start.shape.real (entry t.w (suc start.shape.right)) start.negated)

abbrev pub read_solution : Option Solution → RowOutcome
read_solution None = number_limit
read_solution (Some s) = solved s

abbrev pub read_ray : Option Ray → RowOutcome
read_ray None = number_limit
read_ray (Some r) = no_path r

abbrev pub read_end : System → List (List ℕ) → Start → MachineEnd → RowOutcome
read_end system columns start (best t) = read_solution (solution_of system columns start t)
read_end system columns start (infeasible t) = read_ray (ray_of system columns start t)
read_end system columns start wide = number_limit
read_end system columns start many = pivot_limit
read_end system columns start endless = unbounded

abbrev pub run_from : System → List (List ℕ) → ℕ → Option Start → RowOutcome
run_from system columns most None = number_limit
run_from system columns most (Some start) = read_end system columns start (machine start.shape most start.first)

abbrev pub row_outcome : ℕ → System → RowOutcome
row_outcome most system = run_from system (columns_of system) most (starting system (columns_of system))

-- The outcome of the row machine on a system, with at most 5,000 pivots.
abbrev pub IsRowOutcome : System → RowOutcome → Type 0
IsRowOutcome system outcome = (most : ℕ) × (most ≡ 5000) × (row_outcome most system ≡ outcome)
