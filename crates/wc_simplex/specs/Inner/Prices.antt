-- (inner) Prices and potentials as the code holds them.
use Rattle.std.specs.Prelude.{◌≡◌, ℕ, ◌+◌, ◌-◌, ◌<◌, ◌^◌, ℤ, pos, Bool, if◌then◌else◌, List, [], ◌∷◌, ◌++◌, get_or, drop, length, Option, None, Some, option_map, option_and_then}
use Rattle.std.specs.Option.{is_some}
use Rattle.wc_model.specs.declared.flow_system.Ray.{Ray}
use Rattle.wc_model.specs.declared.flow_system.Solution.{Solution}
use Rattle.wc_model.specs.declared.flow_system.System.{System}
use Rattle.wc_model.specs.Flow.Cells.{row_nodes}
use Rattle.wc_model.specs.Flow.RowResults.{RowPrices, chain_potentials, inner_potentials, potentials, price_ahead, price_of, prices_from, split_prices}
use Rattle.wc_model.specs.Flow.Tableaus.{no_step}
use Rattle.wc_simplex.specs.declared.counts.Counts.{Counts}
use Rattle.wc_simplex.specs.declared.known_prices.KnownPrices as code
use Rattle.wc_simplex.specs.declared.start.Start.{Start}
use Rattle.wc_simplex.specs.Inner.Machines.{IsRegular}

-- the row of each node that isn't passed through, where `next` is the next one's
abbrev pub node_price : Option ℕ → List ℤ → ℕ → ℤ
node_price None all next = get_or all next (pos 0)
node_price (Some i) all next = pos 0

abbrev pub next_row : Option ℕ → ℕ → ℕ
next_row None next = next + 1
next_row (Some i) next = next

abbrev pub node_prices : List (Option ℕ) → List ℤ → ℕ → List ℤ
node_prices [] all next = []
node_prices (o ∷ passed) all next = node_price o all next ∷ node_prices passed all (next_row o next)

-- The code has the prices of the rows.
pub record ArePriced (s : System) (known : RowPrices) (p : code.KnownPrices) : Type 0 where
  pub counted : length p.nodes.items ≡ s.nodes
  pub nodes : (q : ℕ) → q < s.nodes → get_or p.nodes.items q (pos 0) ≡ price_of known.nodes q
  pub loops : p.loops.items ≡ known.loops
  pub limits : p.limits.items ≡ known.limits

abbrev pub loops_and_limits : code.KnownPrices → RowPrices
loops_and_limits p = record { nodes = []; loops = p.loops.items; limits = p.limits.items }

abbrev pub ahead_in : List ℤ → Option ℕ → ℤ
ahead_in nodes None = pos 0
ahead_in nodes (Some q) = get_or nodes q (pos 0)

-- A list of numbers has the potentials of a list of nodes, and 0 at the others.
pub record AreKnown (nodes : ℕ) (found : List ℤ) (known : List (ℕ × ℤ)) : Type 0 where
  pub counted : length found ≡ nodes
  pub each : (q : ℕ) → q < nodes → get_or found q (pos 0) ≡ price_of known q

-- what is known then is known before the rest
abbrev pub Learns : ℕ → Option (List (ℕ × ℤ)) → Option (Unit {0}) → List ℤ → List ℤ → Type 0
Learns nodes None result old new = result ≡ None
Learns nodes (Some us) result old new =
    (result ≡ Some tt) × ((rest : List (ℕ × ℤ)) → AreKnown nodes old rest → AreKnown nodes new (us ++ rest))

abbrev pub IsKnownAs : ℕ → Option (List (ℕ × ℤ)) → Option (List ℤ) → Type 0
IsKnownAs nodes None o = o ≡ None
IsKnownAs nodes (Some us) None = ⊥
IsKnownAs nodes (Some us) (Some found) = AreKnown nodes found us

abbrev pub merged : List (Option ℕ) → List ℤ → List ℤ → ℕ → ℤ
merged passed nodes inner q = if is_some (get_or passed q None) then get_or inner q (pos 0) else get_or nodes q (pos 0)

-- the prices that a goal row shows
abbrev pub ray : List ℤ → RowPrices → Ray
ray u prices = record { u = u; v = prices.loops; w = prices.limits }

abbrev pub known_ray : System → List (List ℕ) → ℤ → List ℤ → Option Ray
known_ray system columns scale all =
    option_map (λ inner. ray (potentials system (split_prices system all) inner) (split_prices system all)) (inner_potentials system scale (split_prices system all) columns)

abbrev pub priced_ray : System → List (List ℕ) → List ℤ → ℕ → ℤ → ℤ → List Bool → Option Ray
priced_ray system columns goal real base scale signs = option_and_then (known_ray system columns scale) (prices_from goal real base signs)

abbrev pub solution_with : Ray → Counts → ℤ → Solution
solution_with prices c scale = record { num = c.num; den = c.den; x = c.x.items; scale = scale; u = prices.u; v = prices.v; w = prices.w }

-- The last tableau has a sign for each row of the system.
pub record IsEnd (s : System) (end : Start) : Type 0 where
  pub regular : IsRegular end.machine
  pub counted : length end.negated.items ≡ length (row_nodes s) + length s.loops + length s.limits
  pub right : end.machine.right ≡ end.machine.real + length end.negated.items
  pub small : end.machine.right < 2 ^ 32

-- What the steps of a column from `place` on show, where `next` is the potential to which the step before leads.
pub record IsChainedFor (s : System) (scale : ℤ) (known : RowPrices) (column : List ℕ) (place : ℕ) (next : ℤ) (old now : List ℤ) : Type 0 where
  pub us : List (ℕ × ℤ)
  pub is : chain_potentials s scale known (drop place column) ≡ Some us
  pub ahead : price_ahead (us ++ known.nodes) (get_or s.steps (get_or column (place - 1) 0) no_step).target ≡ next
  pub knows : (rest : List (ℕ × ℤ)) → AreKnown s.nodes old rest → AreKnown s.nodes now (us ++ rest)

pub record IsChained (s : System) (scale : ℤ) (p : code.KnownPrices) (column : List ℕ) (place : ℕ) (next : ℤ) (old now : List ℤ) : Type 0 where
  pub some : 0 < place
  pub counted : length now ≡ length old
  pub learnt : (known : RowPrices) → ArePriced s known p → IsChainedFor s scale known column place next old now

-- what the columns from `place` on show
pub record AreInnerFor (s : System) (scale : ℤ) (known : RowPrices) (columns : List (List ℕ)) (place : ℕ) (inner : List ℤ) : Type 0 where
  pub us : List (ℕ × ℤ)
  pub is : inner_potentials s scale known (drop place columns) ≡ Some us
  pub knows : AreKnown s.nodes inner us

pub record AreInner (s : System) (scale : ℤ) (p : code.KnownPrices) (columns : List (List ℕ)) (place : ℕ) (inner : List ℤ) : Type 0 where
  pub counted : length inner ≡ s.nodes
  pub learnt : (known : RowPrices) → ArePriced s known p → AreInnerFor s scale known columns place inner
