-- (inner) What the code knows of the steps out of and into nodes, and of columns.
use Rattle.std.specs.Prelude.{◌≡◌, ℕ, zero, suc, ◌+◌, ◌-◌, ◌<◌, ◌==◌, ℤ, ◌-ℤ◌, Bool, if◌then◌else◌, List, [], ◌∷◌, map, drop, get_or, length, set, Option, None, Some, IfSome, All}
use Rattle.wc_model.specs.declared.flow_system.System.{System}
use Rattle.wc_model.specs.declared.flow_system.SystemStep.{SystemStep}
use Rattle.wc_model.specs.Flow.Cells.{comes_before, least_in, passed_out}
use Rattle.wc_model.specs.Flow.Places.{places_from}
use Rattle.wc_model.specs.Flow.Systems.{leads_to}
use Rattle.wc_model.specs.Flow.Tableaus.{no_step, one_if}
use Rattle.wc_simplex.specs.declared.only.Only.{Only}
use Rattle.wc_simplex.specs.declared.only.Only.TheVariants.{Nothing, One, Several}
use Rattle.wc_simplex.specs.Inner.Only.{and_one, only_as}

abbrev pub IfOne : Only → (ℕ → Type 0) → Type 0
IfOne Nothing P = Unit {0}
IfOne (One i) P = P i
IfOne Several P = Unit {0}

-- Of the steps from place `k` on, which pass a test at each node.
pub record AreCounted (test : ℕ → SystemStep → Bool) (nodes : ℕ) (steps : List SystemStep) (k : ℕ) (found : List Only) : Type 0 where
  pub counted : length found ≡ nodes
  pub each : (p : ℕ) → p < nodes → get_or found p Nothing ≡ only_as (places_from k (λ i t. test p t) (drop k steps))
  pub inside : (p : ℕ) → p < nodes → IfOne (get_or found p Nothing) (λ i. i < length steps)

abbrev pub leaves_at : ℕ → SystemStep → Bool
leaves_at p t = t.source == p

abbrev pub comes_to : ℕ → SystemStep → Bool
comes_to p t = leads_to t.target p

abbrev pub AreOuts : System → ℕ → List Only → Type 0
AreOuts s k found = AreCounted leaves_at s.nodes s.steps k found

abbrev pub AreIns : System → ℕ → List Only → Type 0
AreIns s k found = AreCounted comes_to s.nodes s.steps k found

-- for each of the first nodes, the step out of it if it is passed through
pub record ArePassedTo (s : System) (n : ℕ) (passed : List (Option ℕ)) : Type 0 where
  pub counted : length passed ≡ n
  pub each : (p : ℕ) → p < n → get_or passed p None ≡ passed_out s p
  pub inside : (p : ℕ) → p < n → IfSome (get_or passed p None) (λ i. i < length s.steps)

abbrev pub ArePassed : System → List (Option ℕ) → Type 0
ArePassed s passed = ArePassedTo s s.nodes passed

-- a column has steps, at places that are there
abbrev pub IsColumn : ℕ → List ℕ → Type 0
IsColumn count column = (0 < length column) × All (λ i. i < count) column

-- the least step of a column
abbrev pub least_of : List SystemStep → List ℕ → ℕ
least_of steps [] = 0
least_of steps (i ∷ column) = least_in steps i column

-- where a column goes among others, by their least steps
abbrev pub place_among : List SystemStep → ℕ → ℕ → List ℕ → ℕ
place_among steps least i [] = i
place_among steps least i (other ∷ leasts) = if comes_before steps least other then i else place_among steps least (i + 1) leasts

-- one more step, where it leads to a node
abbrev pub with_lead : List Only → Option ℕ → ℕ → List Only
with_lead found None place = found
with_lead found (Some q) place = set found q (and_one place (get_or found q Nothing))

-- each step leads to where the next one begins
abbrev pub IsChain : System → List ℕ → Type 0
IsChain s column = (k : ℕ) → suc k < length column → (get_or s.steps (get_or column k 0) no_step).target ≡ Some (get_or s.steps (get_or column (suc k) 0) no_step).source

-- What a node's row has at a column, where each step between leads through nodes that have no rows: 1 if the first step
-- leaves the node, less 1 if the last one leads to it.
abbrev pub node_ends : List SystemStep → ℕ → List ℕ → ℤ
node_ends steps q column =
    one_if ((get_or steps (get_or column 0 0) no_step).source == q) -ℤ one_if (leads_to (get_or steps (get_or column (length column - 1) 0) no_step).target q)
