-- The classes of the loops, and the pass that finds their rounds from the innermost outwards.
use Rattle.std.specs.Prelude.{ℕ, zero, suc, ◌≡◌, ◌+◌, ◌*◌, ◌-◌, ◌<◌, ◌≤◌, ◌^◌, ◌++◌, if◌then◌else◌, ℤ, pos, List, [], ◌∷◌, map, length, slice_index, slice_index_or, slice_set, Option, None, Some}
use Rattle.std.specs.List.{filter}
use Rattle.wc_model.specs.declared.flow_system.System.{System}
use Rattle.wc_model.specs.declared.flow_system.SystemLoop.{SystemLoop}
use Rattle.wc_model.specs.declared.graphs.Nest.{Nest}
use Rattle.wc_model.specs.Flow.Ceiling.{dearest, loops_out, loops_round, total}
use Rattle.wc_model.specs.Flow.Places.{is_listed}
use Rattle.wc_nestsolve.specs.declared.found.Found.{Found}
use Rattle.wc_nestsolve.specs.Inner.Nested.{IsLoop, lies}
use Rattle.wc_nestsolve.specs.Inner.Tables.{AreTables, IsAmong, IsClear, IsTable, charge, found_at, value_of_found}
use Rattle.wc_nestsolve.specs.Inner.Weights.{surcharge}

abbrev pub class_of : List (List ℕ) → ℕ → List ℕ
class_of classes m = slice_index_or classes m []

-- each class has its nodes in the order
pub record AreClasses (nest : Nest) (order : List ℕ) (classes : List (List ℕ)) : Type 0 where
  pub counted : length classes ≡ length nest.heads
  pub each : (m : ℕ) → m < length nest.heads → class_of classes m ≡ filter (lies nest m) order

abbrev pub more_if : List ℕ → ℕ → List ℕ → ℕ → List ℕ
more_if ns m class p = class ++ (if is_listed m ns then p ∷ [] else [])

-- a node has joined the classes of the loops round it
pub record HasJoined (ns : List ℕ) (p : ℕ) (old new : List (List ℕ)) : Type 0 where
  pub counted : length new ≡ length old
  pub each : (m : ℕ) → m < length old → class_of new m ≡ more_if ns m (class_of old m) p

abbrev pub JoinsLoops : Nest → ℕ → List (List ℕ) → List (List ℕ) → Type 0
JoinsLoops nest p old new = HasJoined (loops_round nest p) p old new

abbrev pub with_node : List (List ℕ) → ℕ → ℕ → List (List ℕ)
with_node classes m p = slice_set classes m (class_of classes m ++ p ∷ [])

-- while it joins: the classes of `rest` are still to come
pub record IsJoining (ns rest : List ℕ) (p : ℕ) (old new : List (List ℕ)) : Type 0 where
  pub counted : length new ≡ length old
  pub each : (m : ℕ) → m < length old → more_if rest m (class_of new m) p ≡ more_if ns m (class_of old m) p

abbrev pub loops_from : Nest → Option ℕ → List ℕ
loops_from nest at = loops_out nest.heads (length nest.heads) at

abbrev pub numbers : List ℕ → ℕ → ℤ
numbers v k = pos (slice_index v k)

-- one more than the bound of each of `n` loops from `k` on that a node lies in, multiplied
abbrev pub factor : Nest → List ℕ → ℕ → ℕ → ℕ
factor nest bounds k q = if lies nest k q then slice_index bounds k + 1 else 1

abbrev pub rounds_in : Nest → List ℕ → ℕ → ℕ → ℕ → ℕ
rounds_in nest bounds k zero q = 1
rounds_in nest bounds k (suc n) q = factor nest bounds k q * rounds_in nest bounds (k + 1) n q

abbrev pub bounds_of : System → List ℕ
bounds_of s = map (λ l. l.bound) s.loops

-- the dearest step of a node times the rounds of the loops from `k` on that it lies in
abbrev pub worth_in : System → Nest → ℕ → ℕ → ℕ
worth_in s nest k q = dearest s.steps q * rounds_in nest (bounds_of s) k (length s.loops - k) q

module _ (s : System) (nest : Nest) where
  -- what all nodes, and those of each loop that is still to come, add to a value
  pub record IsRoomy (order : List ℕ) (count : ℕ) (extra : List ℕ) : Type 0 where
    pub whole : total (charge s nest extra) order ≤ total (worth_in s nest count) order
    pub outer : (m : ℕ) → m < count → total (charge s nest extra) (filter (lies nest m) order) ≤ total (worth_in s nest count) (filter (lies nest m) order)

  -- a table of the ways round a loop has the round's value
  pub record HasRound (classes : List (List ℕ)) (extra v : List ℕ) (m : ℕ) (l : SystemLoop) : Type 0 where
    pub best : List (Option Found)
    pub table : IsTable s nest (Some l.head) (IsAmong s nest (class_of classes m) (length (class_of classes m))) extra best
    pub value : slice_index v m ≡ value_of_found (found_at best l.head)
    pub small : slice_index v m < 2 ^ 100

  -- the rounds of the loops from `count` on are found
  pub record AreRounds (order : List ℕ) (classes : List (List ℕ)) (count : ℕ) (extra v : List ℕ) : Type 0 where
    pub charged : (q : ℕ) → pos (slice_index extra q) ≡ surcharge s (numbers v) q
    pub undone : (m : ℕ) → m < count → slice_index v m ≡ 0
    pub done : (m : ℕ) (l : SystemLoop) → IsLoop s nest m l → count ≤ m → HasRound classes extra v m l
    pub roomy : IsRoomy order count extra

  pub record IsRoundsPass (order : List ℕ) (classes : List (List ℕ)) (count : ℕ) (extra v : List ℕ) (best : List (Option Found)) : Type 0 where
    pub tables : AreTables s nest extra best
    pub clear : IsClear best
    pub counted : length v ≡ length s.loops
    pub rounds : AreRounds order classes count extra v

abbrev pub rank_of : Option ℕ → ℕ
rank_of None = 0
rank_of (Some k) = k + 1
