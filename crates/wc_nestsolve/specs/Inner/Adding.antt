-- Walks that are followed in a table, and added to counts.
use Rattle.std.specs.Prelude.{ℕ, ◌≡◌, ◌+◌, ◌<◌, ◌^◌, ◌==◌, if◌then◌else◌, List, length, slice_index, slice_get, Option, Some}
use Rattle.std.specs.List.{sum_by}
use Rattle.wc_model.specs.declared.flow_system.System.{System}
use Rattle.wc_model.specs.declared.flow_system.SystemLoop.{SystemLoop}
use Rattle.wc_model.specs.declared.graphs.Nest.{Nest}
use Rattle.wc_model.specs.Flow.Places.{IsOnce, is_listed}
use Rattle.wc_model.specs.Flow.Systems.{IsSystem, is_marked}
use Rattle.wc_nestsolve.specs.declared.found.Found.{Found}
use Rattle.wc_nestsolve.specs.Inner.Tables.{found_at}
use Rattle.wc_nestsolve.specs.Inner.Trails.{goes_to}

pub record AreWalkable (s : System) (nest : Nest) (best : List (Option Found)) : Type 0 where
  pub sound : IsSystem s
  pub marks : length nest.back ≡ length s.steps
  pub counted : length best ≡ s.nodes
  pub placed : (p : ℕ) (f : Found) → found_at best p ≡ Some f → f.place < length s.steps

abbrev pub goes_on : System → Nest → ℕ → Option ℕ
goes_on s nest place = goes_to (is_marked nest place) (slice_get s.steps place)

abbrev pub AreRoomy : ℕ → List ℕ → Type 0
AreRoomy times x = (k : ℕ) → k < length x → slice_index x k + times < 2 ^ 127

-- the steps of a walk are counted some times more
pub record IsAdded (walk : List ℕ) (times : ℕ) (old new : List ℕ) : Type 0 where
  pub counted : length new ≡ length old
  pub each : (i : ℕ) → slice_index new i ≡ slice_index old i + (if is_listed i walk then times else 0)

abbrev pub entered_times : SystemLoop → ℕ → List ℕ → ℕ
entered_times l start x = (if l.head == start then 1 else 0) + sum_by (slice_index x) l.entry

-- while they are added: those of `rest` are still to come
pub record IsAdding (walk : List ℕ) (times : ℕ) (old rest new : List ℕ) : Type 0 where
  pub counted : length new ≡ length old
  pub once : IsOnce rest
  pub each : (i : ℕ) → slice_index new i + (if is_listed i rest then times else 0) ≡ slice_index old i + (if is_listed i walk then times else 0)
