-- What the sources and sinks in memory do beyond what every one does, and the files that a house in memory holds.
use Rattle.std.specs.Prelude.{◌≡◌, ℕ, ◌==◌, min, Bool, true, false, if◌then◌else◌, List, [], ◌∷◌, length, Option, Result, IfOk, MatchResult, option_map, string_bytes, bytes_eq}
use Rattle.std.specs.List.{find, list_any}
use Rattle.wc_io.specs.Causes.{Counts, counted}
use Rattle.wc_io.specs.declared.memory.MemorySink.{MemorySink}
use Rattle.wc_io.specs.declared.memory.MemorySource.{MemorySource}
use Rattle.wc_io.specs.declared.memory_files.MemoryFile.{MemoryFile}

-- whether the call of that number is set to fail
abbrev pub fails_at : ℕ → List ℕ → Bool
fails_at call failing = list_any (λ number. number == call) failing

-- how many bytes a read gives
abbrev pub portion : MemorySource → ℕ → ℕ
portion s room = if s.most == 0 then min room (length s.left.items) else min (min room (length s.left.items)) s.most

-- A read fails exactly where it is set to.
pub record ReadsMemory {E : Type 0} (old new : MemorySource) (room : ℕ) (result : Result ℕ E) : Type 0 where
  pub calls : new.calls ≡ counted old.calls
  pub given : IfOk result (λ n. n ≡ portion old room)
  pub fails : MatchResult result (λ _. fails_at new.calls old.failing.items ≡ false) (λ _. fails_at new.calls old.failing.items ≡ true)
  pub counts : Counts old.faults new.faults result
  pub kept : (new.most ≡ old.most) × (new.failing ≡ old.failing)

-- A write takes the whole piece; it fails where it is set to, and for want of memory.
pub record WritesMemory {E : Type 0} (old new : MemorySink) (size : ℕ) (result : Result ℕ E) : Type 0 where
  pub calls : new.calls ≡ counted old.calls
  pub taken : IfOk result (λ n. (n ≡ size) × (fails_at new.calls old.failing.items ≡ false))
  pub counts : Counts old.faults new.faults result
  pub kept : (new.path ≡ old.path) × (new.failing ≡ old.failing)

-- a sink outside of any house that holds nothing and isn't set to fail
pub record IsEmptySink (sink : MemorySink) : Type 0 where
  pub place : sink.place ≡ 0
  pub path : string_bytes sink.path ≡ []
  pub held : sink.held.items ≡ []
  pub calls : sink.calls ≡ 0
  pub failing : sink.failing.items ≡ []
  pub faults : sink.faults ≡ 0

pub record File : Type 0 where
  pub path : List ℕ
  pub bytes : List ℕ
  pub most : ℕ
  pub failing : List ℕ

abbrev pub seen : MemoryFile → File
seen f = record { path = string_bytes f.path; bytes = f.bytes.items; most = f.most; failing = f.failing.items }

abbrev pub is_at : List ℕ → File → Bool
is_at path f = bytes_eq f.path path

-- the bytes of the first file of that path
abbrev pub file_at : List File → List ℕ → Option (List ℕ)
file_at files path = option_map (λ f. f.bytes) (find (is_at path) files)

-- the calls that are set to fail at the first file of that path
abbrev pub failing_at : List File → List ℕ → List ℕ
failing_at [] path = []
failing_at (f ∷ fs) path = if is_at path f then f.failing else failing_at fs path

-- the first file of that path is emptied, and made at the end where there is none
abbrev pub emptied : List ℕ → List File → List File
emptied path [] = record { path = path; bytes = []; most = 0; failing = [] } ∷ []
emptied path (f ∷ fs) = if is_at path f then record f { bytes = [] } ∷ fs else f ∷ emptied path fs

-- the first file of that path, if there is one, has these bytes
abbrev pub filled : List ℕ → List ℕ → List File → List File
filled path bytes [] = []
filled path bytes (f ∷ fs) = if is_at path f then record f { bytes = bytes } ∷ fs else f ∷ filled path bytes fs
