-- What a house in memory does beyond what every house does.
use Rattle.std.specs.Prelude.{◌≡◌, ℕ, true, false, ◌⊎◌, List, [], map, None, Some, Result, Ok, Err, string_bytes}
use Rattle.std.specs.List.{find}
use Rattle.wc_io.specs.Memory.{File, emptied, failing_at, fails_at, filled, is_at, seen}
use Rattle.wc_io.specs.Rows.{Row, path_of, row_of}
use Rattle.wc_io.specs.declared.houses.HouseError.{HouseError}
use Rattle.wc_io.specs.declared.houses.HouseError.TheVariants.{Failed, Memory}
use Rattle.wc_io.specs.declared.memory.MemorySink.{MemorySink}
use Rattle.wc_io.specs.declared.memory.MemorySource.{MemorySource}
use Rattle.wc_io.specs.declared.memory_house.MemoryHouse.{MemoryHouse}

abbrev pub files_of : MemoryHouse → List File
files_of h = map seen h.files.items

abbrev pub rows_of : MemoryHouse → List Row
rows_of h = map row_of h.opened.items

-- the files after a sink came back: that of its row's path is what it held
abbrev pub filled_by : MemoryHouse → MemorySink → List File
filled_by h k = filled (path_of k.place (rows_of h)) k.held.items (files_of h)

-- a source has its file's bytes, its portions and the calls that fail
pub record IsSourceOf (file : File) (source : MemorySource) : Type 0 where
  pub left : source.left.items ≡ file.bytes
  pub most : source.most ≡ file.most
  pub failing : source.failing.items ≡ file.failing
  pub calls : source.calls ≡ 0

-- Opening a source fails exactly where it is set to, or where the path isn't there.
abbrev pub OpensSource : List ℕ → MemoryHouse → MemoryHouse → Result MemorySource HouseError → Type 0
OpensSource path old new (Ok source) =
    (fails_at new.calls old.failing.items ≡ false) × ((file : File) × (find (is_at path) (files_of old) ≡ Some file) × IsSourceOf file source)
OpensSource path old new (Err Failed) = (fails_at new.calls old.failing.items ≡ true) ⊎ (find (is_at path) (files_of old) ≡ None)
OpensSource path old new (Err (Memory _)) = Unit {0}

-- a sink has its path and its file's calls that fail
pub record IsSinkOf (path failing : List ℕ) (sink : MemorySink) : Type 0 where
  pub named : string_bytes sink.path ≡ path
  pub held : sink.held.items ≡ []
  pub fails : sink.failing.items ≡ failing
  pub calls : sink.calls ≡ 0

-- Opening a sink fails exactly where it is set to.
abbrev pub OpensSink : List ℕ → MemoryHouse → MemoryHouse → Result MemorySink HouseError → Type 0
OpensSink path old new (Ok sink) =
    (fails_at new.calls old.failing.items ≡ false) × IsSinkOf path (failing_at (files_of old) path) sink × (files_of new ≡ emptied path (files_of old))
OpensSink path old new (Err Failed) = (fails_at new.calls old.failing.items ≡ true) × (files_of new ≡ files_of old)
OpensSink path old new (Err (Memory _)) = files_of new ≡ files_of old
