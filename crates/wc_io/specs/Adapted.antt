-- What an adapter moves, in the words of the reader or writer of std that it stands over.
use Rattle.std.specs.Prelude.{ℕ, List, Option, Result}
use Rattle.std.specs.Io.KnownBytes.{ReadConsumes, WriteAppends}

abbrev pub ReadsOf : {F E : Type 0} → (F → Option (List ℕ)) → F → F → Result ℕ E → List ℕ → Type 0
ReadsOf remaining old new result buffer = ReadConsumes (remaining old) (remaining new) result buffer

abbrev pub WritesOf : {F E : Type 0} → (F → Option (List ℕ)) → F → F → Result ℕ E → List ℕ → Type 0
WritesOf contents old new result piece = WriteAppends (contents old) (contents new) result piece
