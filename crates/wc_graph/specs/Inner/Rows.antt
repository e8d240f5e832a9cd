-- Lists one behind the other in one list.
use Rattle.std.specs.Prelude.{ℕ, ◌≡◌, ◌≤◌, List, map, Some, slice_get}
use Rattle.std.specs.List.{slice_range}
use Rattle.wc_graph.specs.declared.frames.Leap.{Leap}
use Rattle.wc_graph.specs.declared.rows.Piece.{Piece}

abbrev pub row_of : List Leap → Piece → List Leap
row_of leaps piece = slice_range leaps piece.from piece.to

abbrev pub rows_of : List Leap → List Piece → List (List Leap)
rows_of leaps pieces = map (row_of leaps) pieces

abbrev pub ArePieces : ℕ → List Piece → Type 0
ArePieces count pieces = (k : ℕ) (piece : Piece) → slice_get pieces k ≡ Some piece → (piece.from ≤ piece.to) × (piece.to ≤ count)
