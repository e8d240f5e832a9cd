-- (inner) Rows that are made one by one.
use Rattle.std.specs.Prelude.{◌≡◌, ℕ, ◌+◌, ◌-◌, if◌then◌else◌, List, [], ◌∷◌, ◌++◌, map, drop, get_or, Option, None, Some}
use Rattle.std.specs.List.{flat_map, range_with_len}
use Rattle.wc_model.specs.declared.flow_system.System.{System}
use Rattle.wc_model.specs.declared.flow_system.SystemLimit.{SystemLimit}
use Rattle.wc_model.specs.declared.flow_system.SystemLoop.{SystemLoop}
use Rattle.wc_model.specs.Flow.Cells.{is_passed}
use Rattle.wc_model.specs.Flow.Tableaus.{Half, Line, halves, limit_line, loop_line, node_line}
use Rattle.wc_simplex.specs.declared.half.HalfRow.{HalfRow}
use Rattle.wc_simplex.specs.declared.stated.StatedRow.{StatedRow}
use Rattle.wc_simplex.specs.Inner.Halves.{half_as}
use Rattle.wc_simplex.specs.Inner.Lines.{IsLine}
use Rattle.wc_simplex.specs.Inner.Steps.{behind}

-- one more row, unless a number left the range
abbrev pub Adds : Option Half → Option (Unit {0}) → List HalfRow → List HalfRow → Type 0
Adds None result old new = result ≡ None
Adds (Some h) result old new = (result ≡ Some tt) × (map half_as new ≡ map half_as old ++ h ∷ [])

-- what the whole gives is what the later rows give, or nothing
abbrev pub After : Option (Unit {0}) → Option (List Half) → Option (List Half) → Type 0
After None whole later = whole ≡ None
After (Some u) whole later = whole ≡ later

abbrev pub made_before : List HalfRow → Option (List Half) → Option (List Half)
made_before made later = behind (map half_as made) later

abbrev pub node_lines : System → ℕ → List Line
node_lines s q = if is_passed s q then [] else node_line s q ∷ []

-- the lines of the nodes from a place on
abbrev pub nodes_from : System → ℕ → List Line
nodes_from s k = flat_map (node_lines s) (range_with_len k (s.nodes - k))

-- the lines of the loops, and behind them those of the limits
abbrev pub inequalities : System → List Line
inequalities s = map (loop_line s) s.loops ++ map limit_line s.limits

abbrev pub inequalities_from : System → ℕ → List Line
inequalities_from s k = drop k (inequalities s)

-- the lines of a front were added, whatever comes behind them
abbrev pub AddsLines : System → List (List ℕ) → ℕ → List Line → List HalfRow → List HalfRow → Option (Unit {0}) → Type 0
AddsLines s columns slacks front old new o =
    (ls : List Line) → After o (made_before old (halves s columns slacks 0 (front ++ ls))) (made_before new (halves s columns slacks 0 ls))

abbrev pub AddsNode : System → List (List ℕ) → ℕ → ℕ → List HalfRow → List HalfRow → Option (Unit {0}) → Type 0
AddsNode s columns slacks node = AddsLines s columns slacks (node_lines s node)

abbrev pub AddsNodes : System → List (List ℕ) → ℕ → List HalfRow → List HalfRow → Option (Unit {0}) → Type 0
AddsNodes s columns slacks = AddsLines s columns slacks (nodes_from s 0)

-- what the inequalities from a place on come to
abbrev pub halves_from : System → List (List ℕ) → ℕ → ℕ → List HalfRow → Option (List Half)
halves_from s columns slacks k made = made_before made (halves s columns slacks k (inequalities_from s k))

-- the inequality at a place was added
abbrev pub AddsInequality : System → List (List ℕ) → ℕ → ℕ → List HalfRow → List HalfRow → Option (Unit {0}) → Type 0
AddsInequality s columns slacks k old new o = After o (halves_from s columns slacks k old) (halves_from s columns slacks (k + 1) new)

-- all of them were added
abbrev pub AddsInequalities : System → List (List ℕ) → ℕ → List HalfRow → List HalfRow → Option (Unit {0}) → Type 0
AddsInequalities s columns slacks old new o = After o (made_before old (halves s columns slacks 0 (inequalities s))) (made_before new (Some []))

-- the row of a loop, of a limit, and of one of them
abbrev pub IsLoopAt : System → ℕ → StatedRow → Type 0
IsLoopAt s k row = (d : SystemLoop) → IsLine s (loop_line s (get_or s.loops k d)) row

abbrev pub IsLimitAt : System → ℕ → StatedRow → Type 0
IsLimitAt s k row = (d : SystemLimit) → IsLine s (limit_line (get_or s.limits k d)) row

abbrev pub IsInequalityAt : System → ℕ → StatedRow → Type 0
IsInequalityAt s k row = (d : Line) → IsLine s (get_or (inequalities s) k d) row
