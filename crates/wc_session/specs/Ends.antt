-- After which lines a session ends.
use Rattle.std.specs.Prelude.{◌≡◌, List, [], ◌∷◌, ◌++◌, codes, Option, IfSome}
use Rattle.wc_session.specs.Each.{Each}
use Rattle.wc_io.specs.Lines.{LineResult, given, too_long, too_much}
use Rattle.wc_model.specs.declared.entries.Ended.{Ended}
use Rattle.wc_model.specs.declared.entries.Ended.TheVariants as ended
use Rattle.wc_session.specs.Commands.{Says, quits}

-- no line is read after `quit`, and none after too much
abbrev pub IsLast : LineResult → Type 0
IsLast (given line) = Says line quits
IsLast too_long = ⊥
IsLast too_much = Unit {0}

abbrev pub GoesOn : LineResult → Type 0
GoesOn line = IsLast line → ⊥

-- only the last of these lines may be such a one
pub record HasLast (lines : List LineResult) (last : LineResult) : Type 0 where
  pub before : List LineResult
  pub whole : lines ≡ before ++ last ∷ []
  pub go_on : Each GoesOn before

-- The lines that were read, of the script where it is told: to `quit` or to too much, or all of them.
abbrev pub EndsBy : Ended → List LineResult → Option (List LineResult) → Type 0
EndsBy ended.Quit lines script = HasLast lines (given (codes "quit"))
EndsBy ended.TooMuch lines script = HasLast lines too_much
EndsBy ended.End lines script = Each GoesOn lines × IfSome script (λ all. lines ≡ all)
EndsBy ended.ReadFault lines script = Each GoesOn lines
EndsBy ended.WriteFault lines script = (last : LineResult) × HasLast lines last
