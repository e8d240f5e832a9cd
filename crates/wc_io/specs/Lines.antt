-- The lines of a script, as a list that doesn't depend on how reads cut its bytes.
use Rattle.std.specs.Prelude.{◌≡◌, ℕ, ◌+◌, ◌≤◌, ◌==◌, nat_le, nat_lt, Bool, true, false, ◌||◌, if◌then◌else◌, List, [], ◌∷◌, length, Option, Some, option_map}
use Rattle.wc_io.specs.declared.script_lines.LineRead.{LineRead}
use Rattle.wc_io.specs.declared.script_lines.LineRead.TheVariants as read

-- the bytes of a line before its LF, and whether it has one
abbrev pub RawLine : Type 0
RawLine = List ℕ × Bool

-- a byte that is no LF joins the line before which it stands, or is a last line without LF
abbrev pub with_front : ℕ → List RawLine → List RawLine
with_front b [] = (b ∷ [], false) ∷ []
with_front b (l ∷ ls) = (b ∷ l.0, l.1) ∷ ls

-- all lines of these bytes: each LF ends one, and a last one without LF counts where it isn't empty
abbrev pub raw_lines : List ℕ → List RawLine
raw_lines [] = []
raw_lines (b ∷ bs) = if b == 10 then ([], true) ∷ raw_lines bs else with_front b (raw_lines bs)

-- the bytes that a line takes, its LF among them
abbrev pub size : RawLine → ℕ
size l = if l.1 then length l.0 + 1 else length l.0

-- a line without the CR at its end
abbrev pub without_return : List ℕ → List ℕ
without_return [] = []
without_return (b ∷ []) = if b == 13 then [] else b ∷ []
without_return (b ∷ c ∷ bs) = b ∷ without_return (c ∷ bs)

-- a CR is dropped before an LF alone
abbrev pub shown : RawLine → List ℕ
shown l = if l.1 then without_return l.0 else l.0

-- what one call gives of a script
pub data LineResult : Type 0 where
  given : List ℕ → LineResult
  too_long : LineResult
  too_much : LineResult

-- a line of more than 4,096 bytes is skipped, a CR at its end counted among them
abbrev pub line_result : RawLine → LineResult
line_result l = if nat_lt 4096 (length l.0) then too_long else given (shown l)

-- what the calls give of the lines to come, after so many lines and bytes: at most 10,000 lines, which end within 50,331,648 bytes
abbrev pub results_after : ℕ → ℕ → List RawLine → List LineResult
results_after lines bytes [] = []
results_after lines bytes (l ∷ ls) = if nat_le 10000 lines || nat_lt 50331648 (bytes + size l) then too_much ∷ [] else line_result l ∷ results_after (lines + 1) (bytes + size l) ls

abbrev pub lines_of : List ℕ → List LineResult
lines_of bytes = results_after 0 0 (raw_lines bytes)

-- a script that is being read: what its calls will give, where its bytes are told, the lines given or skipped so far, the last line
-- given, whether there is no other to ask for, and its source's place and faults
pub record Script : Type 0 where
  pub rest : Option (List LineResult)
  pub count : ℕ
  pub line : List ℕ
  pub ended : Bool
  pub place : ℕ
  pub faults : ℕ

-- a script of these bytes, where they are told, of which no line was read
abbrev pub unread_script : Option (List ℕ) → ℕ → ℕ → Script
unread_script bytes place faults = record { rest = option_map lines_of bytes; count = 0; line = []; ended = false; place = place; faults = faults }

-- a call gives the first result to come, or the end where there is none
abbrev pub Gives : LineRead → List LineResult → Script → Type 0
Gives read.Line results new = (rest : List LineResult) × (results ≡ given new.line ∷ rest) × (new.rest ≡ Some rest)
Gives read.TooLong results new = (rest : List LineResult) × (results ≡ too_long ∷ rest) × (new.rest ≡ Some rest)
Gives read.TooMuch results new = results ≡ too_much ∷ []
Gives read.End results new = results ≡ []
Gives read.ReadFault results new = Unit {0}

-- whether there may be another line after this result
abbrev pub goes_on : LineRead → Bool
goes_on read.Line = true
goes_on read.TooLong = true
goes_on _ = false

-- the last line given after a call: it has at most 4,096 bytes, and stays where no line was given
abbrev pub IsLineAfter : LineRead → List ℕ → List ℕ → Type 0
IsLineAfter read.Line old new = length new ≤ 4096
IsLineAfter _ old new = new ≡ old
