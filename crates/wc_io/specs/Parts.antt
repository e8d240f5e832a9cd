-- A line of which a part was read.
use Rattle.std.specs.Prelude.{◌≡◌, ℕ, ◌<◌, ◌≤◌, true, false, List, [], ◌∷◌, length, take, Option, Some, IfSome}
use Rattle.wc_io.specs.declared.line_buffer.PartEnd.{PartEnd}
use Rattle.wc_io.specs.declared.line_buffer.PartEnd.TheVariants as end
use Rattle.wc_io.specs.declared.script_lines.LineRead.{LineRead}
use Rattle.wc_io.specs.declared.script_lines.LineRead.TheVariants as read
use Rattle.wc_io.specs.Lines.{RawLine, raw_lines, size, shown}

-- the last line given, and of the next one the number of bytes so far and the first 4,097 of them
pub record Buffered : Type 0 where
  pub line : List ℕ
  pub part : List ℕ
  pub count : ℕ

abbrev pub IsPartOf : Buffered → List ℕ → Type 0
IsPartOf b bytes = (b.part ≡ take 4097 bytes) × (b.count ≡ length bytes)

-- the line that these bytes are without an LF, and none where they are empty
abbrev pub unended : List ℕ → List RawLine
unended [] = []
unended (b ∷ bs) = (b ∷ bs, false) ∷ []

-- the first line of the bytes to come was read, to its LF or to the end, or has more bytes than there is room for
abbrev pub Finds : PartEnd → ℕ → Option (List ℕ) → Option (List ℕ) → Buffered → Type 0
Finds end.Feed room old new b = (line : List ℕ) × IsPartOf b line × (length line < room) × IfSome old (λ bytes. (rest : List ℕ) × (new ≡ Some rest) × (raw_lines bytes ≡ (line, true) ∷ raw_lines rest))
Finds end.End room old new b = (line : List ℕ) × IsPartOf b line × (length line ≤ room) × IfSome old (λ bytes. (new ≡ Some []) × (raw_lines bytes ≡ unended line))
Finds end.TooMuch room old new b = IfSome old (λ bytes. (line : RawLine) × ((later : List RawLine) × (raw_lines bytes ≡ line ∷ later)) × (room < size line))
Finds end.Failed room old new b = Unit {0}

-- a line is given where it has at most 4,096 bytes
abbrev pub IsGiven : LineRead → RawLine → List ℕ → List ℕ → Type 0
IsGiven read.Line l old new = (length l.0 ≤ 4096) × (new ≡ shown l)
IsGiven read.TooLong l old new = (4096 < length l.0) × (new ≡ old)
IsGiven _ l old new = ⊥
