-- What the next call gives of a script.
use Rattle.std.proofs.Common.{◌≡◌, ℕ, ◌+◌, ◌<◌, ◌≤◌, ◌==◌, nat_le, nat_lt, Bool, true, false, cond, List, [], ◌∷◌, length, take, Option, Some, None, option_map, IfSome, sym, ap, ◌∙◌, arith, lt-ltb}
use Rattle.std.proofs.lemmas.List.{length-take, take_all}
use Rattle.std.proofs.lemmas.Bool.Decides.{nat_tests}
use Rattle.wc_io.specs.Lines.{RawLine, LineResult, given, too_long, Script, Gives, IsLineAfter, raw_lines, size, shown, without_return, line_result, results_after}
use Rattle.wc_io.specs.Parts.{Buffered, Finds, IsGiven}
use Rattle.wc_io.specs.declared.script_lines.LineRead.{LineRead}
use Rattle.wc_io.specs.declared.script_lines.LineRead.TheVariants as read
use Rattle.wc_io.specs.declared.line_buffer.PartEnd.TheVariants as end

one_at_most : (dropped : Bool) (b : ℕ) → length (cond dropped [] (b ∷ [])) ≤ 1
one_at_most true b = omega arith
one_at_most false b = omega arith

without_return_shorter : (xs : List ℕ) → length (without_return xs) ≤ length xs
without_return_shorter [] = omega arith
without_return_shorter (b ∷ []) = one_at_most (b == 13) b
without_return_shorter (b ∷ c ∷ bs) = let less = without_return_shorter (c ∷ bs) in omega arith

pub shown_shorter : (bytes : List ℕ) (ended : Bool) → length (shown (bytes, ended)) ≤ length bytes
shown_shorter bytes true = without_return_shorter bytes
shown_shorter bytes false = omega arith

pub line_after : (r : LineRead) (l : RawLine) (before old new : List ℕ) → IsGiven r l before new → before ≡ old → IsLineAfter r old new
line_after read.Line l before old new is same = omega (arith, is.0, ap length is.1, shown_shorter l.0 l.1)
line_after read.TooLong l before old new is same = is.1 ∙ same
line_after read.TooMuch l before old new is same = absurd is
line_after read.End l before old new is same = absurd is
line_after read.ReadFault l before old new is same = absurd is

-- a line that fits is given or skipped
pub fits : (k n : ℕ) (l : RawLine) (ls : List RawLine) → k < 10000 → n + size l ≤ 50331648
    → results_after k n (l ∷ ls) ≡ line_result l ∷ results_after (k + 1) (n + size l) ls
fits k n l ls few within =
    let lines : nat_le 10000 k ≡ false = grind (arith, nat_tests) in
    let bytes : nat_lt 50331648 (n + size l) ≡ false = grind (arith, nat_tests) in
    rw (lines, bytes)

-- what is kept of a line tells whether it is too long, and is all of it otherwise
pub gives : (r : LineRead) (l : RawLine) (part before : List ℕ) (results rest : List LineResult) (state : Script) → part ≡ take 4097 l.0
    → IsGiven r (part, l.1) before state.line → results ≡ line_result l ∷ rest → state.rest ≡ Some rest → Gives r results state
gives read.Line l part before results rest state kept is first later =
    let short : length l.0 ≤ 4096 = omega (arith, is.0, ap length kept, length-take 4097 l.0) in
    let whole : part ≡ l.0 = kept ∙ take_all 4097 l.0 (omega arith) in
    let fitting : nat_lt 4096 (length l.0) ≡ false = grind (arith, nat_tests) in
    let line : line_result l ≡ given state.line = rw fitting (ap (λ (bytes : List ℕ). given (shown (bytes, l.1))) (sym whole) ∙ ap given (sym is.1)) in
    (rest, first ∙ ap (λ x. x ∷ rest) line, later)
gives read.TooLong l part before results rest state kept is first later =
    let long : nat_lt 4096 (length l.0) ≡ true = lt-ltb 4096 (length l.0) (omega (arith, is.0, ap length kept, length-take 4097 l.0)) in
    let line : line_result l ≡ too_long = rw long in
    (rest, first ∙ ap (λ x. x ∷ rest) line, later)
gives read.TooMuch l part before results rest state kept is first later = absurd is
gives read.End l part before results rest state kept is first later = absurd is
gives read.ReadFault l part before results rest state kept is first later = absurd is

abbrev pub to_give : ℕ → ℕ → Option (List ℕ) → Option (List LineResult)
to_give k n bytes = option_map (λ bs. results_after k n (raw_lines bs)) bytes

-- there is room for a line only before 10,000 lines, and then up to 50,331,648 bytes
pub record IsRoom (k n room : ℕ) : Type 0 where
  pub lines : 0 < room → k < 10000
  pub bytes : 0 < room → n + room ≡ 50331648

pub fed_next : (k n room : ℕ) (old new : Option (List ℕ)) (buffer : Buffered) (r : LineRead) (state : Script) → IsRoom k n room
    → Finds end.Feed room old new buffer → IsGiven r (buffer.part, true) buffer.line state.line
    → state.rest ≡ to_give (k + 1) (n + (buffer.count + 1)) new → IfSome (to_give k n old) (λ results. Gives r results state)
fed_next k n room None new buffer r state is_room found is later = tt
fed_next k n room (Some bytes) new buffer r state is_room (line, part, short, (rest, left, first)) is later =
    let some : 0 < room = omega arith in
    let few = is_room.lines some in
    let all = is_room.bytes some in
    let after : List LineResult = results_after (k + 1) (n + (length line + 1)) (raw_lines rest) in
    let told : state.rest ≡ Some after = later ∙ ap (to_give (k + 1) (n + (buffer.count + 1))) left
    ∙ ap (λ m. Some (results_after (k + 1) (n + (m + 1)) (raw_lines rest))) part.1 in
    gives r (line, true) buffer.part buffer.line (results_after k n (raw_lines bytes)) after state part.0 is
    (ap (results_after k n) first ∙ fits k n (line, true) (raw_lines rest) few (omega arith)) told

pub ended_next : (k n room : ℕ) (old new : Option (List ℕ)) (buffer : Buffered) (r : LineRead) (state : Script) → IsRoom k n room → 0 < buffer.count
    → Finds end.End room old new buffer → IsGiven r (buffer.part, false) buffer.line state.line
    → state.rest ≡ to_give (k + 1) (n + buffer.count) new → IfSome (to_give k n old) (λ results. Gives r results state)
ended_next k n room None new buffer r state is_room some found is later = tt
ended_next k n room (Some bytes) new buffer r state is_room some ([], part, short, (left, first)) is later = absurd (omega (arith, part.1))
ended_next k n room (Some bytes) new buffer r state is_room some (b ∷ line, part, short, (left, first)) is later =
    let room_left : 0 < room = omega arith in
    let few = is_room.lines room_left in
    let all = is_room.bytes room_left in
    let told : state.rest ≡ Some [] = later ∙ ap (to_give (k + 1) (n + buffer.count)) left in
    gives r (b ∷ line, false) buffer.part buffer.line (results_after k n (raw_lines bytes)) [] state part.0 is
    (ap (results_after k n) first ∙ fits k n (b ∷ line, false) [] few (omega arith)) told
