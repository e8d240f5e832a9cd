-- What a call that writes a text leaves on its sink.
use Rattle.std.specs.Prelude.{◌≡◌, ℕ, ◌<◌, List, length, take, Option, Result, MatchResult}
use Rattle.std.specs.Io.KnownBytes.{Appends}
use Rattle.wc_io.specs.Causes.{HasCause}
use Rattle.wc_io.specs.declared.streams.Sink.{Ghosts}

-- a prefix of the text was appended, and some of it is missing
abbrev pub AppendsPart : Option (List ℕ) → Option (List ℕ) → List ℕ → Type 0
AppendsPart old new text = (n : ℕ) × (n < length text) × Appends old new (take n text)

-- the whole text was appended, or after a failure a prefix of it that is shorter
abbrev pub Writes : {E : Type 0} → Option (List ℕ) → Option (List ℕ) → Result (Unit {0}) E → List ℕ → Type 0
Writes old new result text = MatchResult result (λ _. Appends old new text) (λ _. AppendsPart old new text)

-- A call wrote a text to a sink, or failed for a cause that the sink counts.
pub record WritesTo {K E : Type 0} (sink : Ghosts K) (old new : K) (result : Result (Unit {0}) E) (bytes : List ℕ) : Type 0 where
  pub text : Writes (sink.held old) (sink.held new) result bytes
  pub cause : HasCause (sink.faults old) (sink.faults new) result
  pub place : sink.place new ≡ sink.place old
