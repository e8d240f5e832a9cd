use Rattle.std.proofs.Common.{◌≡◌, ◌-◌, ◌≤◌, ℕ, List, length}
use Rattle.std.specs.Io.KnownBytes.{Consumes}
use Rattle.wc_io.specs.Ahead.{to_come}
use Rattle.wc_io.proofs.FeedLemmas.{NoFeed}
use Rattle.wc_io.specs.Parts.{IsPartOf}
use Rattle.wc_io.proofs.script_lines.collect.Given as goal

abbrev pub invariant-loop-count : goal.invariant-loop-count
invariant-loop-count g l =
    record {
      part : (line : List ℕ) × IsPartOf l.line line × NoFeed line × (length line ≤ l.room) × Consumes (to_come l.fn.ahead) (to_come l.ahead) line;
      kept : l.line.line ≡ l.fn.line.line;
      within : l.line.count ≤ l.room;
      later : l.fn.ahead.faults ≤ l.ahead.faults;
      place : l.ahead.place ≡ l.fn.ahead.place;
    }

abbrev pub decreases-loop-count : goal.decreases-loop-count
decreases-loop-count g l = l.room - l.line.count
