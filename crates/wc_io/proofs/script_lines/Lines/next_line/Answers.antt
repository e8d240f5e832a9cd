use Rattle.std.proofs.Common.{ℕ, ◌+◌, List, IfSome, ap, ◌∙◌, subst, arith}
use Rattle.wc_io.specs.Ahead.{to_come}
use Rattle.wc_io.specs.Lines.{Script, Gives, LineResult}
use Rattle.wc_io.specs.Parts.{Buffered}
use Rattle.wc_io.proofs.NextLemmas.{line_after, fed_next, ended_next, IsRoom, to_give}
use Rattle.wc_io.proofs.script_lines.Lines.next_line.Goals as goal
use Rattle.wc_io.proofs.script_lines.Lines.next_line.Goals.{then-self-eq-MAX_LINES, else-self-eq-MAX_LINES}

pub returns-in-Feed-clause-next : goal.returns-in-Feed-clause-next
returns-in-Feed-clause-next g c =
    let s = c.self.inside in
    let room : IsRoom s.count s.bytes c.if-self-eq-MAX_LINES.room = elim c.if-self-eq-MAX_LINES.branch [
      | then-self-eq-MAX_LINES w ↦ record { lines = λ some. absurd (omega (arith, w.room-is)); bytes = λ some. absurd (omega (arith, w.room-is)) }
      | else-self-eq-MAX_LINES w ↦ record { lines = λ some. omega (arith, w.if-self-eq-MAX_LINES.false, c.self.invariant.0); bytes = λ some. omega (arith, w.room-is, c.self.invariant.1) }
    ] in
    let new : Script = record {
      rest = to_give (s.count + 1) (s.bytes + (c.count.result + 1)) (to_come c.collect.new.ahead);
      count = s.count + 1;
      line = c.give.new.self.line;
      ended = s.ended;
      place = c.collect.new.ahead.place;
      faults = c.collect.new.ahead.faults;
    } in
    subst (λ (old : Script). IfSome old.rest (λ (results : List LineResult). Gives c.give.result results new)) c.self.view_is
    (fed_next s.count s.bytes c.if-self-eq-MAX_LINES.room (to_come s.ahead) (to_come c.collect.new.ahead) c.collect.new.line c.give.result new room c.in-Feed.ensures.found c.give.ensures
    (ap (λ (n : ℕ). to_give (s.count + 1) (s.bytes + (n + 1)) (to_come c.collect.new.ahead)) c.count.ensures))

pub returns-in-Feed-clause-line : goal.returns-in-Feed-clause-line
returns-in-Feed-clause-line g c =
    line_after c.give.result _ _ _ _ c.give.ensures (c.in-Feed.ensures.kept ∙ ap (λ (b : Buffered). b.line) c.clear.ensures ∙ ap (λ (s : Script). s.line) c.self.view_is)

pub returns-in-End-clause-next : goal.returns-in-End-clause-next
returns-in-End-clause-next g c =
    let s = c.self.inside in
    let room : IsRoom s.count s.bytes c.if-self-eq-MAX_LINES.room = elim c.if-self-eq-MAX_LINES.branch [
      | then-self-eq-MAX_LINES w ↦ record { lines = λ some. absurd (omega (arith, w.room-is)); bytes = λ some. absurd (omega (arith, w.room-is)) }
      | else-self-eq-MAX_LINES w ↦ record { lines = λ some. omega (arith, w.if-self-eq-MAX_LINES.false, c.self.invariant.0); bytes = λ some. omega (arith, w.room-is, c.self.invariant.1) }
    ] in
    let new : Script = record {
      rest = to_give (s.count + 1) (s.bytes + c.count-in-End.result) (to_come c.collect.new.ahead);
      count = s.count + 1;
      line = c.give-in-End.new.self.line;
      ended = s.ended;
      place = c.collect.new.ahead.place;
      faults = c.collect.new.ahead.faults;
    } in
    subst (λ (old : Script). IfSome old.rest (λ (results : List LineResult). Gives c.give-in-End.result results new)) c.self.view_is
    (ended_next s.count s.bytes c.if-self-eq-MAX_LINES.room (to_come s.ahead) (to_come c.collect.new.ahead) c.collect.new.line c.give-in-End.result new room (omega arith) c.in-End.ensures.found c.give-in-End.ensures
    (ap (λ (n : ℕ). to_give (s.count + 1) (s.bytes + n) (to_come c.collect.new.ahead)) c.count-in-End.ensures))

pub returns-in-End-clause-line : goal.returns-in-End-clause-line
returns-in-End-clause-line g c =
    line_after c.give-in-End.result _ _ _ _ c.give-in-End.ensures (c.in-End.ensures.kept ∙ ap (λ (b : Buffered). b.line) c.clear.ensures ∙ ap (λ (s : Script). s.line) c.self.view_is)
