use Rattle.std.proofs.Common.{ℕ, List, ◌++◌, ap, ◌∙◌, subst}
use Rattle.wc_io.specs.Tails.{tail_text}
use Rattle.wc_io.specs.Writing.{WritesTo}
use Rattle.wc_io.proofs.WritingLemmas.{WritesTo_after}
use Rattle.wc_io.proofs.fault_texts.write_fault.Goals as goal

pub returns-in-Ok : goal.returns-in-Ok
returns-in-Ok g c =
    subst (λ (text : List ℕ). WritesTo g.K.Sink c.args.sink.now c.write_tail.new.sink c.write_tail.result text)
    (ap (λ (head : List ℕ). head ++ tail_text c.parts.result.1) c.as_bytes.ensures.value ∙ c.parts.ensures)
    (WritesTo_after g.K.Sink _ _ _ _ c.write_tail.result _ _ c.in-Ok.ensures c.write_tail.ensures)
