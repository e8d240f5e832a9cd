use Rattle.std.proofs.Common.{ℕ, List, sym, subst}
use Rattle.std.specs.Prelude.{codes}
use Rattle.wc_base.specs.FaultTexts.{address}
use Rattle.wc_io.specs.Writing.{Writes}
use Rattle.wc_io.proofs.WritingLemmas.{Writes_after}
use Rattle.wc_f4.specs.FactText.{separated, addresses_text}
use Rattle.wc_f4.proofs.PrintingLemmas.{Writes_stopped}
use Rattle.wc_f4.proofs.printing.write_addresses.Goals as goal

pub returns-in_err-write_pieces-clause-text : goal.returns-in_err-write_pieces-clause-text
returns-in_err-write_pieces-clause-text g c =
    subst (λ (xs : List ℕ). Writes (g.K.Sink.held c.args.sink.now) (g.K.Sink.held c.write_pieces.new.sink) c.from_residual.result (addresses_text xs)) (sym c.in-Some.ensures.cases.0)
    (Writes_stopped _ _ c.from_residual.result (address c.in-Some.first.now) (separated (codes ", ") address c.in-Some.more.now) c.from_residual.ensures.0 c.in_err-write_pieces.ensures.text)

pub returns-clause-text : goal.returns-clause-text
returns-clause-text g c =
    subst (λ (xs : List ℕ). Writes (g.K.Sink.held c.args.sink.now) (g.K.Sink.held c.write_more_addresses.new.sink) c.write_more_addresses.result (addresses_text xs)) (sym c.in-Some.ensures.cases.0)
    (Writes_after _ (g.K.Sink.held c.write_pieces.new.sink) _ c.write_more_addresses.result (address c.in-Some.first.now) (separated (codes ", ") address c.in-Some.more.now) c.in_ok-write_pieces.ensures.text c.write_more_addresses.ensures.text)
