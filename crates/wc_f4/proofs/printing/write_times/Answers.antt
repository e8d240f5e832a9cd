use Rattle.std.proofs.Common.{◌≡◌, ◌≢◌, ℕ, ◌==◌, false, List, ◌++◌, arith, refl, sym, subst}
use Rattle.std.specs.Prelude.{codes, decimal}
use Rattle.wc_io.specs.Writing.{Writes}
use Rattle.wc_f4.specs.FactText.{times_text}
use Rattle.wc_f4.proofs.printing.write_times.Goals as goal

other_times : (times : ℕ) → times ≢ 1 → times_text times ≡ decimal times ++ codes " * "
other_times times other = let differs : (times == 1) ≡ false = grind arith in rw differs refl

pub returns-clause-text : goal.returns-clause-text
returns-clause-text g c =
    subst (λ (t : List ℕ). Writes (g.K.Sink.held c.args.sink.now) (g.K.Sink.held c.write_pieces.new.sink) c.write_pieces.result t)
    (sym (other_times c.args.times c.if-times-eq1.false)) c.write_pieces.ensures.text
