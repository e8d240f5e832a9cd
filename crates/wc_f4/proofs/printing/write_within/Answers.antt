use Rattle.std.proofs.Common.{◌≡◌, ℕ, ◌==◌, false, List, [], ◌∷◌, ◌++◌, length, refl, sym, subst}
use Rattle.std.specs.Prelude.{codes}
use Rattle.wc_io.specs.Writing.{Writes}
use Rattle.wc_io.proofs.WritingLemmas.{Writes_after}
use Rattle.wc_f4.specs.FactText.{addresses_text, within_text}
use Rattle.wc_f4.proofs.PrintingLemmas.{Writes_stopped}
use Rattle.wc_f4.proofs.printing.write_within.Goals as goal

some_within : (within end : List ℕ) → false ≡ (length within == 0) → within_text within ++ end ≡ codes " in " ++ (addresses_text within ++ end)
some_within [] end some = absurd (cc)
some_within (at ∷ more) end some = refl

pub returns-in_err-write_whole-clause-text : goal.returns-in_err-write_whole-clause-text
returns-in_err-write_whole-clause-text g c =
    subst (λ (text : List ℕ). Writes (g.K.Sink.held c.args.sink.now) (g.K.Sink.held c.write_whole-2.new.sink) c.from_residual.result text) (sym (some_within c.args.within.now c.args.end.now c.if-is_empty.ensures))
    (Writes_stopped _ _ c.from_residual.result (codes " in ") (addresses_text c.args.within.now ++ c.args.end.now) c.from_residual.ensures.0 c.in_err-write_whole.ensures.text)

pub returns-clause-text : goal.returns-clause-text
returns-clause-text g c =
    subst (λ (text : List ℕ). Writes (g.K.Sink.held c.args.sink.now) (g.K.Sink.held c.write_list.new.sink) c.write_list.result text) (sym (some_within c.args.within.now c.args.end.now c.if-is_empty.ensures))
    (Writes_after _ (g.K.Sink.held c.write_whole-2.new.sink) _ c.write_list.result (codes " in ") (addresses_text c.args.within.now ++ c.args.end.now) c.in_ok-write_whole.ensures.text c.write_list.ensures.text)
