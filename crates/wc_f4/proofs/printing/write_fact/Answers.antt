use Rattle.std.proofs.Common.{◌≡◌, ℕ, List, sym, ap, ◌∙◌, subst}
use Rattle.std.specs.Prelude.{codes}
use Rattle.wc_io.specs.Writing.{Writes}
use Rattle.wc_f4.specs.FactText.{branching_text, fact_text}
use Rattle.wc_f4.proofs.printing.write_fact.Goals as goal

pub returns-in-Multibranch-clause-text : goal.returns-in-Multibranch-clause-text
returns-in-Multibranch-clause-text g c =
    let word = codes "multibranch " in
    let text : branching_text word c.in-Multibranch.at c.items-in-Multibranch.result.now ≡ fact_text c.args.fact.now =
    ap (branching_text word c.in-Multibranch.at) c.items-in-Multibranch.ensures ∙ ap fact_text (sym c.in-Multibranch.is) in
    subst (λ (t : List ℕ). Writes (g.K.Sink.held c.args.sink.now) (g.K.Sink.held c.write_branching.new.sink) c.write_branching.result t) text c.write_branching.ensures.text

pub returns-in-Multicall-clause-text : goal.returns-in-Multicall-clause-text
returns-in-Multicall-clause-text g c =
    let word = codes "multicall " in
    let text : branching_text word c.in-Multicall.at c.items-in-Multicall.result.now ≡ fact_text c.args.fact.now =
    ap (branching_text word c.in-Multicall.at) c.items-in-Multicall.ensures ∙ ap fact_text (sym c.in-Multicall.is) in
    subst (λ (t : List ℕ). Writes (g.K.Sink.held c.args.sink.now) (g.K.Sink.held c.write_branching-in-Multicall.new.sink) c.write_branching-in-Multicall.result t) text c.write_branching-in-Multicall.ensures.text
