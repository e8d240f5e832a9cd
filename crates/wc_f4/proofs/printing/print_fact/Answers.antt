use Rattle.std.proofs.Common.{◌≡◌, ℕ, List, [], ◌∷◌, ◌++◌, sym, ap, ◌∙◌, subst}
use Rattle.wc_f4.specs.FactText.{fact_text}
use Rattle.wc_f4.specs.Grammar.{IsWhole, one}
use Rattle.wc_f4.specs.Tokens.{placed_tokens, tokens_of}
use Rattle.wc_f4.proofs.GivenBack.{gives_back}
use Rattle.wc_f4.proofs.PrintedFacts.{printed_whole}
use Rattle.wc_f4.proofs.printing.print_fact.Goals as goal

pub returns-in-Ok-clause-again : goal.returns-in-Ok-clause-again
returns-in-Ok-clause-again c =
    let fact = c.args.fact.now in
    let text : c.write_fact.new.sink.held.items ≡ fact_text fact = c.in-Ok.ensures.text ∙ ap (λ (t : List ℕ). t ++ fact_text fact) c.new-2.ensures.items in
    λ stated names read reads.
    gives_back names fact c.write_fact.new.sink.held.items read
    (subst (λ (t : List ℕ). IsWhole one names (tokens_of (placed_tokens t)) (fact ∷ [])) (sym text) (printed_whole names fact stated)) reads
