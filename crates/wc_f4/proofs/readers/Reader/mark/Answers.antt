use Rattle.std.proofs.Common.{◌≡◌, rules, ap, ◌∙◌, ◌∷◌}
use Rattle.wc_f4.specs.declared.tokens.Token.TheVariants.{Mark}
use Rattle.wc_f4.specs.Tokens.{mark}
use Rattle.wc_f4.specs.Views.{left}
use Rattle.wc_f4.proofs.TokenLemmas.{read_on}
use Rattle.wc_f4.proofs.readers.Reader.mark.Goals as goal

pub returns-in-Mark : goal.returns-in-Mark
returns-in-Mark c =
    let same : c.in-Mark.mark ≡ c.args.wanted = search (rules, c.if-eq.ensures) in (
      c.args.self.now.next.place,
      read_on c.args.self.now (Mark c.in-Mark.mark) (left c.advance.new.self) c.in-Mark.is c.advance.ensures
          ∙ ap (λ m. (mark m, c.args.self.now.next.place) ∷ left c.advance.new.self) same,
    )
