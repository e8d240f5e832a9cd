use Rattle.std.proofs.Common.{◌≡◌, rules, ap, ◌∙◌, ◌∷◌}
use Rattle.wc_f4.specs.declared.tokens.Token.TheVariants.{Word}
use Rattle.wc_f4.specs.Tokens.{word}
use Rattle.wc_f4.specs.Views.{left}
use Rattle.wc_f4.proofs.TokenLemmas.{read_on}
use Rattle.wc_f4.proofs.readers.Reader.keyword.Goals as goal

pub returns-in-Word : goal.returns-in-Word
returns-in-Word c =
    let same : c.in-Word.word ≡ c.args.wanted = search (rules, c.if-eq.ensures) in (
      c.args.self.now.next.place,
      read_on c.args.self.now (Word c.in-Word.word) (left c.advance.new.self) c.in-Word.is c.advance.ensures
          ∙ ap (λ w. (word w, c.args.self.now.next.place) ∷ left c.advance.new.self) same,
    )
