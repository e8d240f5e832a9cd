use Rattle.std.proofs.Common.{◌∷◌, ap}
use Rattle.wc_f4.specs.Views.{behind, left, seen}
use Rattle.wc_f4.proofs.readers.Reader.is_at_end.Goals as goal

pub returns-in-End : goal.returns-in-End
unfolding left
returns-in-End c =
    let n = c.args.self.now.next in
    let rest = behind n.token n.after c.args.self.now.text.now in
    (n.place, (rest, ap (λ t. (seen t, n.place) ∷ rest) c.in-End.is))
