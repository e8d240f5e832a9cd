use Rattle.std.proofs.Common.{refl}
use Rattle.wc_f4.specs.Views.{behind, left, seen}
use Rattle.wc_f4.proofs.readers.Reader.place.Goals as goal

pub returns : goal.returns
unfolding left
returns c = let n = c.args.self.now.next in (seen n.token, (behind n.token n.after c.args.self.now.text.now, refl))
