use Rattle.std.proofs.Common.{ℕ, List, drop, ap, ◌∙◌}
use Rattle.wc_io.specs.Ahead.{Ahead}
use Rattle.wc_io.proofs.LineLemmas.{range_drop}
use Rattle.wc_io.proofs.read_ahead.ReadAhead.skip.Goals as goal

pub returns : goal.returns
returns g c =
    let view : List ℕ → Ahead = λ unread. record {
      unread = unread;
      left = g.S.Source.left c.self.inside.source;
      place = g.S.Source.place c.self.inside.source;
      faults = g.S.Source.faults c.self.inside.source;
    } in
    let was = ap (λ (a : Ahead). a.unread) c.self.view_is in
    ap view (range_drop c.self.inside.buffer _ c.self.inside.start c.self.inside.end c.args.count was c.requires)
    ∙ ap (λ (a : Ahead). record a { unread = drop c.args.count c.args.self.now.unread }) c.self.view_is
