use Rattle.std.proofs.Common.{◌∙◌, ap, length, sym}
use Rattle.std.specs.Option.{option_map}
use Rattle.wc_model.specs.Flow.RowResults.{prices_from}
use Rattle.wc_simplex.proofs.ShownLemmas.{prices_are}
use Rattle.wc_simplex.proofs.reading.priced.Goals as goal

pub potentials-requires-clause-all : goal.potentials-requires-clause-all
potentials-requires-clause-all c =
    let e = c.args.end.now in
    ap length c.deref-in-Some.ensures.value
    ∙ (prices_are c.args.goal.now e.machine.real c.args.base.now e.negated.items c.in-Some.all.items
    (ap (prices_from c.args.goal.now e.machine.real c.args.base.now) (sym c.deref.ensures.value) ∙ sym c.in_ok-prices_of_rows.ensures ∙ ap (option_map (λ v. v.items)) c.in-Some.is)).0
    ∙ c.requires.end.counted
