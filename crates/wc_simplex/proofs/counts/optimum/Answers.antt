use Rattle.std.proofs.Common.{◌∙◌, ap, length, pos, sym}
use Rattle.std.specs.Option.{option_map}
use Rattle.wc_simplex.specs.Inner.Machines.{seen, shape_of}
use Rattle.wc_simplex.proofs.CodeLemmas.{counts_length}
use Rattle.wc_simplex.proofs.counts.optimum.Goals as goal

pub with_value-requires-clause-counted : goal.with_value-requires-clause-counted
with_value-requires-clause-counted c =
    counts_length c.args.system.now (shape_of c.args.machine.now) (seen c.args.machine.now) c.args.columns.now (pos c.in-Some.den) c.in-Some-2.x.items
    (sym c.in_ok-step_counts-in-Some.ensures ∙ ap (option_map (λ v. v.items)) c.in-Some-2.is) ∙ ap length (sym c.items.ensures)
