use Rattle.std.proofs.Common.{◌+◌, Option, get_or, subst, sym}
use Rattle.std.specs.List.{All}
use Rattle.std.proofs.lemmas.Result.{IfOk-weaker}
use Rattle.wc_model.specs.Flow.Tableaus.{halves, node_line}
use Rattle.wc_simplex.specs.Inner.Columns.{IsColumn}
use Rattle.wc_simplex.specs.Inner.Halves.{row_half}
use Rattle.wc_simplex.specs.Inner.Making.{Adds, After, inequalities, inequalities_from, made_before}
use Rattle.wc_simplex.proofs.HalfLemmas.{half_same}
use Rattle.wc_simplex.proofs.MakingLemmas.{inequality_added}
use Rattle.wc_simplex.proofs.making.add_inequality.Goals as goal

pub add_row-requires : goal.add_row-requires
add_row-requires c = subst (λ n. All (IsColumn n) c.args.columns.now) (sym (c.in_ok-row.ensures (node_line c.args.system.now 0)).count) c.requires.columns

pub returns : goal.returns
returns c =
    let s = c.args.system.now in
    let old = c.args.made.now.items in
    let new = c.add_row.new.made.items in
    let row = c.in_ok-row.row in
    let any = node_line s 0 in
    IfOk-weaker c.add_row.result (λ (o : Option (Unit {0})). Adds (row_half c.args.columns.now c.args.slacks c.args.place row) o old new)
    (λ (o : Option (Unit {0})).
    After o (made_before old (halves s c.args.columns.now c.args.slacks c.args.place (inequalities_from s c.args.place))) (made_before new (halves s c.args.columns.now c.args.slacks (c.args.place + 1) (inequalities_from s (c.args.place + 1)))))
    (λ o adds. inequality_added s c.args.columns.now c.args.slacks c.args.place any (row_half c.args.columns.now c.args.slacks c.args.place row) o old new c.requires.place
    (half_same s (get_or (inequalities s) c.args.place any) row c.args.columns.now c.args.slacks c.args.place (c.in_ok-row.ensures any) c.requires.columns) adds) c.add_row.ensures
