use Rattle.std.proofs.Common.{◌<◌, ◌∙◌, ap, get_or, map, subst, sym}
use Rattle.std.specs.List.{All}
use Rattle.std.proofs.lemmas.List.{get_or_default}
use Rattle.std.proofs.lemmas.Result.{IfOk-weaker}
use Rattle.wc_model.specs.declared.flow_system.SystemLimit.{SystemLimit}
use Rattle.wc_model.specs.Flow.Tableaus.{limit_line}
use Rattle.wc_simplex.specs.Inner.Lines.{IsLine}
use Rattle.wc_simplex.proofs.CodeLemmas.{named_small}
use Rattle.wc_simplex.proofs.making.limit_at.Goals as goal

pub limit_row-requires-clause-named : goal.limit_row-requires-clause-named
limit_row-requires-clause-named c =
    let s = c.args.system.now in
    let l = c.index-items-place.result in
    named_small s.nodes l.factors
    (subst (λ (x : SystemLimit). All (λ p. p < s.nodes) (map (λ f. f.0) x.factors)) (sym (c.index-items-place.is ∙ ap (λ ls. get_or ls c.args.place l) c.items.ensures)) (c.requires.system.limits c.args.place l c.requires.place).0)

pub returns : goal.returns
returns c =
    let s = c.args.system.now in
    let l = c.index-items-place.result in
    IfOk-weaker c.limit_row.result (IsLine s (limit_line l)) (λ row. (d : SystemLimit) → IsLine s (limit_line (get_or s.limits c.args.place d)) row)
    (λ row is d. subst (λ (x : SystemLimit). IsLine s (limit_line x) row) (c.index-items-place.is ∙ ap (λ ls. get_or ls c.args.place l) c.items.ensures ∙ get_or_default s.limits c.args.place l d c.requires.place) is)
    c.limit_row.ensures
