use Rattle.std.proofs.Common.{◌*ℤ◌, ◌++◌, ◌∷◌, ◌∙◌, List, Option, ℤ, ap, ap₂, get_or, pos, rules, sym}
use Rattle.std.proofs.lemmas.Int.{to_z-of_z}
use mir.Syntax.{w128}
use mir.Val.{of_z, to_z}
use Rattle.wc_model.specs.Flow.Exact.{exact}
use Rattle.wc_model.specs.Flow.RowResults.{back_terms, entry_terms, limit_terms, sum_terms}
use Rattle.wc_model.specs.Flow.Tableaus.{no_step}
use Rattle.wc_simplex.proofs.CodeLemmas.{potential_read}
use Rattle.wc_simplex.proofs.potentials.step_potential.Goals as goal

pub returns : goal.returns
returns c =
    let s = c.args.system.now in
    let i = c.args.place in
    let t = get_or s.steps i no_step in
    let vs = c.args.prices.now.loops.items in
    let ws = c.args.prices.now.limits.items in
    let a = to_z w128 (of_z w128 c.in_ok-acc.acc) in
    let b = to_z w128 (of_z w128 c.in_ok-acc-2.acc) in
    let d = to_z w128 (of_z w128 c.in_ok-acc-3.acc) in
    potential_read c.args.ahead.now (exact (pos t.cost *ℤ c.args.scale.now)) (back_terms i s.loops vs) (entry_terms i s.loops vs) (limit_terms t.source s.limits ws)
    c.with_cost.result c.less_back.result c.with_entry.result c.less_limits.result c.in_ok-acc.acc a c.in_ok-acc-2.acc b c.in_ok-acc-3.acc d
    (search rules) (search rules) (to_z-of_z w128 c.in_ok-acc.acc (search rules))
    (λ ts. ap₂ (λ ls xs. sum_terms a (back_terms i ls xs ++ ts)) (sym c.items-2.ensures) (sym c.deref.ensures.value) ∙ c.less_back.ensures ts) (search rules) (to_z-of_z w128 c.in_ok-acc-2.acc (search rules))
    (λ ts. ap₂ (λ ls xs. sum_terms b (entry_terms i ls xs ++ ts)) (sym c.items-3.ensures) (sym c.deref-2.ensures.value) ∙ c.with_entry.ensures ts) (search rules) (to_z-of_z w128 c.in_ok-acc-3.acc (search rules))
    (c.less_limits.ensures ∙ ap₂ (λ ls xs. sum_terms d (limit_terms (get_or c.items.result.now i no_step).source ls xs)) c.items-4.ensures c.deref-3.ensures.value
    ∙ ap (λ ss. sum_terms d (limit_terms (get_or ss i no_step).source s.limits ws)) c.items.ensures)
