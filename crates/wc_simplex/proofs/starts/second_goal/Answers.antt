use Rattle.std.proofs.Common.{◌∙◌, ◌≡◌, List, Option, ℤ, ap, map, option_map, sym}
use Rattle.std.proofs.lemmas.Result.{IfOk-weaker}
use Rattle.std.proofs.Common.{◌++◌, ◌+◌, ◌∷◌, [], pos, replicate, option_and_then}
use Rattle.wc_model.specs.Flow.Exact.{each_of, negate_exact}
use Rattle.wc_model.specs.Flow.Tableaus.{column_cost, cost_row}
use Rattle.wc_simplex.proofs.CodeLemmas.{goal_goes, goal_stops}
use Rattle.wc_simplex.proofs.starts.second_goal.Goals as goal

pub returns-in-None : goal.returns-in-None
returns-in-None c =
    goal_stops c.args.system.now c.in_ok-costs.costs.items c.deref.result.now c.args.columns.now c.args.slacks c.args.rows c.deref.ensures.value (c.in_ok-costs.ensures ∙ ap (map (λ t. pos t.cost)) c.items.ensures)
    c.requires.columns (sym (ap (option_map (λ v. v.items)) c.in-None.is) ∙ c.in_ok-column_entries.ensures)

pub returns : goal.returns
returns c =
    IfOk-weaker c.finish_costs.result
    (λ (o : Option (List ℤ)). o ≡ option_map (λ turned. turned ++ replicate (c.args.slacks + c.args.rows) (pos 0) ++ pos 0 ∷ pos 1 ∷ []) (each_of negate_exact c.in-Some.sums.items))
    (λ (o : Option (List ℤ)). o ≡ option_map (cost_row c.args.slacks c.args.rows) (each_of (λ column. option_and_then negate_exact (column_cost c.args.system.now column)) c.args.columns.now))
    (λ o made.
    goal_goes c.args.system.now c.in_ok-costs.costs.items c.deref.result.now c.args.columns.now c.args.slacks c.args.rows c.deref.ensures.value (c.in_ok-costs.ensures ∙ ap (map (λ t. pos t.cost)) c.items.ensures)
    c.requires.columns c.in-Some.sums.items o (sym (ap (option_map (λ v. v.items)) c.in-Some.is) ∙ c.in_ok-column_entries.ensures) made) c.finish_costs.ensures
