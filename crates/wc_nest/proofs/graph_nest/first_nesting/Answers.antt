use Rattle.std.proofs.Common.{List, None, false, length, replicate, ap, ◌∙◌}
use Rattle.wc_model.specs.declared.graphs.Node.{Node}
use Rattle.wc_model.specs.declared.graphs.Step.{Step}
use Rattle.wc_nest.specs.declared.marking.Mark.TheVariants.{New}
use Rattle.wc_nest.proofs.StartLemmas.{nesting_first}
use Rattle.wc_nest.proofs.graph_nest.first_nesting.Goals as goal

pub returns : goal.returns
returns c = λ level level_is.
    nesting_first c.args.graph.now c.requires _ level
    (c.in_ok-new_list.ensures ∙ ap (λ (xs : List Node). replicate (length xs) New) c.items-nodes.ensures)
    (c.in_ok-new_list-2.ensures ∙ ap (λ (xs : List Node). replicate (length xs) 0) c.items-nodes.ensures)
    c.new-3.ensures.items c.new.ensures.items c.new-2.ensures.items
    (c.in_ok-new_list-3.ensures ∙ ap (λ (xs : List Node). replicate (length xs) false) c.items-nodes.ensures)
    c.new-5.ensures.items
    (c.in_ok-new_list-4.ensures ∙ ap (λ (xs : List Node). replicate (length xs) None) c.items-nodes.ensures)
    (c.in_ok-new_list-5.ensures ∙ ap (λ (xs : List Step). replicate (length xs) false) c.items-steps.ensures)
    level_is
