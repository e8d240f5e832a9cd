use Rattle.std.proofs.Common.{None, []}
use Rattle.wc_simplex.proofs.MakingLemmas.{all_there, inequalities_fail, nodes_fail}
use Rattle.wc_simplex.proofs.making.make_halves.Goals as goal

pub returns-in-None : goal.returns-in-None
returns-in-None c =
    nodes_fail c.args.system.now c.args.columns.now c.args.slacks c.new-made.result.items c.add_nodes.new.made.items [] c.in_ok-add_nodes.field-0 None c.new-made.ensures.items c.in_ok-add_nodes.ensures c.in-None.is

pub returns-in-None-2 : goal.returns-in-None-2
returns-in-None-2 c =
    inequalities_fail c.args.system.now c.args.columns.now c.args.slacks c.new-made.result.items c.add_nodes.new.made.items c.add_inequalities.new.made.items c.in_ok-add_nodes.field-0
    c.in_ok-add_inequalities-in-Some.field-0 c.new-made.ensures.items c.in_ok-add_nodes.ensures c.in-Some.field-0 c.in-Some.is c.in_ok-add_inequalities-in-Some.ensures c.in-None-2.is

pub returns-in-Some-2 : goal.returns-in-Some-2
returns-in-Some-2 c =
    all_there c.args.system.now c.args.columns.now c.args.slacks c.new-made.result.items c.add_nodes.new.made.items c.add_inequalities.new.made.items c.in_ok-add_nodes.field-0
    c.in_ok-add_inequalities-in-Some.field-0 c.new-made.ensures.items c.in_ok-add_nodes.ensures c.in-Some.field-0 c.in-Some.is c.in_ok-add_inequalities-in-Some.ensures c.in-Some-2.field-0 c.in-Some-2.is
