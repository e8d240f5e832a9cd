use Rattle.std.proofs.Common.{◌≡◌, List, Some, true, false, sym, ap, subst, ◌∙◌}
use Rattle.std.specs.List.{list_any}
use Rattle.wc_base.specs.declared.faults.Fault.TheVariants.{Recursion}
use Rattle.wc_graph.specs.declared.frames.Turn.{Turn}
use Rattle.wc_graph.specs.Inner.Opened.{reopens}
use Rattle.wc_graph.specs.Inner.Ways.{AreWays, IsWay}
use Rattle.wc_graph.proofs.turns.turns_of.Goals as goal

pub returns-then-reopens-clause-turns : goal.returns-then-reopens-clause-turns
returns-then-reopens-clause-turns c = λ facts are entry p at.
    let turns : List Turn = c.ways.new.turns.items in
    let ways : IsWay c.args.image.now facts entry turns p = subst (AreWays c.args.image.now facts c.args.place.pc turns) c.in_default.is (c.in_ok-told.ensures facts are) entry p (sym at.address) in
    let some : list_any (λ (t : Turn). reopens entry p.calls t.way) turns ≡ true = ap (list_any (λ (t : Turn). reopens entry p.calls t.way)) (sym c.as_slice.ensures.value) ∙ sym (c.reopens.ensures entry p.calls at.stack) ∙ c.if-reopens.true in
    ways.again some ∙ ap (λ n. Some (Recursion n)) (sym at.address)

pub returns-clause-turns : goal.returns-clause-turns
returns-clause-turns c = λ facts are entry p at.
    let turns : List Turn = c.ways.new.turns.items in
    let ways : IsWay c.args.image.now facts entry turns p = subst (AreWays c.args.image.now facts c.args.place.pc turns) c.in_default.is (c.in_ok-told.ensures facts are) entry p (sym at.address) in
    let none : list_any (λ (t : Turn). reopens entry p.calls t.way) turns ≡ false = ap (list_any (λ (t : Turn). reopens entry p.calls t.way)) (sym c.as_slice.ensures.value) ∙ sym (c.reopens.ensures entry p.calls at.stack) ∙ c.if-reopens.false in
    (ways.sound none, ways.steps none)
