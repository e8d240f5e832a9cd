use Rattle.std.proofs.Common.{rules, ◌≡◌, None, length, replicate, sym, subst}
use Rattle.std.proofs.lemmas.Result.{IfOk-weaker}
use Rattle.wc_nestsolve.specs.Inner.Ways.{FindsRounds}
use Rattle.wc_nestsolve.proofs.BeginLemmas.{rounds_begun}
use Rattle.wc_nestsolve.proofs.FinishLemmas.{made_holds, made_never_wide, made_whole, makable}
use Rattle.wc_nestsolve.proofs.whole.solve_nest.Goals as goal

pub rounds-requires-clause-pass : goal.rounds-requires-clause-pass
rounds-requires-clause-pass c =
    let extra : c.in_ok-extra.extra.items ≡ replicate c.args.system.now.nodes 0 = search rules in
    let v : c.in_ok-v.v.items ≡ replicate (length c.args.system.now.loops) 0 = search rules in
    let best : c.in_ok-best.best.items ≡ replicate c.args.system.now.nodes None = search rules in
    rounds_begun c.args.nest.now c.args.system.now c.requires.solvable _ _ _ _ _ extra v best

pub make-requires : goal.make-requires
make-requires c =
    let s = c.args.system.now in
    let n = c.args.nest.now in
    let pass : FindsRounds s n c.in_ok-ways.ways 0 c.as_slice-extra.result.now c.as_slice-v.result.now c.rounds.new.best.items =
    subst (λ xs. FindsRounds s n c.in_ok-ways.ways 0 xs c.as_slice-v.result.now c.rounds.new.best.items) (sym c.as_slice-extra.ensures.value)
    (subst (λ xs. FindsRounds s n c.in_ok-ways.ways 0 c.rounds.new.extra.items xs c.rounds.new.best.items) (sym c.as_slice-v.ensures.value) c.rounds.ensures) in
    makable _ _ _ c.in_ok-ways.ensures _ _ pass.rounds _ _ _ c.in_ok-turned.ensures.1 pass.counted pass.tables.extra_counted

pub returns-clause-holds : goal.returns-clause-holds
returns-clause-holds c =
    let s = c.args.system.now in
    let n = c.args.nest.now in
    let pass : FindsRounds s n c.in_ok-ways.ways 0 c.as_slice-extra.result.now c.as_slice-v.result.now c.rounds.new.best.items =
    subst (λ xs. FindsRounds s n c.in_ok-ways.ways 0 xs c.as_slice-v.result.now c.rounds.new.best.items) (sym c.as_slice-extra.ensures.value)
    (subst (λ xs. FindsRounds s n c.in_ok-ways.ways 0 c.rounds.new.extra.items xs c.rounds.new.best.items) (sym c.as_slice-v.ensures.value) c.rounds.ensures) in
    IfOk-weaker c.make.result _ _ (λ made is. made_holds _ _ _ c.in_ok-ways.ensures _ _ pass.rounds _ _ _ c.in_ok-turned.ensures.1 made c.requires.unlimited pass.counted is) c.make.ensures

pub returns-clause-whole : goal.returns-clause-whole
returns-clause-whole c =
    let s = c.args.system.now in
    let n = c.args.nest.now in
    let pass : FindsRounds s n c.in_ok-ways.ways 0 c.as_slice-extra.result.now c.as_slice-v.result.now c.rounds.new.best.items =
    subst (λ xs. FindsRounds s n c.in_ok-ways.ways 0 xs c.as_slice-v.result.now c.rounds.new.best.items) (sym c.as_slice-extra.ensures.value)
    (subst (λ xs. FindsRounds s n c.in_ok-ways.ways 0 c.rounds.new.extra.items xs c.rounds.new.best.items) (sym c.as_slice-v.ensures.value) c.rounds.ensures) in
    IfOk-weaker c.make.result _ _ (λ made is. made_whole _ _ _ c.in_ok-ways.ensures _ _ pass.rounds _ _ _ c.in_ok-turned.ensures.1 made c.requires.unlimited pass.counted is) c.make.ensures

pub returns-clause-narrow : goal.returns-clause-narrow
returns-clause-narrow c =
    let s = c.args.system.now in
    let n = c.args.nest.now in
    let pass : FindsRounds s n c.in_ok-ways.ways 0 c.as_slice-extra.result.now c.as_slice-v.result.now c.rounds.new.best.items =
    subst (λ xs. FindsRounds s n c.in_ok-ways.ways 0 xs c.as_slice-v.result.now c.rounds.new.best.items) (sym c.as_slice-extra.ensures.value)
    (subst (λ xs. FindsRounds s n c.in_ok-ways.ways 0 c.rounds.new.extra.items xs c.rounds.new.best.items) (sym c.as_slice-v.ensures.value) c.rounds.ensures) in
    IfOk-weaker c.make.result _ _ (λ made is. made_never_wide _ _ _ c.in_ok-ways.ensures _ _ pass.rounds _ _ _ c.in_ok-turned.ensures.1 made c.requires.unlimited pass.counted is) c.make.ensures
