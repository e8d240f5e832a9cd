use Rattle.std.proofs.Common.{ℕ, ◌∙◌, List, Option, get_or, sym, subst, ap, arith}
use Rattle.wc_model.specs.declared.graphs.LineMap.{LineMap}
use Rattle.wc_mustmay.specs.Inner.OneSet.{HasSets, own_access}
use Rattle.wc_mustmay.proofs.FlagLemmas.{more_flags, all_flags, accesses_are, flags_together}
use Rattle.wc_mustmay.proofs.all_sets.flag_sets.Goals as goal

pub loop-set-preserved : goal.loop-set-preserved
loop-set-preserved g c =
    let access = c.in_ok-access.access.items in
    let met = c.deref-set-items.result.now in
    let i : ℕ = c.loop-set.set-index in
    let sets : ℕ = c.args.cache.now.sets in
    let own = c.deref-in-loop-set-2.ensures.value ∙ c.in_ok-own.ensures.own ∙ ap (own_access sets (get_or met i 0)) c.deref-in-loop-set.ensures.value in
    more_flags c.args.analysis c.args.cache.now.ways sets c.args.graph.now access met i c.deref-in-loop-set-2.result.now c.loop-set.flags.items c.flag_set.new.flags.items
    own c.flag_set.ensures.count c.in_ok-flag_set.ensures.flags c.flag_set.ensures.others c.loop-set.invariant

pub returns : goal.returns
returns g c =
    let access = c.in_ok-access.access.items in
    let met = c.deref-set-items.result.now in
    let i : ℕ = c.loop-set.set-index in
    let sets : ℕ = c.args.cache.now.sets in
    let ways : ℕ = c.args.cache.now.ways in
    let graph = c.args.graph.now in
    let flags = c.loop-set.flags.items in
    let is = c.in_ok-access.ensures ∙ accesses_are graph c.args.cache.now c.items.result.now (c.items.ensures ∙ ap (λ (m : LineMap). m.line) c.requires.map) in
    let has : HasSets sets access met =
    subst (HasSets sets access) (sym c.deref-set-items.ensures.value) (subst (λ (xs : List (Option ℕ)). HasSets sets xs c.in_ok-met.met.items) c.deref.ensures.value c.in_ok-met.ensures) in
    flags_together c.args.analysis graph c.args.cache.now access flags is c.loop-set.invariant.count
    (all_flags c.args.analysis ways sets graph access met i flags c.requires.graph has (omega (arith, c.loop-set-test.false)) c.loop-set.invariant)
