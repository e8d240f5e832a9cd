use Rattle.std.proofs.Common.{◌≡◌, ◌*◌, ◌<◌, ◌^◌, length, refl, sym, ap, subst, ◌∙◌, arith, lit<}
use Rattle.wc_nestsolve.specs.Inner.Tables.{AreFillable, value_of_found, found_at}
use Rattle.wc_nestsolve.proofs.RoundsLemmas.{head_known, round_done, round_fillable, round_filled, surcharge_low}
use Rattle.wc_nestsolve.proofs.rounds.round.Goals as goal

pub fill-requires-clause-nodes : goal.fill-requires-clause-nodes
fill-requires-clause-nodes c =
    subst (λ xs. AreFillable c.args.system.now c.args.nest.now xs c.class_at-class.result.now) (sym c.as_slice.ensures.value)
    (round_fillable _ _ c.requires.ways.solvable _ c.requires.ways.order _ c.requires.ways.classes _ _ c.loop_at-own.ensures _ _ _ c.requires.pass _ c.class_at-class.ensures)

pub value_at-round-requires : goal.value_at-round-requires
value_at-round-requires c =
    let known = head_known _ _ c.requires.ways.solvable _ c.requires.ways.order _ c.requires.ways.classes _ _ c.loop_at-own.ensures in
    omega (arith, known, c.fill.ensures.counted, ap length c.as_slice-2.ensures.value)

pub overflow_mul-own : goal.overflow_mul-own
overflow_mul-own c =
    let filled = round_filled _ _ c.requires.ways.solvable _ c.requires.ways.order _ c.requires.ways.classes _ _ c.loop_at-own.ensures _ _ _ _ c.as_slice.ensures.value c.class_at-class.ensures c.fill.ensures in
    let low = surcharge_low _ _ c.requires.ways.solvable _ c.requires.ways.order _ c.requires.ways.classes _ _ c.loop_at-own.ensures _ _ _ c.requires.pass _ filled in
    let round : c.value_at-round.result ≡ value_of_found (found_at c.fill.new.best.items c.loop_at-own.result.now.head) = c.value_at-round.ensures ∙ ap (λ xs. value_of_found (found_at xs c.loop_at-own.result.now.head)) c.as_slice-2.ensures.value in
    let big : 2 ^ 100 < 2 ^ 128 = lit< tt in
    omega (arith, big, low, ap (λ n. c.loop_at-own.result.now.bound * n) round)

pub index_mut-requires-2 : goal.index_mut-requires-2
index_mut-requires-2 c =
    let known = head_known _ _ c.requires.ways.solvable _ c.requires.ways.order _ c.requires.ways.classes _ _ c.loop_at-own.ensures in
    omega (arith, known, c.requires.pass.tables.extra_counted)

pub clear-requires-clause-known : goal.clear-requires-clause-known
clear-requires-clause-known c = λ i p at.
    let fillable = round_fillable _ _ c.requires.ways.solvable _ c.requires.ways.order _ c.requires.ways.classes _ _ c.loop_at-own.ensures _ _ _ c.requires.pass _ c.class_at-class.ensures in
    omega (arith, fillable.known i p at, c.fill.ensures.counted)

pub returns : goal.returns
returns c =
    let filled = round_filled _ _ c.requires.ways.solvable _ c.requires.ways.order _ c.requires.ways.classes _ _ c.loop_at-own.ensures _ _ _ _ c.as_slice.ensures.value c.class_at-class.ensures c.fill.ensures in
    round_done _ _ c.requires.ways.solvable _ c.requires.ways.order _ c.requires.ways.classes _ _ c.loop_at-own.ensures _ _ _ c.requires.pass _ filled _
    (c.value_at-round.ensures ∙ ap (λ xs. value_of_found (found_at xs c.loop_at-own.result.now.head)) c.as_slice-2.ensures.value) _ _ refl refl _ c.clear.ensures.counted c.clear.ensures.clear
