use Rattle.std.proofs.Common.{ℕ, ◌==◌, get_or, arith}
use Rattle.std.proofs.lemmas.Option.{slice_get-get_or}
use Rattle.wc_base.specs.Sums.{chosen}
use Rattle.wc_dual.proofs.PassLemmas.{pass_next}
use Rattle.wc_dual.proofs.PayLemmas.{put_all, put_out}
use Rattle.wc_dual.proofs.passes.put_places.Goals as goal

pub returns-then-not-put : goal.returns-then-not-put
returns-then-not-put c =
    let n : ℕ = get_or c.args.places.now c.loop-place.place-index 0 in
    let at = slice_get-get_or c.args.places.now c.loop-place.place-index 0 c.loop-place-test.true in
    put_out c.args.places.now c.args.amount.now c.args.first c.requires c.loop-place.place-index n c.args.sums.now c.loop-place.sums at c.loop-place.invariant c.if-not-put.ensures

pub loop-place-preserved : goal.loop-place-preserved
loop-place-preserved c =
    let n : ℕ = get_or c.args.places.now c.loop-place.place-index 0 in
    let at = slice_get-get_or c.args.places.now c.loop-place.place-index 0 c.loop-place-test.true in
    pass_next (λ _ q i. chosen (q == i) c.args.amount.now) c.args.places.now c.args.first c.loop-place.place-index n c.args.sums.now c.loop-place.sums c.put.new.sums at c.loop-place.invariant c.if-not-put.ensures

pub returns : goal.returns
returns c = put_all c.args.places.now c.args.amount.now c.args.first c.requires c.loop-place.place-index c.args.sums.now c.loop-place.sums (omega arith) c.loop-place.invariant
