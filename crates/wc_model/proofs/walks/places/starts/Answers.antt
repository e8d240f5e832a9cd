use Rattle.std.proofs.Common.{ℕ, ◌≡◌, ◌<◌, ◌≤◌, ⊎_elim, Some, length, subst, arith}
use Rattle.std.specs.List.{slice_get}
use Rattle.std.proofs.lemmas.Bool.{cases_lt}
use Rattle.std.proofs.lemmas.List.Elements.{All-contains}
use Rattle.std.proofs.lemmas.Option.{slice_get_within}
use Rattle.wc_model.specs.Flow.Walks.{AreStarts}
use Rattle.wc_model.proofs.Places.{contains_from_get}
use Rattle.wc_model.proofs.Starting.{from_there, starts_more}
use Rattle.wc_model.proofs.walks.places.starts.Goals as goal

pub loop-node-preserved : goal.loop-node-preserved
loop-node-preserved g c =
    let steps = c.args.steps.now in
    let place = c.first_from-place.result in
    let low : (i : ℕ) (s : g.row.S.Denot) → slice_get steps i ≡ Some s → i < place → (g.S.Arrow.ends s).source < c.loop-node.node = λ i s at before. ⊎_elim
    (λ (old : i < c.loop-node.place). c.loop-node.invariant.below i s at old)
    (λ (new : c.loop-node.place ≤ i). c.first_from-place.ensures.below i s new before at)
    (cases_lt i c.loop-node.place) in
    record {
      inside = c.first_from-place.ensures.inside;
      below = λ i s at before. let less : (g.S.Arrow.ends s).source < c.loop-node.node = low i s at before in omega arith;
      so_far = rw c.in_ok-push.ensures.items (starts_more g.S.Arrow.ends c.loop-node.node steps c.loop-node.starts.items place c.loop-node.invariant.so_far c.first_from-place.ensures.inside low (λ i s at later. from_there g.S.Arrow.ends steps c.loop-node.node place i s c.requires.sorted c.first_from-place.ensures.ends at later));
    }

pub returns : goal.returns
returns g c =
    let steps = c.args.steps.now in
    let all : c.loop-node.node ≡ c.args.nodes = omega (arith, c.loop-node.auto.node-end) in
    rw c.in_ok-push-2.ensures.items (starts_more g.S.Arrow.ends c.args.nodes steps c.loop-node.starts.items (length steps)
    (subst (λ (n : ℕ). AreStarts g.S.Arrow.ends n steps c.loop-node.starts.items) all c.loop-node.invariant.so_far)
    (omega arith)
    (λ i s at before. All-contains (λ (t : g.row.S.Denot). (g.S.Arrow.ends t).source < c.args.nodes) steps s c.requires.sources (contains_from_get steps i s at))
    (λ i s at later. let within : i < length steps = slice_get_within steps i s at in absurd (omega arith)))
