use Rattle.std.proofs.Common.{◌≡◌, List, Some, ap, subst}
use Rattle.wc_graph.specs.declared.frames.Place.{Place}
use Rattle.wc_graph.specs.Inner.Codes.{HasPlace}
use Rattle.wc_graph.specs.Inner.Numbers.{HasNumber}
use Rattle.wc_graph.proofs.CodeLemmas.{has_target}
use Rattle.wc_graph.proofs.code.Code.target.Goals as goal

pub returns-clause-target : goal.returns-clause-target
returns-clause-target c =
    let old = c.args.self.now in
    let mid = c.place_of.new.self in
    let new = c.number_of.new.self in
    let x : Place = c.in-Some.place in
    let places : mid.places.keys ≡ old.places.keys = ap (λ s. s.keys) c.place_of.ensures.places in
    let has : HasPlace old.frames.keys mid.frames.keys c.args.place c.args.way (Some x) = subst (HasPlace old.frames.keys mid.frames.keys c.args.place c.args.way) c.in-Some.is c.in_ok-place.ensures.place in
    has_target old.frames.keys mid.frames.keys old.places.keys c.args.place c.args.way new.keys x c.in_ok-number.number has (subst (λ (xs : List Place). HasNumber xs new.keys x c.in_ok-number.number) places c.in_ok-number.ensures)
