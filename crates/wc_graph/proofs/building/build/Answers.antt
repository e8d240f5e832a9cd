use Rattle.std.proofs.Common.{ℕ, List, map}
use Rattle.wc_model.specs.declared.flow_facts.Fact.{Fact}
use Rattle.wc_graph.specs.declared.survey.Survey.{Survey}
use Rattle.wc_graph.specs.Inner.Numberings.{AreRanked}
use Rattle.wc_graph.specs.Inner.Surveys.{IsSurvey}
use Rattle.wc_graph.proofs.GraphLemmas.{is_graph}
use Rattle.wc_graph.proofs.NumberLemmas.{is_numbered}
use Rattle.wc_graph.proofs.PositionLemmas.{has_number}
use Rattle.wc_graph.proofs.building.build.Goals as goal

pub assemble-requires-clause-started : goal.assemble-requires-clause-started
assemble-requires-clause-started c =
    let facts : List Fact = map (λ (f : ℕ × Fact). f.1) c.args.facts.now in
    let survey : Survey = c.in-Ok.survey in
    let is : IsSurvey c.args.image.now facts c.args.entry survey = c.in-Ok.ensures in
    let b : AreRanked c.args.image.now facts c.args.entry survey c.in_ok-frames.frames c.in_ok-places.places = record { is = is; ranked = c.in_ok-frames.ensures c.args.image.now facts c.args.entry is; ordered = c.in_ok-places.ensures } in
    has_number b 0 is.started

pub returns-clause-graph : goal.returns-clause-graph
returns-clause-graph c =
    let facts : List Fact = map (λ (f : ℕ × Fact). f.1) c.args.facts.now in
    let survey : Survey = c.in-Ok.survey in
    let is : IsSurvey c.args.image.now facts c.args.entry survey = c.in-Ok.ensures in
    let b : AreRanked c.args.image.now facts c.args.entry survey c.in_ok-frames.frames c.in_ok-places.places = record { is = is; ranked = c.in_ok-frames.ensures c.args.image.now facts c.args.entry is; ordered = c.in_ok-places.ensures } in
    is_graph b c.in_ok-assemble.field-0 c.in_ok-assemble.ensures

pub returns-clause-numbers : goal.returns-clause-numbers
returns-clause-numbers c =
    let facts : List Fact = map (λ (f : ℕ × Fact). f.1) c.args.facts.now in
    let survey : Survey = c.in-Ok.survey in
    let is : IsSurvey c.args.image.now facts c.args.entry survey = c.in-Ok.ensures in
    let b : AreRanked c.args.image.now facts c.args.entry survey c.in_ok-frames.frames c.in_ok-places.places = record { is = is; ranked = c.in_ok-frames.ensures c.args.image.now facts c.args.entry is; ordered = c.in_ok-places.ensures } in
    is_numbered b c.in_ok-assemble.field-0 c.in_ok-assemble.ensures
