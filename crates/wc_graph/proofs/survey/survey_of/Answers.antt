use Rattle.std.proofs.Common.{ℕ, ◌≡◌, ◌<◌, Bool, true, List, map, None, Some, length, refl, sym, ap, subst, ◌∙◌, arith}
use Rattle.std.proofs.lemmas.Bool.{false≢true}
use Rattle.std.proofs.lemmas.Option.{get_or_from_slice_get, slice_get_read}
use Rattle.wc_model.specs.declared.flow_facts.Fact.{Fact}
use Rattle.wc_graph.specs.declared.search.Search.{Search}
use Rattle.wc_graph.specs.Inner.Searches.{IsComplete, IsExploration}
use Rattle.wc_graph.specs.Inner.Surveys.{IsLive}
use Rattle.wc_graph.proofs.SurveyLemmas.{all, first_is, many_large, no_exit, some_places, surveyed, targets_inside}
use Rattle.wc_graph.proofs.survey.survey_of.Goals as goal

pub returns-in_default : goal.returns-in_default
returns-in_default c =
    let facts : List Fact = map (λ (f : ℕ × Fact). f.1) c.args.facts.now in
    let is : IsExploration c.args.image.now c.in_ok-stated.stated c.args.entry None = subst (IsExploration c.args.image.now c.in_ok-stated.stated c.args.entry) c.in_default.is c.in_ok-search.ensures in
    many_large c.args.image.now facts c.args.entry (is facts c.in_ok-stated.ensures)

pub returns-in-Some-least : goal.returns-in-Some-least
returns-in-Some-least c =
    let facts : List Fact = map (λ (f : ℕ × Fact). f.1) c.args.facts.now in
    let search : Search = c.in-Some.search in
    let complete : IsComplete c.args.image.now c.in_ok-stated.stated c.args.entry search = subst (IsExploration c.args.image.now c.in_ok-stated.stated c.args.entry) c.in-Some.is c.in_ok-search.ensures in
    first_is c.args.image.now facts c.args.entry c.in_ok-stated.stated search c.in_ok-stated.ensures complete c.in-Some-least.faulty c.in-Some-least.is

pub live_of-requires-clause-few : goal.live_of-requires-clause-few
live_of-requires-clause-few c =
    let facts : List Fact = map (λ (f : ℕ × Fact). f.1) c.args.facts.now in
    let search : Search = c.in-Some.search in
    let complete : IsComplete c.args.image.now c.in_ok-stated.stated c.args.entry search = subst (IsExploration c.args.image.now c.in_ok-stated.stated c.args.entry) c.in-Some.is c.in_ok-search.ensures in
    let same : length search.code.leaps ≡ length search.code.places.keys = all c.args.image.now facts c.args.entry c.in_ok-stated.stated search c.in_ok-stated.ensures complete in
    omega (arith, same, complete.ready.few)

pub live_of-requires-clause-inside : goal.live_of-requires-clause-inside
live_of-requires-clause-inside c =
    let facts : List Fact = map (λ (f : ℕ × Fact). f.1) c.args.facts.now in
    let search : Search = c.in-Some.search in
    let complete : IsComplete c.args.image.now c.in_ok-stated.stated c.args.entry search = subst (IsExploration c.args.image.now c.in_ok-stated.stated c.args.entry) c.in-Some.is c.in_ok-search.ensures in
    targets_inside c.args.image.now facts c.args.entry c.in_ok-stated.stated search c.in_ok-stated.ensures complete

pub returns-then-not-index : goal.returns-then-not-index
returns-then-not-index c =
    let facts : List Fact = map (λ (f : ℕ × Fact). f.1) c.args.facts.now in
    let search : Search = c.in-Some.search in
    let complete : IsComplete c.args.image.now c.in_ok-stated.stated c.args.entry search = subst (IsExploration c.args.image.now c.in_ok-stated.stated c.args.entry) c.in-Some.is c.in_ok-search.ensures in
    let marks : List Bool = c.in_ok-live.live.items in
    let live : IsLive search.code.leaps marks = c.in_ok-live.ensures in
    no_exit c.args.image.now facts c.args.entry c.in_ok-stated.stated search c.in_ok-stated.ensures complete c.in_default-least.is marks live (λ marked. false≢true (sym c.if-not-index.true ∙ c.index.ensures ∙ get_or_from_slice_get marks 0 true c.index.result.now marked))

pub returns : goal.returns
returns c =
    let facts : List Fact = map (λ (f : ℕ × Fact). f.1) c.args.facts.now in
    let search : Search = c.in-Some.search in
    let complete : IsComplete c.args.image.now c.in_ok-stated.stated c.args.entry search = subst (IsExploration c.args.image.now c.in_ok-stated.stated c.args.entry) c.in-Some.is c.in_ok-search.ensures in
    let marks : List Bool = c.in_ok-live.live.items in
    let live : IsLive search.code.leaps marks = c.in_ok-live.ensures in
    let some : 0 < length search.code.places.keys = some_places c.args.image.now facts c.args.entry c.in_ok-stated.stated search c.in_ok-stated.ensures complete in
    let same : length search.code.leaps ≡ length search.code.places.keys = all c.args.image.now facts c.args.entry c.in_ok-stated.stated search c.in_ok-stated.ensures complete in
    let less : 0 < length marks = omega (arith, some, same, live.spread.count, live.are.counted) in
    surveyed c.args.image.now facts c.args.entry c.in_ok-stated.stated search c.in_ok-stated.ensures complete c.in_default-least.is marks live (record { code = search.code; live = c.in_ok-live.live }) refl refl (slice_get_read marks (length marks) 0 c.index.result.now refl less c.index.ensures ∙ ap Some c.if-not-index.false)
