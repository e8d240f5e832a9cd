use Rattle.std.proofs.Common.{ℕ, Bool, List, length, sym, subst}
use Rattle.wc_graph.specs.declared.frames.Frame.{Frame}
use Rattle.wc_graph.specs.declared.survey.Survey.{Survey}
use Rattle.wc_graph.specs.Inner.Inverses.{IsPlacedTo}
use Rattle.wc_graph.specs.Inner.Lists.{Inside}
use Rattle.wc_graph.proofs.RankLemmas.{AreListed, frames_listed, ranked, ranks_few, ranks_inside}
use Rattle.wc_graph.proofs.ResultLemmas.{if_both}
use Rattle.wc_graph.proofs.numbering.number_frames.Goals as goal

pub numbered-requires-clause-few : goal.numbered-requires-clause-few
numbered-requires-clause-few c =
    let s : Survey = c.args.survey.now in
    let marks : List Bool = c.in_ok-live.live.items in
    let order : List ℕ = c.in_ok-order.order.items in
    let all : AreListed c.requires.image c.requires.facts c.requires.entry s c.requires.is marks order = frames_listed c.requires.image c.requires.facts c.requires.entry s c.requires.is c.as_slice-frames.result.now c.as_slice-places.result.now c.as_slice.result.now c.as_slice-3.result.now marks order c.as_slice-frames.ensures.keys c.as_slice-places.ensures.keys c.as_slice.ensures.value c.as_slice-3.ensures.value c.in_ok-live.ensures (c.in_ok-order.ensures c.requires.entry) in
    ranks_few c.requires.image c.requires.facts c.requires.entry s c.requires.is marks order all

pub numbered-requires-clause-inside : goal.numbered-requires-clause-inside
numbered-requires-clause-inside c =
    let s : Survey = c.args.survey.now in
    let all : AreListed c.requires.image c.requires.facts c.requires.entry s c.requires.is c.in_ok-live.live.items c.in_ok-order.order.items = frames_listed c.requires.image c.requires.facts c.requires.entry s c.requires.is c.as_slice-frames.result.now c.as_slice-places.result.now c.as_slice.result.now c.as_slice-3.result.now c.in_ok-live.live.items c.in_ok-order.order.items c.as_slice-frames.ensures.keys c.as_slice-places.ensures.keys c.as_slice.ensures.value c.as_slice-3.ensures.value c.in_ok-live.ensures (c.in_ok-order.ensures c.requires.entry) in
    subst (λ (fs : List Frame). Inside (length fs) c.in_ok-order.order.items) (sym c.as_slice-frames.ensures.keys) (ranks_inside c.requires.image c.requires.facts c.requires.entry s c.requires.is c.in_ok-live.live.items c.in_ok-order.order.items all)

pub returns : goal.returns
returns c =
    let s : Survey = c.args.survey.now in
    let marks : List Bool = c.in_ok-live.live.items in
    let order : List ℕ = c.in_ok-order.order.items in
    if_both c.numbered.result c.numbered.ensures.order c.numbered.ensures.placed (λ n same placed image facts entry is.
    let all : AreListed image facts entry s is marks order = frames_listed image facts entry s is c.as_slice-frames.result.now c.as_slice-places.result.now c.as_slice.result.now c.as_slice-3.result.now marks order c.as_slice-frames.ensures.keys c.as_slice-places.ensures.keys c.as_slice.ensures.value c.as_slice-3.ensures.value c.in_ok-live.ensures (c.in_ok-order.ensures entry) in
    ranked image facts entry s is marks order all n same (subst (λ (fs : List Frame). IsPlacedTo (length fs) order (length order) n.numbers.items) c.as_slice-frames.ensures.keys placed))
