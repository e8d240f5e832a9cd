use Rattle.std.proofs.Common.{ℕ, ◌≡◌, ◌+◌, ◌<◌, List, [], ◌∷◌, ◌++◌, map, take, Some, IfSome, length, sym, ap, subst, ◌∙◌, arith}
use Rattle.std.specs.List.{slice_get}
use Rattle.std.proofs.lemmas.List.{take_more, length-take-le}
use Rattle.std.proofs.lemmas.Option.{get_or_from_slice_get}
use Rattle.wc_graph.specs.declared.frames.Leap.{Leap}
use Rattle.wc_graph.specs.Inner.Sources.{AreSources, Edge, edge_of, edges_from}
use Rattle.wc_graph.proofs.ReachLemmas.{get_has}
use Rattle.wc_graph.proofs.SourceLemmas.{edges_push}
use Rattle.wc_graph.proofs.sources.sources_of.Goals as goal

pub add_all-requires : goal.add_all-requires
add_all-requires c =
    let leaps : List (List Leap) = c.args.leaps.now in
    let n = c.loop-number.number in
    let v : List Leap = c.row.result.now in
    let at : slice_get leaps n ≡ Some v = c.row.ensures in
    record { inside = λ leap has. subst (λ (k : ℕ). IfSome leap.target (λ t. t < k)) (sym c.loop-number.invariant.counted) (c.requires.inside v (get_has leaps n v at) leap has) }

pub loop-number-preserved : goal.loop-number-preserved
loop-number-preserved c =
    let leaps : List (List Leap) = c.args.leaps.now in
    let n = c.loop-number.number in
    let v : List Leap = c.row.result.now in
    let at : slice_get leaps n ≡ Some v = c.row.ensures in
    let less : n < length leaps = omega arith in
    let new = c.add_all.new.self in
    let edges : List Edge = edges_from 0 (take n leaps) in
    let counted : length c.loop-number.sources.into ≡ length leaps = c.loop-number.invariant.counted in
    let after : AreSources (length leaps) (edges ++ map (edge_of n) v) new = subst (λ (k : ℕ). AreSources k (edges ++ map (edge_of n) v) new) counted (c.in_ok-add_all.ensures.sources edges (subst (λ (k : ℕ). AreSources k edges c.loop-number.sources) (sym counted) c.loop-number.invariant)) in
    let long : length (take n leaps) ≡ n = length-take-le n leaps (omega arith) in
    let taken : take (n + 1) leaps ≡ take n leaps ++ v ∷ [] = take_more leaps n v less ∙ ap (λ (x : List Leap). take n leaps ++ x ∷ []) (get_or_from_slice_get leaps n v v at) in
    subst (λ (es : List Edge). AreSources (length leaps) es new) (sym (ap (edges_from 0) taken ∙ edges_push 0 n (take n leaps) v (omega (arith, long)))) after
