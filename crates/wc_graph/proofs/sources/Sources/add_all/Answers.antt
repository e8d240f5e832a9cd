use Rattle.std.proofs.Common.{ℕ, ◌≡◌, ◌+◌, ◌<◌, List, [], ◌∷◌, ◌++◌, map, take, false, None, IfSome, length, get_or, sym, ap, subst, ◌∙◌, arith, append_assoc}
use Rattle.std.proofs.Math.Seq.{take-length}
use Rattle.std.proofs.lemmas.List.{map-append, take_more}
use Rattle.wc_graph.specs.declared.frames.Leap.{Leap}
use Rattle.wc_graph.specs.Inner.Sources.{AreSources, Edge, edge_of}
use Rattle.wc_graph.proofs.SpreadLemmas.{at_has}
use Rattle.wc_graph.proofs.sources.Sources.add_all.Goals as goal

pub add-requires : goal.add-requires
add-requires c =
    let leaps : List Leap = c.args.leaps.now in
    let i = c.loop-leap.leap-index in
    let leap : Leap = get_or leaps i (record { target = None; taken = false }) in
    let inside : IfSome leap.target (λ t. t < length c.args.self.now.into) = c.requires.inside leap (at_has leaps i (record { target = None; taken = false }) (omega arith)) in
    record { inside = subst (λ (n : ℕ). IfSome leap.target (λ t. t < n)) (sym c.loop-leap.invariant.count) inside }

pub loop-leap-preserved : goal.loop-leap-preserved
loop-leap-preserved c =
    let leaps : List Leap = c.args.leaps.now in
    let i = c.loop-leap.leap-index in
    let none : Leap = record { target = None; taken = false } in
    let leap : Leap = get_or leaps i none in
    let less : i < length leaps = omega arith in
    let old = c.args.self.now in
    let source = c.args.source in
    record {
      sources = λ edges are.
          let before : AreSources (length old.into) (edges ++ map (edge_of source) (take i leaps)) c.loop-leap.self = c.loop-leap.invariant.sources edges are in
          let after : AreSources (length old.into) ((edges ++ map (edge_of source) (take i leaps)) ++ edge_of source leap ∷ []) c.add.new.self = subst (λ (n : ℕ). AreSources n ((edges ++ map (edge_of source) (take i leaps)) ++ edge_of source leap ∷ []) c.add.new.self) c.loop-leap.invariant.count (c.in_ok-add.ensures.sources (edges ++ map (edge_of source) (take i leaps)) (subst (λ (n : ℕ). AreSources n (edges ++ map (edge_of source) (take i leaps)) c.loop-leap.self) (sym c.loop-leap.invariant.count) before)) in
          let same : (edges ++ map (edge_of source) (take i leaps)) ++ edge_of source leap ∷ [] ≡ edges ++ map (edge_of source) (take (i + 1) leaps) =
          append_assoc edges (map (edge_of source) (take i leaps)) (edge_of source leap ∷ [])
          ∙ ap (λ (xs : List Edge). edges ++ xs) (sym (ap (map (edge_of source)) (take_more leaps i none less) ∙ map-append (edge_of source) (take i leaps) (leap ∷ []))) in
          subst (λ (xs : List Edge). AreSources (length old.into) xs c.add.new.self) same after;
      count = c.in_ok-add.ensures.count ∙ c.loop-leap.invariant.count;
    }

pub returns-clause-sources : goal.returns-clause-sources
returns-clause-sources c = λ edges are.
    let leaps : List Leap = c.args.leaps.now in
    let i = c.loop-leap.leap-index in
    let end : length leaps ≡ i = omega (arith, c.loop-leap-test.false, c.loop-leap.auto.leap-index-end) in
    let all : take i leaps ≡ leaps = ap (λ (n : ℕ). take n leaps) (sym end) ∙ take-length leaps in
    subst (λ (xs : List Leap). AreSources (length c.args.self.now.into) (edges ++ map (edge_of c.args.source) xs) c.loop-leap.self) all (c.loop-leap.invariant.sources edges are)
