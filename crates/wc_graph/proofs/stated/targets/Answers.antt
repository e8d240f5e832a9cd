use Rattle.std.proofs.Common.{ℕ, ◌≡◌, ◌+◌, ◌*◌, List, ◌++◌, map, filter, ap, ◌∙◌, arith, nat_cmp}
use Rattle.std.specs.BTreeMap.Range.{range_contains}
use Rattle.std.specs.declared.ops.Bound.TheVariants.{Included}
use Rattle.std.specs.Range.{range_inclusive_start, range_inclusive_end}
use Rattle.std.proofs.lemmas.List.Elements.{filter_agree}
use Rattle.std.proofs.lemmas.Map.Iter.{rest_more, rest_all}
use Rattle.std.specs.Map.Iter.{deref}
use Rattle.wc_graph.specs.Inner.Stated.{is_of, low}
use Rattle.wc_graph.proofs.StatedLemmas.{between, low_all, low_more}
use Rattle.wc_graph.proofs.stated.targets.Goals as goal

pub loop-key-init : goal.loop-key-init
loop-key-init c =
    let keys : List ℕ = c.args.keys.now.keys in
    let first = range_inclusive_start c.new.result in
    let last = range_inclusive_end c.new.result in
    let first_is : first ≡ c.args.at * 4294967296 = c.new.ensures.start in
    let last_is : last ≡ first + 4294967295 = omega (arith, c.new.ensures.end, first_is) in
    let rest : c.into_iter-key-iterator.result ≡ filter (is_of c.args.at) keys = c.into_iter-key-iterator.ensures.into_iter_gives ∙ c.range-key-items.ensures.between c.new.ensures.exhausted ∙ filter_agree (range_contains nat_cmp (Included first) (Included last)) (is_of c.args.at) (λ key. between c.args.at first last key first_is last_is) keys in
    ap (λ (xs : List ℕ). xs ++ map low c.into_iter-key-iterator.result) c.new-found.ensures.items ∙ ap (map low) rest

pub loop-key-preserved : goal.loop-key-preserved
loop-key-preserved c = low_more c.loop-key.found.items _ c.next.new.self c.loop-key.key-iterator _ c.in-Some.key.now (rest_more deref c.loop-key.key-iterator c.next.new.self c.next.result c.in-Some.key c.in-Some.is c.next.ensures.steps) c.in_ok-push.ensures.items c.loop-key.invariant

pub returns : goal.returns
returns c = low_all c.loop-key.found.items c.loop-key.key-iterator _ (rest_all deref c.loop-key.key-iterator c.next.new.self c.next.result c.in-None.is c.next.ensures.steps) c.loop-key.invariant
