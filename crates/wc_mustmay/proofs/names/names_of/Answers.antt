use Rattle.std.proofs.Common.{◌≡◌, length, take, eqb, ap, ◌∙◌, arith}
use Rattle.std.specs.List.{dedup, flat_map}
use Rattle.std.proofs.lemmas.List.{take_all}
use Rattle.std.proofs.lemmas.List.Filters.{dedup_is}
use Rattle.std.proofs.lemmas.List.Kept.{Contains-dedup_nat}
use Rattle.std.proofs.lemmas.List.Sorted.{Contains-permutation}
use Rattle.std.proofs.lemmas.Map.Keys.{IsStrictlyIncreasing-dedup}
use Rattle.wc_mustmay.specs.Inner.Names.{lines_in}
use Rattle.wc_mustmay.proofs.NameLemmas.{among_lines, few_lines}
use Rattle.wc_mustmay.proofs.names.names_of.Goals as goal

pub returns-clause-names : goal.returns-clause-names
returns-clause-names c =
    let sorted = c.sort_unstable.new.self.items in
    let is : c.dedup.new.self.items ≡ dedup eqb sorted = dedup_is eqb sorted c.dedup.new.self.items c.dedup.ensures.filtered in
    let whole : take c.loop-line.line-index c.args.own.now ≡ c.args.own.now = take_all c.loop-line.line-index c.args.own.now (omega (arith, c.loop-line-test.false)) in
    let collected : c.loop-line.names.items ≡ flat_map lines_in c.args.own.now = c.loop-line.invariant ∙ ap (flat_map lines_in) whole in
    record {
      rising = rw is (IsStrictlyIncreasing-dedup sorted c.sort_unstable.ensures.sorted);
      all = λ p line at. rw is (Contains-dedup_nat sorted line (Contains-permutation c.loop-line.names.items sorted line c.sort_unstable.ensures.permutation (rw collected (among_lines c.args.own.now p line at))));
    }

pub returns-clause-few : goal.returns-clause-few
returns-clause-few c =
    let whole : take c.loop-line.line-index c.args.own.now ≡ c.args.own.now = take_all c.loop-line.line-index c.args.own.now (omega (arith, c.loop-line-test.false)) in
    let collected : c.loop-line.names.items ≡ flat_map lines_in c.args.own.now = c.loop-line.invariant ∙ ap (flat_map lines_in) whole in
    omega (arith, c.dedup.ensures.bound, c.sort_unstable.ensures.len, ap length collected, few_lines c.args.own.now)
