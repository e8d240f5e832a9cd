use Rattle.std.proofs.Common.{List, Bool, Some, true, false, length, replicate, ap, subst, ◌≡◌, ◌∙◌}
use Rattle.std.specs.List.{slice_get}
use Rattle.std.proofs.lemmas.Bool.{true≢false}
use Rattle.std.proofs.lemmas.List.{length-replicate}
use Rattle.wc_graph.proofs.ListLemmas.{get_filled}
use Rattle.wc_graph.proofs.live.Marked.new.Goals as goal

pub returns : goal.returns
returns c =
    let is : c.in_ok-marks.marks.items ≡ replicate c.args.count false = c.in_ok-marks.ensures in
    record {
      counted = ap length is ∙ length-replicate c.args.count false;
      none = λ k marked. true≢false (get_filled c.args.count k false true (subst (λ (xs : List Bool). slice_get xs k ≡ Some true) is marked));
      rests = c.new-work.ensures.items;
    }
