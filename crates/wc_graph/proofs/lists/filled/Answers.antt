use Rattle.std.proofs.Common.{◌-◌, ◌++◌, take, replicate, vec_len, ap, ◌∙◌, arith}
use Rattle.std.proofs.Math.Seq.{take-nil}
use Rattle.wc_graph.proofs.lists.filled.Goals as goal

pub returns : goal.returns
returns T c =
    c.in_ok-resize.ensures.items
    ∙ ap (λ xs. take c.args.count xs ++ replicate (c.args.count - vec_len c.new-items.result) c.args.value) c.new-items.ensures.items
    ∙ ap (λ xs. xs ++ replicate (c.args.count - vec_len c.new-items.result) c.args.value) (take-nil c.args.count)
    ∙ ap (λ n. replicate n c.args.value) (omega (arith, c.new-items.ensures.len))
