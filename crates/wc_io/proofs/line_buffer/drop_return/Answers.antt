use Rattle.std.proofs.Common.{arith, sym, ◌∙◌, length, ◌≡◌}
use Rattle.wc_io.proofs.LineLemmas.{return_dropped, return_absent}
use Rattle.wc_io.proofs.line_buffer.drop_return.Goals as goal
use Rattle.wc_io.proofs.line_buffer.drop_return.Goals.{else-length-gt0-via-then-length-gt0+else-index-eq13, else-length-gt0-via-else-length-gt0}

pub returns-then-index-eq13-clause-items : goal.returns-then-index-eq13-clause-items
returns-then-index-eq13-clause-items c =
    let many : c.len-length.result ≡ length c.args.line.now.items = omega (arith, c.args.line.now.ok, c.len-length.ensures) in
    c.truncate.ensures.items ∙ return_dropped c.args.line.now.items c.len-length.result c.index.result.now many c.if-length-gt0.true (sym c.index.ensures ∙ c.if-index-eq13.true)

pub returns-else-length-gt0-clause-items : goal.returns-else-length-gt0-clause-items
returns-else-length-gt0-clause-items c =
    let many : c.len-length.result ≡ length c.args.line.now.items = omega (arith, c.args.line.now.ok, c.len-length.ensures) in
    elim c.else-length-gt0.branch [
      | else-length-gt0-via-then-length-gt0+else-index-eq13 w ↦ return_absent c.args.line.now.items c.len-length.result w.index.result.now many (λ some last. w.if-index-eq13.false (w.index.ensures ∙ last))
      | else-length-gt0-via-else-length-gt0 w ↦ return_absent c.args.line.now.items c.len-length.result 0 many (λ some last. omega arith)
    ]
