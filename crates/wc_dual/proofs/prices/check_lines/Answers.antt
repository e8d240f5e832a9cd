use Rattle.std.proofs.Common.{◌≡◌, ◌+◌, length, subst, arith}
use Rattle.wc_dual.specs.Checks.{IsChecked}
use Rattle.wc_dual.specs.Wide.{IsWidePrice}
use Rattle.wc_dual.specs.Inner.Lines.{ArePriced, listed}
use Rattle.wc_dual.proofs.LineLemmas.{block_checked}
use Rattle.wc_dual.proofs.prices.check_lines.Goals as goal

pub returns : goal.returns
returns c =
    let s = c.args.system.now in
    let scale = c.args.scale.now in
    let same : length c.lines_of.new.sums ≡ length c.args.sums.now = omega arith in
    subst (λ n. IsChecked (ArePriced s (listed c.args.prices.now) scale c.args.first (c.args.first + n)) (IsWidePrice s scale (listed c.args.prices.now)) c.are_met.result) same
    (block_checked s (listed c.args.prices.now) scale c.args.first c.lines_of.new.sums _ c.items.ensures c.if-not-lines_of.ensures c.are_met.result c.are_met.ensures)
