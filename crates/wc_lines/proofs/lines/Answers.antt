use Rattle.std.proofs.Common.{rules, ◌≡◌, ap₂}
use Rattle.wc_model.specs.declared.graphs.LineMap.{LineMap}
use Rattle.wc_lines.proofs.lines.Goals as goal

-- src/lib.rt:17:1
pub returns : goal.returns
returns c = rw c.in-Some.is (ap₂ {C = LineMap} (λ line set. record { line = line; set = set }) (search rules) (search rules))
