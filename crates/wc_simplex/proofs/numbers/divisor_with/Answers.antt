use mir.Syntax.{w128}
use Rattle.std.proofs.Common.{◌∙◌, ap, rules}
use Rattle.std.specs.Int.RustNames.{unsigned_abs}
use Rattle.std.proofs.lemmas.Int.{to_z-of_z}
use Rattle.wc_model.specs.Flow.Exact.{gcd}
use Rattle.wc_simplex.proofs.DivisorLemmas.{gcd_kept}
use Rattle.wc_simplex.proofs.numbers.divisor_with.Goals as goal

pub returns-then-entry-eq0 : goal.returns-then-entry-eq0
returns-then-entry-eq0 c = gcd_kept c.args.found c.args.entry.now (search rules) c.if-entry-eq0.true

pub returns : goal.returns
returns c = c.common_divisor.ensures ∙ ap (gcd c.args.found) (c.unsigned_abs.ensures.value ∙ ap unsigned_abs (to_z-of_z w128 c.args.entry.now (search rules)))
