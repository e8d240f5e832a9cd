use Rattle.wc_model.specs.Flow.Places.{number_at}
use Rattle.wc_dual.proofs.CertificateLemmas.{counts_end, pass_on, wide_loop, wide_node}
use Rattle.wc_dual.proofs.certificates.check_counts.Goals as goal

pub returns-in_default : goal.returns-in_default
returns-in_default c = pass_on c.check_flow.result c.in_default.not-Yes (λ counts. counts.0) (wide_node c.args.system.now c.args.den.now (number_at c.args.x.now)) c.check_flow.ensures.flow

pub returns-in_default-check_loops : goal.returns-in_default-check_loops
returns-in_default-check_loops c =
    pass_on c.check_loops.result c.in_default-check_loops.not-Yes (λ counts. counts.1) (wide_loop c.args.system.now c.args.den.now (number_at c.args.x.now)) c.check_loops.ensures

pub returns : goal.returns
returns c =
    counts_end c.args.system.now c.args.den.now (number_at c.args.x.now) c.in-Yes.ensures.flow c.in-Yes-check_loops.ensures c.check_limits.result c.check_limits.ensures
