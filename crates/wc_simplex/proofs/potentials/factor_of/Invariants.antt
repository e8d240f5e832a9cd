use Rattle.std.proofs.Common.{◌≡◌, drop}
use Rattle.wc_model.specs.Flow.Certificates.{factor_of}
use Rattle.wc_simplex.proofs.potentials.factor_of.Given as goal

abbrev pub invariant-loop-place : goal.invariant-loop-place
invariant-loop-place l = factor_of l.node (drop l.place l.factors) ≡ factor_of l.node l.factors
