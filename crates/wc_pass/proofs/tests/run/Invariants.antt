use Rattle.std.proofs.Common.{◌≡◌, ◌<◌, ℕ, length, get_or}
use Rattle.wc_pass.specs.Known.{KnownPass}
use Rattle.wc_pass.proofs.tests.run.Given as goal

abbrev pub invariant-loop-pass : goal.invariant-loop-pass
invariant-loop-pass g l = record {
  own : l.desk ≡ g.N.Owner.desk;
  pen : l.pen.desk ≡ g.N.Owner.desk;
  each : (k : ℕ) (d : KnownPass) → k < length l.pass-items → (get_or l.pass-items k d).desk ≡ g.N.Owner.desk;
}
