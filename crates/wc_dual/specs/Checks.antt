-- What the check of a certificate answers.
use Rattle.wc_model.specs.declared.flow_system.Ray.{Ray}
use Rattle.wc_model.specs.declared.flow_system.Solution.{Solution}
use Rattle.wc_model.specs.declared.flow_system.System.{System}
use Rattle.wc_model.specs.Flow.Certificates.{RayHolds, SolutionHolds}
use Rattle.wc_dual.specs.Wide.{IsWideRay, IsWideSolution}
use Rattle.wc_dual.specs.declared.checks.Check.{Check}
use Rattle.wc_dual.specs.declared.checks.Check.TheVariants.{Yes, No, TooWide}

-- `Holds` is what the certificate claims, `Wide` that a product or a sum which it names leaves the range
abbrev pub IsChecked : Type 0 → Type 0 → Check → Type 0
IsChecked Holds Wide Yes = Holds
IsChecked Holds Wide No = Holds → ⊥
IsChecked Holds Wide TooWide = Wide

abbrev pub ChecksSolution : System → Solution → Check → Type 0
ChecksSolution s c answer = IsChecked (SolutionHolds s c) (IsWideSolution s c) answer

abbrev pub ChecksRay : System → Ray → Check → Type 0
ChecksRay s c answer = IsChecked (RayHolds s c) (IsWideRay s c) answer
