-- What `solve` answers: the outcome of the row machine, and rays that hold.
use Rattle.std.specs.Prelude.{Result, Ok, Err}
use Rattle.wc_model.specs.declared.flow_system.Solution.{Solution}
use Rattle.wc_model.specs.declared.flow_system.System.{System}
use Rattle.wc_model.specs.Flow.Certificates.{RayHolds}
use Rattle.wc_model.specs.Flow.RowResults.{IsRowOutcome, no_path, number_limit, pivot_limit, solved}
use Rattle.wc_simplex.specs.declared.fault.SolveFault.{SolveFault}
use Rattle.wc_simplex.specs.declared.fault.SolveFault.TheVariants.{Memory, NoPath, NumberLimit, PivotLimit}

-- nothing is said where memory ran out
abbrev pub IsAnswer : System → Result Solution SolveFault → Type 0
IsAnswer s (Ok c) = IsRowOutcome s (solved c)
IsAnswer s (Err NumberLimit) = IsRowOutcome s number_limit
IsAnswer s (Err PivotLimit) = IsRowOutcome s pivot_limit
IsAnswer s (Err (NoPath r)) = IsRowOutcome s (no_path r)
IsAnswer s (Err (Memory e)) = Unit {0}

abbrev pub IsRefuted : System → Result Solution SolveFault → Type 0
IsRefuted s (Ok c) = Unit {0}
IsRefuted s (Err NumberLimit) = Unit {0}
IsRefuted s (Err PivotLimit) = Unit {0}
IsRefuted s (Err (NoPath r)) = RayHolds s r
IsRefuted s (Err (Memory e)) = Unit {0}
