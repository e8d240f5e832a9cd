-- (inner) What the code makes of the machine's end.
use Rattle.std.specs.Prelude.{◌≡◌, Option, None, Some, Result, Ok, Err}
use Rattle.wc_model.specs.declared.flow_system.Ray.{Ray}
use Rattle.wc_model.specs.declared.flow_system.Solution.{Solution}
use Rattle.std.specs.Result.{IfOk}
use Rattle.wc_model.specs.declared.flow_system.System.{System}
use Rattle.wc_model.specs.Flow.Certificates.{SolutionHolds}
use Rattle.wc_model.specs.Flow.RowMachine as machine
use Rattle.wc_model.specs.Flow.RowResults.{RowOutcome, no_path, number_limit, pivot_limit, solved}
use Rattle.wc_simplex.specs.declared.fault.SolveFault.{SolveFault}
use Rattle.wc_simplex.specs.declared.fault.SolveFault.TheVariants.{Memory, NoPath, NumberLimit, PivotLimit}
use Rattle.wc_simplex.specs.Outcomes.{IsAnswer, IsRefuted}
use Rattle.wc_simplex.specs.declared.machine_end.MachineEnd.{MachineEnd}
use Rattle.wc_simplex.specs.declared.machine_end.MachineEnd.TheVariants.{Best, Infeasible, Wide, Many, Endless}

abbrev pub end_as : MachineEnd → machine.Tableau → machine.MachineEnd
end_as Best t = machine.best t
end_as Infeasible t = machine.infeasible t
end_as Wide t = machine.wide
end_as Many t = machine.many
end_as Endless t = machine.endless

-- an end that comes of the systems that the machine is for, and what its reading needs
abbrev pub IsPossible : MachineEnd → Type 0 → Type 0
IsPossible Best P = P
IsPossible Infeasible P = Unit {0}
IsPossible Wide P = Unit {0}
IsPossible Many P = Unit {0}
IsPossible Endless P = ⊥

abbrev pub Reads : RowOutcome → Result Solution SolveFault → Type 0
Reads outcome (Ok c) = outcome ≡ solved c
Reads outcome (Err NumberLimit) = outcome ≡ number_limit
Reads outcome (Err PivotLimit) = outcome ≡ pivot_limit
Reads outcome (Err (NoPath r)) = outcome ≡ no_path r
Reads outcome (Err (Memory e)) = Unit {0}

-- what is wanted of an answer
pub record IsFine (s : System) (result : Result Solution SolveFault) : Type 0 where
  pub answer : IsAnswer s result
  pub holds : IfOk result (SolutionHolds s)
  pub ray : IsRefuted s result
