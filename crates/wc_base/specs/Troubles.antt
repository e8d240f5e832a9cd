-- What a reading says where it gives a fault.
use Rattle.std.specs.declared.result.Result.{Result}
use Rattle.std.specs.declared.result.Result.TheVariants.{Ok, Err}
use Rattle.wc_base.specs.declared.faults.Fault.{Fault}
use Rattle.wc_base.specs.declared.troubles.Trouble.{Trouble}
use Rattle.wc_base.specs.declared.troubles.Trouble.TheVariants.{Fault as Refused, Memory}

-- where the result is a fault, it is so of that fault
abbrev pub IfFault : {T : Type 0} → Result T Trouble → (Fault → Type 0) → Type 0
IfFault (Ok _) is = Unit {0}
IfFault (Err (Refused fault)) is = is fault
IfFault (Err (Memory _)) is = Unit {0}

abbrev pub IsMemory : Trouble → Type 0
IsMemory (Refused _) = ⊥
IsMemory (Memory _) = Unit {0}
