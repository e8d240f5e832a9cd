-- The table of the eleven kinds, as a registry is made of it.
use Rattle.wc_registry.specs.declared.faults.RegistryFault.{RegistryFault}
use Rattle.wc_registry.specs.declared.faults.RegistryFault.TheVariants.{Double, Missing, Cycle, Memory}

-- want of memory, and no fault of the list
abbrev pub IsMemory : RegistryFault → Type 0
IsMemory (Double kind) = ⊥
IsMemory (Missing kind) = ⊥
IsMemory (Cycle kind) = ⊥
IsMemory (Memory error) = Unit {0}
