-- (inner) The code's endings as the definition's.
use Rattle.std.specs.Prelude.{◌≡◌, ℕ, not, if◌then◌else◌, [], get_or, take}
use Rattle.wc_model.specs.Flow.RowMachine as machine
use Rattle.wc_simplex.specs.declared.ending.Ending.{Ending}
use Rattle.wc_simplex.specs.declared.ending.Ending.TheVariants.{Reached, NumberLimit, PivotLimit, Unbounded}
use Rattle.wc_simplex.specs.declared.machine_end.MachineEnd.{MachineEnd}
use Rattle.wc_simplex.specs.declared.machine_end.MachineEnd.TheVariants.{Best, Infeasible, Wide, Many, Endless}
use Rattle.wc_simplex.specs.declared.tableau.Machine.{Machine}
use Rattle.wc_simplex.specs.Inner.Machines.{seen}

abbrev pub Ends : Machine → Ending → machine.Ending → Type 0
Ends m (Reached left) end = end ≡ machine.reached left (seen m)
Ends m NumberLimit end = end ≡ machine.number_limit
Ends m PivotLimit end = end ≡ machine.pivot_limit
Ends m Unbounded end = end ≡ machine.unbounded

-- What a row that is looked at between the phases gives, where `goes` says what the later rows give.
abbrev pub driven_once : machine.Shape → ℕ → ℕ → machine.Tableau → (ℕ → machine.Tableau → machine.Ending) → machine.Ending
driven_once shape left i t goes =
    if machine.is_real shape (get_or t.basis i 0) then goes left t
    else machine.driven_at goes left i t (machine.place_from (λ x. not (machine.is_zero x)) 0 (take shape.real (get_or t.rows i [])))

abbrev pub EndsOnce : Machine → Ending → ((ℕ → machine.Tableau → machine.Ending) → machine.Ending) → Type 0
EndsOnce m (Reached left) end = (goes : ℕ → machine.Tableau → machine.Ending) → end goes ≡ goes left (seen m)
EndsOnce m NumberLimit end = (goes : ℕ → machine.Tableau → machine.Ending) → end goes ≡ machine.number_limit
EndsOnce m PivotLimit end = (goes : ℕ → machine.Tableau → machine.Ending) → end goes ≡ machine.pivot_limit
EndsOnce m Unbounded end = (goes : ℕ → machine.Tableau → machine.Ending) → end goes ≡ machine.unbounded

abbrev pub EndsMachine : Machine → MachineEnd → machine.MachineEnd → Type 0
EndsMachine m Best end = end ≡ machine.best (seen m)
EndsMachine m Infeasible end = end ≡ machine.infeasible (seen m)
EndsMachine m Wide end = end ≡ machine.wide
EndsMachine m Many end = end ≡ machine.many
EndsMachine m Endless end = end ≡ machine.endless

-- what holds where the machine's end shows a result
abbrev pub OnEnd : MachineEnd → Type 0 → Type 0
OnEnd Best P = P
OnEnd Infeasible P = P
OnEnd Wide P = Unit {0}
OnEnd Many P = Unit {0}
OnEnd Endless P = Unit {0}
