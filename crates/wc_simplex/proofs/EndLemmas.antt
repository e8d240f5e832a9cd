-- The phases in a row.
use Rattle.std.proofs.Common.{◌≡◌, ℕ, sym, ap, subst, ◌∙◌}
use Rattle.wc_model.specs.Flow.RowMachine.{Ending, Shape, Tableau, after_ending, reached}
use Rattle.wc_model.specs.Flow.RowMachine as machine
use Rattle.wc_simplex.specs.declared.machine_end.MachineEnd.{MachineEnd}
use Rattle.wc_simplex.specs.declared.tableau.Machine.{Machine}
use Rattle.wc_simplex.specs.Inner.Endings.{EndsMachine}
use Rattle.wc_simplex.specs.Inner.Machines.{KeepsShape, seen, shape_of}
use Rattle.wc_simplex.proofs.PhaseLemmas.{same_shape}

-- after steps that reached a tableau, the later ones
pub goes_after : (goes : Shape → ℕ → Tableau → machine.MachineEnd) (old mid new : Machine) (left : ℕ) (end : Ending) (e : MachineEnd) → KeepsShape old mid → end ≡ reached left (seen mid)
    → EndsMachine new e (goes (shape_of mid) left (seen mid)) → EndsMachine new e (after_ending (goes (shape_of old)) end)
goes_after goes old mid new left end e keeps is ends =
    subst (λ (x : machine.MachineEnd). EndsMachine new e x) (ap (λ shape. goes shape left (seen mid)) (same_shape old mid keeps) ∙ sym (ap (after_ending (goes (shape_of old))) is)) ends
