use Rattle.std.proofs.Common.{ℕ, List, inl, sym, ap, ◌∙◌}
use Rattle.wc_io.specs.Memory.{fails_at}
use Rattle.wc_io.proofs.memory_house.MemoryHouseHouse.source.Goals as goal

pub returns-then-contains-clause-opens : goal.returns-then-contains-clause-opens
returns-then-contains-clause-opens c =
    inl (ap (λ (failing : List ℕ). fails_at c.saturating_add-self.result failing) (sym c.deref.ensures.value) ∙ sym c.if-contains.ensures.value)
