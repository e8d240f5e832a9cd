-- The weight of a step at prices of the loops: its cost and the surcharges of the loops that it enters, less the
-- rounds of those whose back step it is.
use Rattle.std.specs.Prelude.{ℕ, ◌==◌, ℤ, pos, ◌+ℤ◌, ◌-ℤ◌, ◌*ℤ◌}
use Rattle.wc_base.specs.Sums.{sum_placed, chosen}
use Rattle.wc_model.specs.declared.flow_system.System.{System}
use Rattle.wc_model.specs.declared.flow_system.SystemStep.{SystemStep}
use Rattle.wc_model.specs.Flow.Certificates.{back_price, entry_price}
use Rattle.wc_model.specs.Flow.Counts.{cycles}

module _ (s : System) (v : ℕ → ℤ) where
  -- a loop's surcharge is its bound times its round; a node that is no head has none
  abbrev pub surcharge : ℕ → ℤ
  surcharge q = sum_placed (λ k l. chosen (q == l.head) (pos l.bound *ℤ v k)) s.loops

  abbrev pub weight : ℕ → SystemStep → ℤ
  weight i t = (cycles t +ℤ entry_price v s.loops i) -ℤ back_price v s.loops i
