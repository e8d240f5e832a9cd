-- Where a step begins and where it leads: to a node, or to the end.
use Rattle.std.specs.Prelude.{ℕ, Option}
use Rattle.wc_model.specs.declared.flow_system.SystemStep.{SystemStep}
use Rattle.wc_model.specs.declared.graphs.Step.{Step}

pub record Ends : Type 0 where
  pub source : ℕ
  pub target : Option ℕ

abbrev pub system_ends : SystemStep → Ends
system_ends s = record { source = s.source; target = s.target }

abbrev pub step_ends : Step → Ends
step_ends s = record { source = s.source; target = s.target }
