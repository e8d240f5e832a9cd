-- How a run ends.
use Rattle.std.specs.Prelude.{Bool, true, false}
use Rattle.wc_model.specs.declared.entries.End.{End}
use Rattle.wc_model.specs.declared.entries.End.TheVariants.{Kept, Dropped, Memory}

-- by whether it gave a value, and whether that is current
abbrev pub end_for : Bool → Bool → End
end_for false current = Memory
end_for true true = Kept
end_for true false = Dropped
