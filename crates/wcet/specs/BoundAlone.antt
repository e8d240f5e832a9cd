-- The one kind while the bound is computed by one work.
use Rattle.std.specs.Prelude.{List, [], ◌∷◌}
use Rattle.wc_core.specs.Openings.{opening_with}
use Rattle.wc_model.specs.declared.elf_image.Image.{Image}
use Rattle.wc_model.specs.declared.flow_facts.Fact.{Fact}
use Rattle.wc_model.specs.declared.kinds.Describe.{Describe}
use Rattle.wc_model.specs.declared.kinds.Part.{Part}
use Rattle.wc_model.specs.declared.kinds.Part.TheVariants.{Steer, Loops, Limits, Cache, Cycles}
use Rattle.wc_model.specs.declared.machine.Hardware.{Hardware}
use Rattle.wc_model.specs.Workspace.History.{bound_kind}
use Rattle.wc_model.specs.Workspace.Kinds.{describe}
use Rattle.wc_model.specs.Workspace.States.{Opening}

abbrev pub all_parts : List Part
all_parts = Steer ∷ Loops ∷ Limits ∷ Cache ∷ Cycles ∷ []

-- It requires nothing and reads all parts.
abbrev pub bound_alone : Describe
bound_alone = describe bound_kind [] all_parts

-- A workspace of one session and one work of that kind.
abbrev pub plain_opening : Image → Hardware → List Fact → Opening
plain_opening image hardware facts = opening_with image (bound_alone ∷ []) (bound_kind ∷ []) hardware facts 1
