use Rattle.std.proofs.Common.{List, ◌++◌, map, take}
use Rattle.wc_model.specs.declared.elf_image.Image.{Image}
use Rattle.wc_model.specs.declared.inputs.Edit.{Edit}
use Rattle.wc_model.specs.declared.inputs.Edit.TheVariants.{Add}
use Rattle.wc_model.specs.Workspace.Edits.{setting_of}
use Rattle.wc_core.specs.Inner.Begins.{AreBegun}
use Rattle.wc_core.proofs.opening.Opened.add_facts.Given as goal

abbrev pub invariant-loop-fact : goal.invariant-loop-fact
invariant-loop-fact l =
    (image : Image) (edits : List Edit) → AreBegun l.registry image edits (setting_of l.initial.self.inputs.value) l.initial.self.keys.items l.initial.self.history.items
    → AreBegun l.registry image (edits ++ map Add (take l.fact-index l.facts)) (setting_of l.self.inputs.value) l.self.keys.items l.self.history.items
