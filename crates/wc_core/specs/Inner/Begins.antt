-- What the opening edits make of the inputs, the stamps and the history.
use Rattle.std.specs.Prelude.{ℕ, ◌≡◌, ◌+◌, List, [], ◌∷◌, map}
use Rattle.wc_model.specs.declared.elf_image.Image.{Image}
use Rattle.wc_model.specs.declared.entries.Entry.{Entry}
use Rattle.wc_model.specs.declared.entries.Entry.TheVariants.{Edit as EditEntry}
use Rattle.wc_model.specs.declared.inputs.Edit.{Edit}
use Rattle.wc_model.specs.declared.kinds.Describe.{Describe}
use Rattle.wc_model.specs.Workspace.Closures.{closure, last_touch, order_of}
use Rattle.wc_model.specs.Workspace.Edits.{Setting, all_edited, bare}

-- the entries of edits before the first session
abbrev pub entries_from : ℕ → List Edit → List Entry
entries_from count [] = []
entries_from count (e ∷ es) = EditEntry 0 count e ∷ entries_from (count + 1) es

-- a kind with its stamp after some edits
abbrev pub key_after : List Describe → Image → List Edit → ℕ → ℕ × ℕ
key_after kinds image edits kind = (kind, last_touch (closure kinds kind) 0 0 (bare image) edits)

pub record AreBegun (kinds : List Describe) (image : Image) (edits : List Edit) (inputs : Setting) (keys : List (ℕ × ℕ)) (history : List Entry) : Type 0 where
  pub inputs_are : inputs ≡ all_edited 0 (bare image) edits
  pub keys_are : keys ≡ map (key_after kinds image edits) (order_of kinds)
  pub entries_are : history ≡ entries_from 1 edits
