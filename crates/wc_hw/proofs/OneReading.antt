-- Bytes state one hardware, or one fault.
use Rattle.std.proofs.Common.{◌≡◌, ℕ, List, Some, None, Ok, Err, sym, ap, ◌∙◌}
use Rattle.std.proofs.lemmas.Option.{same_Some}
use Rattle.serde_json.specs.Data.{Data}
use Rattle.wc_base.specs.declared.faults.Fault.{Fault}
use Rattle.wc_base.specs.declared.faults.Fault.TheVariants.{BadJson, BadField}
use Rattle.wc_base.specs.declared.troubles.Trouble.TheVariants.{Fault as Refused}
use Rattle.wc_model.specs.declared.machine.Hardware.{Hardware}
use Rattle.wc_hw.specs.HardwareFile.{IsHardware, first_wrong}
use Rattle.wc_hw.specs.Reading.{HasReading, IsRefused, ReadsAs}

same_value : (bytes : List ℕ) (d e : Data) → HasReading bytes d → HasReading bytes e → d ≡ e
same_value bytes d e reads again = same_Some d e (sym reads.1 ∙ again.1)

not_refused : (bytes : List ℕ) (h : Hardware) (d : Data) (fault : Fault) → HasReading bytes d → IsHardware h d → IsRefused bytes fault → ⊥
not_refused bytes h d BadJson reads is refused = refused d reads
not_refused bytes h d (BadField word) reads is (e, again, wrong) =
    let none : None ≡ Some word = sym is.right ∙ ap first_wrong (same_value bytes d e reads again) ∙ wrong in cc
not_refused bytes h d fault reads is refused = absurd refused

pub no_fault : (bytes : List ℕ) (h : Hardware) (fault : Fault) → ReadsAs bytes (Ok h) → ReadsAs bytes (Err (Refused fault)) → ⊥
no_fault bytes h fault (d, reads, is) refused = not_refused bytes h d fault reads is refused
