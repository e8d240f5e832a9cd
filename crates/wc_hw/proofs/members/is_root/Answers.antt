use Rattle.std.proofs.Common.{ap, ◌∙◌}
use Rattle.wc_hw.specs.HardwareFile.{holds, keys_pass, is_root_key}
use Rattle.wc_hw.proofs.KeyLemmas.{keys_all}
use Rattle.wc_hw.proofs.members.is_root.Goals as goal

pub returns-in-Some : goal.returns-in-Some
returns-in-Some c =
    c.has_root_keys.ensures ∙ keys_all is_root_key c.in-Some.object.now.entries ∙ ap (holds (keys_pass is_root_key)) c.in-Some.ensures
