use Rattle.std.proofs.Common.{ap}
use Rattle.std.specs.Prelude.{Err, option_map}
use Rattle.wc_base.specs.declared.faults.FileWord.TheVariants.{Hardware as HardwareFile}
use Rattle.wc_model.specs.Workspace.Hardware.{default_hardware}
use Rattle.wcet.specs.Files.{Holds, TimingSays, Within}
use Rattle.wcet.proofs.LoadingLemmas.{decoded, given_path, unread_bytes}
use Rattle.wcet.proofs.loading.load_hardware.Goals as goal

pub returns-in-Ok-clause-file : goal.returns-in-Ok-clause-file
returns-in-Ok-clause-file g c =
    given_path (Holds (g.H.House.tells c.args.house.now) (g.H.House.file c.args.house.now)) default_hardware (Within HardwareFile TimingSays) (option_map (λ p. p.now) c.args.path) c.in-Some.path.now (g.H.House.opened c.args.house.now) (g.H.House.opened c.load_bytes.new.house) c.decode_hardware.result (ap (option_map (λ p. p.now)) c.in-Some.is)
    (decoded _ HardwareFile TimingSays _ _ _ c.in-Ok.bytes c.decode_hardware.result c.in-Ok.ensures.file (rw c.as_slice.ensures.value at c.decode_hardware.ensures))

pub returns-in-Err-clause-file : goal.returns-in-Err-clause-file
returns-in-Err-clause-file g c =
    given_path (Holds (g.H.House.tells c.args.house.now) (g.H.House.file c.args.house.now)) default_hardware (Within HardwareFile TimingSays) (option_map (λ p. p.now) c.args.path) c.in-Some.path.now (g.H.House.opened c.args.house.now) (g.H.House.opened c.load_bytes.new.house) (Err c.in-Err.unloaded) (ap (option_map (λ p. p.now)) c.in-Some.is)
    (unread_bytes _ HardwareFile TimingSays _ _ _ c.in-Err.unloaded c.in-Err.ensures.file)
