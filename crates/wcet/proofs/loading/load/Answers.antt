use Rattle.std.proofs.Common.{◌∙◌}
use Rattle.wcet.specs.Files.{Holds}
use Rattle.wcet.specs.Words.{paths_in}
use Rattle.wcet.proofs.LoadingLemmas.{first_stops, second_stops, both_loaded, third_stops, all_loaded, holds_before}
use Rattle.wcet.proofs.loading.load.Goals as goal

pub returns-in-Err-clause-inputs : goal.returns-in-Err-clause-inputs
returns-in-Err-clause-inputs g c =
    first_stops (Holds (g.H.House.tells c.args.house.now) (g.H.House.file c.args.house.now)) (paths_in c.args.paths.now) _ _ c.in-Err.unloaded c.in-Err.ensures.file

pub returns-in-Err-load_hardware-clause-inputs : goal.returns-in-Err-load_hardware-clause-inputs
returns-in-Err-load_hardware-clause-inputs g c =
    second_stops (Holds (g.H.House.tells c.args.house.now) (g.H.House.file c.args.house.now)) (Holds (g.H.House.tells c.load_binary.new.house) (g.H.House.file c.load_binary.new.house))
    (holds_before _ _ _ _ c.in-Ok.ensures.files c.in-Ok.ensures.tells) (paths_in c.args.paths.now) _ _ _ c.in-Ok.image c.in-Ok.ensures.file c.in-Err-load_hardware.unloaded c.in-Err-load_hardware.ensures.file

pub returns-in-Err-load_facts-clause-inputs : goal.returns-in-Err-load_facts-clause-inputs
returns-in-Err-load_facts-clause-inputs g c =
    third_stops (Holds (g.H.House.tells c.args.house.now) (g.H.House.file c.args.house.now)) (Holds (g.H.House.tells c.load_hardware.new.house) (g.H.House.file c.load_hardware.new.house))
    (holds_before _ _ _ _ (λ p. c.in-Ok-load_hardware.ensures.files p ∙ c.in-Ok.ensures.files p) (c.in-Ok-load_hardware.ensures.tells ∙ c.in-Ok.ensures.tells)) (paths_in c.args.paths.now) _ _ _ c.in-Ok.image c.in-Ok-load_hardware.hardware
    (both_loaded (Holds (g.H.House.tells c.args.house.now) (g.H.House.file c.args.house.now)) (Holds (g.H.House.tells c.load_binary.new.house) (g.H.House.file c.load_binary.new.house))
    (holds_before _ _ _ _ c.in-Ok.ensures.files c.in-Ok.ensures.tells) (paths_in c.args.paths.now) _ _ _ c.in-Ok.image c.in-Ok.ensures.file c.in-Ok-load_hardware.hardware c.in-Ok-load_hardware.ensures.file)
    c.in-Err-load_facts.unloaded c.in-Err-load_facts.ensures.file

pub returns-in-Ok-load_facts-clause-inputs : goal.returns-in-Ok-load_facts-clause-inputs
returns-in-Ok-load_facts-clause-inputs g c =
    all_loaded (Holds (g.H.House.tells c.args.house.now) (g.H.House.file c.args.house.now)) (Holds (g.H.House.tells c.load_hardware.new.house) (g.H.House.file c.load_hardware.new.house))
    (holds_before _ _ _ _ (λ p. c.in-Ok-load_hardware.ensures.files p ∙ c.in-Ok.ensures.files p) (c.in-Ok-load_hardware.ensures.tells ∙ c.in-Ok.ensures.tells)) (paths_in c.args.paths.now) _ _ _ c.in-Ok.image c.in-Ok-load_hardware.hardware
    (both_loaded (Holds (g.H.House.tells c.args.house.now) (g.H.House.file c.args.house.now)) (Holds (g.H.House.tells c.load_binary.new.house) (g.H.House.file c.load_binary.new.house))
    (holds_before _ _ _ _ c.in-Ok.ensures.files c.in-Ok.ensures.tells) (paths_in c.args.paths.now) _ _ _ c.in-Ok.image c.in-Ok.ensures.file c.in-Ok-load_hardware.hardware c.in-Ok-load_hardware.ensures.file)
    c.in-Ok-load_facts.facts c.in-Ok-load_facts.ensures.file
