use Rattle.wc_base.specs.declared.faults.FileWord.TheVariants.{Binary}
use Rattle.wcet.specs.Files.{ImageSays}
use Rattle.wcet.proofs.LoadingLemmas.{decoded}
use Rattle.wcet.proofs.loading.load_binary.Goals as goal

pub returns-in-Ok-clause-file : goal.returns-in-Ok-clause-file
returns-in-Ok-clause-file g c = decoded _ Binary ImageSays _ _ _ c.in-Ok.bytes c.decode_image.result c.in-Ok.ensures.file c.decode_image.ensures
