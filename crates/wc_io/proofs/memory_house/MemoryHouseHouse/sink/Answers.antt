use Rattle.std.proofs.Common.{List, ap, ◌∙◌}
use Rattle.wc_io.specs.Memory.{File, file_at}
use Rattle.wc_io.proofs.FileLemmas.{emptied_here, emptied_others}
use Rattle.wc_io.proofs.memory_house.MemoryHouseHouse.sink.Goals as goal

pub returns-clause-emptied : goal.returns-clause-emptied
returns-clause-emptied c =
    ap (λ (files : List File). file_at files c.args.path.now) c.in-Ok.ensures.files ∙ emptied_here c.args.path.now _

pub returns-clause-others : goal.returns-clause-others
returns-clause-others c = λ p other.
    ap (λ (files : List File). file_at files p) c.in-Ok.ensures.files ∙ emptied_others c.args.path.now p _ other
