use Rattle.wc_pass.proofs.Steps.{first_kept}
use Rattle.wc_pass.proofs.desk.Desk.new.Goals as goal

pub of_words-requires : goal.of_words-requires
of_words-requires c = first_kept
