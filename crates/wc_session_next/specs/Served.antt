-- What a session over a shared workspace does with its script.
use Rattle.std.specs.Prelude.{◌≡◌, ℕ, List, ◌++◌, Option, IfSome}
use Rattle.wc_flight.specs.Calls.{Gains as GainsEntries}
use Rattle.wc_io.specs.Lines.{LineResult}
use Rattle.wc_model.specs.declared.elf_image.Image.{Image}
use Rattle.wc_model.specs.declared.entries.Ended.{Ended}
use Rattle.wc_model.specs.declared.entries.Entry.{Entry}
use Rattle.wc_pass.specs.Known.{KnownPass}
use Rattle.wc_session.specs.Ends.{EndsBy}
use Rattle.wc_session.specs.Replies.{Replies}
use Rattle.wc_session.specs.Served.{Gains}

-- The lines that were read begin the script, and their replies were written, or a shorter part where a write failed.
-- The replies use up exactly the entries of the session that its pass has seen since, each once and in order; other
-- sessions' entries may stand between them. This stays so however the history grows.
pub record IsServed (image : Image) (old new : KnownPass) (script : Option (List LineResult)) (held now : Option (List ℕ)) (end : Ended) : Type 0 where
  pub lines : List LineResult
  pub entries : List Entry
  pub text : List ℕ
  pub read : IfSome script (λ all. (unread : List LineResult) × (all ≡ lines ++ unread))
  pub ends : EndsBy end lines script
  pub gains : GainsEntries old new entries
  pub replies : (later : List Entry) → Replies old.session image (new.seen ++ later) lines entries text
  pub written : Gains end held now text
