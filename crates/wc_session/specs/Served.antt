-- What a session does with its script.
use Rattle.std.specs.Prelude.{◌≡◌, ℕ, List, ◌++◌, Option, IfSome}
use Rattle.std.specs.Io.KnownBytes.{Appends}
use Rattle.wc_io.specs.Lines.{LineResult}
use Rattle.wc_io.specs.Writing.{AppendsPart}
use Rattle.wc_model.specs.declared.elf_image.Image.{Image}
use Rattle.wc_model.specs.declared.entries.Ended.{Ended}
use Rattle.wc_model.specs.declared.entries.Ended.TheVariants as ended
use Rattle.wc_model.specs.declared.entries.Entry.{Entry}
use Rattle.wc_session.specs.Ends.{EndsBy}
use Rattle.wc_session.specs.Replies.{Replies}

-- the whole text was written, or a prefix of it where a write failed
abbrev pub Gains : Ended → Option (List ℕ) → Option (List ℕ) → List ℕ → Type 0
Gains ended.WriteFault held now text = AppendsPart held now text
Gains _ held now text = Appends held now text

-- The lines that were read begin the script, their replies were written, and the entries that these use are those
-- that the history gained. This stays so however the history grows.
pub record IsServed (session : ℕ) (image : Image) (old new : List Entry) (script : Option (List LineResult)) (held now : Option (List ℕ)) (end : Ended) : Type 0 where
  pub lines : List LineResult
  pub entries : List Entry
  pub text : List ℕ
  pub read : IfSome script (λ all. (unread : List LineResult) × (all ≡ lines ++ unread))
  pub ends : EndsBy end lines script
  pub added : new ≡ old ++ entries
  pub replies : (later : List Entry) → Replies session image (new ++ later) lines entries text
  pub written : Gains end held now text
