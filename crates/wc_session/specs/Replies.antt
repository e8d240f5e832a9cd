-- The replies to the lines of a session.
use Rattle.std.specs.Prelude.{◌≡◌, ℕ, List, [], ◌∷◌, ◌++◌, Option}
use Rattle.wc_io.specs.Lines.{LineResult}
use Rattle.wc_model.specs.declared.elf_image.Image.{Image}
use Rattle.wc_model.specs.declared.entries.Entry.{Entry}
use Rattle.wc_session.specs.Answered.{IsAnswered}
use Rattle.wc_session.specs.ReplyText.{text_of}
use Rattle.wc_report.specs.declared.replies.Reply.{Reply}

-- the text is the reply to the first line and then those to the others, and so are the entries used up: nothing is left over
abbrev pub Replies : ℕ → Image → List Entry → List LineResult → List Entry → List ℕ → Type 0
Replies session image history [] entries text = (entries ≡ []) × (text ≡ [])
Replies session image history (line ∷ lines) entries text =
    (own : List Entry) × (later : List Entry) × (reply : Option Reply) × (rest : List ℕ) × (entries ≡ own ++ later) × (text ≡ text_of reply ++ rest)
    × IsAnswered session image history line own reply × Replies session image history lines later rest
