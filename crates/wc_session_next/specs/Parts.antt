-- What the steps of a session leave: of its pass, and of a part of the script.
use Rattle.std.specs.Prelude.{◌≡◌, ℕ, List, ◌++◌, Option, None, Some, IfSome}
use Rattle.atomic_table.specs.Seated.{TableId}
use Rattle.wc_flight.specs.Calls.{Gains, IsReady}
use Rattle.wc_io.specs.Lines.{LineResult}
use Rattle.wc_model.specs.Workspace.History.{Chain, IsLegal}
use Rattle.wc_model.specs.Workspace.States.{Opening}
use Rattle.wc_model.specs.declared.elf_image.Image.{Image}
use Rattle.wc_model.specs.declared.entries.Ended.{Ended}
use Rattle.wc_model.specs.declared.entries.Entry.{Entry}
use Rattle.wc_pass.specs.Known.{KnownPass}
use Rattle.wc_report.specs.declared.replies.Reply.{Reply}
use Rattle.wc_session.specs.Answered.{IsAnswered, IsReply}
use Rattle.wc_session.specs.Parts.{EndsAtLine, PartEnds, PartGains}
use Rattle.wc_session.specs.Replies.{Replies}
use Rattle.wc_session.specs.declared.commands.Command.{Command}

-- The pass stays one of its session, without an open ask, and what it has seen stays legal.
pub record KeepsPass (chain : Chain) (own : TableId) (o : Opening) (old new : KnownPass) : Type 0 where
  pub ready : IsReady own o new
  pub session : new.session ≡ old.session
  pub legal : IsLegal chain o old.seen → IsLegal chain o new.seen

-- a command was followed
pub record Follows (old new : KnownPass) (c : Command) (reply : Option Reply) : Type 0 where
  pub entries : List Entry
  pub gains : Gains old new entries
  pub replied : (image : Image) (later : List Entry) → IsReply old.session image (new.seen ++ later) c entries reply

-- a line was answered, before its reply is written
pub record AnswersLine (image : Image) (old new : KnownPass) (line : LineResult) (reply : Option Reply) (end : Option Ended) : Type 0 where
  pub entries : List Entry
  pub gains : Gains old new entries
  pub answered : (later : List Entry) → IsAnswered old.session image (new.seen ++ later) line entries reply
  pub ends : EndsAtLine line end

-- What was read of the script: these lines, and where the session goes on the others are left.
abbrev pub IsRead : List LineResult → Option (List LineResult) → Option (List LineResult) → Option Ended → Type 0
IsRead lines script left end =
    IfSome script (λ all. (unread : List LineResult) × (all ≡ lines ++ unread) × (end ≡ None → left ≡ Some unread))

-- a part of a session: some lines of the script were read and answered, and then it ended or goes on
pub record IsPart (image : Image) (old new : KnownPass) (script left : Option (List LineResult)) (held now : Option (List ℕ)) (end : Option Ended) : Type 0 where
  pub lines : List LineResult
  pub entries : List Entry
  pub text : List ℕ
  pub read : IsRead lines script left end
  pub ends : PartEnds end lines script
  pub gains : Gains old new entries
  pub replies : (later : List Entry) → Replies old.session image (new.seen ++ later) lines entries text
  pub written : PartGains end held now text
