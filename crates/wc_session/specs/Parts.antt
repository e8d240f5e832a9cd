-- What the steps of a session leave: of the core, of the history, and of a part of the script.
use Rattle.std.specs.Prelude.{◌≡◌, ◌≢◌, ℕ, List, ◌++◌, ◌⊎◌, codes, Option, None, Some, IfSome}
use Rattle.std.specs.Io.KnownBytes.{Appends}
use Rattle.wc_base.specs.declared.troubles.Trouble.{Trouble}
use Rattle.wc_base.specs.declared.troubles.Trouble.TheVariants.{Fault as Refused, Memory}
use Rattle.wc_core.specs.Answers.{LeavesFree}
use Rattle.wc_session.specs.Each.{Each}
use Rattle.wc_core.specs.Views.{Known}
use Rattle.wc_io.specs.Causes.{Rose}
use Rattle.wc_io.specs.Lines.{LineResult, given, too_much}
use Rattle.wc_io.specs.Writing.{AppendsPart}
use Rattle.wc_model.specs.Workspace.History.{Chain, IsLegal}
use Rattle.wc_model.specs.declared.elf_image.Image.{Image}
use Rattle.wc_model.specs.declared.entries.Asked.{Asked}
use Rattle.wc_model.specs.declared.entries.Ended.{Ended}
use Rattle.wc_model.specs.declared.entries.Ended.TheVariants as ended
use Rattle.wc_model.specs.declared.entries.Entry.{Entry}
use Rattle.wc_session.specs.Answered.{IsAnswered, IsAsk, IsReply, IsRunOf}
use Rattle.wc_session.specs.Ends.{EndsBy, GoesOn}
use Rattle.wc_session.specs.Replies.{Replies}
use Rattle.wc_session.specs.ReplyText.{text_of}
use Rattle.wc_session.specs.Served.{Gains}
use Rattle.wc_session.specs.declared.commands.Command.{Command}
use Rattle.wc_session.specs.declared.commands.Command.TheVariants as command
use Rattle.wc_report.specs.declared.replies.Reply.{Reply}
use Rattle.wc_report.specs.declared.replies.Reply.TheVariants as reply

-- the core stays legal, and the session has no open ask
pub record KeepsCore (chain : Chain) (session : ℕ) (old new : Known) : Type 0 where
  pub opening : new.opening ≡ old.opening
  pub legal : IsLegal chain old.opening old.history → IsLegal chain new.opening new.history
  pub free : LeavesFree new.opening new.history session

-- the entries of an ask were added, or its last ones after the pin
pub record AddsAsk (session : ℕ) (name : List ℕ) (old new : List Entry) (asked : Asked) : Type 0 where
  pub entries : List Entry
  pub ask : IsAsk session name asked entries
  pub added : new ≡ old ++ entries

pub record AddsRuns (session : ℕ) (name : List ℕ) (old new : List Entry) : Type 0 where
  pub runs : List Entry
  pub own : Each (IsRunOf session name) runs
  pub added : new ≡ old ++ runs

-- a command was followed
pub record Follows (session : ℕ) (old new : List Entry) (c : Command) (reply : Option Reply) : Type 0 where
  pub entries : List Entry
  pub added : new ≡ old ++ entries
  pub replied : (image : Image) (later : List Entry) → IsReply session image (new ++ later) c entries reply

-- a command or a line ends a session, or it goes on
abbrev pub EndsAtCommand : Command → Option Ended → Type 0
EndsAtCommand c None = c ≢ command.Quit
EndsAtCommand c (Some ended.Quit) = c ≡ command.Quit
EndsAtCommand c (Some _) = ⊥

abbrev pub EndsAtLine : LineResult → Option Ended → Type 0
EndsAtLine line None = GoesOn line
EndsAtLine line (Some ended.Quit) = line ≡ given (codes "quit")
EndsAtLine line (Some ended.TooMuch) = line ≡ too_much
EndsAtLine line (Some _) = ⊥

-- a line was answered, before its reply is written
pub record AnswersLine (session : ℕ) (image : Image) (old new : List Entry) (line : LineResult) (reply : Option Reply) (end : Option Ended) : Type 0 where
  pub entries : List Entry
  pub added : new ≡ old ++ entries
  pub answered : (later : List Entry) → IsAnswered session image (new ++ later) line entries reply
  pub ends : EndsAtLine line end

-- the reply was written, or a prefix of it where a write failed
abbrev pub Sends : Option Reply → Option Ended → Option (List ℕ) → Option (List ℕ) → ℕ → ℕ → Option Ended → Type 0
Sends r end held now before after result =
    ((result ≡ end) × Appends held now (text_of r)) ⊎ ((result ≡ Some ended.WriteFault) × AppendsPart held now (text_of r) × Rose before after)

-- a part of a session: some lines of the script were read and answered, and then it ended or goes on

abbrev pub PartEnds : Option Ended → List LineResult → Option (List LineResult) → Type 0
PartEnds None lines script = Each GoesOn lines
PartEnds (Some end) lines script = EndsBy end lines script

abbrev pub PartGains : Option Ended → Option (List ℕ) → Option (List ℕ) → List ℕ → Type 0
PartGains None held now text = Appends held now text
PartGains (Some end) held now text = Gains end held now text

pub record IsPart (session : ℕ) (image : Image) (old new : List Entry) (script left : Option (List LineResult)) (held now : Option (List ℕ)) (end : Option Ended) : Type 0 where
  pub lines : List LineResult
  pub entries : List Entry
  pub text : List ℕ
  pub read : IfSome script (λ all. (unread : List LineResult) × (all ≡ lines ++ unread) × (end ≡ None → left ≡ Some unread))
  pub ends : PartEnds end lines script
  pub added : new ≡ old ++ entries
  pub replies : (later : List Entry) → Replies session image (new ++ later) lines entries text
  pub written : PartGains end held now text
