-- How one line is answered: its reply, and the entries that its session makes for it.
use Rattle.std.specs.Prelude.{◌≡◌, ℕ, List, [], ◌∷◌, ◌++◌, Option, None, Some}
use Rattle.wc_base.specs.declared.faults.Fault.{Fault}
use Rattle.wc_base.specs.declared.faults.Fault.TheVariants.{LongLine, NoFact, TooMuch}
use Rattle.wc_session.specs.Each.{Each}
use Rattle.wc_io.specs.Lines.{LineResult, given, too_long, too_much}
use Rattle.wc_model.specs.Workspace.Edits.{after}
use Rattle.wc_model.specs.declared.elf_image.Image.{Image}
use Rattle.wc_model.specs.declared.entries.Asked.{Asked}
use Rattle.wc_model.specs.declared.entries.Entry.{Entry}
use Rattle.wc_model.specs.declared.entries.Entry.TheVariants as entry
use Rattle.wc_model.specs.declared.entries.Listing.{Listing}
use Rattle.wc_model.specs.declared.inputs.Edit.{Edit}
use Rattle.wc_model.specs.declared.inputs.Edit.TheVariants as edit
use Rattle.wc_session.specs.Commands.{IsCommand, IsFaulty, Says, blank, quits}
use Rattle.wc_session.specs.declared.commands.Command.{Command}
use Rattle.wc_session.specs.declared.commands.Command.TheVariants as command
use Rattle.wc_report.specs.declared.replies.Reply.{Reply}
use Rattle.wc_report.specs.declared.replies.Reply.TheVariants as reply

-- the command that states an edit
abbrev pub command_of : Edit → Command
command_of (edit.Add fact) = command.Add fact
command_of (edit.Drop number) = command.Drop number
command_of (edit.Hardware hardware) = command.Hardware hardware

-- a start or a finish of a run that the session makes for a name
abbrev pub IsRunOf : ℕ → List ℕ → Entry → Type 0
IsRunOf session name (entry.Start s kind n stamp) = (s ≡ session) × (n ≡ name)
IsRunOf session name (entry.Finish s kind n stamp end) = (s ≡ session) × (n ≡ name)
IsRunOf session name _ = ⊥

-- the entries of an ask, from its pin to its answer
pub record IsAsk (session : ℕ) (name : List ℕ) (asked : Asked) (entries : List Entry) : Type 0 where
  pub runs : List Entry
  pub own : Each (IsRunOf session name) runs
  pub whole : entries ≡ entry.Pin session name asked.at ∷ runs ++ entry.Answer session name asked.at asked.outcome ∷ []

-- the live facts and the hardware after the first edits of a history
pub record IsListing (image : Image) (history : List Entry) (listing : Listing) : Type 0 where
  pub facts : listing.facts ≡ (after image listing.at history).facts
  pub hardware : listing.hardware ≡ (after image listing.at history).hardware

-- neither a blank line nor `quit` has a reply
abbrev pub IsSilent : Command → Type 0
IsSilent command.Blank = Unit {0}
IsSilent command.Quit = Unit {0}
IsSilent _ = ⊥

-- The reply to a command, and the entries that it uses.
abbrev pub IsReply : ℕ → Image → List Entry → Command → List Entry → Option Reply → Type 0
IsReply session image history c entries None = IsSilent c × (entries ≡ [])
IsReply session image history c entries (Some (reply.Edit count)) = (change : Edit) × (c ≡ command_of change) × (entries ≡ entry.Edit session count change ∷ [])
IsReply session image history c entries (Some (reply.Refused fault)) =
    (fault ≡ NoFact) × ((number : ℕ) × (at : ℕ) × (c ≡ command.Drop number) × (entries ≡ entry.NoFact session number at ∷ []))
IsReply session image history c entries (Some (reply.Bound name asked)) = (c ≡ command.Bound name) × IsAsk session name asked entries
IsReply session image history c entries (Some (reply.Listing listing)) =
    (c ≡ command.List) × IsListing image history listing × (entries ≡ entry.List session listing.at ∷ [])
IsReply session image history c entries (Some reply.Memory) = (IsSilent c → ⊥) × (entries ≡ [])

-- A line is answered as its command says. Or it is refused, or want of memory is told, and both use no entry.
pub data IsAnswered (session : ℕ) (image : Image) (history : List Entry) : LineResult → List Entry → Option Reply → Type 0 where
  follows : (line : List ℕ) (c : Command) (entries : List Entry) (r : Option Reply) → IsCommand image line c → IsReply session image history c entries r → IsAnswered session image history (given line) entries r
  refuses : (line : List ℕ) (fault : Fault) → IsFaulty image line fault → IsAnswered session image history (given line) [] (Some (reply.Refused fault))
  lacks : (line : List ℕ) → (Says line blank → ⊥) → (Says line quits → ⊥) → IsAnswered session image history (given line) [] (Some reply.Memory)
  is_long : IsAnswered session image history too_long [] (Some (reply.Refused LongLine))
  is_much : IsAnswered session image history too_much [] (Some (reply.Refused TooMuch))
