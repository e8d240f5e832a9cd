-- How a line is answered, and whether the session goes on.
use Rattle.std.proofs.Common.{◌≡◌, ◌≢◌, ℕ, true, List, [], ◌∷◌, ◌++◌, codes, Option, None, Some, IfSome, Err, refl, sym, ap, ◌∙◌, subst, append-nil, arith, ◌⊎◌, inl, inr}
use Rattle.std.specs.List.{list_all}
use Rattle.wc_base.specs.declared.faults.Fault.{Fault}
use Rattle.wc_base.specs.declared.faults.Fault.TheVariants.{LongLine, TooMuch}
use Rattle.wc_base.specs.declared.troubles.Trouble.{Trouble}
use Rattle.wc_base.specs.declared.troubles.Trouble.TheVariants.{Fault as Refused, Memory}
use Rattle.wc_io.specs.Lines.{Script, Gives, LineResult, given, too_long, too_much}
use Rattle.wc_io.specs.declared.script_lines.LineRead.TheVariants as read
use Rattle.std.proofs.KnownBytes.{Appends-nil}
use Rattle.wc_model.specs.declared.elf_image.Image.{Image}
use Rattle.wc_model.specs.declared.entries.Ended.{Ended}
use Rattle.wc_model.specs.declared.entries.Ended.TheVariants as ended
use Rattle.wc_pass.specs.Known.{KnownPass}
use Rattle.wc_session.specs.Answered.{follows, is_long, is_much, lacks, refuses}
use Rattle.wc_session.specs.Commands.{IsCommand, IsFaulty, Reads, Says, adds, is_blank, quits, sets}
use Rattle.wc_session.specs.Parts.{EndsAtCommand, EndsAtLine, Sends}
use Rattle.wc_session.specs.declared.commands.Command.{Command}
use Rattle.wc_session.specs.declared.commands.Command.TheVariants as command
use Rattle.wc_session_next.specs.Parts.{AnswersLine, Follows, IsPart}
use Rattle.wc_session_next.specs.declared.following.Answer.{Answer}
use Rattle.wc_report.specs.ReplyText.{reply_to_trouble}
use Rattle.wc_report.specs.declared.replies.Reply.{Reply}
use Rattle.wc_report.specs.declared.replies.Reply.TheVariants as reply
use Rattle.wc_session_next.proofs.PartLemmas.{gains_none, line_part}

-- `quit` alone is the command to quit.

first : List ℕ → ℕ
first [] = 0
first (b ∷ bs) = b

starts_as_quit : (line other : List ℕ) → first other ≢ 113 → line ≡ other → line ≢ codes "quit"
unfolding first
starts_as_quit line other not is quit = not (ap first (sym is ∙ quit))

quit_alone : (image : Image) (line : List ℕ) (c : Command) → IsCommand image line c → line ≡ codes "quit" → c ≡ command.Quit
unfolding first
quit_alone image line command.Quit is quit = refl
quit_alone image line command.Blank is quit = let no : list_all is_blank (codes "quit") ≡ true = subst (λ (l : List ℕ). list_all is_blank l ≡ true) quit is in absurd (cc)
quit_alone image line command.List is quit = absurd (starts_as_quit line _ (λ e. absurd (omega (arith, e))) is quit)
quit_alone image line (command.Bound name) is quit = absurd (starts_as_quit line _ (λ e. absurd (omega (arith, e))) is.0 quit)
quit_alone image line (command.Hardware hardware) is quit = absurd (starts_as_quit line _ (λ e. absurd (omega (arith, e))) is.1 quit)
quit_alone image line (command.Add fact) is quit = absurd (starts_as_quit line _ (λ e. absurd (omega (arith, e))) is.1 quit)
quit_alone image line (command.Drop number) is quit = absurd (starts_as_quit line _ (λ e. absurd (omega (arith, e))) is.1 quit)

refused_on : {A B : List ℕ → Type 0} (line : List ℕ) → ((text : List ℕ) × Says line (adds text) × A text) ⊎ ((json : List ℕ) × Says line (sets json) × B json) → line ≢ codes "quit"
unfolding first
refused_on line (inl is) quit = starts_as_quit line _ (λ e. absurd (omega (arith, e))) is.1 quit
refused_on line (inr is) quit = starts_as_quit line _ (λ e. absurd (omega (arith, e))) is.1 quit

quit_accepted : (image : Image) (line : List ℕ) (fault : Fault) → IsFaulty image line fault → line ≢ codes "quit"
quit_accepted image line fault (inl is) quit = is.1 quits quit
quit_accepted image line fault (inr is) quit = refused_on line is quit

ends_at : (image : Image) (line : List ℕ) (c : Command) (end : Option Ended) → IsCommand image line c → EndsAtCommand c end → EndsAtLine (given line) end
ends_at image line c None is ends = λ quit. ends (quit_alone image line c is quit)
ends_at image line c (Some ended.Quit) is ends = let P : Command → Type 0 = λ d. IsCommand image line d in ap given (subst P ends is)
ends_at image line c (Some ended.End) is ends = absurd ends
ends_at image line c (Some ended.TooMuch) is ends = absurd ends
ends_at image line c (Some ended.ReadFault) is ends = absurd ends
ends_at image line c (Some ended.WriteFault) is ends = absurd ends

pub followed : (image : Image) (old new : KnownPass) (line : List ℕ) (c : Command) (r : Option Reply) (end : Option Ended)
    → IsCommand image line c → Follows old new c r → EndsAtCommand c end → AnswersLine image old new (given line) r end
followed image old new line c r end is f ends =
    record { entries = f.entries; gains = f.gains; answered = λ later. follows line c f.entries r is (f.replied image later); ends = ends_at image line c end is ends }

pub unread : (image : Image) (h : KnownPass) (line : List ℕ) (trouble : Trouble) (a : Answer) → Reads image line (Err trouble) → a ≡ record { reply = Some (reply_to_trouble trouble); ended = None }
    → AnswersLine image h h (given line) a.reply a.ended
unread image h line (Refused fault) a is same =
    let P : Answer → Type 0 = λ b. AnswersLine image h h (given line) b.reply b.ended in
    subst P (sym same) (record { entries = []; gains = gains_none h; answered = λ later. refuses line fault is; ends = quit_accepted image line fault is })
unread image h line (Memory _) a is same =
    let P : Answer → Type 0 = λ b. AnswersLine image h h (given line) b.reply b.ended in
    subst P (sym same) (record { entries = []; gains = gains_none h; answered = λ later. lacks line is.0 is.1; ends = is.1 })

too_long_answer : (image : Image) (h : KnownPass) (a : Answer) → a ≡ record { reply = Some (reply.Refused LongLine); ended = None } → AnswersLine image h h too_long a.reply a.ended
too_long_answer image h a same =
    let P : Answer → Type 0 = λ b. AnswersLine image h h too_long b.reply b.ended in
    subst P (sym same) (record { entries = []; gains = gains_none h; answered = λ later. is_long; ends = λ last. last })

-- What was read.

line_read : (script : Option (List LineResult)) (shown : List ℕ) (new : Script) (result : Option Ended) → IfSome script (λ all. Gives read.Line all new) → shown ≡ new.line
    → IfSome script (λ all. (rest : List LineResult) × (all ≡ given shown ∷ rest) × (result ≡ None → new.rest ≡ Some rest))
line_read None shown new result gives same = tt
line_read (Some all) shown new result (rest, is, left) same = (rest, is ∙ ap (λ (l : List ℕ). given l ∷ rest) (sym same), λ _. left)

long_read : (script : Option (List LineResult)) (new : Script) (result : Option Ended) → IfSome script (λ all. Gives read.TooLong all new)
    → IfSome script (λ all. (rest : List LineResult) × (all ≡ too_long ∷ rest) × (result ≡ None → new.rest ≡ Some rest))
long_read None new result gives = tt
long_read (Some all) new result (rest, is, left) = (rest, is, λ _. left)

much_read : (script left : Option (List LineResult)) (new : Script) (result : Option Ended) → result ≢ None → IfSome script (λ all. Gives read.TooMuch all new)
    → IfSome script (λ all. (rest : List LineResult) × (all ≡ too_much ∷ rest) × (result ≡ None → left ≡ Some rest))
much_read None left new result over gives = tt
much_read (Some all) left new result over is = ([], is, λ none. absurd (over none))

module _ (image : Image) (old new : KnownPass) (script : Option (List LineResult)) (now : Script) (held after : Option (List ℕ)) (before faults : ℕ) (result : Option Ended) where
  pub line_served : (shown : List ℕ) (a : Answer) → AnswersLine image old new (given shown) a.reply a.ended → Sends a.reply a.ended held after before faults result
      → IfSome script (λ all. Gives read.Line all now) → shown ≡ now.line → IsPart image old new script now.rest held after result
  line_served shown a answers sent gives same =
      line_part image old new (given shown) a.reply a.ended result script now.rest held after before faults answers sent (line_read script shown now result gives same)

module _ (image : Image) (h : KnownPass) (script : Option (List LineResult)) (now : Script) (held after : Option (List ℕ)) (before faults : ℕ) (result : Option Ended) where
  pub long_served : (a : Answer) → a ≡ record { reply = Some (reply.Refused LongLine); ended = None } → Sends a.reply a.ended held after before faults result
      → IfSome script (λ all. Gives read.TooLong all now) → IsPart image h h script now.rest held after result
  long_served a same sent gives =
      line_part image h h too_long a.reply a.ended result script now.rest held after before faults (too_long_answer image h a same) sent (long_read script now result gives)

  some_end : Sends (Some (reply.Refused TooMuch)) (Some ended.TooMuch) held after before faults result → result ≢ None
  some_end (inl sent) none = let clash = sym sent.0 ∙ none in cc
  some_end (inr sent) none = let clash = sym sent.0 ∙ none in cc

  pub much_served : Sends (Some (reply.Refused TooMuch)) (Some ended.TooMuch) held after before faults result
      → IfSome script (λ all. Gives read.TooMuch all now) → IsPart image h h script now.rest held after result
  much_served sent gives =
      line_part image h h too_much (Some (reply.Refused TooMuch)) (Some ended.TooMuch) result script now.rest held after before faults
      (record { entries = []; gains = gains_none h; answered = λ later. is_much; ends = refl }) sent (much_read script now.rest now result (some_end sent) gives)

-- Parts without a line.

end_read : (script left : Option (List LineResult)) (new : Script) → IfSome script (λ all. Gives read.End all new)
    → IfSome script (λ all. (unread : List LineResult) × (all ≡ [] ++ unread) × (Some ended.End ≡ None → left ≡ Some unread))
end_read None left new gives = tt
end_read (Some all) left new is = (all, refl, λ none. absurd (cc))

end_all : (script : Option (List LineResult)) (new : Script) → IfSome script (λ all. Gives read.End all new) → IfSome script (λ all. [] ≡ all)
end_all None new gives = tt
end_all (Some all) new is = sym is

pub end_served : (image : Image) (h : KnownPass) (script left : Option (List LineResult)) (new : Script) (held : Option (List ℕ)) → IfSome script (λ all. Gives read.End all new) → IsPart image h h script left held held (Some ended.End)
end_served image h script left new held gives =
    record {
      lines = [];
      entries = [];
      text = [];
      read = end_read script left new gives;
      ends = (tt, end_all script new gives);
      gains = gains_none h;
      replies = λ later. (refl, refl);
      written = Appends-nil held;
    }

fault_read : (script left : Option (List LineResult)) → IfSome script (λ all. (unread : List LineResult) × (all ≡ [] ++ unread) × (Some ended.ReadFault ≡ None → left ≡ Some unread))
fault_read None left = tt
fault_read (Some all) left = (all, refl, λ none. absurd (cc))

pub fault_served : (image : Image) (h : KnownPass) (script left : Option (List LineResult)) (held : Option (List ℕ)) → IsPart image h h script left held held (Some ended.ReadFault)
fault_served image h script left held =
    record {
      lines = [];
      entries = [];
      text = [];
      read = fault_read script left;
      ends = tt;
      gains = gains_none h;
      replies = λ later. (refl, refl);
      written = Appends-nil held;
    }

abbrev pub answer_of : Reply → Answer
answer_of r = record { reply = Some r; ended = None }
