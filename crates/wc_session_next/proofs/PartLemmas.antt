-- A session is made of its parts.
use Rattle.std.proofs.Common.{◌≡◌, ℕ, List, [], ◌∷◌, ◌++◌, Option, None, Some, IfSome, refl, sym, ap, ◌∙◌, subst, append_assoc, append-nil, inl, inr}
use Rattle.std.proofs.KnownBytes.{Appends-nil, Appends-trans}
use Rattle.std.specs.Io.KnownBytes.{Appends}
use Rattle.atomic_table.specs.Seated.{TableId}
use Rattle.wc_flight.specs.Calls.{Gains, IsReady}
use Rattle.wc_flight.proofs.HoldLemmas.{gains_then}
use Rattle.wc_io.specs.Lines.{LineResult}
use Rattle.wc_io.proofs.WritingLemmas.{part_after}
use Rattle.wc_model.specs.declared.elf_image.Image.{Image}
use Rattle.wc_model.specs.declared.entries.Ended.{Ended}
use Rattle.wc_model.specs.declared.entries.Ended.TheVariants as ended
use Rattle.wc_model.specs.declared.entries.Entry.{Entry}
use Rattle.wc_model.specs.Workspace.History.{Chain}
use Rattle.wc_model.specs.Workspace.States.{Opening}
use Rattle.wc_pass.specs.Known.{KnownPass}
use Rattle.wc_session.specs.Each.{Each}
use Rattle.wc_session.specs.Ends.{GoesOn, HasLast}
use Rattle.wc_session.specs.Parts.{EndsAtLine, PartEnds, PartGains, Sends}
use Rattle.wc_session.specs.Replies.{Replies}
use Rattle.wc_session.specs.ReplyText.{text_of}
use Rattle.wc_session.proofs.PartLemmas.{each_append}
use Rattle.wc_session_next.specs.Parts.{AnswersLine, IsPart, IsRead, KeepsPass}
use Rattle.wc_report.specs.declared.replies.Reply.{Reply}

pub gains_none : (pass : KnownPass) → Gains pass pass []
gains_none pass = record { desk_stays = refl; session_stays = refl; before = ([], sym (append-nil pass.seen)); entries = sym (append-nil _) }

-- Replies to some lines and to some more.
replies_append : (s : ℕ) (image : Image) (h : List Entry) (ls ms : List LineResult) (es fs : List Entry) (t u : List ℕ)
    → Replies s image h ls es t → Replies s image h ms fs u → Replies s image h (ls ++ ms) (es ++ fs) (t ++ u)
replies_append s image h [] ms es fs t u p q =
    let P : List Entry → List ℕ → Type 0 = λ e x. Replies s image h ms (e ++ fs) (x ++ u) in
    subst (λ (e : List Entry). P e t) (sym p.0) (subst (λ (x : List ℕ). P [] x) (sym p.1) q)
replies_append s image h (l ∷ ls) ms es fs t u (own, later, reply, rest, entries, text, answered, others) q = (
  own,
  later ++ fs,
  reply,
  rest ++ u,
  ap (λ (e : List Entry). e ++ fs) entries ∙ append_assoc own later fs,
  ap (λ (x : List ℕ). x ++ u) text ∙ append_assoc (text_of reply) rest u,
  answered,
  replies_append s image h ls ms later fs rest u others q,
)

-- Nothing was read yet.
nothing_read : (script : Option (List LineResult)) (end : Option Ended) → IfSome script (λ all. (unread : List LineResult) × (all ≡ [] ++ unread) × (end ≡ None → script ≡ Some unread))
nothing_read None end = tt
nothing_read (Some all) end = (all, refl, λ _. refl)

pub part_none : (image : Image) (pass : KnownPass) (script : Option (List LineResult)) (held : Option (List ℕ)) → IsPart image pass pass script script held held None
part_none image pass script held =
    record {
      lines = [];
      entries = [];
      text = [];
      read = nothing_read script None;
      ends = tt;
      gains = gains_none pass;
      replies = λ later. (refl, refl);
      written = Appends-nil held;
    }

-- One part after the other.

abbrev going : Option Ended
going = None

more_read : (script mid left : Option (List LineResult)) (ls ms : List LineResult) (end : Option Ended)
    → IfSome script (λ all. (unread : List LineResult) × (all ≡ ls ++ unread) × (going ≡ None → mid ≡ Some unread))
    → IfSome mid (λ all. (unread : List LineResult) × (all ≡ ms ++ unread) × (end ≡ None → left ≡ Some unread))
    → IfSome script (λ all. (unread : List LineResult) × (all ≡ (ls ++ ms) ++ unread) × (end ≡ None → left ≡ Some unread))
more_read None mid left ls ms end p q = tt
more_read (Some all) mid left ls ms end (u, is, then) q =
    let P : Option (List LineResult) → Type 0 = λ o. IfSome o (λ all. (unread : List LineResult) × (all ≡ ms ++ unread) × (end ≡ None → left ≡ Some unread)) in
    let next : P (Some u) = subst P (then refl) q in
    (next.0, is ∙ ap (λ (l : List LineResult). ls ++ l) next.1 ∙ sym (append_assoc ls ms next.0), next.2)

all_read : (script mid : Option (List LineResult)) (ls ms : List LineResult)
    → IfSome script (λ all. (unread : List LineResult) × (all ≡ ls ++ unread) × (going ≡ None → mid ≡ Some unread))
    → IfSome mid (λ all. ms ≡ all) → IfSome script (λ all. ls ++ ms ≡ all)
all_read None mid ls ms p q = tt
all_read (Some all) mid ls ms (u, is, then) q =
    let P : Option (List LineResult) → Type 0 = λ o. IfSome o (λ all. ms ≡ all) in
    let next : P (Some u) = subst P (then refl) q in
    ap (λ (l : List LineResult). ls ++ l) next ∙ sym is

last_later : (ls ms : List LineResult) (last : LineResult) → Each GoesOn ls → HasLast ms last → HasLast (ls ++ ms) last
last_later ls ms last go has =
    record {
      before = ls ++ has.before;
      whole = ap (λ (l : List LineResult). ls ++ l) has.whole ∙ sym (append_assoc ls has.before (last ∷ []));
      go_on = each_append GoesOn ls has.before go has.go_on;
    }

more_ends : (script mid : Option (List LineResult)) (ls ms : List LineResult) (end : Option Ended) → Each GoesOn ls
    → IfSome script (λ all. (unread : List LineResult) × (all ≡ ls ++ unread) × (going ≡ None → mid ≡ Some unread))
    → PartEnds end ms mid → PartEnds end (ls ++ ms) script
more_ends script mid ls ms None go read q = each_append GoesOn ls ms go q
more_ends script mid ls ms (Some ended.Quit) go read q = last_later ls ms _ go q
more_ends script mid ls ms (Some ended.TooMuch) go read q = last_later ls ms _ go q
more_ends script mid ls ms (Some ended.End) go read q = (each_append GoesOn ls ms go q.0, all_read script mid ls ms read q.1)
more_ends script mid ls ms (Some ended.ReadFault) go read q = each_append GoesOn ls ms go q
more_ends script mid ls ms (Some ended.WriteFault) go read q = (q.0, last_later ls ms q.0 go q.1)

more_gains : (a b c : Option (List ℕ)) (t u : List ℕ) (end : Option Ended) → Appends a b t → PartGains end b c u → PartGains end a c (t ++ u)
more_gains a b c t u None p q = Appends-trans a b c t u p q
more_gains a b c t u (Some ended.Quit) p q = Appends-trans a b c t u p q
more_gains a b c t u (Some ended.TooMuch) p q = Appends-trans a b c t u p q
more_gains a b c t u (Some ended.End) p q = Appends-trans a b c t u p q
more_gains a b c t u (Some ended.ReadFault) p q = Appends-trans a b c t u p q
more_gains a b c t u (Some ended.WriteFault) p q = part_after a b c t u p q

-- what a list begins with stays in front
later_seen : (b c : KnownPass) (entries later : List Entry) (gains : Gains b c entries) → b.seen ++ (gains.before.0 ++ later) ≡ c.seen ++ later
later_seen b c entries later gains = sym (append_assoc b.seen gains.before.0 later) ∙ ap (λ (h : List Entry). h ++ later) (sym gains.before.1)

pub parts : (image : Image) (a b c : KnownPass) (script mid left : Option (List LineResult)) (held now then : Option (List ℕ)) (end : Option Ended)
    → IsPart image a b script mid held now None → IsPart image b c mid left now then end → IsPart image a c script left held then end
parts image a b c script mid left held now then end p q =
    record {
      lines = p.lines ++ q.lines;
      entries = p.entries ++ q.entries;
      text = p.text ++ q.text;
      read = more_read script mid left p.lines q.lines end p.read q.read;
      ends = more_ends script mid p.lines q.lines end p.ends p.read q.ends;
      gains = gains_then a b c p.entries q.entries p.gains q.gains;
      replies = λ later.
          let P : List Entry → Type 0 = λ h. Replies a.session image h p.lines p.entries p.text in
          let Q : ℕ → Type 0 = λ s. Replies s image (c.seen ++ later) q.lines q.entries q.text in
          replies_append a.session image (c.seen ++ later) p.lines q.lines p.entries q.entries p.text q.text
          (subst P (later_seen b c q.entries later q.gains) (p.replies (q.gains.before.0 ++ later)))
          (subst Q p.gains.session_stays (q.replies later));
      written = more_gains held now then p.text q.text end p.written q.written;
    }

-- A part of one line, and parts without a line.

line_ends : (line : LineResult) (end : Option Ended) (script : Option (List LineResult)) → EndsAtLine line end → PartEnds end (line ∷ []) script
line_ends line None script go = (go, tt)
line_ends line (Some ended.Quit) script is = record { before = []; whole = ap (λ (l : LineResult). l ∷ []) is; go_on = tt }
line_ends line (Some ended.TooMuch) script is = record { before = []; whole = ap (λ (l : LineResult). l ∷ []) is; go_on = tt }
line_ends line (Some ended.End) script is = absurd is
line_ends line (Some ended.ReadFault) script is = absurd is
line_ends line (Some ended.WriteFault) script is = absurd is

line_gains : (line : LineResult) (end : Option Ended) (held now : Option (List ℕ)) (text : List ℕ) → EndsAtLine line end → Appends held now text → PartGains end held now text
line_gains line None held now text is written = written
line_gains line (Some ended.Quit) held now text is written = written
line_gains line (Some ended.TooMuch) held now text is written = written
line_gains line (Some ended.End) held now text is written = absurd is
line_gains line (Some ended.ReadFault) held now text is written = absurd is
line_gains line (Some ended.WriteFault) held now text is written = absurd is

one_line : (image : Image) (old new : KnownPass) (line : LineResult) (reply : Option Reply) (end result : Option Ended) (script left : Option (List LineResult)) (held now : Option (List ℕ))
    → AnswersLine image old new line reply end
    → IfSome script (λ all. (rest : List LineResult) × (all ≡ line ∷ rest) × (result ≡ None → left ≡ Some rest))
    → PartEnds result (line ∷ []) script → PartGains result held now (text_of reply)
    → IsPart image old new script left held now result
one_line image old new line reply end result script left held now a read ends written =
    record {
      lines = line ∷ [];
      entries = a.entries;
      text = text_of reply;
      read = read;
      ends = ends;
      gains = a.gains;
      replies = λ later. (a.entries, [], reply, [], sym (append-nil a.entries), sym (append-nil (text_of reply)), a.answered later, (refl, refl));
      written = written;
    }

pub line_part : (image : Image) (old new : KnownPass) (line : LineResult) (reply : Option Reply) (end result : Option Ended) (script left : Option (List LineResult)) (held now : Option (List ℕ)) (before after : ℕ)
    → AnswersLine image old new line reply end → Sends reply end held now before after result
    → IfSome script (λ all. (rest : List LineResult) × (all ≡ line ∷ rest) × (result ≡ None → left ≡ Some rest))
    → IsPart image old new script left held now result
line_part image old new line reply end result script left held now before after a (inl sent) read =
    let E : Option Ended → Type 0 = λ e. PartEnds e (line ∷ []) script in
    let G : Option Ended → Type 0 = λ e. PartGains e held now (text_of reply) in
    one_line image old new line reply end result script left held now a read
    (subst E (sym sent.0) (line_ends line end script a.ends)) (subst G (sym sent.0) (line_gains line end held now (text_of reply) a.ends sent.1))
line_part image old new line reply end result script left held now before after a (inr failed) read =
    let E : Option Ended → Type 0 = λ e. PartEnds e (line ∷ []) script in
    let G : Option Ended → Type 0 = λ e. PartGains e held now (text_of reply) in
    one_line image old new line reply end result script left held now a read
    (subst E (sym failed.0) (line, record { before = []; whole = refl; go_on = tt })) (subst G (sym failed.0) failed.1)

pub keeps_more : (chain : Chain) (own : TableId) (o : Opening) (a b c : KnownPass) → KeepsPass chain own o a b → KeepsPass chain own o b c → KeepsPass chain own o a c
keeps_more chain own o a b c p q = record { ready = q.ready; session = q.session ∙ p.session; legal = λ legal. q.legal (p.legal legal) }

pub keeps_none : (chain : Chain) (own : TableId) (o : Opening) (pass : KnownPass) → IsReady own o pass → KeepsPass chain own o pass pass
keeps_none chain own o pass ready = record { ready = ready; session = refl; legal = λ legal. legal }
