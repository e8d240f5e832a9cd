-- What each call of a workspace means for the command that it follows.
use Rattle.std.proofs.Common.{◌≡◌, ℕ, ◌+◌, ◌≤◌, List, [], ◌∷◌, ◌++◌, length, take, Option, Some, None, refl, sym, ap, ◌∙◌, subst, append_assoc, arith}
use Rattle.std.specs.List.{All}
use Rattle.std.proofs.lemmas.List.{take-append-le}
use Rattle.std.proofs.lemmas.List.Elements.{All-head, All-tail}
use Rattle.wc_base.specs.declared.faults.Fault.TheVariants.{NoFact}
use Rattle.wc_model.specs.declared.entries.Ended.{Ended}
use Rattle.wc_flight.specs.Calls.{Accepts, Answers, Gains, Lists, Refuses, edits_seen, IsRunOf as OwnRun}
use Rattle.wc_model.specs.declared.elf_image.Image.{Image}
use Rattle.wc_model.specs.declared.entries.Asked.{Asked}
use Rattle.wc_model.specs.declared.entries.Entry.{Entry}
use Rattle.wc_model.specs.declared.entries.Entry.TheVariants as entry
use Rattle.wc_model.specs.declared.entries.Listing.{Listing as Listed}
use Rattle.wc_model.specs.declared.inputs.Edit.{Edit}
use Rattle.wc_model.specs.declared.inputs.Edit.TheVariants.{Add, Drop, Hardware as Timing}
use Rattle.wc_model.specs.Workspace.Edits.{Setting, after, all_edited, bare, edited, edits_of, without_number}
use Rattle.wc_model.specs.Workspace.History.{Chain}
use Rattle.wc_model.specs.Workspace.States.{Opening}
use Rattle.wc_model.proofs.Replays.{edits_of-append}
use Rattle.wc_pass.specs.Known.{KnownPass}
use Rattle.wc_report.specs.declared.replies.Reply.TheVariants as reply
use Rattle.wc_session.specs.Answered.{IsListing, IsRunOf, IsSilent, command_of}
use Rattle.wc_session.specs.Each.{Each}
use Rattle.wc_session.specs.declared.commands.Command.{Command}
use Rattle.wc_session.specs.declared.commands.Command.TheVariants as command
use Rattle.wc_session_next.specs.Parts.{Follows}
use Rattle.wc_session_next.specs.declared.following.Answer.{Answer}
use Rattle.wc_session_next.proofs.PartLemmas.{gains_none}

pub follows_accepted : (old new : KnownPass) (e : Edit) (count : ℕ) → Accepts old new e count → Follows old new (command_of e) (Some (reply.Edit count))
follows_accepted old new e count is =
    record { entries = entry.Edit old.session count e ∷ []; gains = is.gains; replied = λ image later. (e, refl, refl) }

pub follows_refused : (old new : KnownPass) (e : Edit) (at : ℕ) → Refuses old new e at → Follows old new (command_of e) (Some (reply.Refused NoFact))
follows_refused old new e at is =
    record {
      entries = entry.NoFact old.session is.number at ∷ [];
      gains = is.gains;
      replied = λ image later. (refl, (is.number, at, ap command_of is.drops, refl));
    }

-- Where memory ran out no entry was added.

speaks : (e : Edit) → IsSilent (command_of e) → ⊥
speaks (Add fact) silent = silent
speaks (Drop number) silent = silent
speaks (Timing hardware) silent = silent

pub follows_lack : (old new : KnownPass) (c : Command) → (IsSilent c → ⊥) → Gains old new [] → Follows old new c (Some reply.Memory)
follows_lack old new c speaking gains = record { entries = []; gains = gains; replied = λ image later. (speaking, refl) }

pub edit_lacks : (old new : KnownPass) (e : Edit) → Gains old new [] → Follows old new (command_of e) (Some reply.Memory)
edit_lacks old new e gains = follows_lack old new (command_of e) (speaks e) gains

-- Neither a blank line nor `quit` has a reply.
pub follows_silent : (pass : KnownPass) (c : Command) (a : Answer) (end : Option Ended) → IsSilent c → a ≡ record { reply = None; ended = end } → Follows pass pass c a.reply
follows_silent pass c a end silent same =
    let P : Answer → Type 0 = λ b. Follows pass pass c b.reply in
    subst P (sym same) (record { entries = []; gains = gains_none pass; replied = λ image later. (silent, refl) })

-- The runs of an ask are its session's, by either of both words for it.

same_run : (s : ℕ) (name : List ℕ) (e : Entry) → OwnRun s name e → IsRunOf s name e
same_run s name (entry.Start session kind n stamp) is = is
same_run s name (entry.Finish session kind n stamp end) is = is
same_run s name (entry.Edit session count edit) is = is
same_run s name (entry.NoFact session number at) is = is
same_run s name (entry.Pin session n at) is = is
same_run s name (entry.Answer session n at outcome) is = is
same_run s name (entry.List session at) is = is

same_runs : (s : ℕ) (name : List ℕ) (es : List Entry) → All (OwnRun s name) es → Each (IsRunOf s name) es
same_runs s name [] all = tt
same_runs s name (e ∷ es) all =
    (same_run s name e (All-head (OwnRun s name) e es all), same_runs s name es (All-tail (OwnRun s name) e es all))

pub follows_asked : (chain : Chain) (o : Opening) (old new : KnownPass) (name : List ℕ) (asked : Asked)
    → Answers chain o old new name asked → Follows old new (command.Bound name) (Some (reply.Bound name asked))
follows_asked chain o old new name asked is =
    record {
      entries = entry.Pin old.session name asked.at ∷ is.runs ++ entry.Answer old.session name asked.at asked.outcome ∷ [];
      gains = is.gains;
      replied = λ image later. (refl, record { runs = is.runs; own = same_runs old.session name is.runs is.own; whole = refl });
    }

-- A listing stays that of its count, however the history grows; and it doesn't depend on the image.

record SameParts (a b : Setting) : Type 0 where
  pub facts : a.facts ≡ b.facts
  pub hardware : a.hardware ≡ b.hardware

same_edited : (count : ℕ) (a b : Setting) (e : Edit) → SameParts a b → SameParts (edited count a e) (edited count b e)
same_edited count a b (Add fact) same = record { facts = ap (λ fs. fs ++ (count, fact) ∷ []) same.facts; hardware = same.hardware }
same_edited count a b (Drop number) same = record { facts = ap (without_number number) same.facts; hardware = same.hardware }
same_edited count a b (Timing hardware) same = record { facts = same.facts; hardware = refl }

same_all : (count : ℕ) (a b : Setting) (es : List Edit) → SameParts a b → SameParts (all_edited count a es) (all_edited count b es)
same_all count a b [] same = same
same_all count a b (e ∷ es) same = same_all (count + 1) (edited (count + 1) a e) (edited (count + 1) b e) es (same_edited (count + 1) a b e same)

first_edits : (at : ℕ) (h later : List Entry) → at ≡ length (edits_of h) → take at (edits_of (h ++ later)) ≡ take at (edits_of h)
first_edits at h later here =
    ap (take at) (edits_of-append h later) ∙ take-append-le at (edits_of h) (edits_of later) (omega (arith, here))

same_after : (a b : Image) (at : ℕ) (h later : List Entry) → at ≡ length (edits_of h) → SameParts (after a at h) (after b at (h ++ later))
same_after a b at h later here =
    let P : List Edit → Type 0 = λ es. SameParts (after a at h) (all_edited 0 (bare b) es) in
    subst P (sym (first_edits at h later here)) (same_all 0 (bare a) (bare b) (take at (edits_of h)) (record { facts = refl; hardware = refl }))

listing : (image : Image) (o : Opening) (old new : KnownPass) (l : Listed) (later : List Entry) → Lists o old new l → IsListing image (new.seen ++ later) l
listing image o old new l later is =
    let same = same_after o.image image l.at new.seen later is.here in
    record { facts = is.facts ∙ same.facts; hardware = is.hardware ∙ same.hardware }

pub follows_listed : (o : Opening) (old new : KnownPass) (l : Listed) → Lists o old new l → Follows old new command.List (Some (reply.Listing l))
follows_listed o old new l is =
    record {
      entries = entry.List old.session l.at ∷ [];
      gains = is.gains;
      replied = λ image later. (refl, listing image o old new l later is, refl);
    }
