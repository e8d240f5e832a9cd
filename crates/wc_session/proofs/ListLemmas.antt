-- A listing stays that of its count, however the history grows.
use Rattle.std.proofs.Common.{◌≡◌, ℕ, ◌+◌, List, [], ◌∷◌, ◌++◌, length, take, Some, refl, sym, ap, ◌∙◌, subst, append_assoc, arith}
use Rattle.std.proofs.lemmas.List.{take-append-le}
use Rattle.wc_model.specs.declared.elf_image.Image.{Image}
use Rattle.wc_model.specs.declared.entries.Entry.{Entry}
use Rattle.wc_model.specs.declared.entries.Entry.TheVariants.{List as ListEntry}
use Rattle.wc_model.specs.declared.entries.Listing.{Listing as Listed}
use Rattle.wc_model.specs.declared.inputs.Edit.{Edit}
use Rattle.wc_model.specs.declared.inputs.Edit.TheVariants.{Add, Drop, Hardware as Timing}
use Rattle.wc_model.specs.Workspace.Edits.{Setting, after, all_edited, bare, edited, edits_of, without_number}
use Rattle.wc_model.proofs.Replays.{edits_of-append}
use Rattle.wc_core.specs.Answers.{IsListed, inputs_now}
use Rattle.wc_core.specs.Views.{Known}
use Rattle.wc_session.specs.Answered.{IsListing}
use Rattle.wc_session.specs.Parts.{Follows}
use Rattle.wc_session.specs.declared.commands.Command.TheVariants.{List as ListCommand}
use Rattle.wc_report.specs.declared.replies.Reply.TheVariants.{Listing}

-- The facts and the hardware don't depend on the image.
pub record SameParts (a b : Setting) : Type 0 where
  pub facts : a.facts ≡ b.facts
  pub hardware : a.hardware ≡ b.hardware

same_edited : (count : ℕ) (a b : Setting) (e : Edit) → SameParts a b → SameParts (edited count a e) (edited count b e)
same_edited count a b (Add fact) same = record { facts = ap (λ fs. fs ++ (count, fact) ∷ []) same.facts; hardware = same.hardware }
same_edited count a b (Drop number) same = record { facts = ap (without_number number) same.facts; hardware = same.hardware }
same_edited count a b (Timing hardware) same = record { facts = same.facts; hardware = refl }

same_all : (count : ℕ) (a b : Setting) (es : List Edit) → SameParts a b → SameParts (all_edited count a es) (all_edited count b es)
same_all count a b [] same = same
same_all count a b (e ∷ es) same = same_all (count + 1) (edited (count + 1) a e) (edited (count + 1) b e) es (same_edited (count + 1) a b e same)

-- The first edits of a history stay.
same_edits : (h more : List Entry) → take (length (edits_of h)) (edits_of (h ++ more)) ≡ take (length (edits_of h)) (edits_of h)
same_edits h more =
    ap (take (length (edits_of h))) (edits_of-append h more) ∙ take-append-le (length (edits_of h)) (edits_of h) (edits_of more) (omega arith)

same_after : (a b : Image) (h more : List Entry) → SameParts (after a (length (edits_of h)) h) (after b (length (edits_of h)) (h ++ more))
same_after a b h more =
    let P : List Edit → Type 0 = λ es. SameParts (after a (length (edits_of h)) h) (all_edited 0 (bare b) es) in
    subst P (sym (same_edits h more)) (same_all 0 (bare a) (bare b) (take (length (edits_of h)) (edits_of h)) (record { facts = refl; hardware = refl }))

pub listing : (image : Image) (old new : Known) (session : ℕ) (l : Listed) (later : List Entry) → IsListed old new session l → IsListing image (new.history ++ later) l
listing image old new session l later listed =
    let more : List Entry = ListEntry session l.at ∷ later in
    let all : new.history ++ later ≡ old.history ++ more = ap (λ h. h ++ later) listed.entry ∙ append_assoc old.history (ListEntry session l.at ∷ []) later in
    let same = same_after old.opening.image image old.history more in
    let P : ℕ → List Entry → Type 0 = λ n h. SameParts (inputs_now old) (after image n h) in
    let here : P l.at (old.history ++ more) = subst (λ (n : ℕ). P n (old.history ++ more)) (sym listed.here) same in
    let there : P l.at (new.history ++ later) = subst (λ (h : List Entry). P l.at h) (sym all) here in
    record { facts = listed.facts ∙ there.facts; hardware = listed.hardware ∙ there.hardware }

pub follows_list : (old new : Known) (l : Listed) → IsListed old new 1 l → Follows 1 old.history new.history ListCommand (Some (Listing l))
follows_list old new l listed =
    record {
      entries = ListEntry 1 l.at ∷ [];
      added = listed.entry;
      replied = λ image later. (refl, listing image old new 1 l later listed, refl);
    }
