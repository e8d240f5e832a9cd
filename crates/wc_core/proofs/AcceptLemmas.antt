-- An accepted edit, with what the code made of the inputs, the stamps and the store.
use Rattle.std.proofs.Common.{◌≡◌, ℕ, ◌+◌, ◌≤◌, Bool, true, List, [], ◌∷◌, ◌++◌, length, map, refl, sym, ap, subst, ◌∙◌, arith}
use Rattle.std.specs.Global.{Global}
use Rattle.std.specs.List.{list_any}
use Rattle.std.specs.declared.sync.Arc.{Arc}
use Rattle.wc_model.specs.declared.elf_image.Image.{Image}
use Rattle.wc_model.specs.declared.entries.Entry.{Entry}
use Rattle.wc_model.specs.declared.entries.Entry.TheVariants.{Edit as EditEntry}
use Rattle.wc_model.specs.declared.inputs.Edit.{Edit}
use Rattle.wc_model.specs.Workspace.Closures.{closure}
use Rattle.wc_model.specs.Workspace.Edits.{Setting, edited, touches}
use Rattle.wc_model.specs.Workspace.History.{Chain, can_edit}
use Rattle.wc_model.specs.Workspace.States.{Opening, is_touched}
use Rattle.wc_model.proofs.Untouched.{same_image}
use Rattle.wc_core.specs.declared.touching.Touched.{Touched}
use Rattle.wc_core.specs.Answers.{LeavesFree, inputs_now}
use Rattle.wc_core.specs.Fits.{Feature}
use Rattle.wc_core.specs.Inner.Moves.{Lines}
use Rattle.wc_core.specs.Inner.Stocks.{IsCore, Stock}
use Rattle.wc_core.specs.Inner.Touching.{AreTouched, lines_cut, stamped, touches_kind}
use Rattle.wc_core.specs.Views.{Known}
use Rattle.wc_core.proofs.CoreLemmas.{core_pinned, known}
use Rattle.wc_core.proofs.EditLemmas.{edited_stock, goes_edit}
use Rattle.wc_core.proofs.FeatureLemmas.{IsStable}
use Rattle.wc_core.proofs.QuietLemmas.{Goes}
use Rattle.wc_core.proofs.TouchLemmas.{cut_same, stamped_same, touches_same}

pub goes_accept : {V : Type 0} (chain : Chain) (feature : Feature V) (o : Opening) (h : List Entry) (d : Stock V) (k : Known) (entries : List Entry) (session room : ℕ) (e : Edit) (t : Touched) (inputs : Setting) (keys : List (ℕ × ℕ)) (lines : Lines V)
    → IsStable feature o → known o h ≡ k → IsCore chain feature o h d → LeavesFree k.opening k.history session
    → can_edit e (inputs_now k) ≡ true
    → entries ≡ h ++ EditEntry session (d.count + 1) e ∷ []
    → length h + 1 + d.owed ≤ room
    → o.image ≡ d.inputs.image
    → AreTouched (λ part. touches part d.inputs e) t
    → inputs ≡ edited (d.count + 1) d.inputs e
    → keys ≡ map (stamped (λ j. touches_kind t (closure o.kinds j)) (d.count + 1)) d.keys
    → lines ≡ lines_cut (λ j. touches_kind t (closure o.kinds j)) d.lines
    → Goes chain feature (record o { image = inputs.image }) k entries session (record d { inputs = inputs; count = d.count + 1; keys = keys; lines = lines; room = room })
goes_accept {V} chain feature o h d k entries session room e t inputs keys lines stable view core free can entries_are within own are inputs_are keys_are lines_are =
    let base = goes_edit chain feature o h d core e room stable (core_pinned chain feature o h d k view core) k view entries session free can entries_are within in
    let same : (j : ℕ) → touches_kind t (closure o.kinds j) ≡ is_touched o core.st e j = λ j. touches_same (λ part. touches part d.inputs e) t are (closure o.kinds j) ∙ ap (λ i. list_any (λ part. touches part i e) (closure o.kinds j)) core.parts.inputs.inputs in
    let S : Setting = edited (d.count + 1) d.inputs e in
    let K : List (ℕ × ℕ) → Type 0 = λ x. Goes chain feature o k entries session (record d { inputs = S; count = d.count + 1; keys = x; lines = lines_cut (λ j. is_touched o core.st e j) d.lines; room = room }) in
    let L : Lines V → Type 0 = λ x. Goes chain feature o k entries session (record d { inputs = S; count = d.count + 1; keys = keys; lines = x; room = room }) in
    let I : Image → Type 0 = λ x. Goes chain feature (record o { image = x }) k entries session (record d { inputs = S; count = d.count + 1; keys = keys; lines = lines; room = room }) in
    let N : Setting → Type 0 = λ x. Goes chain feature (record o { image = x.image }) k entries session (record d { inputs = x; count = d.count + 1; keys = keys; lines = lines; room = room }) in
    subst N (sym inputs_are) (subst I (own ∙ same_image (d.count + 1) d.inputs e)
    (subst L (sym (lines_are ∙ cut_same (λ j. touches_kind t (closure o.kinds j)) (λ j. is_touched o core.st e j) same d.lines))
    (subst K (sym (keys_are ∙ stamped_same (λ j. touches_kind t (closure o.kinds j)) (λ j. is_touched o core.st e j) same (d.count + 1) d.keys)) base)))

-- the store may have more room than is counted on
pub more_spare : {V : Type 0} (chain : Chain) (feature : Feature V) (o : Opening) (h : List Entry) (d : Stock V) (spare : ℕ) → IsCore chain feature o h d → d.spare ≤ spare → IsCore chain feature o h (record d { spare = spare })
more_spare chain feature o h d spare core more =
    record {
      st = core.st;
      kept = core.kept;
      runs = core.runs;
      parts = record {
        inputs = record { inputs = core.parts.inputs.inputs; count = core.parts.inputs.count; keys = core.parts.inputs.keys };
        lines = core.parts.lines;
        tidy = core.parts.tidy;
        works = core.parts.works;
        seated = core.parts.seated;
        owes = core.parts.owes;
        within = core.parts.within;
        stored = omega (arith, core.parts.stored, more);
        counted = core.parts.counted;
      };
    }
