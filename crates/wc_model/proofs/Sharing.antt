-- The asks and the runs of a state by their sessions, and what fits a later state.
use Rattle.std.proofs.Common.{◌≡◌, ◌≢◌, ℕ, zero, suc, ◌<◌, ◌≤◌, Bool, true, false, ◌==◌, List, [], ◌∷◌, ◌++◌, length, Option, None, Some, refl, sym, ap, ◌∙◌, arith, eqb-true, ne_eqb, if◌then◌else◌}
use Rattle.std.proofs.lemmas.List.{take-append-le}
use Rattle.wc_model.specs.declared.elf_image.Image.{Image}
use Rattle.wc_model.specs.declared.inputs.Edit.{Edit}
use Rattle.wc_model.specs.Workspace.Closures.{stamp_of, closure, last_touch}
use Rattle.wc_model.specs.Workspace.Edits.{after_edits, all_edited, bare}
use Rattle.wc_model.specs.Workspace.States.{Opening, State, Run, Ask, ask_at, with_ask, own_run, without_own, inputs_at, stamp_at, open_ask, is_session}

pub asked_same : (session : ℕ) (new : Option Ask) (asks : List (Option Ask)) → session < length asks → ask_at session (with_ask session new asks) ≡ new
asked_same session new [] within = absurd (omega arith)
asked_same zero new (a ∷ asks) within = refl
asked_same (suc session) new (a ∷ asks) within = asked_same session new asks (omega arith)

pub asked_other : (s session : ℕ) (new : Option Ask) (asks : List (Option Ask)) → s ≢ session → ask_at s (with_ask session new asks) ≡ ask_at s asks
asked_other s session new [] other = refl
asked_other zero zero new (a ∷ asks) other = absurd (other refl)
asked_other (suc s) zero new (a ∷ asks) other = refl
asked_other zero (suc session) new (a ∷ asks) other = refl
asked_other (suc s) (suc session) new (a ∷ asks) other = asked_other s session new asks (λ same. other (ap (λ n. suc n) same))

pub length-with_ask : (session : ℕ) (new : Option Ask) (asks : List (Option Ask)) → length (with_ask session new asks) ≡ length asks
length-with_ask session new [] = refl
length-with_ask zero new (a ∷ asks) = refl
length-with_ask (suc session) new (a ∷ asks) = ap (λ n. suc n) (length-with_ask session new asks)

-- runs of others
last_other : (s : ℕ) (run : Run) (same : Bool) → (run.session == s) ≡ same → run.session ≢ s → own_run s (run ∷ []) ≡ None
last_other s run true is other = absurd (other (eqb-true _ _ is))
last_other s run false is other = rw is refl

run_case : (s : ℕ) (r : Run) (rs more : List Run) (same : Bool) → own_run s more ≡ own_run s rs → (if same then Some r else own_run s more) ≡ (if same then Some r else own_run s rs)
run_case s r rs more true rest = refl
run_case s r rs more false rest = rest

pub run_other : (s : ℕ) (out : List Run) (run : Run) → run.session ≢ s → own_run s (out ++ run ∷ []) ≡ own_run s out
run_other s [] run other = last_other s run (run.session == s) refl other
run_other s (r ∷ out) run other = run_case s r out (out ++ run ∷ []) (r.session == s) (run_other s out run other)

in_case : (s session : ℕ) (r : Run) (rs : List Run) (mine : Bool) → (r.session == session) ≡ mine → s ≢ session → own_run s (without_own session rs) ≡ own_run s rs
    → own_run s (if mine then rs else r ∷ without_own session rs) ≡ own_run s (r ∷ rs)
in_case s session r rs true is other rest =
    let apart : (r.session == s) ≡ false = ne_eqb r.session s (λ same. other (sym same ∙ eqb-true _ _ is)) in rw apart refl
in_case s session r rs false is other rest = run_case s r rs (without_own session rs) (r.session == s) rest

pub in_other : (s session : ℕ) (out : List Run) → s ≢ session → own_run s (without_own session out) ≡ own_run s out
in_other s session [] other = refl
in_other s session (r ∷ out) other = in_case s session r out (r.session == session) refl other (in_other s session out other)

-- Edits to come change neither the inputs nor the stamps at a count that was reached.
pub inputs_stay : (image : Image) (at : ℕ) (edits more : List Edit) → at ≤ length edits → after_edits image at (edits ++ more) ≡ after_edits image at edits
inputs_stay image at edits more within = ap (λ es. all_edited 0 (bare image) es) (take-append-le at edits more within)

pub stamp_stays : (o : Opening) (kind at : ℕ) (edits more : List Edit) → at ≤ length edits → stamp_of o.kinds o.image kind at (edits ++ more) ≡ stamp_of o.kinds o.image kind at edits
stamp_stays o kind at edits more within = ap (λ es. last_touch (closure o.kinds kind) 0 0 (bare o.image) es) (take-append-le at edits more within)

-- What an entry of one session leaves of the others.
pub record LeavesOthers (session : ℕ) (st new : State) : Type 0 where
  pub asks : (s : ℕ) → s ≢ session → ask_at s new.asks ≡ ask_at s st.asks
  pub runs : (s : ℕ) → s ≢ session → own_run s new.out ≡ own_run s st.out
  pub more : List Edit
  pub edits : new.edits ≡ st.edits ++ more

asked_if : (b : Bool) (x y : Option Ask) → x ≡ y → (if b then x else None) ≡ (if b then y else None)
asked_if b x y same = ap (λ a. if b then a else None) same

pub open_other : (o : Opening) (session s : ℕ) (st new : State) → LeavesOthers session st new → s ≢ session → open_ask o new s ≡ open_ask o st s
open_other o session s st new leaves other = asked_if (is_session o s) (ask_at s new.asks) (ask_at s st.asks) (leaves.asks s other)

pub inputs_later : (o : Opening) (session at : ℕ) (st new : State) → LeavesOthers session st new → at ≤ length st.edits → inputs_at o st at ≡ inputs_at o new at
inputs_later o session at st new leaves within = sym (ap (after_edits o.image at) leaves.edits ∙ inputs_stay o.image at st.edits leaves.more within)

pub stamp_later : (o : Opening) (session kind at : ℕ) (st new : State) → LeavesOthers session st new → at ≤ length st.edits → stamp_at o st kind at ≡ stamp_at o new kind at
stamp_later o session kind at st new leaves within = sym (ap (stamp_of o.kinds o.image kind at) leaves.edits ∙ stamp_stays o kind at st.edits leaves.more within)
