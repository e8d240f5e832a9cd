-- What each entry does to the replay.
use Rattle.std.proofs.Common.{◌≡◌, ℕ, ◌+◌, Bool, true, false, not, ◌&&◌, ◌||◌, ◌==◌, List, [], ◌∷◌, ◌++◌, length, Option, None, Some, is_none, refl, ap, ◌∙◌, if◌then◌else◌}
use Rattle.std.specs.Option.{option_and_then, option_map}
use Rattle.std.proofs.lemmas.Bool.{eq-eqb}
use Rattle.wc_base.proofs.TestLemmas.{if_true}
use Rattle.wc_model.specs.declared.entries.End.{End}
use Rattle.wc_model.specs.declared.entries.Entry.TheVariants.{Edit as EditEntry, NoFact, Pin, Start, Finish, Answer, List as ListEntry}
use Rattle.wc_model.specs.declared.inputs.Edit.{Edit}
use Rattle.wc_model.specs.declared.values.Outcome.{Outcome}
use Rattle.wc_model.specs.Workspace.History.{step, allow, start_step, finish_step, answer_step, after_edit, after_pin, after_start, after_finish, after_answer, may_start, can_edit, is_live, right_end, right_outcome, key_with}
use Rattle.wc_model.specs.Workspace.States.{Opening, Key, State, Run, Ask, is_free, inputs_at, stamp_at, count_of, open_ask, own_run, home_of, last_of, same_key, same_name}
use Rattle.wc_core.proofs.CopyLemmas.{same_name_refl}
use Rattle.wc_core.proofs.TestLemmas.{and_both}

allow_true : (b : Bool) (st : State) → b ≡ true → allow b st ≡ Some st
allow_true b st is = if_true b (Some st) None is

pub step_edit : (o : Opening) (st : State) (session count : ℕ) (e : Edit) → is_free o st session ≡ true → count ≡ length st.edits + 1 → can_edit e (inputs_at o st (count_of st)) ≡ true
    → step o st (EditEntry session count e) ≡ Some (after_edit o st e)
step_edit o st session count e free next can = allow_true _ (after_edit o st e) (and_both _ _ (and_both _ _ free (eq-eqb count (length st.edits + 1) next)) can)

pub step_nofact : (o : Opening) (st : State) (session number at : ℕ) → is_free o st session ≡ true → at ≡ length st.edits → is_live number (inputs_at o st (count_of st)) ≡ false
    → step o st (NoFact session number at) ≡ Some st
step_nofact o st session number at free here dead = allow_true _ st (and_both _ _ (and_both _ _ free (eq-eqb at (length st.edits) here)) (ap not dead))

pub step_list : (o : Opening) (st : State) (session at : ℕ) → is_free o st session ≡ true → at ≡ length st.edits → step o st (ListEntry session at) ≡ Some st
step_list o st session at free here = allow_true _ st (and_both _ _ free (eq-eqb at (length st.edits) here))

pub step_pin : (o : Opening) (st : State) (session : ℕ) (name : List ℕ) (at : ℕ) → is_free o st session ≡ true → at ≡ length st.edits → step o st (Pin session name at) ≡ Some (after_pin st session name)
step_pin o st session name at free here = allow_true _ (after_pin st session name) (and_both _ _ free (eq-eqb at (length st.edits) here))

pub step_start : (o : Opening) (st : State) (ask : Ask) (session runs : ℕ) (key : Key) → open_ask o st session ≡ Some ask → may_start o st session key ask ≡ true → last_of (home_of key.kind st.home) ≡ Some runs
    → step o st (Start session key.kind key.name key.stamp) ≡ Some (after_start o st session key ask runs)
step_start o st ask session runs key asked may last =
    ap (option_and_then (start_step o st session key)) asked
    ∙ if_true (may_start o st session key ask) (option_map (after_start o st session key ask) (last_of (home_of key.kind st.home))) None may
    ∙ ap (option_map (after_start o st session key ask)) last

pub same_key_refl : (key : Key) → same_key key key ≡ true
same_key_refl key = and_both _ _ (and_both _ _ (eq-eqb key.kind key.kind refl) (same_name_refl key.name)) (eq-eqb key.stamp key.stamp refl)

pub step_finish : (o : Opening) (st : State) (ask : Ask) (run : Run) (session : ℕ) (end : End)
    → open_ask o st session ≡ Some ask → own_run session st.out ≡ Some run
    → right_end end (run.key.stamp == stamp_at o st run.key.kind (count_of st)) ≡ true
    → step o st (Finish session run.key.kind run.key.name run.key.stamp end) ≡ Some (after_finish st session run.key end ask run)
step_finish o st ask run session end asked flies right =
    ap (option_and_then (λ a. option_and_then (finish_step o st session run.key end a) (own_run session st.out))) asked
    ∙ ap (option_and_then (finish_step o st session run.key end ask)) flies
    ∙ if_true _ (Some (after_finish st session run.key end ask run)) None (and_both _ _ (same_key_refl run.key) right)

pub step_answer : (o : Opening) (st : State) (ask : Ask) (session : ℕ) (outcome : Outcome)
    → open_ask o st session ≡ Some ask → own_run session st.out ≡ None
    → right_outcome o st ask outcome ≡ true
    → step o st (Answer session ask.name ask.at outcome) ≡ Some (after_answer st session)
step_answer o st ask session outcome asked rests right =
    ap (option_and_then (answer_step o st session ask.name ask.at outcome)) asked
    ∙ if_true _ (Some (after_answer st session)) None (and_both _ _ (and_both _ _ (and_both _ _ (same_name_refl ask.name) (eq-eqb ask.at ask.at refl)) (ap (λ (r : Option Run). is_none r) rests)) right)
