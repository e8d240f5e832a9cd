-- What a step of the replay says of the state that it finds, and what it leaves.
use Rattle.std.proofs.Common.{◌≡◌, ℕ, Bool, true, false, List, Option, None, Some, refl, if◌then◌else◌}
use Rattle.std.specs.Option.{option_map, option_and_then}
use Rattle.wc_model.specs.declared.entries.End.{End}
use Rattle.wc_model.specs.declared.entries.Entry.TheVariants.{Start, Finish, Answer}
use Rattle.wc_model.specs.declared.values.Outcome.{Outcome}
use Rattle.wc_model.specs.Workspace.History.{step, allow, key_with, may_start, after_start, start_step, may_finish, after_finish, finish_step, may_answer, after_answer, answer_step}
use Rattle.wc_model.specs.Workspace.States.{Opening, Key, State, Run, Ask, open_ask, own_run, home_of, last_of}

pub if_some : {A : Type 0} (b : Bool) (x : Option A) (a : A) → (if b then x else None) ≡ Some a → (b ≡ true) × (x ≡ Some a)
if_some true x a p = (refl, p)
if_some false x a p = cc

pub some_same : {A : Type 0} (a b : A) → Some a ≡ Some b → a ≡ b
some_same a b p = cc

-- what `and_then` and `map` come from
then_some : {A B : Type 0} (f : A → Option B) (o : Option A) (b : B) → option_and_then f o ≡ Some b → (a : A) × (o ≡ Some a) × (f a ≡ Some b)
then_some f None b p = cc
then_some f (Some a) b p = (a, refl, p)

map_some : {A B : Type 0} (f : A → B) (o : Option A) (b : B) → option_map f o ≡ Some b → (a : A) × (o ≡ Some a) × (f a ≡ b)
map_some f None b p = cc
map_some f (Some a) b p = (a, refl, some_same (f a) b p)

-- an edit, a refused edit, a pin and a list
pub allowed : (legal : Bool) (next new : State) → allow legal next ≡ Some new → (legal ≡ true) × (next ≡ new)
allowed legal next new goes = let both = if_some legal (Some next) new goes in (both.0, some_same next new both.1)

pub record IsStart (o : Opening) (st new : State) (session : ℕ) (key : Key) : Type 0 where
  pub ask : Ask
  pub asked : open_ask o st session ≡ Some ask
  pub may : may_start o st session key ask ≡ true
  pub runs : ℕ
  pub last : last_of (home_of key.kind st.home) ≡ Some runs
  pub new_is : after_start o st session key ask runs ≡ new

pub started : (o : Opening) (st new : State) (session kind : ℕ) (name : List ℕ) (stamp : ℕ) → step o st (Start session kind name stamp) ≡ Some new → IsStart o st new session (key_with kind name stamp)
started o st new session kind name stamp goes =
    let key : Key = key_with kind name stamp in
    let here = then_some (start_step o st session key) (open_ask o st session) new goes in
    let may = if_some (may_start o st session key here.0) (option_map (after_start o st session key here.0) (last_of (home_of kind st.home))) new here.2 in
    let work = map_some (after_start o st session key here.0) (last_of (home_of kind st.home)) new may.1 in
    record { ask = here.0; asked = here.1; may = may.0; runs = work.0; last = work.1; new_is = work.2 }

pub record IsFinish (o : Opening) (st new : State) (session : ℕ) (key : Key) (end : End) : Type 0 where
  pub ask : Ask
  pub asked : open_ask o st session ≡ Some ask
  pub run : Run
  pub own : own_run session st.out ≡ Some run
  pub may : may_finish o st key end run ≡ true
  pub new_is : after_finish st session key end ask run ≡ new

pub finished : (o : Opening) (st new : State) (session kind : ℕ) (name : List ℕ) (stamp : ℕ) (end : End) → step o st (Finish session kind name stamp end) ≡ Some new
    → IsFinish o st new session (key_with kind name stamp) end
finished o st new session kind name stamp end goes =
    let key : Key = key_with kind name stamp in
    let here = then_some (λ ask. option_and_then (finish_step o st session key end ask) (own_run session st.out)) (open_ask o st session) new goes in
    let out = then_some (finish_step o st session key end here.0) (own_run session st.out) new here.2 in
    let may = allowed (may_finish o st key end out.0) (after_finish st session key end here.0 out.0) new out.2 in
    record { ask = here.0; asked = here.1; run = out.0; own = out.1; may = may.0; new_is = may.1 }

pub record IsAnswer (o : Opening) (st new : State) (session : ℕ) (name : List ℕ) (at : ℕ) (outcome : Outcome) : Type 0 where
  pub ask : Ask
  pub asked : open_ask o st session ≡ Some ask
  pub may : may_answer o st session name at outcome ask ≡ true
  pub new_is : after_answer st session ≡ new

pub answered : (o : Opening) (st new : State) (session : ℕ) (name : List ℕ) (at : ℕ) (outcome : Outcome) → step o st (Answer session name at outcome) ≡ Some new → IsAnswer o st new session name at outcome
answered o st new session name at outcome goes =
    let here = then_some (answer_step o st session name at outcome) (open_ask o st session) new goes in
    let may = allowed (may_answer o st session name at outcome here.0) (after_answer st session) new here.2 in
    record { ask = here.0; asked = here.1; may = may.0; new_is = may.1 }
