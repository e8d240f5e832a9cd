-- One session leaves the replay no choice: the whole history follows from what was asked for, the opening and the chain.
use Rattle.std.specs.Prelude.{ℕ, ◌≡◌, ◌++◌, true, List, [], ◌∷◌, drop, Some, All}
use Rattle.std.specs.List.{flat_map}
use Rattle.wc_model.specs.declared.entries.End.TheVariants.{Memory}
use Rattle.wc_model.specs.declared.entries.Entry.{Entry}
use Rattle.wc_model.specs.declared.entries.Entry.TheVariants.{Edit as EditEntry, NoFact, Pin, Finish, Answer, List as ListEntry}
use Rattle.wc_model.specs.declared.inputs.Edit.{Edit}
use Rattle.wc_model.specs.declared.inputs.Edit.TheVariants.{Drop}
use Rattle.wc_model.specs.declared.values.Outcome.{Outcome}
use Rattle.wc_model.specs.declared.values.Outcome.TheVariants.{Memory as NoMemory}
use Rattle.wc_model.specs.Workspace.Edits.{Setting}
use Rattle.wc_model.specs.Workspace.History.{Chain, IsLegal, opened, state_after}
use Rattle.wc_model.specs.Workspace.States.{Opening, State, is_free}

-- What a session asks for: an edit, the bound of a name, or a list of the live facts.
pub data Request : Type 0 where
  change : Edit → Request
  bound : List ℕ → Request
  facts : Request

-- A drop is a request whether it was accepted or refused. A run and an answer are none.
abbrev pub request_of : Entry → List Request
request_of (EditEntry session count edit) = change edit ∷ []
request_of (NoFact session number at) = change (Drop number) ∷ []
request_of (Pin session name at) = bound name ∷ []
request_of (ListEntry session at) = facts ∷ []
request_of _ = []

-- The requests of a history behind its opening entries, in order.
abbrev pub requests_of : Opening → List Entry → List Request
requests_of o history = flat_map request_of (drop (opened o) history)

-- not an answer of want of memory
abbrev pub IsGranted : Entry → Type 0
IsGranted (Answer session name at NoMemory) = ⊥
IsGranted _ = Unit {0}

-- nor a run that found none
abbrev pub IsCalm : Entry → Type 0
IsCalm (Finish session kind name stamp Memory) = ⊥
IsCalm entry = IsGranted entry

-- The session is one of the workspace and has no open ask.
pub record LeavesFree (o : Opening) (history : List Entry) (session : ℕ) : Type 0 where
  pub st : State
  pub state : state_after o history ≡ Some st
  pub free : is_free o st session ≡ true

-- A whole history of session 1: it is legal, each ask is answered, and no answer is want of memory.
pub record IsWhole (chain : Chain) (o : Opening) (history : List Entry) : Type 0 where
  pub legal : IsLegal chain o history
  pub free : LeavesFree o history 1
  pub granted : All IsGranted history

-- A name has at most one outcome on some inputs.
abbrev pub IsSingle : Chain → Type 0
IsSingle chain = (inputs : Setting) (name : List ℕ) (a b : Outcome) → chain inputs name a → chain inputs name b → a ≡ b

-- Two whole histories of one session with the same requests are the same.
abbrev pub OneHistory : Chain → Type 0
OneHistory chain = (o : Opening) (h g : List Entry) → IsSingle chain → o.sessions ≡ 1
    → IsWhole chain o h → IsWhole chain o g → requests_of o h ≡ requests_of o g → h ≡ g

-- A history that stops earlier, even within an ask, is a front of the whole one.
abbrev pub OneFront : Chain → Type 0
OneFront chain = (o : Opening) (h g : List Entry) (more : List Request) → IsSingle chain → o.sessions ≡ 1
    → IsLegal chain o h → All IsCalm h → IsWhole chain o g → requests_of o h ++ more ≡ requests_of o g
    → (rest : List Entry) × (h ++ rest ≡ g)
