-- When a ticket, a flight and a landed value fit a core.
use Rattle.std.specs.Prelude.{ℕ, ◌≡◌, ◌+◌, List, Option, None, Some, IfSome, is_some}
use Rattle.std.specs.Global.{Global}
use Rattle.std.specs.declared.sync.Arc.{Arc}
use Rattle.wc_model.specs.declared.entries.Entry.{Entry}
use Rattle.wc_model.specs.Workspace.Closures.{has_kind}
use Rattle.wc_model.specs.Workspace.Edits.{Setting}
use Rattle.wc_model.specs.Workspace.History.{state_after, key_with}
use Rattle.wc_model.specs.Workspace.States.{Opening, State, Run, open_ask, own_run, inputs_at}
use Rattle.wc_core.specs.Features.{arc_at}
use Rattle.wc_core.specs.Views.{KnownTicket, KnownFlight, KnownLanded, ask_with}

-- What a value has to be: the kind, the inputs and the name decide.
abbrev pub Feature : Type 0 → Type 1
Feature V = ℕ → Setting → List ℕ → V → Type 0

-- Each value that a ticket holds is a feature for its inputs and its name.
abbrev pub HoldsFeatures : {V : Type 0} → Feature V → KnownTicket V → Type 0
HoldsFeatures {V} feature t = (kind : ℕ) (a : Arc V Global) → arc_at kind t.had ≡ Some a → feature kind t.inputs t.name a.value

-- The replay has the ticket's ask open, with its name, its count and the kinds that it has, and with a Memory finish
-- exactly where the ticket keeps one. The ticket's inputs are those at its count.
pub record IsOpen {V : Type 0} (feature : Feature V) (o : Opening) (st : State) (t : KnownTicket V) : Type 0 where
  pub kinds : List ℕ
  pub same : (kind : ℕ) → has_kind kind kinds ≡ is_some (arc_at kind t.had)
  pub ask : open_ask o st t.session ≡ Some (ask_with t kinds)
  pub inputs : t.inputs ≡ inputs_at o st t.at
  pub features : HoldsFeatures feature t

-- No run of the ask is out.
pub record FitsTicket {V : Type 0} (feature : Feature V) (o : Opening) (history : List Entry) (t : KnownTicket V) : Type 0 where
  pub st : State
  pub state : state_after o history ≡ Some st
  pub is_open : IsOpen feature o st t
  pub rests : own_run t.session st.out ≡ None

-- The run of the ask that is out.
abbrev pub run_of : {V : Type 0} → KnownTicket V → ℕ → ℕ → ℕ → Run
run_of t kind stamp runs = record { session = t.session; key = key_with kind t.name stamp; runs = runs }

pub record FitsFlight {V : Type 0} (feature : Feature V) (o : Opening) (history : List Entry) (f : KnownFlight V) : Type 0 where
  pub st : State
  pub state : state_after o history ≡ Some st
  pub is_open : IsOpen feature o st f.ticket
  pub flies : own_run f.ticket.session st.out ≡ Some (run_of f.ticket f.kind f.stamp f.runs)
  pub sessions : f.sessions ≡ o.sessions

pub record FitsLanded {V : Type 0} (feature : Feature V) (o : Opening) (history : List Entry) (l : KnownLanded V) : Type 0 where
  pub st : State
  pub state : state_after o history ≡ Some st
  pub runs : ℕ
  pub ran : l.runs ≡ runs + 1
  pub is_open : IsOpen feature o st l.ticket
  pub flies : own_run l.ticket.session st.out ≡ Some (run_of l.ticket l.kind l.stamp runs)
  pub sessions : l.sessions ≡ o.sessions
  pub gave : IfSome l.gave (λ v. feature l.kind l.ticket.inputs l.ticket.name v)
