-- What contracts see of a core, a ticket, a flight and a landed value.
use Rattle.std.specs.Prelude.{ℕ, ◌≡◌, Bool, List, Option}
use Rattle.std.specs.Global.{Global}
use Rattle.std.specs.declared.sync.Arc.{Arc}
use Rattle.wc_model.specs.declared.entries.Entry.{Entry}
use Rattle.wc_model.specs.Workspace.Edits.{Setting}
use Rattle.wc_model.specs.Workspace.States.{Opening, Ask}

pub record Known : Type 0 where
  pub opening : Opening
  pub history : List Entry

-- `had`: the values that the ask has, each at the number of its kind. `memory`: whether a run of the ask found no memory.
pub record KnownTicket (V : Type 0) : Type 0 where
  pub session : ℕ
  pub name : List ℕ
  pub at : ℕ
  pub inputs : Setting
  pub had : List (Option (Arc V Global))
  pub memory : Bool

-- `runs`: how often its work has run. `sessions`: how many the core has that it came from.
pub record KnownFlight (V : Type 0) : Type 0 where
  pub ticket : KnownTicket V
  pub kind : ℕ
  pub stamp : ℕ
  pub runs : ℕ
  pub sessions : ℕ

-- `gave`: the value, of which there is one copy for each session, or none where memory ran out.
pub record KnownLanded (V : Type 0) : Type 0 where
  pub ticket : KnownTicket V
  pub kind : ℕ
  pub stamp : ℕ
  pub runs : ℕ
  pub sessions : ℕ
  pub gave : Option V

-- An ask with the ticket's name and count that has some kinds.
abbrev pub ask_with : {V : Type 0} → KnownTicket V → List ℕ → Ask
ask_with t kinds = record { name = t.name; at = t.at; kinds = kinds; memory = t.memory }

-- Two tickets of one ask.
pub record SameAsk {V : Type 0} (a b : KnownTicket V) : Type 0 where
  pub session : b.session ≡ a.session
  pub name : b.name ≡ a.name
  pub at : b.at ≡ a.at
  pub inputs : b.inputs ≡ a.inputs
