-- What a workspace is opened with, and what its passes have seen at first.
use Rattle.std.specs.Prelude.{ℕ, ◌≡◌, ◌<◌, List, [], length, map, slice_index_or, All}
use Rattle.std.proofs.Common.{arith}
use Rattle.std.specs.Global.{Global}
use Rattle.std.specs.List.{range_with_len}
use Rattle.std.specs.declared.sync.Arc.{Arc}
use Rattle.atomic_table.specs.Seated.{TableId}
use Rattle.wc_model.specs.declared.entries.Entry.{Entry}
use Rattle.wc_model.specs.declared.elf_image.Image.{Image}
use Rattle.wc_model.specs.declared.flow_facts.Fact.{Fact}
use Rattle.wc_model.specs.declared.kinds.Describe.{Describe}
use Rattle.wc_model.specs.declared.machine.Hardware.{Hardware}
use Rattle.wc_model.specs.Workspace.Hardware.{default_hardware}
use Rattle.wc_model.specs.Workspace.History.{Chain, opening_entries}
use Rattle.wc_model.specs.Workspace.States.{Opening}
use Rattle.wc_core.specs.Openings.{opening_with}
use Rattle.wc_core.specs.Views.{Known}
use Rattle.wc_pass.specs.Known.{Known as KnownPen, KnownPass}
use Rattle.wc_flight.specs.Calls.{IsReady, StaysReady}
use Rattle.wc_flight.specs.Inner.Holds.{IsLocked}

-- What is prepared: the desk, and what the core was opened with.
pub record KnownPrepared : Type 0 where
  pub desk : TableId
  pub opening : Opening

abbrev pub Opens : Arc Image Global → List Describe → List ℕ → Hardware → List Fact → ℕ → KnownPrepared → Type 0
Opens image kinds works hardware facts sessions prepared = prepared.opening ≡ opening_with image.value kinds works hardware facts sessions

-- The passes of all sessions, in the order of the sessions, none of which has an open ask.
pub record AreAll (own : TableId) (o : Opening) (passes : List KnownPass) : Type 0 where
  pub numbered : map (λ p. p.session) passes ≡ range_with_len 1 o.sessions
  pub ready : All (IsReady own o) passes

-- What calls of all sessions leave of the passes.
abbrev pub AllStay : TableId → Opening → List KnownPass → List KnownPass → Type 0
AllStay own o old new = (k : ℕ) (d : KnownPass) → k < length old → StaysReady own o (slice_index_or old k d) (slice_index_or new k d)

-- At first each of them has seen the opening entries.
pub record AreFirst (own : TableId) (o : Opening) (passes : List KnownPass) : Type 0 where
  pub all : AreAll own o passes
  pub seen : All (λ p. p.seen ≡ opening_entries o) passes

-- A pass that is shown a history.
abbrev pub shown : List Entry → KnownPass → KnownPass
shown history pass = record pass { seen = history }

-- The core, the pen and the passes of one opening and one desk.
pub record ArePrepared (chain : Chain) (own : TableId) (core : Known) (pen : KnownPen) (passes : List KnownPass) : Type 0 where
  pub locked : IsLocked chain own core.opening core pen
  pub first : AreFirst own core.opening passes

-- For a name that names nothing.
abbrev pub no_desk : TableId
no_desk = record { words = 0; slots = 0; views_name = 0; atom = 0; block = 0; offset = 0; slot_names = [] }

abbrev pub no_image : Image
no_image =
    record {
      bytes = [];
      ranges = [];
      names = [];
      ranges_inside = λ k d within. absurd (omega arith);
      ranges_end = λ k d within. absurd (omega arith);
      names_inside = λ k d within. absurd (omega arith);
    }

abbrev pub no_opening : Opening
no_opening = record { image = no_image; kinds = []; works = []; hardware = default_hardware; facts = []; sessions = 0 }
