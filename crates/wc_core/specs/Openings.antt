-- What a core is opened with, and what of it is left at the end.
use Rattle.std.specs.Prelude.{ℕ, ◌≡◌, ◌≤◌, ◌↔◌, ◌==◌, List, [], Contains, All, map, filter, length}
use Rattle.wc_model.specs.declared.elf_image.Image.{Image}
use Rattle.wc_model.specs.declared.entries.Entry.{Entry}
use Rattle.wc_model.specs.declared.flow_facts.Fact.{Fact}
use Rattle.wc_model.specs.declared.kinds.Describe.{Describe}
use Rattle.wc_model.specs.declared.machine.Hardware.{Hardware}
use Rattle.wc_model.specs.Workspace.Closures.{order_of}
use Rattle.wc_model.specs.Workspace.History.{Chain, IsLegal, opening_entries}
use Rattle.wc_model.specs.Workspace.Registry.{IsProvided}
use Rattle.wc_model.specs.Workspace.States.{Opening}
use Rattle.wc_core.specs.Answers.{LeavesFree}
use Rattle.wc_core.specs.Views.{Known}

-- The kind of the bound is there, at most eleven kinds are, and each of them, and no other, has a work.
pub record IsStaffed (kinds : List Describe) (works : List ℕ) : Type 0 where
  pub bound : IsProvided kinds 11
  pub few : length kinds ≤ 11
  pub each : (kind : ℕ) → Contains works kind ↔ IsProvided kinds kind

-- how many works each kind has, in the registry's order
abbrev pub works_in : List ℕ → List ℕ → List (ℕ × ℕ)
works_in works kinds = map (λ k. (k, length (filter (λ w. w == k) works))) kinds

abbrev pub opening_with : Image → List Describe → List ℕ → Hardware → List Fact → ℕ → Opening
opening_with image kinds works hardware facts sessions =
    record { image = image; kinds = kinds; works = works_in works (order_of kinds); hardware = hardware; facts = facts; sessions = sessions }

-- A new core: its history has the opening edits, and no session has an ask open.
pub record IsOpened (chain : Chain) (o : Opening) (core : Known) : Type 0 where
  pub opening : core.opening ≡ o
  pub history : core.history ≡ opening_entries o
  pub legal : IsLegal chain o core.history
  pub free : (session : ℕ) → 1 ≤ session → session ≤ o.sessions → LeavesFree o core.history session
