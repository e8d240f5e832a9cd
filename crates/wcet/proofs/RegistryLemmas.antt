-- A core over the registry of the bound alone has one work.
use Rattle.std.proofs.Common.{◌≡◌, ℕ, List, [], ◌∷◌, refl, sym, subst, arith}
use Rattle.wc_model.specs.declared.elf_image.Image.{Image}
use Rattle.wc_model.specs.declared.flow_facts.Fact.{Fact}
use Rattle.wc_model.specs.declared.kinds.Describe.{Describe}
use Rattle.wc_model.specs.declared.machine.Hardware.{Hardware}
use Rattle.wc_model.specs.Workspace.History.{Chain}
use Rattle.wc_registry.proofs.KindLemmas.{first_there}
use Rattle.wc_core.specs.Answers.{LeavesFree}
use Rattle.wc_core.specs.Openings.{IsOpened, IsStaffed, opening_with}
use Rattle.wc_core.specs.Views.{Known}
use Rattle.wc_session.specs.Alone.{IsAlone}
use Rattle.wc_session.proofs.StaffLemmas.{opened_alone, staffed_each}
use Rattle.wcet.specs.BoundAlone.{bound_alone, plain_opening}

abbrev alone : List Describe
alone = bound_alone ∷ []

pub staffed : (registry : List Describe) (works : List ℕ) → registry ≡ bound_alone ∷ [] → works ≡ 11 ∷ [] → IsStaffed registry works
staffed registry works kinds_are works_are =
    let one : IsStaffed alone (11 ∷ []) = staffed_each alone (bound_alone, first_there bound_alone [], refl) (omega arith) in
    subst (λ (r : List Describe). IsStaffed r works) (sym kinds_are) (subst (IsStaffed alone) (sym works_are) one)

pub record IsOpenedAlone (chain : Chain) (image : Image) (hardware : Hardware) (facts : List Fact) (core : Known) : Type 0 where
  pub opened : IsOpened chain (plain_opening image hardware facts) core
  pub free : LeavesFree core.opening core.history 1
  pub alone_is : IsAlone core.opening

pub opened_as : (chain : Chain) (image : Image) (hardware : Hardware) (facts : List Fact) (core : Known) (registry : List Describe) (works : List ℕ) → registry ≡ bound_alone ∷ [] → works ≡ 11 ∷ []
    → IsOpened chain (opening_with image registry works hardware facts 1) core → IsOpenedAlone chain image hardware facts core
opened_as chain image hardware facts core registry works kinds_are works_are opened =
    let R : List Describe → Type 0 = λ r. IsOpened chain (opening_with image r works hardware facts 1) core in
    let W : List ℕ → Type 0 = λ w. IsOpened chain (opening_with image alone w hardware facts 1) core in
    let both = opened_alone image registry works hardware facts (staffed registry works kinds_are works_are) chain core opened in
    record { opened = subst W works_are (subst R kinds_are opened); free = both.0; alone_is = both.1 }
