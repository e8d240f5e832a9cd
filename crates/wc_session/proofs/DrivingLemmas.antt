-- For a caller: a core of one session over two kinds, with a work of each.
use Rattle.std.proofs.Common.{◌≡◌, ℕ, List, [], ◌∷◌, refl, sym, subst, arith}
use Rattle.wc_model.specs.declared.elf_image.Image.{Image}
use Rattle.wc_model.specs.declared.flow_facts.Fact.{Fact}
use Rattle.wc_model.specs.declared.kinds.Describe.{Describe}
use Rattle.wc_model.specs.declared.kinds.Part.TheVariants.{Cycles, Steer}
use Rattle.wc_model.specs.declared.machine.Hardware.{Hardware}
use Rattle.wc_model.specs.Workspace.History.{Chain}
use Rattle.wc_model.specs.Workspace.Kinds.{describe}
use Rattle.wc_registry.proofs.KindLemmas.{first_there, later_there}
use Rattle.wc_core.specs.Answers.{LeavesFree}
use Rattle.wc_core.specs.Openings.{IsOpened, IsStaffed, opening_with}
use Rattle.wc_core.specs.Views.{Known}
use Rattle.wc_session.specs.Alone.{IsAlone}
use Rattle.wc_session.proofs.StaffLemmas.{opened_alone, staffed_each}

abbrev pub two_kinds : List Describe
two_kinds = describe 2 [] (Steer ∷ []) ∷ describe 11 (2 ∷ []) (Cycles ∷ []) ∷ []

abbrev bound : Describe
bound = describe 11 (2 ∷ []) (Cycles ∷ [])

each_staffed : IsStaffed two_kinds (2 ∷ 11 ∷ [])
each_staffed = staffed_each two_kinds (bound, later_there (describe 2 [] (Steer ∷ [])) bound (bound ∷ []) (first_there bound []), refl) (omega arith)

module _ (registry : List Describe) (works : List ℕ) (kinds_are : registry ≡ two_kinds) (works_are : works ≡ 2 ∷ 11 ∷ []) where
  pub staffed_two : IsStaffed registry works
  staffed_two = subst (λ (r : List Describe). IsStaffed r works) (sym kinds_are) (subst (IsStaffed two_kinds) (sym works_are) each_staffed)

  pub opened_two : (chain : Chain) (image : Image) (hardware : Hardware) (facts : List Fact) (core : Known) → IsOpened chain (opening_with image registry works hardware facts 1) core → LeavesFree core.opening core.history 1 × IsAlone core.opening
  opened_two chain image hardware facts core opened = opened_alone image registry works hardware facts staffed_two chain core opened
