-- For callers with several sessions: what others hold fits after several calls. And a core with works of each kind.
use Rattle.std.proofs.Common.{◌≡◌, ◌↔◌, ◌⊎◌, ◌≤◌, ℕ, List, [], ◌∷◌, ◌++◌, map, length, refl, sym, ap, subst, ⊎_elim, ◌∙◌, arith}
use Rattle.std.specs.List.{Contains}
use Rattle.std.proofs.lemmas.List.Elements.{Contains-append_cases, Contains-append_left}
use Rattle.wc_model.specs.declared.kinds.Describe.{Describe}
use Rattle.wc_model.specs.Workspace.Kinds.{eleven_kinds}
use Rattle.wc_model.specs.Workspace.Registry.{IsProvided}
use Rattle.wc_registry.proofs.KindLemmas.{cons_cases, first_there, has_there, later_there, none_there}
use Rattle.wc_core.specs.Answers.{KeepsOthers}
use Rattle.wc_core.specs.Fits.{Feature}
use Rattle.wc_core.specs.Openings.{IsStaffed}
use Rattle.wc_core.specs.Views.{Known}

pub keeps_then : {V : Type 0} (feature : Feature V) (a b c : Known) (session other : ℕ) → KeepsOthers feature a b session → KeepsOthers feature b c other → other ≡ session → KeepsOthers feature a c session
keeps_then feature a b c session other first second same =
    record {
      free = λ s apart held. second.free s (λ is. apart (is ∙ same)) (first.free s apart held);
      tickets = λ t apart held. second.tickets t (λ is. apart (is ∙ same)) (first.tickets t apart held);
      flights = λ f apart held. second.flights f (λ is. apart (is ∙ same)) (first.flights f apart held);
      landed = λ l apart held. second.landed l (λ is. apart (is ∙ same)) (first.landed l apart held);
    }

-- the kinds of the descriptions are those that are provided
abbrev provided : List Describe → List ℕ
provided kinds = map (λ (d : Describe). d.provides) kinds

provided_there : (kinds : List Describe) (k : ℕ) → Contains (provided kinds) k → IsProvided kinds k
provided_there [] k is = absurd (none_there k is)
provided_there (d ∷ ds) k is =
    ⊎_elim (λ (here : d.provides ≡ k). (d, first_there d ds, here)) (λ (later : Contains (provided ds) k). let there = provided_there ds k later in (there.0, later_there d there.0 ds there.1, there.2)) (cons_cases d.provides (provided ds) k is)

there_provided : (kinds : List Describe) (k : ℕ) (e : Describe) → Contains kinds e → e.provides ≡ k → Contains (provided kinds) k
there_provided [] k e is same = absurd (none_there e is)
there_provided (d ∷ ds) k e is same =
    ⊎_elim (λ (here : d ≡ e). subst (λ j. Contains (d.provides ∷ provided ds) j) (ap (λ (x : Describe). x.provides) here ∙ same) (first_there d.provides (provided ds)))
    (λ (later : Contains ds e). later_there d.provides k (provided ds) (there_provided ds k e later same)) (cons_cases d ds e is)

abbrev numbers : List ℕ
numbers = 1 ∷ 2 ∷ 3 ∷ 4 ∷ 5 ∷ 6 ∷ 7 ∷ 8 ∷ 9 ∷ 10 ∷ 11 ∷ []

pub staffed_once : IsStaffed eleven_kinds numbers
staffed_once =
    record {
      bound = provided_there eleven_kinds 11 (has_there 11 numbers refl);
      few = omega arith;
      each = λ k. (provided_there eleven_kinds k, λ is. there_provided eleven_kinds k is.0 is.1 is.2);
    }

pub staffed_twice : IsStaffed eleven_kinds (numbers ++ numbers)
staffed_twice =
    record {
      bound = staffed_once.bound;
      few = staffed_once.few;
      each = λ k. (
        (λ is. ⊎_elim (staffed_once.each k).0 (staffed_once.each k).0 (Contains-append_cases numbers numbers k is)),
        λ is. Contains-append_left numbers numbers k ((staffed_once.each k).1 is),
      );
    }
