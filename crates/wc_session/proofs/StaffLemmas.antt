-- A workspace that is opened for one session, and whose kinds each have a work.
use Rattle.std.proofs.Common.{◌≡◌, ◌≢◌, ℕ, zero, suc, ◌<◌, ◌≤◌, ◌==◌, ◌||◌, ◌&&◌, ◌⊎◌, inl, inr, ⊎_elim, nat_lt, Bool, true, false, not, cond, if◌then◌else◌, List, [], ◌∷◌, length, map, replicate, Option, None, Some, refl, sym, ap, subst, ◌∙◌, arith}
use Rattle.std.specs.List.{Contains, filter, find}
use Rattle.std.specs.Option.{option_map_or}
use Rattle.std.proofs.lemmas.Bool.{eq-eqb, eqb-true, false≢true, or_cases}
use Rattle.std.proofs.lemmas.List.Folds.{list_any-append}
use Rattle.std.proofs.lemmas.Option.{none-some, same_Some}
use Rattle.wc_model.specs.declared.elf_image.Image.{Image}
use Rattle.wc_model.specs.declared.flow_facts.Fact.{Fact}
use Rattle.wc_model.specs.declared.kinds.Describe.{Describe}
use Rattle.wc_model.specs.declared.machine.Hardware.{Hardware}
use Rattle.wc_model.specs.Workspace.Closures.{has_all, has_kind, lesser, next_available, order_of, placed_after, placed_next}
use Rattle.wc_model.specs.Workspace.History.{Chain}
use Rattle.wc_model.specs.Workspace.Registry.{IsProvided}
use Rattle.wc_model.specs.Workspace.States.{Opening, home_of}
use Rattle.wc_registry.proofs.KindLemmas.{cons_cases, first_there, has_there, later_there, none_there}
use Rattle.wc_core.specs.Answers.{LeavesFree}
use Rattle.wc_core.specs.Openings.{IsOpened, IsStaffed, opening_with, works_in}
use Rattle.wc_core.specs.Views.{Known}
use Rattle.wc_session.specs.Alone.{IsAlone}

-- Each kind of the order is provided.

lesser_case : (k least j : ℕ) (below : Bool) → (if below then Some k else Some least) ≡ Some j → (k ≡ j) ⊎ (Some least ≡ Some j)
lesser_case k least j true is = inl (same_Some k j is)
lesser_case k least j false is = inr is

lesser_cases : (k j : ℕ) (o : Option ℕ) → lesser k o ≡ Some j → (k ≡ j) ⊎ (o ≡ Some j)
lesser_cases k j None is = inl (same_Some k j is)
lesser_cases k j (Some least) is = lesser_case k least j (nat_lt k least) is

behind : (d : Describe) (ds : List Describe) (k : ℕ) → IsProvided ds k → IsProvided (d ∷ ds) k
behind d ds k is = (is.0, later_there d is.0 ds is.1, is.2)

provided_case : (d : Describe) (ds : List Describe) (k : ℕ) (available : Bool) (rest : Option ℕ) → (if available then lesser d.provides rest else rest) ≡ Some k → (rest ≡ Some k → IsProvided ds k) → IsProvided (d ∷ ds) k
provided_case d ds k false rest is later = behind d ds k (later is)
provided_case d ds k true rest is later =
    ⊎_elim (λ (here : d.provides ≡ k). (d, first_there d ds, here)) (λ (there : rest ≡ Some k). behind d ds k (later there)) (lesser_cases d.provides k rest is)

next_provided : (kinds : List Describe) (placed : List ℕ) (k : ℕ) → next_available kinds placed ≡ Some k → IsProvided kinds k
next_provided [] placed k is = absurd (none-some k is)
next_provided (d ∷ ds) placed k is =
    provided_case d ds k (not (has_kind d.provides placed) && has_all d.requires_ placed) (next_available ds placed) is (λ later. next_provided ds placed k later)

placed_case : (kinds : List Describe) (placed : List ℕ) (next : Option ℕ) (k : ℕ) → ((j : ℕ) → next ≡ Some j → IsProvided kinds j) → (has_kind k placed ≡ true → IsProvided kinds k) → has_kind k (placed_next placed next) ≡ true → IsProvided kinds k
placed_case kinds placed None k next before has = before has
placed_case kinds placed (Some j) k next before has =
    ⊎_elim before
    (λ (last : has_kind k (j ∷ []) ≡ true).
    ⊎_elim (λ (here : j ≡ k). next k (ap Some here)) (λ (none : Contains [] k). absurd (none_there k none)) (cons_cases j [] k (has_there k (j ∷ []) last)))
    (or_cases (has_kind k placed) (has_kind k (j ∷ [])) (sym (list_any-append (λ i. i == k) placed (j ∷ [])) ∙ has))

placed_provided : (kinds : List Describe) (n k : ℕ) → has_kind k (placed_after kinds n) ≡ true → IsProvided kinds k
placed_provided kinds zero k has = absurd (false≢true has)
placed_provided kinds (suc n) k has =
    placed_case kinds (placed_after kinds n) (next_available kinds (placed_after kinds n)) k (λ j. next_provided kinds (placed_after kinds n) j) (λ before. placed_provided kinds n k before) has

order_provided : (kinds : List Describe) (k : ℕ) → has_kind k (order_of kinds) ≡ true → IsProvided kinds k
order_provided kinds k has = placed_provided kinds (length kinds) k has

-- A kind of which there are works has some at home at the start.

abbrev zeros : ℕ → List ℕ
zeros n = replicate n 0

abbrev number_of : ℕ → List ℕ → ℕ
number_of kind works = length (filter (λ w. w == kind) works)

number_case : (kind w : ℕ) (ws : List ℕ) (here : Bool) → (w == kind) ≡ here → Contains (w ∷ ws) kind → (Contains ws kind → 0 < number_of kind ws) → 0 < length (cond here (w ∷ filter (λ v. v == kind) ws) (filter (λ v. v == kind) ws))
number_case kind w ws true is there later = omega arith
number_case kind w ws false is there later = ⊎_elim (λ (here : w ≡ kind). absurd (false≢true (sym is ∙ eq-eqb w kind here))) later (cons_cases w ws kind there)

number_some : (kind : ℕ) (works : List ℕ) → Contains works kind → 0 < number_of kind works
number_some kind [] there = absurd (none_there kind there)
number_some kind (w ∷ ws) there = number_case kind w ws (w == kind) refl there (λ later. number_some kind ws later)

zeros_some : (n : ℕ) → 0 < n → zeros n ≢ []
zeros_some zero some = absurd (omega (arith, some))
zeros_some (suc n) some = λ none. cc

module _ (works : List ℕ) where
  abbrev first_home : List ℕ → List (ℕ × List ℕ)
  first_home order = map (λ w. (w.0, zeros w.1)) (works_in works order)

  home_case : (kind k : ℕ) (ks : List ℕ) (here : Bool) → (k == kind) ≡ here → (here || has_kind kind ks) ≡ true → 0 < number_of kind works → (has_kind kind ks ≡ true → home_of kind (first_home ks) ≢ [])
      → option_map_or (λ (g : ℕ × List ℕ). g.1) (cond here (Some (k, zeros (number_of k works))) (find (λ g. g.0 == kind) (first_home ks))) [] ≢ []
  home_case kind k ks true is has some later = zeros_some (number_of k works) (subst (λ j. 0 < number_of j works) (sym (eqb-true k kind is)) some)
  home_case kind k ks false is has some later = later has

  home_some : (kind : ℕ) (order : List ℕ) → has_kind kind order ≡ true → 0 < number_of kind works → home_of kind (first_home order) ≢ []
  home_some kind [] has some = absurd (false≢true has)
  home_some kind (k ∷ ks) has some = home_case kind k ks (k == kind) refl has some (λ later. home_some kind ks later some)

module _ (image : Image) (kinds : List Describe) (works : List ℕ) (hardware : Hardware) (facts : List Fact) (staffed : IsStaffed kinds works) where
  abbrev o : Opening
  o = opening_with image kinds works hardware facts 1

  pub staffed_alone : IsAlone o
  staffed_alone =
      record {
        one = refl;
        staffed = λ kind has. home_some works kind (order_of kinds) has (number_some kind works ((staffed.each kind).1 (order_provided kinds kind has)));
      }

  -- what a session needs of a core that was just opened
  pub opened_alone : (chain : Chain) (core : Known) → IsOpened chain o core → LeavesFree core.opening core.history 1 × IsAlone core.opening
  opened_alone chain core opened = (
    subst (λ (x : Opening). LeavesFree x core.history 1) (sym opened.opening) (opened.free 1 (omega arith) (omega arith)),
    subst IsAlone (sym opened.opening) staffed_alone,
  )

-- One work of each kind.

abbrev provided : List Describe → List ℕ
provided kinds = map (λ (d : Describe). d.provides) kinds

provided_there : (kinds : List Describe) (k : ℕ) → Contains (provided kinds) k → IsProvided kinds k
provided_there [] k there = absurd (none_there k there)
provided_there (d ∷ ds) k there =
    ⊎_elim (λ (here : d.provides ≡ k). (d, first_there d ds, here)) (λ (later : Contains (provided ds) k). behind d ds k (provided_there ds k later)) (cons_cases d.provides (provided ds) k there)

there_provided : (kinds : List Describe) (k : ℕ) (e : Describe) → Contains kinds e → e.provides ≡ k → Contains (provided kinds) k
there_provided [] k e there is = absurd (none_there e there)
there_provided (d ∷ ds) k e there is =
    ⊎_elim (λ (here : d ≡ e). subst (λ j. Contains (d.provides ∷ provided ds) j) (ap (λ (x : Describe). x.provides) here ∙ is) (first_there d.provides (provided ds)))
    (λ (later : Contains ds e). later_there d.provides k (provided ds) (there_provided ds k e later is)) (cons_cases d ds e there)

pub staffed_each : (kinds : List Describe) → IsProvided kinds 11 → length kinds ≤ 11 → IsStaffed kinds (map (λ d. d.provides) kinds)
staffed_each kinds bound few = record { bound = bound; few = few; each = λ k. (provided_there kinds k, λ is. there_provided kinds k is.0 is.1 is.2) }
