-- What a complete exploration says: each reached position has a number, and the first fault is that of a number.
use Rattle.std.proofs.Common.{ℕ, zero, suc, ◌≡◌, ◌+◌, ◌<◌, ◌≤◌, inl, inr, ⊎_elim, Bool, List, [], ◌∷◌, Option, None, Some, length, refl, sym, ap, subst, ◌∙◌, arith}
use Rattle.std.specs.List.{AllZip, Contains, slice_get}
use Rattle.std.proofs.lemmas.Option.{none-some, same_Some, slice_get_within}
use Rattle.wc_base.specs.declared.faults.Fault.{Fault}
use Rattle.wc_model.proofs.Places.{contains_from_get, get_from_contains, get_within}
use Rattle.wc_model.specs.declared.elf_image.Image.{Image}
use Rattle.wc_model.specs.declared.flow_facts.Fact.{Fact}
use Rattle.wc_model.specs.Program.Graphs.{IsFirstFault, IsSound, IsTargetOf, IsTooLarge}
use Rattle.wc_model.specs.Program.Positions.{Position, start_of}
use Rattle.wc_model.specs.Program.Reaching.{Reaches, here, along, Ends, exits, onward}
use Rattle.wc_model.specs.Program.Steps.{Step, LeadsBy, fault_at, steps_of}
use Rattle.wc_graph.specs.declared.faults.Faulty.{Faulty}
use Rattle.wc_graph.specs.declared.frames.Frame.{Frame}
use Rattle.wc_graph.specs.declared.frames.Leap.{Leap}
use Rattle.wc_graph.specs.declared.frames.Place.{Place}
use Rattle.wc_graph.specs.Inner.Exploring.{Lands}
use Rattle.wc_graph.specs.Inner.Faults.{IsAmong, IsLeast}
use Rattle.wc_graph.specs.Inner.Frames.{IsAt}
use Rattle.wc_graph.specs.Inner.Lists.{Has, Inside}
use Rattle.wc_graph.specs.Inner.Orders.{Pairs}
use Rattle.wc_graph.specs.Inner.Searches.{IsSearchingOf}
use Rattle.wc_graph.specs.Inner.Sources.{AreSources, edges_from}
use Rattle.wc_graph.specs.declared.sources.Sources.{Sources}
use Rattle.wc_graph.specs.Inner.Spreads.{IsMarked, Spread, begins, goes, IsSpread}
use Rattle.wc_graph.proofs.SourceLemmas.{edge_leap, leap_edge}
use Rattle.wc_graph.proofs.WalkLemmas.{few_apart, zip_has}
use Rattle.wc_graph.proofs.ZipLemmas.{zip_left, zip_right, zip_length}

pub get_has : {X : Type 0} (xs : List X) (k : ℕ) (x : X) → slice_get xs k ≡ Some x → Has xs x
get_has [] k x at = absurd (none-some x at)
get_has (y ∷ xs) zero x at = inl (same_Some y x at)
get_has (y ∷ xs) (suc k) x at = inr (get_has xs k x at)

pub has_get : {X : Type 0} (xs : List X) (x : X) → Has xs x → (k : ℕ) × (slice_get xs k ≡ Some x)
has_get [] x has = absurd has
has_get (y ∷ xs) x (inl same) = (0, ap Some same)
has_get (y ∷ xs) x (inr later) = let deep = has_get xs x later in (suc deep.0, deep.1)

pub has_contains : {X : Type 0} (xs : List X) (x : X) → Has xs x → Contains xs x
has_contains xs x has = let at = has_get xs x has in contains_from_get xs at.0 x at.1

pub target_some : (ps : List Position) (o : Option ℕ) (t : Option Position) (r : Position) → t ≡ Some r → IsTargetOf ps o t → (j : ℕ) × (o ≡ Some j) × (slice_get ps j ≡ Some r)
target_some ps None t r to is = absurd (none-some r (sym is ∙ to))
target_some ps (Some j) t r to is = (j, refl, is.1 ∙ ap Some (same_Some is.0 r (sym is.2 ∙ to)))

pub target_none : (ps : List Position) (o : Option ℕ) (t : Option Position) → t ≡ None → IsTargetOf ps o t → o ≡ None
target_none ps None t to is = refl
target_none ps (Some j) t to is = absurd (none-some is.0 (sym to ∙ is.2))

some_target : (ps : List Position) (o : Option ℕ) (t : Option Position) (j : ℕ) (r : Position) → o ≡ Some j → slice_get ps j ≡ Some r → IsTargetOf ps o t → t ≡ Some r
some_target ps None t j r to at is = absurd (none-some j to)
some_target ps (Some i) t j r to at is = is.2 ∙ sym is.1 ∙ ap (slice_get ps) (same_Some i j to) ∙ at

none_target : (ps : List Position) (o : Option ℕ) (t : Option Position) → o ≡ None → IsTargetOf ps o t → t ≡ None
none_target ps None t to is = is
none_target ps (Some i) t to is = absurd (none-some i (sym to))

module _ (image : Image) (facts : List Fact) (entry : ℕ) (frames : List Frame) (places : List Place) (leaps : List (List Leap)) (least : Option Faulty) (s : IsSearchingOf image facts entry frames places leaps least) (few : length places ≤ 100000) (all : length places ≤ length leaps) where
  abbrev steps : Position → List Step
  steps = steps_of image facts entry

  abbrev ps : List Position
  ps = s.ps

  count : length places ≡ length ps
  count = zip_length (IsAt entry frames) places ps s.found.placed

  -- a step of a position, by its number
  pub record HasLeap (k : ℕ) (t : Step) : Type 0 where
    pub own : List Leap
    pub at : slice_get leaps k ≡ Some own
    pub leap : Leap
    pub among : Has own leap
    pub lands : Lands ps leap t

  pub step_leap : (k : ℕ) (p : Position) (t : Step) → slice_get ps k ≡ Some p → Contains (steps p) t → HasLeap k t
  step_leap k p t at among =
      let less : k < length ps = slice_get_within ps k p at in
      let v = get_within leaps k (omega (arith, less, count, all)) in
      let place = get_from_contains (steps p) t among in
      let lands = zip_left (Lands ps) v.0 (steps p) place.0 t (s.expanded k v.0 p v.1 at) place.1 in
      record { own = v.0; at = v.1; leap = lands.0; among = get_has v.0 place.0 lands.0 lands.1; lands = lands.2 }

  pub record IsLeapStep (p : Position) (leap : Leap) : Type 0 where
    pub step : Step
    pub among : Contains (steps p) step
    pub lands : Lands ps leap step

  pub leap_step : (k : ℕ) (p : Position) (own : List Leap) (leap : Leap) → slice_get ps k ≡ Some p → slice_get leaps k ≡ Some own → Has own leap → IsLeapStep p leap
  leap_step k p own leap at at_own among =
      let place = has_get own leap among in
      let lands = zip_right (Lands ps) own (steps p) place.0 leap (s.expanded k own p at_own at) place.1 in
      record { step = lands.0; among = contains_from_get (steps p) place.0 lands.0 lands.1; lands = lands.2 }

  -- each reached position has a number
  pub every : (p : Position) → Reaches (LeadsBy steps) (start_of entry) p → (k : ℕ) × (slice_get ps k ≡ Some p)
  every p here = (0, s.found.first)
  every p (along {q} r way leads) =
      let from = every q way in
      let leap = step_leap from.0 q leads.0 from.1 leads.1 in
      let target = target_some ps leap.leap.target leads.0.target r leads.2 leap.lands.target in
      (target.0, target.2)

  every_of : (xs : List Position) → ((p : Position) → Has xs p → Reaches (LeadsBy steps) (start_of entry) p) → (ks : List ℕ) × AllZip (λ k p. slice_get ps k ≡ Some p) ks xs
  every_of [] reached = ([], tt)
  every_of (x ∷ xs) reached =
      let first = every x (reached x (inl refl)) in
      let rest = every_of xs (λ p has. reached p (inr has)) in
      (first.0 ∷ rest.0, (first.1, rest.1))

  apart_pairs : (xs : List Position) → ((i j : ℕ) (p : Position) → slice_get xs i ≡ Some p → slice_get xs j ≡ Some p → i ≡ j) → Pairs (λ p q. p ≡ q → ⊥) xs
  apart_pairs [] apart = tt
  apart_pairs (x ∷ xs) apart = (
    λ y has same. let at = has_get xs y has in let zero_of : 0 ≡ suc at.0 = apart 0 (suc at.0) y (ap Some same) at.1 in absurd (omega arith),
    apart_pairs xs (λ i j p at_i at_j. let one : suc i ≡ suc j = apart (suc i) (suc j) p at_i at_j in omega arith),
  )

  numbers_apart : (ks : List ℕ) (xs : List Position) → AllZip (λ k p. slice_get ps k ≡ Some p) ks xs → Pairs (λ p q. p ≡ q → ⊥) xs → Pairs (λ j k. j ≡ k → ⊥) ks
  numbers_apart [] xs zip pairs = tt
  numbers_apart (k ∷ ks) [] zip pairs = absurd zip
  numbers_apart (k ∷ ks) (x ∷ xs) zip pairs = (
    λ j has same.
        let other = zip_has (λ i p. slice_get ps i ≡ Some p) ks xs j zip.1 has in
        pairs.0 other.0 other.1 (same_Some x other.0 (sym zip.0 ∙ ap (slice_get ps) same ∙ other.2)),
    numbers_apart ks xs zip.1 pairs.1,
  )

  pub not_many : IsTooLarge image facts entry → ⊥
  not_many large =
      let numbers = every_of large.many (λ p has. large.reached p (has_contains large.many p has)) in
      let inside : Inside (length ps) numbers.0 = λ k has. let at = zip_has (λ i p. slice_get ps i ≡ Some p) numbers.0 large.many k numbers.1 has in slice_get_within ps k at.0 at.2 in
      let most : length numbers.0 ≤ length ps = few_apart numbers.0 (length ps) (numbers_apart numbers.0 large.many numbers.1 (apart_pairs large.many large.apart)) inside in
      let long : length numbers.0 ≡ length large.many = zip_length (λ i p. slice_get ps i ≡ Some p) numbers.0 large.many numbers.1 in
      omega (arith, most, long, large.count, few, count)

  -- the first fault
  pub sound : least ≡ None → IsSound image facts entry
  sound none p reached = by (fault_at image facts entry p) refl
    where
      at : (k : ℕ) × (slice_get ps k ≡ Some p)
      at = every p reached

      empty : s.faults ≡ []
      empty = subst (IsLeast s.faults) none s.is_least

      by : (o : Option Fault) → fault_at image facts entry p ≡ o → o ≡ None
      by None is = refl
      by (Some fault) is = absurd (subst (λ (fs : List Faulty). IsAmong fs (record { at = p.pc; fault = fault })) empty (s.faulty at.0 p fault (omega (arith, all, count, slice_get_within ps at.0 p at.1)) at.1 is))

  pub first_fault : (f : Faulty) → least ≡ Some f → IsFirstFault image facts entry f.fault
  first_fault f some =
      let is : IsLeast s.faults (Some f) = subst (IsLeast s.faults) some s.is_least in
      let from = s.from f is.0 in
      record {
        place = from.0;
        reached = from.1;
        faulty = from.2;
        first = λ p other reached faulty.
            let at = every p reached in
            let among = s.faulty at.0 p other (omega (arith, all, count, slice_get_within ps at.0 p at.1)) at.1 faulty in
            ⊎_elim
            (λ (less : f.at < p.pc). inl (omega (arith, less, from.3)))
            (λ same. inr (sym from.3 ∙ same.0, same.1))
            (is.1 (record { at = p.pc; fault = other }) among);
      }

  -- the positions from which the exit is reached
  module _ (sources : Sources) (are : AreSources (length leaps) (edges_from 0 leaps) sources) where
    ends_of : {k : ℕ} → Spread sources.into sources.exits.items k → (p : Position) → slice_get ps k ≡ Some p → Ends (LeadsBy steps) p
    ends_of (begins k has) p at =
        let leap = edge_leap 0 leaps k None ((are.exits k).0 has) in
        let at_own : slice_get leaps k ≡ Some leap.2.own = ap (slice_get leaps) (omega (arith, leap.1)) ∙ leap.2.at in
        let step = leap_step k p leap.2.own leap.2.leap at at_own leap.2.among in
        exits (step.step, step.among, none_target ps leap.2.leap.target step.step.target leap.2.to step.lands.target)
    ends_of (goes {k = j} k v way at_v has) p at =
        let leap = edge_leap 0 leaps k (Some j) ((are.into j v at_v k).0 has) in
        let at_own : slice_get leaps k ≡ Some leap.2.own = ap (slice_get leaps) (omega (arith, leap.1)) ∙ leap.2.at in
        let step = leap_step k p leap.2.own leap.2.leap at at_own leap.2.among in
        let inside : j < length ps = target_inside leap.2.leap.target step.step.target j leap.2.to step.lands.target in
        let q = get_within ps j inside in
        onward q.0 (step.step, step.among, some_target ps leap.2.leap.target step.step.target j q.0 leap.2.to q.1 step.lands.target) (ends_of way q.0 q.1)
      where
        target_inside : (o : Option ℕ) (t : Option Position) (j : ℕ) → o ≡ Some j → IsTargetOf ps o t → j < length ps
        target_inside None t j to is = absurd (none-some j to)
        target_inside (Some i) t j to is = subst (λ (n : ℕ). n < length ps) (same_Some i j to) (slice_get_within ps i is.0 is.1)

    numbered : (k : ℕ) (t : Option ℕ) → Has (edges_from 0 leaps) (0 + k, t) → Has (edges_from 0 leaps) (k, t)
    numbered k t has = subst (λ (i : ℕ). Has (edges_from 0 leaps) (i, t)) (omega arith) has

    spread_of : (p : Position) → Ends (LeadsBy steps) p → (k : ℕ) → slice_get ps k ≡ Some p → Spread sources.into sources.exits.items k
    spread_of p (exits leads) k at =
        let leap = step_leap k p leads.0 at leads.1 in
        begins k ((are.exits k).1 (numbered k None (leap_edge 0 leaps k None leap.own leap.leap leap.at leap.among (target_none ps leap.leap.target leads.0.target leads.2 leap.lands.target))))
    spread_of p (onward r leads ends) k at =
        let leap = step_leap k p leads.0 at leads.1 in
        let target = target_some ps leap.leap.target leads.0.target r leads.2 leap.lands.target in
        let way : Spread sources.into sources.exits.items target.0 = spread_of r ends target.0 target.2 in
        let less : target.0 < length leaps = omega (arith, all, count, slice_get_within ps target.0 r target.2) in
        let v = get_within sources.into target.0 (omega (arith, less, are.counted)) in
        goes k v.0 way v.1 ((are.into target.0 v.0 v.1 k).1 (numbered k (Some target.0) (leap_edge 0 leaps k (Some target.0) leap.own leap.leap leap.at leap.among target.1)))

    -- marks are those of the positions from which the exit is reached
    pub live_marks : (marks : List Bool) → IsSpread sources.into sources.exits.items marks → (k : ℕ) (p : Position) → slice_get ps k ≡ Some p → (IsMarked marks k → Ends (LeadsBy steps) p) × (Ends (LeadsBy steps) p → IsMarked marks k)
    live_marks marks is k p at = (λ marked. ends_of ((is.is k).0 marked) p at, λ ends. (is.is k).1 (spread_of p ends k at))
