-- May from an empty cache has a most precise solution, and so flags.
use Rattle.std.proofs.Common.{ℕ, zero, suc, ◌≡◌, ◌<◌, ◌≤◌, ◌+◌, ⊎_elim, min, List, Option, None, Some, get_or, refl, sym, subst, arith}
use Rattle.std.specs.List.{Contains}
use Rattle.std.proofs.lemmas.Bool.{cases_lt}
use Rattle.std.proofs.lemmas.Bool.Decides.{nat_tests}
use Rattle.wc_ages.specs.AgeLaws.{may_refl, may_trans, may_keeps}
use Rattle.wc_model.specs.declared.graphs.Step.{Step}
use Rattle.wc_model.specs.Cache.Ages.{Ages, IsSolution, IsMostPrecise, MayPrecise, aged, fetched, may_accessed, no_lines}
use Rattle.wc_model.specs.Program.Graphs.{LeadsIn}
use Rattle.wc_model.specs.Program.Reaching.{Reaches}
use Rattle.wc_model.specs.Program.Reaching.Reaches.{here, along}
use Rattle.wc_laws.proofs.FallingAges.{Table, above_lines, absent_stays, brought, held, lowest, lowest_each, lowest_falls, lowest_most, total, total_less, total_same}

-- Fetches.

abbrev after : Option ℕ → Ages → Ages
after x a = fetched MayPrecise may_accessed x a

after_keeps : (x : Option ℕ) (a b : Ages) → MayPrecise a b → MayPrecise (after x a) (after x b)
after_keeps None a b less = less
after_keeps (Some line) a b less = may_keeps a b line less

after_ways : (x : Option ℕ) (a : Ages) → (after x a).ways ≡ a.ways
after_ways None a = refl
after_ways (Some line) a = refl

aged_none : (ways line y : ℕ) → aged (min (ways + 1) ways) (λ _. ways) line y ≤ ways
aged_none ways line y = grind (arith, nat_tests)

after_none : (ways : ℕ) (x : Option ℕ) → MayPrecise (no_lines ways) (after x (no_lines ways))
after_none ways None = may_refl (no_lines ways)
after_none ways (Some line) = (refl, λ y. aged_none ways line y)

-- One set.
module _ (nodes ways : ℕ) (steps : List Step) (access : List (Option ℕ)) (start : ℕ) (reached : (p : ℕ) → p < nodes → Reaches (LeadsIn steps) start p) (sources : (s : Step) → Contains steps s → s.source < nodes) where
  abbrev Solves : (ℕ → Ages) → Type 0
  Solves other = IsSolution MayPrecise may_accessed steps access start (no_lines ways) other

  none_below : (other : ℕ → Ages) → Solves other → (p : ℕ) → Reaches (LeadsIn steps) start p → MayPrecise (no_lines ways) (other p)
  none_below other solves p here = solves.begins
  none_below other solves p (along {q} r before leads) =
      let t : Step = leads.0 in
      let x : Option ℕ = get_or access t.source None in
      let first : MayPrecise (no_lines ways) (other t.source) = subst (λ (n : ℕ). MayPrecise (no_lines ways) (other n)) (sym leads.2) (none_below other solves q before) in
      let later : MayPrecise (after x (no_lines ways)) (other r) =
      may_trans (after x (no_lines ways)) (after x (other t.source)) (other r) (after_keeps x (no_lines ways) (other t.source) first) (solves.along t r leads.1 leads.3) in
      may_trans (no_lines ways) (after x (no_lines ways)) (other r) (after_none ways x) later

  -- all that a round keeps
  record IsFalling (ages : Table) : Type 0 where
    capped : (p y : ℕ) → ages p y ≤ ways
    absent : (p y : ℕ) → above_lines access ≤ y → ways ≤ ages p y
    above : (other : ℕ → Ages) → Solves other → (p : ℕ) → p < nodes → (y : ℕ) → (other p).age y ≤ ages p y

  abbrev round : Table → Table
  round ages q y = lowest ways access ages q y steps

  abbrev rank : Table → ℕ
  rank ages = total (λ p. total (ages p) (above_lines access)) nodes

  -- no step brings a smaller age
  abbrev IsClosed : Table → Type 0
  IsClosed ages = (s : Step) (q : ℕ) → Contains steps s → s.target ≡ Some q → q < nodes → (y : ℕ) → ages q y ≤ brought ways access ages s y

  begins : IsFalling (λ _ _. ways)
  begins = record {
    capped = λ p y. omega arith;
    absent = λ p y high. omega arith;
    above = λ other solves p within y. (none_below other solves p (reached p within)).1 y;
  }

  falls : (ages : Table) → IsFalling ages → IsFalling (round ages)
  falls ages is = record {
    capped = λ p y. omega (arith, lowest_falls ways access ages p y steps, is.capped p y);
    absent = λ p y high. lowest_most ways access ways ages p y steps (is.absent p y high) (λ s among to. absent_stays ways access ages s y ways high (is.absent s.source y high));
    above = λ other solves p within y. lowest_most ways access ((other p).age y) ages p y steps (is.above other solves p within y) (λ s among to.
        let known : s.source < nodes = sources s among in
        let low : MayPrecise (held ways ages s.source) (other s.source) = ((none_below other solves s.source (reached s.source known)).0, is.above other solves s.source known) in
        let next = after_keeps (get_or access s.source None) (held ways ages s.source) (other s.source) low in
        omega (arith, next.1 y, (solves.along s p among to).1 y));
  }

  closes : (ages : Table) → IsFalling ages → rank ages ≤ rank (round ages) → IsClosed ages
  closes ages is same s q among to within y = ⊎_elim
      (λ (occurs : y < above_lines access). omega (arith, inner occurs, lowest_each ways access ages q y steps s among to))
      (λ (high : above_lines access ≤ y). omega (arith, is.capped q y, absent_stays ways access ages s y ways high (is.absent s.source y high)))
      (cases_lt y (above_lines access))
    where
      each : (p k : ℕ) → round ages p k ≤ ages p k
      each p k = lowest_falls ways access ages p k steps

      row : total (ages q) (above_lines access) ≤ total (round ages q) (above_lines access)
      row = total_same (λ p. total (ages p) (above_lines access)) (λ p. total (round ages p) (above_lines access)) nodes
          (λ p _. total_less (ages p) (round ages p) (above_lines access) (λ k _. each p k)) same q within

      inner : y < above_lines access → ages q y ≤ round ages q y
      inner occurs = total_same (ages q) (round ages q) (above_lines access) (λ k _. each q k) row y occurs

  ends : (left : ℕ) (ages : Table) → rank ages ≤ left → IsFalling ages → (last : Table) × IsFalling last × IsClosed last
  ends zero ages room is = (ages, is, closes ages is (omega (arith, room)))
  ends (suc left) ages room is = ⊎_elim
      (λ (less : rank (round ages) < rank ages). ends left (round ages) (omega (arith, room, less)) (falls ages is))
      (λ (same : rank ages ≤ rank (round ages)). (ages, is, closes ages is same))
      (cases_lt (rank (round ages)) (rank ages))

  module _ (targets : (s : Step) (q : ℕ) → Contains steps s → s.target ≡ Some q → q < nodes) where
    pub may_exists : (states : ℕ → Ages) × IsMostPrecise MayPrecise may_accessed steps access start (no_lines ways) nodes states
    may_exists =
        let found = ends (rank (λ _ _. ways)) (λ _ _. ways) (omega arith) begins in
        let last : Table = found.0 in (
          held ways last,
          record {
            solves = record {
              begins = (refl, λ y. found.1.capped start y);
              along = λ s q among to. (after_ways (get_or access s.source None) (held ways last s.source), λ y. found.2 s q among to (targets s q among to) y);
            };
            least = λ other solves p within. ((none_below other solves p (reached p within)).0, found.1.above other solves p within);
          },
        )
