-- The solution over all sets is one of each set.
use Rattle.std.proofs.Common.{ℕ, ◌≡◌, ◌<◌, ◌≤◌, ◌%◌, ◌==◌, ⊎_elim, Bool, true, false, if◌then◌else◌, List, Option, None, Some, length, get_or, refl, sym, ap, subst, ◌∙◌, arith}
use Rattle.std.proofs.lemmas.Bool.{cases_lt}
use Rattle.std.proofs.lemmas.List.{get_or-map, get_or_past, length-map}
use Rattle.wc_model.specs.declared.graphs.Step.{Step}
use Rattle.wc_model.specs.Cache.Ages.{Ages, Sets, IsSolution, IsMostPrecise, fetched, everywhere, accessed_in}
use Rattle.wc_model.specs.Program.Graphs.{LeadsIn}
use Rattle.wc_model.specs.Program.Reaching.{Reaches}
use Rattle.wc_model.specs.Program.Reaching.Reaches.{here, along}
use Rattle.wc_ages.specs.AgeLaws.{must_refl, must_trans, may_refl, may_trans}
use Rattle.wc_mustmay.specs.declared.one_set.Analysis.{Analysis}
use Rattle.wc_mustmay.specs.declared.one_set.Analysis.TheVariants.{Must, May}
use Rattle.wc_mustmay.specs.Inner.OneSet.{of_set, own_access, precise_of}

pub laws_refl : (analysis : Analysis) (a : Ages) → precise_of analysis a a
laws_refl Must a = must_refl a
laws_refl May a = may_refl a

pub laws_trans : (analysis : Analysis) (a b c : Ages) → precise_of analysis a b → precise_of analysis b c → precise_of analysis a c
laws_trans Must a b c ab bc = must_trans a b c ab bc
laws_trans May a b c ab bc = may_trans a b c ab bc

-- the line of the set that a node fetches
pub own_at : (sets s : ℕ) (access : List (Option ℕ)) (p : ℕ) → get_or (own_access sets s access) p None ≡ of_set sets s (get_or access p None)
own_at sets s access p = ⊎_elim
    (λ (within : p < length access). get_or-map (of_set sets s) access p None None within)
    (λ (past : length access ≤ p). get_or_past (own_access sets s access) p None (omega (arith, length-map access (of_set sets s))) ∙ sym (ap (of_set sets s) (get_or_past access p None past)))
    (cases_lt p (length access))

module _ (precise : Ages → Ages → Type 0) (accessed : Ages → ℕ → Ages) where
  by_test : (b : Bool) (line : ℕ) (a : Ages) → (if b then accessed a line else a) ≡ fetched precise accessed (if b then Some line else None) a
  by_test true line a = refl
  by_test false line a = refl

  fetch_apart : (sets s : ℕ) (x : Option ℕ) (a : Sets) → fetched (everywhere precise) (accessed_in accessed sets) x a s ≡ fetched precise accessed (of_set sets s x) (a s)
  fetch_apart sets s None a = refl
  fetch_apart sets s (Some line) a = by_test (s == line % sets) line (a s)

  fetch_own : (sets s : ℕ) (access : List (Option ℕ)) (p : ℕ) (a : Sets) → fetched (everywhere precise) (accessed_in accessed sets) (get_or access p None) a s ≡ fetched precise accessed (get_or (own_access sets s access) p None) (a s)
  fetch_own sets s access p a = fetch_apart sets s (get_or access p None) a ∙ sym (ap (λ (x : Option ℕ). fetched precise accessed x (a s)) (own_at sets s access p))

  module _ (sets : ℕ) (steps : List Step) (access : List (Option ℕ)) (start : ℕ) (first : Sets) where
    pub solves_apart : (solution : ℕ → Sets) → IsSolution (everywhere precise) (accessed_in accessed sets) steps access start first solution
        → (s : ℕ) → IsSolution precise accessed steps (own_access sets s access) start (first s) (λ p. solution p s)
    solves_apart solution solves s = record {
      begins = solves.begins s;
      along = λ t q among to. subst (λ (a : Ages). precise a (solution q s)) (fetch_own sets s access t.source (solution t.source)) (solves.along t q among to s);
    }

    pub most_together : (nodes : ℕ) (states : ℕ → ℕ → Ages) → ((s : ℕ) → IsMostPrecise precise accessed steps (own_access sets s access) start (first s) nodes (states s))
        → IsMostPrecise (everywhere precise) (accessed_in accessed sets) steps access start first nodes (λ p s. states s p)
    most_together nodes states most = record {
      solves = record {
        begins = λ s. (most s).solves.begins;
        along = λ t q among to s. subst (λ (a : Ages). precise a (states s q)) (sym (fetch_own sets s access t.source (λ z. states z t.source))) ((most s).solves.along t q among to);
      };
      least = λ other solves p within s. (most s).least (λ q. other q s) (solves_apart other solves s) p within;
    }

  -- where nothing is fetched the first state stays
  module _ (refl_of : (a : Ages) → precise a a) (trans : (a b c : Ages) → precise a b → precise b c → precise a c) (steps : List Step) (access : List (Option ℕ)) (start : ℕ) (first : Ages) (none : (p : ℕ) → get_or access p None ≡ None) where
    stays_below : (other : ℕ → Ages) → IsSolution precise accessed steps access start first other → (p : ℕ) → Reaches (LeadsIn steps) start p → precise first (other p)
    stays_below other solves p here = solves.begins
    stays_below other solves p (along {q} r before leads) =
        let t : Step = leads.0 in
        let less : precise (fetched precise accessed (get_or access t.source None) (other t.source)) (other r) = solves.along t r leads.1 leads.3 in
        let same : precise (other t.source) (other r) = subst (λ (x : Option ℕ). precise (fetched precise accessed x (other t.source)) (other r)) (none t.source) less in
        trans first (other q) (other r) (stays_below other solves q before) (subst (λ (n : ℕ). precise (other n) (other r)) leads.2 same)

    pub most_still : (nodes : ℕ) → ((p : ℕ) → p < nodes → Reaches (LeadsIn steps) start p) → IsMostPrecise precise accessed steps access start first nodes (λ _. first)
    most_still nodes reached = record {
      solves = record {
        begins = refl_of first;
        along = λ t q among to. subst (λ (x : Option ℕ). precise (fetched precise accessed x first) first) (sym (none t.source)) (refl_of first);
      };
      least = λ other solves p within. stays_below other solves p (reached p within);
    }
