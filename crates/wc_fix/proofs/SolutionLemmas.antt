-- How the search begins, and that it ends with the most precise solution.
use Rattle.std.proofs.Common.{ℕ, ◌≡◌, ◌≢◌, ◌<◌, inl, ⊎_elim, Bool, true, false, List, Option, None, Some, IfSome, All, length, get_or, set, replicate, sym, ap, subst, ◌∙◌, arith, length-set, get_or-set_same, get_or-set_other}
use Rattle.std.specs.List.{Contains, sum_by}
use Rattle.std.proofs.lemmas.Bool.{cases_eq, false≢true}
use Rattle.std.proofs.lemmas.List.{length-replicate}
use Rattle.std.proofs.lemmas.List.Elements.{All-contains, All-contains_itself, All-weaker}
use Rattle.std.proofs.lemmas.List.Sums.{sum_by-set}
use Rattle.std.proofs.lemmas.Option.{none-some, same_Some}
use Rattle.wc_model.specs.declared.graphs.Step.{Step}
use Rattle.wc_model.specs.Cache.Ages.{fetched}
use Rattle.wc_model.specs.Flow.Ends.{step_ends}
use Rattle.wc_model.specs.Flow.Walks.{AreStepsOf}
use Rattle.wc_model.specs.Program.Graphs.{LeadsIn}
use Rattle.wc_model.specs.Program.Reaching.{Reaches}
use Rattle.wc_model.specs.Program.Reaching.Reaches.{here, along}
use Rattle.wc_fix.specs.declared.lattice.Lattice.{Ghosts}
use Rattle.wc_fix.specs.Solved.{Alike, IsSolved}
use Rattle.wc_fix.specs.Inner.Queues.{Waits, IsTaken}
use Rattle.wc_fix.specs.Inner.Fixing.{state_at, flag, work_left, Problem, after_of, IsAbove, IsFixing, IsReady}
use Rattle.wc_fix.proofs.RaisingLemmas.{waits_set, waits_news, waits_within, nothing_there, no_flag, or_first}

module _ {L : Type 0} (lat : Ghosts L) (refl_of : (a : lat.State) → lat.precise a a) (trans : (a b c : lat.State) → lat.precise a b → lat.precise b c → lat.precise a c) (keeps : (a b : lat.State) (line : ℕ) → lat.precise a b → lat.precise (lat.accessed a line) (lat.accessed b line)) where
  -- a node that waited can be looked at
  pub ready : (problem : Problem L) (states : List (Option L)) (before waiting : List Bool) (node : ℕ) (own : List Step) → IsFixing lat problem states before (λ _. ⊥) → IsTaken node before waiting
      → AreStepsOf step_ends problem.steps node own → All (λ s. IfSome s.target (λ q. q < problem.nodes)) problem.steps → length problem.access ≡ problem.nodes → All (λ x. IfSome x (λ line. line < lat.lines problem.first)) problem.access
      → IsReady lat states waiting node own (get_or problem.access node None)
  ready problem states before waiting node own fixing taken leave targets count fit =
      let a = fixing.known node taken.0 in
      let alike : Alike lat problem.first a.0 = fixing.same node a.0 a.1 in
      let inside_before : node < length before = waits_within before node taken.0 in
      let within : node < length problem.access = omega (arith, fixing.flagged, inside_before, count) in
      let inside : (s : Step) → Contains own s → IfSome s.target (λ q. q < length states) = λ s among.
      subst (λ (n : ℕ). IfSome s.target (λ q. q < n)) (sym fixing.counted) (All-contains (λ (t : Step). IfSome t.target (λ q. q < problem.nodes)) problem.steps s targets (leave.inside s among).0) in
      record {
        counted = ap length taken.1 ∙ length-set before node false ∙ fixing.flagged ∙ sym fixing.counted;
        within = omega (arith, inside_before, fixing.flagged, fixing.counted);
        held = a.0;
        holds = a.1;
        fits = subst (λ (n : ℕ). IfSome (get_or problem.access node None) (λ line. line < n)) (sym alike.1) (fit node None within);
        same = λ p b there. let other = fixing.same p b there in (other.0 ∙ sym alike.0, other.1 ∙ sym alike.1);
        targets = All-weaker (Contains own) (λ (s : Step). IfSome s.target (λ q. q < length states)) inside own (All-contains_itself own);
      }

  -- one node less waits
  pub less_left : (states : List (Option L)) (before waiting : List Bool) (node : ℕ) → IsTaken node before waiting → work_left lat states waiting < work_left lat states before
  less_left states before waiting node taken =
      let within : node < length before = waits_within before node taken.0 in
      let less = sum_by-set flag before node false false within in
      omega (arith, less, ap flag taken.0, ap (sum_by flag) taken.1)

  -- at first the start alone has a state, and waits
  pub fixing_begins : (problem : Problem L) → problem.start < problem.nodes
      → IsFixing lat problem (set (replicate problem.nodes None) problem.start (Some problem.first)) (set (replicate problem.nodes false) problem.start true) (λ _. ⊥)
  fixing_begins problem inside =
      let start : ℕ = problem.start in
      let nothing : List (Option L) = replicate problem.nodes None in
      let none_waits : List Bool = replicate problem.nodes false in
      let states : List (Option L) = set nothing start (Some problem.first) in
      let waiting : List Bool = set none_waits start true in
      let within : start < length nothing = omega (arith, length-replicate problem.nodes (let x : Option L = None in x)) in
      let flagged : start < length none_waits = omega (arith, length-replicate problem.nodes false) in
      let here : state_at states start ≡ Some problem.first = get_or-set_same nothing start (Some problem.first) None within in
      let only : (p : ℕ) (a : L) → state_at states p ≡ Some a → (p ≡ start) × (a ≡ problem.first) = λ p a there. ⊎_elim
      (λ (same : p ≡ start). (same, same_Some a problem.first (sym there ∙ ap (state_at states) same ∙ here)))
      (λ (apart : p ≢ start). absurd (none-some a (sym (nothing_there problem.nodes p) ∙ sym (get_or-set_other nothing start p (Some problem.first) None apart) ∙ there)))
      (cases_eq p start) in
      record {
        counted = length-set nothing start (Some problem.first) ∙ length-replicate problem.nodes None;
        flagged = length-set none_waits start true ∙ length-replicate problem.nodes false;
        same = λ p a there. (ap lat.shape (only p a there).1, ap lat.lines (only p a there).1);
        begun = (problem.first, here, refl_of (lat.state problem.first));
        least = λ other solves p a there. let at = only p a there in
            subst (λ (x : L). lat.precise (lat.state x) (other p)) (sym at.1) (subst (λ (n : ℕ). lat.precise (lat.state problem.first) (other n)) (sym at.0) solves.begins);
        known = λ p waits. ⊎_elim
            (λ (was : Waits none_waits p). absurd (false≢true (sym (no_flag problem.nodes p) ∙ was)))
            (λ (same : p ≡ start). (problem.first, ap (state_at states) same ∙ here))
            (waits_news none_waits start p waits);
        closed = λ t r a among target there. inl (subst (λ (n : ℕ). Waits waiting n) (sym (only t.source a there).0) (waits_set none_waits start flagged));
      }

  -- Nothing waits: the states are the most precise solution.
  module _ (problem : Problem L) (states : List (Option L)) (waiting : List Bool) (fixing : IsFixing lat problem states waiting (λ _. ⊥)) (idle : (p : ℕ) → get_or waiting p false ≡ false) where
    settled : (s : Step) (q : ℕ) (a : L) → Contains problem.steps s → s.target ≡ Some q → state_at states s.source ≡ Some a → IsAbove lat states (after_of lat problem s.source a) q
    settled s q a among to there = ⊎_elim
        (λ (waits : Waits waiting s.source). absurd (false≢true (sym (idle s.source) ∙ waits)))
        (λ later. ⊎_elim (λ (none : ⊥). absurd none) (λ above. above) later)
        (fixing.closed s q a among to there)

    has_state : (p : ℕ) → Reaches (LeadsIn problem.steps) problem.start p → (a : L) × (state_at states p ≡ Some a)
    has_state p here = (fixing.begun.0, fixing.begun.1)
    has_state p (along {q} r before leads) =
        let a = has_state q before in
        let s : Step = leads.0 in
        let above = settled s r a.0 leads.1 leads.3 (ap (state_at states) leads.2 ∙ a.1) in
        (above.0, above.1)

    found : ℕ → lat.State
    found p = lat.state (or_first problem.first (state_at states p))

    found_is : (p : ℕ) (a : L) → state_at states p ≡ Some a → found p ≡ lat.state a
    unfolding found
    found_is p a there = ap (λ (x : Option L). lat.state (or_first problem.first x)) there

    pub fixing_ends : ((p : ℕ) → p < problem.nodes → Reaches (LeadsIn problem.steps) problem.start p) → problem.start < problem.nodes → All (λ s. s.source < problem.nodes) problem.steps
        → IsSolved lat problem.nodes problem.steps problem.access problem.start problem.first states
    fixing_ends reached inside sources =
        let at_start = found_is problem.start fixing.begun.0 fixing.begun.1 in
        record {
          count = fixing.counted;
          solution = found;
          most = record {
            solves = record {
              begins = subst (λ (x : lat.State). lat.precise (lat.state problem.first) x) (sym at_start) fixing.begun.2;
              along = λ s q among to.
                  let a = has_state s.source (reached s.source (All-contains (λ (t : Step). t.source < problem.nodes) problem.steps s sources among)) in
                  let above = settled s q a.0 among to a.1 in
                  subst (λ (x : lat.State). lat.precise (fetched lat.precise lat.accessed (get_or problem.access s.source None) x) (found q)) (sym (found_is s.source a.0 a.1))
                  (subst (λ (x : lat.State). lat.precise (after_of lat problem s.source a.0) x) (sym (found_is q above.0 above.1)) above.2);
            };
            least = λ other solves p within.
                let a = has_state p (reached p within) in
                subst (λ (x : lat.State). lat.precise x (other p)) (sym (found_is p a.0 a.1)) (fixing.least other solves p a.0 a.1);
          };
          each = λ p within. let a = has_state p (reached p within) in (a.0, a.1, sym (found_is p a.0 a.1));
          same = fixing.same;
        }
