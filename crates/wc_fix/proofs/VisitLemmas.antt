-- A node is looked at: what is brought along its steps.
use Rattle.std.proofs.Common.{ℕ, ◌≡◌, ◌≢◌, ◌<◌, ◌+◌, ◌⊎◌, inl, inr, ⊎_elim, Bool, false, List, [], ◌∷◌, Option, None, Some, IfSome, All, length, get_or, set, drop, refl, sym, ap, subst, ◌∙◌, arith, length-set, get_or-set_other}
use Rattle.std.specs.List.{Contains}
use Rattle.std.proofs.lemmas.Bool.{cases_eq}
use Rattle.std.proofs.lemmas.List.{at_drop_more}
use Rattle.std.proofs.lemmas.Option.{none-some, same_Some}
use Rattle.wc_model.specs.declared.graphs.Step.{Step}
use Rattle.wc_model.specs.Cache.Ages.{fetched}
use Rattle.wc_fix.specs.declared.lattice.Lattice.{Ghosts}
use Rattle.wc_fix.specs.Solved.{Alike, AllAlike}
use Rattle.wc_fix.specs.Inner.Queues.{Waits}
use Rattle.wc_fix.specs.Inner.Fixing.{state_at, Problem, after_of, IsAbove, IsFixing, IsVisit, IsAt, IsBrought, IsLeading}
use Rattle.wc_fix.proofs.RaisingLemmas.{waits_off, contains_head, contains_tail, contains_cons, contains_nothing, Grows, led_grows}

module _ {L : Type 0} (lat : Ghosts L) (refl_of : (a : lat.State) → lat.precise a a) (trans : (a b c : lat.State) → lat.precise a b → lat.precise b c → lat.precise a c) (keeps : (a b : lat.State) (line : ℕ) → lat.precise a b → lat.precise (lat.accessed a line) (lat.accessed b line)) where
  alike_both : (a b c : L) → Alike lat a b → Alike lat c b → Alike lat a c
  alike_both a b c ab cb = (sym cb.0 ∙ ab.0, sym cb.1 ∙ ab.1)

  above_through : (states : List (Option L)) (q : ℕ) (a : lat.State) (b : L) → lat.precise a (lat.state b) → IsAbove lat states (lat.state b) q → IsAbove lat states a q
  above_through states q a b less above = (above.0, above.1, trans a (lat.state b) (lat.state above.0) less above.2)

  -- a step of the node is followed
  pub follow : (problem : Problem L) (node : ℕ) (brought : L) (s : Step) (own : List Step) (q : ℕ) (states : List (Option L)) (waiting : List Bool) (new_states : List (Option L)) (new_waiting : List Bool)
      → s.target ≡ Some q → AllAlike lat brought states → Grows lat q brought states waiting new_states new_waiting
      → IsVisit lat problem node brought (s ∷ own) states waiting → IsVisit lat problem node brought own new_states new_waiting
  follow problem node brought s own q states waiting new_states new_waiting to alike grows visit =
      let old = visit.fixing in
      let begun = old.begun in
      let fits : Alike lat problem.first brought = alike_both problem.first begun.0 brought (old.same problem.start begun.0 begun.1) (alike problem.start begun.0 begun.1) in
      let closed : (t : Step) (r : ℕ) (a : L) → Contains problem.steps t → t.target ≡ Some r → state_at new_states t.source ≡ Some a
      → Waits new_waiting t.source ⊎ (((t.source ≡ node) × Contains own t) ⊎ IsAbove lat new_states (after_of lat problem t.source a) r) = λ t r a among target there.
      ⊎_elim (λ waits. inl waits) (λ (was : state_at states t.source ≡ Some a). ⊎_elim
      (λ (waits : Waits waiting t.source). inl (grows.kept t.source waits))
      (λ later. ⊎_elim
      (λ (left : (t.source ≡ node) × Contains (s ∷ own) t). ⊎_elim
      (λ (same : s ≡ t). ⊎_elim
      (λ (waits : Waits waiting node). inl (grows.kept t.source (subst (λ (n : ℕ). Waits waiting n) (sym left.0) waits)))
      (λ (held : (b : L) × (state_at states node ≡ Some b) × (after_of lat problem node b ≡ lat.state brought)).
      let value : held.0 ≡ a = same_Some held.0 a (sym held.1 ∙ ap (state_at states) (sym left.0) ∙ was) in
      let at : q ≡ r = same_Some q r (sym to ∙ ap (λ (x : Step). x.target) same ∙ target) in
      let is : lat.state brought ≡ after_of lat problem t.source a = sym held.2 ∙ ap (after_of lat problem node) value ∙ ap (λ (n : ℕ). after_of lat problem n a) (sym left.0) in
      inr (inr (subst (λ (n : ℕ). IsAbove lat new_states (after_of lat problem t.source a) n) at
      (subst (λ (x : lat.State). IsAbove lat new_states x q) is grows.reached))))
      visit.carried)
      (λ (other : Contains own t). inr (inl (left.0, other)))
      (contains_cons s own t left.1))
      (λ above. inr (inr (above_through new_states r (after_of lat problem t.source a) above.0 above.2 (grows.grown r above.0 above.1))))
      later)
      (old.closed t r a among target was))
      (grows.stays t.source a there) in
      record {
        fixing = record {
          counted = grows.counted ∙ old.counted;
          flagged = grows.flagged ∙ old.flagged;
          same = grows.same problem.first old.same fits;
          begun = above_through new_states problem.start (lat.state problem.first) begun.0 begun.2 (grows.grown problem.start begun.0 begun.1);
          least = λ other solves. grows.least other (old.least other solves) (visit.brings other solves s q (contains_head s own) to);
          known = λ p waits. ⊎_elim
              (λ (was : Waits waiting p). let a = old.known p was in let b = grows.grown p a.0 a.1 in (b.0, b.1))
              (λ (at : p ≡ q). (grows.reached.0, ap (state_at new_states) at ∙ grows.reached.1))
              (grows.newly p waits);
          closed = closed;
        };
        carried = ⊎_elim
            (λ (waits : Waits waiting node). inl (grows.kept node waits))
            (λ (held : (b : L) × (state_at states node ≡ Some b) × (after_of lat problem node b ≡ lat.state brought)).
            let now = grows.grown node held.0 held.1 in
            ⊎_elim
            (λ (waits : Waits new_waiting node). inl waits)
            (λ (was : state_at states node ≡ Some now.0). inr (now.0, now.1, ap (after_of lat problem node) (same_Some now.0 held.0 (sym was ∙ held.1)) ∙ held.2))
            (grows.stays node now.0 now.1))
            visit.carried;
        brings = λ other solves t r among. visit.brings other solves t r (contains_tail s own t among);
      }

  -- a step to the exit
  pub follow_out : (problem : Problem L) (node : ℕ) (brought : L) (s : Step) (own : List Step) (states : List (Option L)) (waiting : List Bool)
      → s.target ≡ None
      → IsVisit lat problem node brought (s ∷ own) states waiting → IsVisit lat problem node brought own states waiting
  follow_out problem node brought s own states waiting out visit =
      let old = visit.fixing in
      record {
        fixing = record {
          counted = old.counted;
          flagged = old.flagged;
          same = old.same;
          begun = old.begun;
          least = old.least;
          known = old.known;
          closed = λ t r a among target there. ⊎_elim
              (λ waits. inl waits)
              (λ later. ⊎_elim
              (λ (left : (t.source ≡ node) × Contains (s ∷ own) t). ⊎_elim
              (λ (same : s ≡ t). absurd (none-some r (sym out ∙ ap (λ (x : Step). x.target) same ∙ target)))
              (λ (other : Contains own t). inr (inl (left.0, other)))
              (contains_cons s own t left.1))
              (λ above. inr (inr above))
              later)
              (old.closed t r a among target there);
        };
        carried = visit.carried;
        brings = λ other solves t r among. visit.brings other solves t r (contains_tail s own t among);
      }

  pub leading_begins : (brought : L) (own : List Step) (states : List (Option L)) (waiting : List Bool) → AllAlike lat brought states
      → IsLeading lat brought own own states waiting states waiting
  leading_begins brought own states waiting same = record { counted = refl; flagged = refl; same = same; work = omega arith; visits = λ problem node visit. visit }

  bring : (target : Option ℕ) (brought : L) (s : Step) (all own : List Step) (states : List (Option L)) (waiting : List Bool) (now_states : List (Option L)) (now_waiting : List Bool) (new_states : List (Option L)) (new_waiting : List Bool)
      → s.target ≡ target → length waiting ≡ length states → IfSome target (λ q. q < length states)
      → IsBrought lat target brought now_states now_waiting new_states new_waiting
      → IsLeading lat brought all (s ∷ own) states waiting now_states now_waiting → IsLeading lat brought all own states waiting new_states new_waiting
  bring None brought s all own states waiting now_states now_waiting new_states new_waiting to flagged within is leading =
      let done : IsLeading lat brought all own states waiting now_states now_waiting = record {
        counted = leading.counted;
        flagged = leading.flagged;
        same = leading.same;
        work = leading.work;
        visits = λ problem node visit. follow_out problem node brought s own now_states now_waiting to (leading.visits problem node visit);
      } in
      subst (λ (ws : List Bool). IsLeading lat brought all own states waiting new_states ws) (sym is.1)
      (subst (λ (xs : List (Option L)). IsLeading lat brought all own states waiting xs now_waiting) (sym is.0) done)
  bring (Some q) brought s all own states waiting now_states now_waiting new_states new_waiting to flagged within is leading =
      let inside : q < length now_states = omega (arith, leading.counted, within) in
      let inside_too : q < length now_waiting = omega (arith, leading.flagged, flagged, within) in
      let grows = led_grows lat refl_of q brought now_states now_waiting new_states new_waiting inside inside_too is in
      record {
        counted = grows.counted ∙ leading.counted;
        flagged = grows.flagged ∙ leading.flagged;
        same = grows.same brought leading.same (refl, refl);
        work = omega (arith, grows.work, leading.work);
        visits = λ problem node visit. follow problem node brought s own q now_states now_waiting new_states new_waiting to leading.same grows (leading.visits problem node visit);
      }

  pub leads_more : (brought : L) (own : List Step) (i : ℕ) (d : Step) (states : List (Option L)) (waiting : List Bool) (now_states : List (Option L)) (now_waiting : List Bool) (new_states : List (Option L)) (new_waiting : List Bool)
      → i < length own → length waiting ≡ length states → All (λ s. IfSome s.target (λ q. q < length states)) own
      → IsBrought lat (get_or own i d).target brought now_states now_waiting new_states new_waiting
      → IsLeading lat brought own (drop i own) states waiting now_states now_waiting
      → IsLeading lat brought own (drop (i + 1) own) states waiting new_states new_waiting
  leads_more brought own i d states waiting now_states now_waiting new_states new_waiting within flagged targets is leading =
      let rest : drop i own ≡ get_or own i d ∷ drop (i + 1) own = at_drop_more (λ (xs : List Step). xs) own i d within in
      bring (get_or own i d).target brought (get_or own i d) own (drop (i + 1) own) states waiting now_states now_waiting new_states new_waiting refl flagged (targets i d within) is
      (subst (λ (xs : List Step). IsLeading lat brought own xs states waiting now_states now_waiting) rest leading)

  -- all steps of the node are followed
  pub visit_ends : (problem : Problem L) (node : ℕ) (brought : L) (states : List (Option L)) (waiting : List Bool)
      → IsVisit lat problem node brought [] states waiting → IsFixing lat problem states waiting (λ _. ⊥)
  visit_ends problem node brought states waiting visit =
      let old = visit.fixing in
      record {
        counted = old.counted;
        flagged = old.flagged;
        same = old.same;
        begun = old.begun;
        least = old.least;
        known = old.known;
        closed = λ t r a among target there. ⊎_elim
            (λ waits. inl waits)
            (λ later. ⊎_elim (λ (left : (t.source ≡ node) × Contains [] t). absurd (contains_nothing t left.1)) (λ above. inr (inr above)) later)
            (old.closed t r a among target there);
      }

  fetch_keeps : (x : Option ℕ) (a b : lat.State) → lat.precise a b → lat.precise (fetched lat.precise lat.accessed x a) (fetched lat.precise lat.accessed x b)
  fetch_keeps None a b less = less
  fetch_keeps (Some line) a b less = keeps a b line less

  -- the node no longer waits, and its steps are to be followed
  pub visit_begins : (problem : Problem L) (node : ℕ) (own : List Step) (its_line : Option ℕ) (held brought : L) (states : List (Option L)) (waiting : List Bool)
      → IsAt lat problem node own its_line → node < length waiting → state_at states node ≡ Some held → lat.state brought ≡ fetched lat.precise lat.accessed its_line (lat.state held)
      → IsFixing lat problem states waiting (λ _. ⊥) → IsVisit lat problem node brought own states (set waiting node false)
  visit_begins problem node own its_line held brought states waiting at within holds is old =
      let brings_that : after_of lat problem node held ≡ lat.state brought = ap (λ (x : Option ℕ). fetched lat.precise lat.accessed x (lat.state held)) at.fetches ∙ sym is in
      record {
        fixing = record {
          counted = old.counted;
          flagged = length-set waiting node false ∙ old.flagged;
          same = old.same;
          begun = old.begun;
          least = old.least;
          known = λ p waits. old.known p (waits_off waiting node p within waits).1;
          closed = λ t r a among target there. ⊎_elim
              (λ (waits : Waits waiting t.source). ⊎_elim
              (λ (here : t.source ≡ node). inr (inl (here, at.leave.all t among here)))
              (λ (apart : t.source ≢ node). inl (get_or-set_other waiting node t.source false false apart ∙ waits))
              (cases_eq t.source node))
              (λ later. ⊎_elim (λ (none : ⊥). absurd none) (λ above. inr (inr above)) later)
              (old.closed t r a among target there);
        };
        carried = inr (held, holds, brings_that);
        brings = λ other solves t r among target.
            let inside = at.leave.inside t among in
            let less : lat.precise (after_of lat problem node held) (fetched lat.precise lat.accessed (get_or problem.access node None) (other node)) = fetch_keeps (get_or problem.access node None) (lat.state held) (other node) (old.least other solves node held holds) in
            let along : lat.precise (fetched lat.precise lat.accessed (get_or problem.access node None) (other node)) (other r) = subst (λ (n : ℕ). lat.precise (fetched lat.precise lat.accessed (get_or problem.access n None) (other n)) (other r)) inside.1 (solves.along t r inside.0 target) in
            trans (lat.state brought) (fetched lat.precise lat.accessed (get_or problem.access node None) (other node)) (other r) (subst (λ (x : lat.State). lat.precise x (fetched lat.precise lat.accessed (get_or problem.access node None) (other node))) brings_that less) along;
      }
