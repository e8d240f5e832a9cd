-- A depth-first search keeps what it knows, and at its end has an order of the reached nodes.
use Rattle.std.proofs.Common.{ℕ, zero, suc, ◌≡◌, ◌+◌, ◌-◌, ◌<◌, ◌≤◌, inl, inr, ⊎_elim, List, [], ◌∷◌, ◌++◌, Option, None, Some, length, set, replicate, sum_by, refl, sym, ap, subst, ◌∙◌, arith}
use Rattle.std.specs.List.{AllPairs, Contains, slice_get, slice_index}
use Rattle.std.proofs.lemmas.Bool.{cases_eq, cases_lt}
use Rattle.std.proofs.lemmas.List.{length-set, length-replicate, get_or-set_same, get_or-set_other}
use Rattle.std.proofs.lemmas.List.Elements.{All-contains, Contains-push, Contains-push_cases, Contains-append_left}
use Rattle.std.proofs.lemmas.List.Sums.{sum_by-set}
use Rattle.std.proofs.lemmas.Option.{none-some, same_Some, slice_get_within, get_or_from_slice_get}
use Rattle.wc_model.specs.declared.walks.search.Mark.{Mark}
use Rattle.wc_model.specs.declared.walks.search.Mark.TheVariants.{New, Open, Done}
use Rattle.wc_model.specs.Inner.Searches.{IsSearchOf, IsNextStep, weight}
use Rattle.wc_model.specs.Flow.Ends.{Ends}
use Rattle.wc_model.specs.Flow.Walks.{AreSteps, AreStarts, Joins, LeadsOn, IsOrdered, IsOrder}
use Rattle.wc_model.specs.Program.Reaching.{Reaches, here, along}
use Rattle.wc_model.proofs.Starting.{sorted_at}
use Rattle.wc_model.proofs.Places.{contains_from_get, get_within, get_from_contains, get_left, get_push, get_push_cases, get_set_cases, get_set, get_set_other}

new_mark : (n p : ℕ) (m : Mark) → slice_get (replicate n New) p ≡ Some m → m ≡ New
new_mark zero p m at = absurd (none-some m at)
new_mark (suc n) zero m at = sym (same_Some New m at)
new_mark (suc n) (suc p) m at = new_mark n p m at

only : (p q : ℕ) → Contains (p ∷ []) q → p ≡ q
only p q among = ⊎_elim (λ (none : Contains [] q). absurd (empty none)) (λ (same : p ≡ q). same) (Contains-push_cases [] p q among)
  where
    empty : Contains [] q → ⊥
    empty none = omega (arith, none.1)

single : (x p i : ℕ) → slice_get (x ∷ []) i ≡ Some p → (i ≡ 0) × (x ≡ p)
single x p zero at = (refl, same_Some x p at)
single x p (suc i) at = absurd (none-some p at)

-- fewer rounds are left
mark_weight : (marks : List Mark) (p : ℕ) (m n : Mark) → slice_get marks p ≡ Some m → sum_by weight (set marks p n) + weight m ≡ sum_by weight marks + weight n
mark_weight marks p m n at = ap (λ (x : Mark). sum_by weight (set marks p n) + weight x) (sym (get_or_from_slice_get marks p m m at)) ∙ sum_by-set weight marks p n m (slice_get_within marks p m at)

pub enter_falls : (marks : List Mark) (q rest : ℕ) → slice_get marks q ≡ Some New → sum_by weight (set marks q Open) + rest < sum_by weight marks + rest
enter_falls marks q rest at = let changes : sum_by weight (set marks q Open) + 2 ≡ sum_by weight marks + 1 = mark_weight marks q New Open at in omega arith

pub leave_falls : (marks : List Mark) (p rest : ℕ) → slice_get marks p ≡ Some Open → sum_by weight (set marks p Done) + rest < sum_by weight marks + rest
leave_falls marks p rest at = let changes : sum_by weight (set marks p Done) + 1 ≡ sum_by weight marks + 0 = mark_weight marks p Open Done at in omega arith

pub follow_falls : (next : List ℕ) (p total rest : ℕ) → p < length next → slice_index next p < total → rest + sum_by (λ place. total - place) (set next p (slice_index next p + 1)) < rest + sum_by (λ place. total - place) next
follow_falls next p total rest known short =
    let changes : sum_by (λ place. total - place) (set next p (slice_index next p + 1)) + (total - slice_index next p) ≡ sum_by (λ place. total - place) next + (total - (slice_index next p + 1)) = sum_by-set (λ (place : ℕ). total - place) next p (slice_index next p + 1) 0 known in
    omega arith

-- what each start reaches stands in an order that has the start
pub closed : (Leads : ℕ → Option ℕ → Type 0) (order : List ℕ) (p : ℕ) {q : ℕ} → IsOrdered Leads order → Contains order p → Reaches Leads p q → Contains order q
closed Leads order p ordered begun here = begun
closed Leads order p ordered begun (along {q = m} r way step) =
    let placed : (i : ℕ) × (slice_get order i ≡ Some m) = get_from_contains order m (closed Leads order p ordered begun way) in
    let found = ordered.earlier placed.0 m r placed.1 step in
    contains_from_get order found.0 r found.2

module _ {S : Type 0} (ends : S → Ends) where
  pub search_begin : (nodes : ℕ) (steps : List S) (starts : List ℕ) (start : ℕ) → AreSteps ends nodes steps → AreStarts ends (nodes + 1) steps starts → start < nodes → IsSearchOf ends steps start (set (replicate nodes New) start Open) starts (start ∷ []) []
  search_begin nodes steps starts start fine parts known =
      record {
        sized = omega (arith, parts.counted, counted);
        from = λ p i s known at later. parts.from p i s (omega (arith, known, counted)) at later;
        passed = λ i s q at low to. absurd (nothing_passed i s at low);
        path_open = λ p among. subst (λ (q : ℕ). slice_get (set (replicate nodes New) start Open) q ≡ Some Open) (only start p among) begins;
        open_path = λ p at. ⊎_elim (λ here. subst (λ (q : ℕ). Contains (start ∷ []) q) (sym here.0) (Contains-push [] start)) (λ other. absurd (fresh p Open other.1 (λ e. cc))) (get_set_cases (replicate nodes New) start p Open Open at);
        done_marked = λ p among. absurd (empty p among);
        marked_done = λ p at. ⊎_elim (λ here. cc) (λ other. absurd (fresh p Done other.1 (λ e. cc))) (get_set_cases (replicate nodes New) start p Open Done at);
        path_once = λ i j p ati atj. omega (arith, (single start p i ati).0, (single start p j atj).0);
        chain = λ i j p q le ati atj. subst (λ (r : ℕ). Reaches (Joins ends steps) r q) (single start p i ati).1 (subst (λ (r : ℕ). Reaches (Joins ends steps) start r) (single start q j atj).1 here);
        reached_path = λ p among. subst (λ (q : ℕ). Reaches (Joins ends steps) start q) (only start p among) here;
        reached_done = λ p among. absurd (empty p among);
        begun = inl (Contains-push [] start);
        ordered = record { once = λ i j p ati atj. absurd (none-some p ati); earlier = λ i r q at step. absurd (none-some r at) };
      }
    where
      counted : length (set (replicate nodes New) start Open) ≡ nodes
      counted = length-set (replicate nodes New) start Open ∙ length-replicate nodes New

      begins : slice_get (set (replicate nodes New) start Open) start ≡ Some Open
      begins = get_set (replicate nodes New) start Open (omega (arith, length-replicate nodes New))

      fresh : (p : ℕ) (m : Mark) → slice_get (replicate nodes New) p ≡ Some m → (m ≡ New → ⊥) → ⊥
      fresh p m at other = other (new_mark nodes p m at)

      empty : (q : ℕ) → Contains [] q → ⊥
      empty q none = omega (arith, none.1)

      nothing_passed : (i : ℕ) (s : S) → slice_get steps i ≡ Some s → i < slice_index starts (ends s).source → ⊥
      nothing_passed i s at low =
          let known : (ends s).source < nodes = All-contains (λ (t : S). (ends t).source < nodes) steps s fine.sources (contains_from_get steps i s at) in
          let before : (ends s).source < (ends s).source = parts.below (ends s).source i s (omega arith) at low in
          omega arith

  -- where the step at a place doesn't leave a node, all steps of the node stand before it
  all_followed : (steps : List S) (p place k : ℕ) (s : S) → AllPairs (λ s t. (ends s).source ≤ (ends t).source) steps → IsNextStep ends steps p place None → ((i : ℕ) (t : S) → slice_get steps i ≡ Some t → place ≤ i → p ≤ (ends t).source) → slice_get steps k ≡ Some s → (ends s).source ≡ p → k < place
  all_followed steps p place k s sorted finished from stands at = ⊎_elim (λ (before : k < place). before) (λ (later : place ≤ k). absurd (never later)) (cases_lt k place)
    where
      never : place ≤ k → ⊥
      never later =
          let found : (t : S) × (slice_get steps place ≡ Some t) = get_within steps place (omega (arith, slice_get_within steps k s stands)) in
          let low : p ≤ (ends found.0).source = from place found.0 found.1 (omega arith) in
          let high : (ends found.0).source ≤ (ends s).source = sorted_at ends steps place k found.0 s sorted found.1 stands later in
          finished found.0 found.1 (omega arith)

  -- the last open node
  module _ (steps : List S) (start : ℕ) (marks : List Mark) (next path done : List ℕ) (p : ℕ) (search : IsSearchOf ends steps start marks next path done) (last : slice_get path (length path - 1) ≡ Some p) where
    on_path : Contains path p
    on_path = contains_from_get path (length path - 1) p last

    pub last_open : slice_get marks p ≡ Some Open
    last_open = search.path_open p on_path

    pub last_known : p < length marks
    last_known = slice_get_within marks p Open last_open

    reached : Reaches (Joins ends steps) start p
    reached = search.reached_path p on_path

    -- each open node reaches the last one
    reaches_last : (i q : ℕ) → slice_get path i ≡ Some q → Reaches (Joins ends steps) q p
    reaches_last i q at = search.chain i (length path - 1) q p (omega (arith, slice_get_within path i q at)) at last

    pub cycle_found : (s : S) (q : ℕ) → Contains steps s → (ends s).source ≡ p → (ends s).target ≡ Some q → slice_get marks q ≡ Some Open → Reaches (Joins ends steps) start q × LeadsOn (Joins ends steps) q q
    cycle_found s q among at to marked =
        let placed : (i : ℕ) × (slice_get path i ≡ Some q) = get_from_contains path q (search.open_path q marked) in
        (along q reached (s, among, at, to), (p, reaches_last placed.0 q placed.1, (s, among, at, to)))

    pub enters : (s : S) (q : ℕ) → Contains steps s → (ends s).source ≡ p → (ends s).target ≡ Some q → slice_get marks q ≡ Some New → IsSearchOf ends steps start (set marks q Open) next (path ++ q ∷ []) done
    enters s q among at to new =
        record {
          sized = omega (arith, search.sized, length-set marks q Open);
          from = λ r i t known here later. search.from r i t (omega (arith, length-set marks q Open)) here later;
          passed = λ i t r here before leads. kept Done r (search.passed i t r here before leads) (λ (e : Done ≡ New). cc);
          path_open = λ r within. ⊎_elim
              (λ (old : Contains path r). kept Open r (search.path_open r old) (λ (e : Open ≡ New). cc))
              (λ (same : q ≡ r). subst (λ (x : ℕ). slice_get (set marks q Open) x ≡ Some Open) same (get_set marks q Open known))
              (Contains-push_cases path q r within);
          open_path = λ r marked. ⊎_elim
              (λ here. subst (λ (x : ℕ). Contains (path ++ q ∷ []) x) (sym here.0) (Contains-push path q))
              (λ other. Contains-append_left path (q ∷ []) r (search.open_path r other.1))
              (get_set_cases marks q r Open Open marked);
          done_marked = λ r within. kept Done r (search.done_marked r within) (λ (e : Done ≡ New). cc);
          marked_done = λ r marked. ⊎_elim (λ here. cc) (λ other. search.marked_done r other.1) (get_set_cases marks q r Open Done marked);
          path_once = λ i j r ati atj. ⊎_elim
              (λ oldi. ⊎_elim (λ oldj. search.path_once i j r oldi oldj) (λ newj. absurd (apart i r oldi newj.1)) (get_push_cases path q j r atj))
              (λ newi. ⊎_elim (λ oldj. absurd (apart j r oldj newi.1)) (λ newj. newi.0 ∙ sym newj.0) (get_push_cases path q j r atj))
              (get_push_cases path q i r ati);
          chain = λ i j r t le ati atj. ⊎_elim
              (λ oldj. ⊎_elim (λ oldi. search.chain i j r t le oldi oldj) (λ newi. absurd (omega (arith, slice_get_within path j t oldj, newi.0))) (get_push_cases path q i r ati))
              (λ newj. subst (λ (x : ℕ). Reaches (Joins ends steps) r x) newj.1 (⊎_elim (λ oldi. along q (reaches_last i r oldi) (s, among, at, to)) (λ newi. subst (λ (x : ℕ). Reaches (Joins ends steps) x q) newi.1 here) (get_push_cases path q i r ati)))
              (get_push_cases path q j t atj);
          reached_path = λ r within. ⊎_elim
              (λ (old : Contains path r). search.reached_path r old)
              (λ (same : q ≡ r). subst (λ (x : ℕ). Reaches (Joins ends steps) start x) same (along q reached (s, among, at, to)))
              (Contains-push_cases path q r within);
          reached_done = search.reached_done;
          begun = ⊎_elim (λ (old : Contains path start). inl (Contains-append_left path (q ∷ []) start old)) (λ (old : Contains done start). inr old) search.begun;
          ordered = search.ordered;
        }
      where
        known : q < length marks
        known = slice_get_within marks q New new

        kept : (m : Mark) (r : ℕ) → slice_get marks r ≡ Some m → (m ≡ New → ⊥) → slice_get (set marks q Open) r ≡ Some m
        kept m r marked other = get_set_other marks q r Open m (λ (e : r ≡ q). other (same_Some m New (sym marked ∙ ap (slice_get marks) e ∙ new))) marked

        apart : (i r : ℕ) → slice_get path i ≡ Some r → q ≡ r → ⊥
        apart i r stands same =
            let opened : slice_get marks r ≡ Some Open = search.path_open r (contains_from_get path i r stands) in
            cc

    pub leaves_with : (rest : List ℕ) → path ≡ rest ++ p ∷ [] → AllPairs (λ s t. (ends s).source ≤ (ends t).source) steps → IsNextStep ends steps p (slice_index next p) None → IsSearchOf ends steps start (set marks p Done) next rest (done ++ p ∷ [])
    leaves_with rest split sorted finished =
        record {
          sized = omega (arith, search.sized, length-set marks p Done);
          from = λ r i t known here later. search.from r i t (omega (arith, length-set marks p Done)) here later;
          passed = λ i t r here before leads. done_kept r (search.passed i t r here before leads);
          path_open = λ r within. get_set_other marks p r Done Open (λ e. apart r within (sym e)) (search.path_open r (in_path r within));
          open_path = λ r marked. ⊎_elim
              (λ here. cc)
              (λ other. ⊎_elim (λ (old : Contains rest r). old) (λ (same : p ≡ r). absurd (other.0 (sym same))) (Contains-push_cases rest p r (subst (λ (xs : List ℕ). Contains xs r) split (search.open_path r other.1))))
              (get_set_cases marks p r Done Open marked);
          done_marked = λ r within. ⊎_elim
              (λ (old : Contains done r). done_kept r (search.done_marked r old))
              (λ (same : p ≡ r). subst (λ (x : ℕ). slice_get (set marks p Done) x ≡ Some Done) same (get_set marks p Done last_known))
              (Contains-push_cases done p r within);
          marked_done = λ r marked. ⊎_elim
              (λ here. subst (λ (x : ℕ). Contains (done ++ p ∷ []) x) (sym here.0) (Contains-push done p))
              (λ other. Contains-append_left done (p ∷ []) r (search.marked_done r other.1))
              (get_set_cases marks p r Done Done marked);
          path_once = λ i j r ati atj. search.path_once i j r (at_path i r ati) (at_path j r atj);
          chain = λ i j r t le ati atj. search.chain i j r t le (at_path i r ati) (at_path j t atj);
          reached_path = λ r within. search.reached_path r (in_path r within);
          reached_done = λ r within. ⊎_elim
              (λ (old : Contains done r). search.reached_done r old)
              (λ (same : p ≡ r). subst (λ (x : ℕ). Reaches (Joins ends steps) start x) same reached)
              (Contains-push_cases done p r within);
          begun = ⊎_elim
              (λ (old : Contains path start). ⊎_elim (λ (still : Contains rest start). inl still) (λ (same : p ≡ start). inr (subst (λ (x : ℕ). Contains (done ++ p ∷ []) x) same (Contains-push done p))) (Contains-push_cases rest p start (subst (λ (xs : List ℕ). Contains xs start) split old)))
              (λ (old : Contains done start). inr (Contains-append_left done (p ∷ []) start old))
              search.begun;
          ordered = record {
            once = λ i j r ati atj. ⊎_elim
                (λ oldi. ⊎_elim (λ oldj. search.ordered.once i j r oldi oldj) (λ newj. absurd (not_done i r oldi newj.1)) (get_push_cases done p j r atj))
                (λ newi. ⊎_elim (λ oldj. absurd (not_done j r oldj newi.1)) (λ newj. newi.0 ∙ sym newj.0) (get_push_cases done p j r atj))
                (get_push_cases done p i r ati);
            earlier = λ i r q at step. ⊎_elim
                (λ old. let found = search.ordered.earlier i r q old step in (found.0, found.1, get_left done (p ∷ []) found.0 q found.2))
                (λ new. let found = leads_to_done step.0 q step.1 (step.2 ∙ sym new.1) step.3 in (found.0, omega (arith, slice_get_within done found.0 q found.1, new.0), get_left done (p ∷ []) found.0 q found.1))
                (get_push_cases done p i r at);
          };
        }
      where
        at_path : (i r : ℕ) → slice_get rest i ≡ Some r → slice_get path i ≡ Some r
        at_path i r at = subst (λ (xs : List ℕ). slice_get xs i ≡ Some r) (sym split) (get_left rest (p ∷ []) i r at)

        in_path : (r : ℕ) → Contains rest r → Contains path r
        in_path r within = subst (λ (xs : List ℕ). Contains xs r) (sym split) (Contains-append_left rest (p ∷ []) r within)

        last_at : slice_get path (length rest) ≡ Some p
        last_at = subst (λ (xs : List ℕ). slice_get xs (length rest) ≡ Some p) (sym split) (get_push rest p)

        apart : (r : ℕ) → Contains rest r → p ≡ r → ⊥
        apart r within same =
            let placed : (i : ℕ) × (slice_get rest i ≡ Some r) = get_from_contains rest r within in
            let one : placed.0 ≡ length rest = search.path_once placed.0 (length rest) r (at_path placed.0 r placed.1) (subst (λ (x : ℕ). slice_get path (length rest) ≡ Some x) same last_at) in
            omega (arith, one, slice_get_within rest placed.0 r placed.1)

        differ : (r : ℕ) → slice_get marks r ≡ Some Done → r ≡ p → ⊥
        differ r marked same = let opened : slice_get marks p ≡ Some Open = last_open in cc

        done_kept : (r : ℕ) → slice_get marks r ≡ Some Done → slice_get (set marks p Done) r ≡ Some Done
        done_kept r marked = get_set_other marks p r Done Done (λ e. differ r marked e) marked

        not_done : (i r : ℕ) → slice_get done i ≡ Some r → p ≡ r → ⊥
        not_done i r at same = differ r (search.done_marked r (contains_from_get done i r at)) (sym same)

        leads_to_done : (s : S) (q : ℕ) → Contains steps s → (ends s).source ≡ p → (ends s).target ≡ Some q → (j : ℕ) × (slice_get done j ≡ Some q)
        leads_to_done s q among at to =
            let placed : (k : ℕ) × (slice_get steps k ≡ Some s) = get_from_contains steps s among in
            let before : placed.0 < slice_index next p = all_followed steps p (slice_index next p) placed.0 s sorted finished (λ i t here later. search.from p i t last_known here later) placed.1 at in
            get_from_contains done q (search.marked_done q (search.passed placed.0 s q placed.1 (subst (λ (x : ℕ). placed.0 < slice_index next x) (sym at) before) to))

    pub follows_with : (s : S) → slice_get steps (slice_index next p) ≡ Some s → (ends s).source ≡ p → ((q : ℕ) → (ends s).target ≡ Some q → slice_get marks q ≡ Some Done) → IsSearchOf ends steps start marks (set next p (slice_index next p + 1)) path done
    follows_with s here_s at ahead =
        record {
          sized = omega (arith, search.sized, length-set next p (slice_index next p + 1));
          from = λ r i t known here later. ⊎_elim
              (λ (same : r ≡ p). search.from r i t known here (omega (arith, now_same r same, ap (slice_index next) same)))
              (λ (other : r ≡ p → ⊥). search.from r i t known here (omega (arith, now_other r other)))
              (cases_eq r p);
          passed = λ i t r here before leads. ⊎_elim
              (λ (same : (ends t).source ≡ p). ⊎_elim
              (λ (old : i < slice_index next p). search.passed i t r here (omega (arith, ap (slice_index next) same)) leads)
              (λ (new : slice_index next p ≤ i).
              let there : i ≡ slice_index next p = omega (arith, now_same (ends t).source same) in
              let is : t ≡ s = same_Some t s (sym here ∙ ap (slice_get steps) there ∙ here_s) in
              ahead r (ap (λ (x : S). (ends x).target) (sym is) ∙ leads))
              (cases_lt i (slice_index next p)))
              (λ (other : (ends t).source ≡ p → ⊥). search.passed i t r here (omega (arith, now_other (ends t).source other)) leads)
              (cases_eq (ends t).source p);
          path_open = search.path_open;
          open_path = search.open_path;
          done_marked = search.done_marked;
          marked_done = search.marked_done;
          path_once = search.path_once;
          chain = search.chain;
          reached_path = search.reached_path;
          reached_done = search.reached_done;
          begun = search.begun;
          ordered = search.ordered;
        }
      where
        now_same : (r : ℕ) → r ≡ p → slice_index (set next p (slice_index next p + 1)) r ≡ slice_index next p + 1
        now_same r same = ap (slice_index (set next p (slice_index next p + 1))) same ∙ get_or-set_same next p (slice_index next p + 1) 0 (omega (arith, search.sized, last_known))

        now_other : (r : ℕ) → (r ≡ p → ⊥) → slice_index (set next p (slice_index next p + 1)) r ≡ slice_index next r
        now_other r other = get_or-set_other next p r (slice_index next p + 1) 0 other

  pub search_ends : (steps : List S) (start : ℕ) (marks : List Mark) (next path done : List ℕ) → IsSearchOf ends steps start marks next path done → ((p : ℕ) → slice_get path (length path - 1) ≡ Some p → ⊥) → IsOrder (Joins ends steps) start done
  search_ends steps start marks next path done search no_last =
      record {
        exactly = λ p. (search.reached_done p, closed (Joins ends steps) done start search.ordered started);
        ordered = search.ordered;
      }
    where
      never : (p : ℕ) → Contains path p → ⊥
      never p within =
          let last : (x : ℕ) × (slice_get path (length path - 1) ≡ Some x) = get_within path (length path - 1) (omega (arith, within.1)) in
          no_last last.0 last.1

      started : Contains done start
      started = ⊎_elim (λ (within : Contains path start). absurd (never start within)) (λ (within : Contains done start). within) search.begun
