-- From one node to the classes of all members.
use Rattle.std.proofs.Common.{true, false, ℕ, ◌≡◌, ◌+◌, ◌-◌, ◌<◌, ◌≤◌, inl, inr, ⊎_elim, List, [], ◌∷◌, ◌++◌, Some, length, set, refl, sym, ap, subst, ◌∙◌, arith}
use Rattle.std.specs.List.{AllPairs, Contains, slice_get, slice_index}
use Rattle.std.proofs.lemmas.Bool.{cases_eq, cases_lt}
use Rattle.std.proofs.lemmas.List.{length-set, get_or-set_same, get_or-set_other}
use Rattle.std.proofs.lemmas.Option.{none-some, same_Some, slice_get_within}
use Rattle.wc_model.specs.Program.Reaching.{Reaches, here, along}
use Rattle.wc_model.proofs.Places.{get_from_contains, get_within, get_set, get_set_other, get_set_cases}
use Rattle.wc_model.proofs.Starting.{sorted_at}
use Rattle.wc_nest.specs.declared.marking.Mark.{Mark}
use Rattle.wc_nest.specs.declared.marking.Mark.TheVariants.{New, Open, Done}
use Rattle.wc_nest.specs.declared.search.Search.{Search}
use Rattle.wc_nest.specs.declared.ways.Way.{Way}
use Rattle.wc_nest.specs.Inner.Classes.{IsFirstWay, AreFirst, IsRested, IsVisit, AreClasses}
use Rattle.wc_nest.specs.Inner.Marking.{IsMarked, IsOf}
use Rattle.wc_nest.specs.Inner.Searches.{IsSearchOf, Spreads}
use Rattle.wc_nest.specs.Inner.Ways.{way_ends, WaysLead}
use Rattle.wc_nest.proofs.ListLemmas.{empty_contains}
use Rattle.wc_nest.proofs.SearchLemmas.{enters}

-- one more way
module _ (ways : List Way) (sorted : AllPairs (λ s t. s.source ≤ t.source) ways) (k : ℕ) (t : Way) (at : slice_get ways k ≡ Some t) (next : List ℕ) (old : AreFirst ways k next) where
  pub first_new : IsFirstWay ways k true → t.source < length next → AreFirst ways (k + 1) (set next t.source k)
  first_new first known i s less at_s = ⊎_elim
      (λ (before : i < k).
      let other : s.source ≡ t.source → ⊥ = λ same. apart i s before at_s same in
      let kept : slice_index (set next t.source k) s.source ≡ slice_index next s.source = get_or-set_other next t.source s.source k 0 other in
      let was = old i s before at_s in
      record { before = omega (arith, was.before); from = λ j u at_u later. was.from j u at_u (omega arith) })
      (λ (there : k ≤ i).
      let same : k ≡ i = omega arith in
      let is : t ≡ s = same_Some t s (sym at ∙ ap (slice_get ways) same ∙ at_s) in
      let sources : t.source ≡ s.source = ap (λ (w : Way). w.source) is in
      let now : slice_index (set next t.source k) s.source ≡ k = ap (slice_index (set next t.source k)) (sym sources) ∙ get_or-set_same next t.source k 0 known in
      record { before = omega arith; from = λ j u at_u later. sorted_at way_ends ways i j s u sorted at_s at_u (omega arith) })
      (cases_lt i k)
    where
      apart : (i : ℕ) (s : Way) → i < k → slice_get ways i ≡ Some s → s.source ≡ t.source → ⊥
      apart i s before at_s same =
          let within : k < length ways = slice_get_within ways k t at in
          let last : (u : Way) × (slice_get ways (k - 1) ≡ Some u) = get_within ways (k - 1) (omega arith) in
          let low : s.source ≤ last.0.source = sorted_at way_ends ways i (k - 1) s last.0 sorted at_s last.1 (omega arith) in
          let high : last.0.source ≤ t.source = sorted_at way_ends ways (k - 1) k last.0 t sorted last.1 at (omega arith) in
          first (k - 1) last.0 t (omega arith) last.1 at (omega arith)

  pub first_old : IsFirstWay ways k false → AreFirst ways (k + 1) next
  first_old (j, u, v, next_to, at_u, at_v, same) i s less at_s = ⊎_elim
      (λ (before : i < k). old i s before at_s)
      (λ (there : k ≤ i).
      let here_i : k ≡ i = omega arith in
      let is : v ≡ s = same_Some v s (sym at_v ∙ ap (slice_get ways) here_i ∙ at_s) in
      let sources : u.source ≡ s.source = same ∙ ap (λ (w : Way). w.source) is in
      let was = old j u (omega arith) at_u in
      record { before = omega (arith, was.before, ap (slice_index next) sources); from = λ m w at_w later. let low : u.source ≤ w.source = was.from m w at_w (omega (arith, ap (slice_index next) sources)) in omega arith })
      (cases_lt i k)

-- step after step
pub spreads_then : (ways : List Way) (old mid new : List Mark) → Spreads ways old mid → Spreads ways mid new → Spreads ways old new
spreads_then ways old mid new first later =
    record {
      sized = later.sized ∙ first.sized;
      kept = λ p is. later.kept p (first.kept p is);
      led = λ p is. ⊎_elim (λ before. first.led p before) (λ target. inr target) (later.led p is);
    }

-- before the first node
pub begins : (ways : List Way) (marks : List Mark) (next : List ℕ) → length marks ≤ length next → AreFirst ways (length ways) next → ((p : ℕ) (m : Mark) → slice_get marks p ≡ Some m → m ≡ New) → IsSearchOf ways marks next [] [] [] 0
begins ways marks next sized first unmarked =
    record {
      sized = sized;
      from = λ s t k among at later. let placed : (i : ℕ) × (slice_get ways i ≡ Some s) = get_from_contains ways s among in (first placed.0 s (slice_get_within ways placed.0 s placed.1) placed.1).from k t at later;
      open_marked = λ i p at. absurd (none-some p at);
      marked_open = λ i p at. let bad : Open i ≡ New = unmarked p (Open i) at in cc;
      followed = λ i s a at low placed. absurd (none-some s.source placed);
      fresh = λ i s at is. (first i s (slice_get_within ways i s at) at).before;
      falls = λ s c among at. let bad : Done c ≡ New = unmarked s.source (Done c) at in cc;
      alike = λ p q c at_p at_q. let bad : Done c ≡ New = unmarked p (Done c) at_p in cc;
      small = λ p c at. let bad : Done c ≡ New = unmarked p (Done c) at in cc;
      chain = λ i j p q le at_i at_j. absurd (none-some p at_i);
      joined = λ i j p q le whole at_i at_j. absurd (none-some p at_i);
      finished = λ a p at. absurd (none-some p at);
      path_open = λ a among. absurd (empty_contains a among);
      path_rises = λ i j d less within. absurd (omega arith);
      bounds_rise = λ i j d less within. absurd (omega arith);
      bounds_path = λ b among. absurd (empty_contains b among);
      begins = λ some. absurd (omega arith);
    }

-- a search at rest
module _ (ways : List Way) (marks : List Mark) (next stack bounds : List ℕ) (count : ℕ) (search : IsSearchOf ways marks next [] stack bounds count) where
  no_bound : (b : ℕ) → Contains bounds b → ⊥
  no_bound b among = empty_contains b (search.bounds_path b among)

  pub stack_empty : stack ≡ []
  stack_empty = empty_from stack (λ some. no_bound 0 (search.begins some))
    where
      empty_from : (xs : List ℕ) → (0 < length xs → ⊥) → xs ≡ []
      empty_from [] none = refl
      empty_from (x ∷ xs) none = absurd (none (omega arith))

  pub bounds_empty : bounds ≡ []
  bounds_empty = empty_from bounds no_bound
    where
      empty_from : (xs : List ℕ) → ((b : ℕ) → Contains xs b → ⊥) → xs ≡ []
      empty_from [] none = refl
      empty_from (x ∷ xs) none = absurd (none x (0, omega arith, refl))

  no_open : (i p : ℕ) → slice_get marks p ≡ Some (Open i) → ⊥
  no_open i p at = none-some p (ap (λ (xs : List ℕ). slice_get xs i) (sym stack_empty) ∙ search.marked_open i p at)

  numbered_mark : (p : ℕ) (m : Mark) → slice_get marks p ≡ Some m → (m ≡ New → ⊥) → (c : ℕ) × (c < count) × IsOf marks p c
  numbered_mark p New at other = absurd (other refl)
  numbered_mark p (Open i) at other = absurd (no_open i p at)
  numbered_mark p (Done c) at other = (c, search.small p c at, at)

  pub numbered_from : (p : ℕ) → IsMarked marks p → (c : ℕ) × (c < count) × IsOf marks p c
  numbered_from p is = numbered_mark p is.0 is.1 is.2

  falls_along : (p : ℕ) {q : ℕ} (c : ℕ) → IsOf marks p c → Reaches (WaysLead ways) p q → (d : ℕ) × (d ≤ c) × IsOf marks q d
  falls_along p c at here = (c, omega arith, at)
  falls_along p c at (along r way (w, among, from, to)) =
      let before = falls_along p c at way in
      let next_to = search.falls w before.0 among (ap (slice_get marks) from ∙ before.2) in
      (next_to.0, omega (arith, before.1, next_to.1), ap (slice_get marks) (sym (same_Some w.target r to)) ∙ next_to.2)

  pub classes_from : (members : List ℕ) → ((p : ℕ) → Contains members p → IsMarked marks p) → ((p : ℕ) → IsMarked marks p → Contains members p) → AreClasses ways members marks count
  classes_from members marked only =
      record {
        numbered = λ p among. numbered_from p (marked p among);
        only = only;
        alike = search.alike;
        falls = λ p q c d at_p at_q way.
            let end = falls_along p c at_p way in
            let same : end.0 ≡ d = dones end.0 d (same_Some (Done end.0) (Done d) (sym end.2 ∙ at_q)) in
            omega (arith, end.1);
      }
    where
      dones : (c d : ℕ) → Done c ≡ Done d → c ≡ d
      dones c d e = cc

-- a node is visited
module _ (ways : List Way) (s : Search) (rested : IsRested ways s) where
  at_rest : IsSearchOf ways s.marks.items s.next.items [] s.stack.items s.bounds.items (length s.roots.items)
  at_rest = subst (λ (xs : List ℕ). IsSearchOf ways s.marks.items s.next.items xs s.stack.items s.bounds.items (length s.roots.items)) rested.path rested.search

  pub rested_stack : s.stack.items ≡ []
  rested_stack = stack_empty ways s.marks.items s.next.items s.stack.items s.bounds.items (length s.roots.items) at_rest

  pub rested_bounds : s.bounds.items ≡ []
  rested_bounds = bounds_empty ways s.marks.items s.next.items s.stack.items s.bounds.items (length s.roots.items) at_rest

  pub enters_first : (q : ℕ) → slice_get s.marks.items q ≡ Some New → IsSearchOf ways (set s.marks.items q (Open (length s.stack.items))) s.next.items (s.path.items ++ length s.stack.items ∷ []) (s.stack.items ++ q ∷ []) (s.bounds.items ++ length s.stack.items ∷ []) (length s.roots.items)
  enters_first q new = enters ways s.marks.items s.next.items s.path.items s.stack.items s.bounds.items (length s.roots.items) rested.search q new (λ i r at. absurd (none-some r (ap (λ (xs : List ℕ). slice_get xs i) (sym rested_stack) ∙ at)))

  pub rested_classes : (members : List ℕ) → ((p : ℕ) → Contains members p → IsMarked s.marks.items p) → ((p : ℕ) → IsMarked s.marks.items p → Contains members p) → AreClasses ways members s.marks.items (length s.roots.items)
  rested_classes = classes_from ways s.marks.items s.next.items s.stack.items s.bounds.items (length s.roots.items) at_rest

pub visited : (ways : List Way) (node n : ℕ) (old new : Search) → node < length old.marks.items → IsRested ways new → Spreads ways (set old.marks.items node (Open n)) new.marks.items → IsVisit ways node old new
visited ways node n old new known rested spreads =
    record {
      rested = rested;
      sized = spreads.sized ∙ length-set old.marks.items node (Open n);
      kept = λ p is. spreads.kept p (⊎_elim
          (λ (same : p ≡ node). subst (λ (x : ℕ). IsMarked (set old.marks.items node (Open n)) x) (sym same) opened)
          (λ (other : p ≡ node → ⊥). (is.0, get_set_other old.marks.items node p (Open n) is.0 other is.1, is.2))
          (cases_eq p node));
      led = λ p is. ⊎_elim
          (λ before. ⊎_elim (λ here. inr (inl here.0)) (λ other. inl (before.0, other.1, before.2)) (get_set_cases old.marks.items node p (Open n) before.0 before.1))
          (λ target. inr (inr target))
          (spreads.led p is);
      marked = spreads.kept node opened;
    }
  where
    opened : IsMarked (set old.marks.items node (Open n)) node
    opened = (Open n, get_set old.marks.items node (Open n) known, λ (e : Open n ≡ New). cc)
