-- The path-based search keeps what it knows, round by round.
use Rattle.std.proofs.Common.{ℕ, ◌≡◌, ◌+◌, ◌-◌, ◌<◌, ◌≤◌, ◌⊎◌, inl, inr, ⊎_elim, List, [], ◌∷◌, ◌++◌, Option, None, Some, length, set, get_or, take, drop, refl, sym, ap, subst, ◌∙◌, arith}
use Rattle.std.specs.List.{AllPairs, Contains, slice_get, slice_index}
use Rattle.std.proofs.lemmas.Bool.{cases_eq, cases_lt}
use Rattle.std.proofs.lemmas.List.{length-set, length-take, length_push, get_or_default, get_or-set_same, get_or-set_other}
use Rattle.std.proofs.lemmas.List.Elements.{Contains-push, Contains-push_cases, Contains-append_left}
use Rattle.std.proofs.lemmas.List.Quantifiers.{all_pairs_push}
use Rattle.std.proofs.lemmas.Option.{same_Some, slice_get_within}
use Rattle.wc_model.specs.Program.Reaching.{Reaches, here, along}
use Rattle.wc_model.proofs.Starting.{sorted_at}
use Rattle.wc_model.proofs.Places.{contains_from_get, get_from_contains, get_within, get_left, get_push, get_push_cases, get_set_cases, get_set, get_set_other}
use Rattle.wc_nest.specs.declared.marking.Mark.{Mark}
use Rattle.wc_nest.specs.declared.marking.Mark.TheVariants.{New, Open, Done}
use Rattle.wc_nest.specs.declared.ways.Way.{Way}
use Rattle.wc_nest.specs.Inner.Searches.{Unbroken, Led, AreNext, IsSearchOf, IsNextWay}
use Rattle.wc_nest.specs.Inner.Ways.{way_ends, WaysLead}
use Rattle.wc_nest.specs.Inner.Marking.{set_all}
use Rattle.wc_nest.proofs.ListLemmas.{below_last, before_last, rises_front, get_take, take_get, get_drop, drop_get}
use Rattle.wc_nest.proofs.MarkingLemmas.{length-set_all, set_all_out, set_all_in, set_all_cases}

pub reaches_on : {P : Type 0} {Leads : P → Option P → Type 0} (p : P) {q r : P} → Reaches Leads p q → Reaches Leads q r → Reaches Leads p r
reaches_on p way here = way
reaches_on p way (along r rest step) = along r (reaches_on p way rest) step

opens : (i j : ℕ) → Open i ≡ Open j → i ≡ j
opens i j e = cc

-- where the way at a node's place doesn't leave it, all its ways stand before
pub all_ways : (ways : List Way) (next : List ℕ) (p : ℕ) → AllPairs (λ s t. s.source ≤ t.source) ways → AreNext ways next → IsNextWay ways p (slice_index next p) None → (i : ℕ) (s : Way) → slice_get ways i ≡ Some s → s.source ≡ p → i < slice_index next p
all_ways ways next p sorted from finished i s at from_p = ⊎_elim (λ (before : i < slice_index next p). before) (λ (later : slice_index next p ≤ i). absurd (never later)) (cases_lt i (slice_index next p))
  where
    never : slice_index next p ≤ i → ⊥
    never later =
        let found : (t : Way) × (slice_get ways (slice_index next p) ≡ Some t) = get_within ways (slice_index next p) (omega (arith, slice_get_within ways i s at)) in
        let low : s.source ≤ found.0.source = from s found.0 (slice_index next p) (contains_from_get ways i s at) found.1 (omega (arith, ap (slice_index next) from_p)) in
        let high : found.0.source ≤ s.source = sorted_at way_ends ways (slice_index next p) i found.0 s sorted found.1 at later in
        finished found.0 found.1 (omega arith)

-- with one more bound after place `a`
led_more : (bounds : List ℕ) (a n : ℕ) (m : Option Mark) → a < n → Led bounds a m → Led (bounds ++ n ∷ []) a m
led_more bounds a n None less led = led
led_more bounds a n (Some New) less led = led
led_more bounds a n (Some (Open j)) less led = λ b among low. ⊎_elim (λ (old : Contains bounds b). led b old low) (λ (same : n ≡ b). omega arith) (Contains-push_cases bounds n b among)
led_more bounds a n (Some (Done c)) less led = led

-- with fewer bounds
led_fewer : (bounds fewer : List ℕ) (a : ℕ) (m : Option Mark) → ((b : ℕ) → Contains fewer b → Contains bounds b) → Led bounds a m → Led fewer a m
led_fewer bounds fewer a None of led = led
led_fewer bounds fewer a (Some New) of led = led
led_fewer bounds fewer a (Some (Open j)) of led = λ b among low. led b (of b among) low
led_fewer bounds fewer a (Some (Done c)) of led = led

module _ (ways : List Way) (marks : List Mark) (next path stack bounds : List ℕ) (count : ℕ) (search : IsSearchOf ways marks next path stack bounds count) where
  bounds_known : (b : ℕ) → Contains bounds b → b < length stack
  bounds_known b among = search.path_open b (search.bounds_path b among)

  pub stack_known : (i p : ℕ) → slice_get stack i ≡ Some p → p < length marks
  stack_known i p at = slice_get_within marks p (Open i) (search.open_marked i p at)

  -- a new node that all nodes on the stack reach
  pub enters : (q : ℕ) → slice_get marks q ≡ Some New → ((i r : ℕ) → slice_get stack i ≡ Some r → Reaches (WaysLead ways) r q) → IsSearchOf ways (set marks q (Open (length stack))) next (path ++ length stack ∷ []) (stack ++ q ∷ []) (bounds ++ length stack ∷ []) count
  enters q new reach =
      record {
        sized = omega (arith, search.sized, length-set marks q (Open n));
        from = search.from;
        open_marked = λ i p at. ⊎_elim
            (λ old. kept (Open i) p (search.open_marked i p old) (λ (e : Open i ≡ New). cc))
            (λ now. subst (λ (x : ℕ). slice_get (set marks q (Open n)) x ≡ Some (Open i)) now.1 (get_set marks q (Open n) known ∙ ap (λ (x : ℕ). Some (Open x)) (sym now.0)))
            (get_push_cases stack q i p at);
        marked_open = λ i p at. ⊎_elim
            (λ now.
            let place : n ≡ i = opens n i now.1 in
            subst (λ (x : ℕ). slice_get (stack ++ q ∷ []) i ≡ Some x) (sym now.0) (subst (λ (x : ℕ). slice_get (stack ++ q ∷ []) x ≡ Some q) place (get_push stack q)))
            (λ other. get_left stack (q ∷ []) i p (search.marked_open i p other.1))
            (get_set_cases marks q p (Open n) (Open i) at);
        followed = λ i s a at low placed. ⊎_elim
            (λ old. led_kept s.target a (slice_get_within stack a s.source old) (search.followed i s a at low old))
            (λ now. let first : slice_index next s.source ≤ i = search.fresh i s at (subst (λ (x : ℕ). slice_get marks x ≡ Some New) now.1 new) in absurd (omega arith))
            (get_push_cases stack q a s.source placed);
        fresh = λ i s at is. ⊎_elim (λ now. cc) (λ other. search.fresh i s at other.1) (get_set_cases marks q s.source (Open n) New is);
        falls = λ s c among at. ⊎_elim
            (λ now. cc)
            (λ other.
            let below : (d : ℕ) × (d ≤ c) × (slice_get marks s.target ≡ Some (Done d)) = search.falls s c among other.1 in
            (below.0, below.1, kept (Done below.0) s.target below.2 (λ (e : Done below.0 ≡ New). cc)))
            (get_set_cases marks q s.source (Open n) (Done c) at);
        alike = λ p r c atp atr. search.alike p r c (done_old p c atp) (done_old r c atr);
        small = λ p c at. search.small p c (done_old p c at);
        chain = λ i j p r le ati atj. ⊎_elim
            (λ oldj. ⊎_elim (λ oldi. search.chain i j p r le oldi oldj) (λ nowi. absurd (omega (arith, slice_get_within stack j r oldj, nowi.0))) (get_push_cases stack q i p ati))
            (λ nowj. subst (λ (x : ℕ). Reaches (WaysLead ways) p x) nowj.1 (⊎_elim (λ oldi. reach i p oldi) (λ nowi. subst (λ (x : ℕ). Reaches (WaysLead ways) x q) nowi.1 here) (get_push_cases stack q i p ati)))
            (get_push_cases stack q j r atj);
        joined = λ i j p r le whole ati atj. ⊎_elim
            (λ oldj. ⊎_elim (λ oldi. search.joined i j p r le (λ b among low. whole b (Contains-append_left bounds (n ∷ []) b among) low) oldi oldj) (λ nowi. absurd (omega (arith, slice_get_within stack j r oldj, nowi.0))) (get_push_cases stack q i p ati))
            (λ nowj. ⊎_elim
            (λ oldi. let less : j < n = whole n (Contains-push bounds n) (slice_get_within stack i p oldi) in absurd (omega (arith, nowj.0)))
            (λ nowi. subst (λ (x : ℕ). Reaches (WaysLead ways) x p) nowj.1 (subst (λ (x : ℕ). Reaches (WaysLead ways) q x) nowi.1 here))
            (get_push_cases stack q i p ati))
            (get_push_cases stack q j r atj);
        finished = λ a p at. ⊎_elim
            (λ old. ⊎_elim (λ (old_path : Contains path a). inl (Contains-append_left path (n ∷ []) a old_path)) (λ all. inr all) (search.finished a p old))
            (λ now. inl (subst (λ (x : ℕ). Contains (path ++ n ∷ []) x) (sym now.0) (Contains-push path n)))
            (get_push_cases stack q a p at);
        path_open = λ a among. ⊎_elim (λ (old : Contains path a). omega (arith, search.path_open a old, length_push stack q)) (λ (now : n ≡ a). omega (arith, length_push stack q)) (Contains-push_cases path n a among);
        path_rises = all_pairs_push (λ (a b : ℕ). a < b) path n search.path_rises (λ k d within. search.path_open (get_or path k d) (k, within, get_same path k d within));
        bounds_rise = all_pairs_push (λ (a b : ℕ). a < b) bounds n search.bounds_rise (λ k d within. bounds_known (get_or bounds k d) (k, within, get_same bounds k d within));
        bounds_path = λ b among. ⊎_elim
            (λ (old : Contains bounds b). Contains-append_left path (n ∷ []) b (search.bounds_path b old))
            (λ (now : n ≡ b). subst (λ (x : ℕ). Contains (path ++ n ∷ []) x) now (Contains-push path n))
            (Contains-push_cases bounds n b among);
        begins = λ some. ⊎_elim
            (λ (before : 0 < n). Contains-append_left bounds (n ∷ []) 0 (search.begins before))
            (λ (none : n ≤ 0). subst (λ (x : ℕ). Contains (bounds ++ n ∷ []) x) (omega arith) (Contains-push bounds n))
            (cases_lt 0 n);
      }
    where
      n : ℕ
      n = length stack

      known : q < length marks
      known = slice_get_within marks q New new

      get_same : (xs : List ℕ) (k d : ℕ) → k < length xs → get_or xs k (get_or xs k d) ≡ get_or xs k d
      get_same xs k d within = get_or_default xs k (get_or xs k d) d within

      kept : (m : Mark) (r : ℕ) → slice_get marks r ≡ Some m → (m ≡ New → ⊥) → slice_get (set marks q (Open (length stack))) r ≡ Some m
      kept m r marked other = get_set_other marks q r (Open (length stack)) m (λ (e : r ≡ q). other (same_Some m New (sym marked ∙ ap (slice_get marks) e ∙ new))) marked

      done_old : (p c : ℕ) → slice_get (set marks q (Open (length stack))) p ≡ Some (Done c) → slice_get marks p ≡ Some (Done c)
      done_old p c at = ⊎_elim (λ now. cc) (λ other. other.1) (get_set_cases marks q p (Open (length stack)) (Done c) at)

      led_to : (r a : ℕ) (m : Option Mark) → a < length stack → slice_get marks r ≡ m → Led bounds a m → Led (bounds ++ length stack ∷ []) a (slice_get (set marks q (Open (length stack))) r)
      led_to r a None less is led = absurd led
      led_to r a (Some New) less is led = absurd led
      led_to r a (Some (Open j)) less is led = rw (kept (Open j) r is (λ (e : Open j ≡ New). cc)) (led_more bounds a (length stack) (Some (Open j)) less led)
      led_to r a (Some (Done c)) less is led = rw (kept (Done c) r is (λ (e : Done c ≡ New). cc)) led

      led_kept : (r a : ℕ) → a < length stack → Led bounds a (slice_get marks r) → Led (bounds ++ length stack ∷ []) a (slice_get (set marks q (Open (length stack))) r)
      led_kept r a less led = led_to r a (slice_get marks r) less refl led

  -- the next way of a node on the stack is followed
  pub follows : (a p : ℕ) (s : Way) → slice_get stack a ≡ Some p → slice_get ways (slice_index next p) ≡ Some s → s.source ≡ p → Led bounds a (slice_get marks s.target) → IsSearchOf ways marks (set next p (slice_index next p + 1)) path stack bounds count
  follows a p s placed here_s at ahead =
      record {
        sized = omega (arith, search.sized, length-set next p (slice_index next p + 1));
        from = λ r t k among here_t later. ⊎_elim
            (λ (same : r.source ≡ p). search.from r t k among here_t (omega (arith, now_same r.source same, ap (slice_index next) same)))
            (λ (other : r.source ≡ p → ⊥). search.from r t k among here_t (omega (arith, now_other r.source other)))
            (cases_eq r.source p);
        open_marked = search.open_marked;
        marked_open = search.marked_open;
        followed = λ i t b here_t before stands. ⊎_elim
            (λ (same : t.source ≡ p). ⊎_elim
            (λ (old : i < slice_index next p). search.followed i t b here_t (omega (arith, ap (slice_index next) same)) stands)
            (λ (new : slice_index next p ≤ i).
            let there : i ≡ slice_index next p = omega (arith, now_same t.source same) in
            let is : s ≡ t = same_Some s t (sym here_s ∙ ap (slice_get ways) (sym there) ∙ here_t) in
            let place : a ≡ b = one_place a b p placed (stands ∙ ap Some same) in
            subst (λ (x : ℕ). Led bounds x (slice_get marks t.target)) place (subst (λ (x : Way). Led bounds a (slice_get marks x.target)) is ahead))
            (cases_lt i (slice_index next p)))
            (λ (other : t.source ≡ p → ⊥). search.followed i t b here_t (omega (arith, now_other t.source other)) stands)
            (cases_eq t.source p);
        fresh = λ i t here_t new. search_fresh i t here_t new (λ (same : t.source ≡ p). let opened : slice_get marks p ≡ Some (Open a) = search.open_marked a p placed in apart (subst (λ (x : ℕ). slice_get marks x ≡ Some New) same new) opened);
        falls = search.falls;
        alike = search.alike;
        small = search.small;
        chain = search.chain;
        joined = search.joined;
        finished = λ b r stands. ⊎_elim (λ (old : Contains path b). inl old) (λ all. inr (λ i t here_t from_r. grows r (all i t here_t from_r))) (search.finished b r stands);
        path_open = search.path_open;
        path_rises = search.path_rises;
        bounds_rise = search.bounds_rise;
        bounds_path = search.bounds_path;
        begins = search.begins;
      }
    where
      known : p < length next
      known = omega (arith, search.sized, stack_known a p placed)

      now_same : (r : ℕ) → r ≡ p → slice_index (set next p (slice_index next p + 1)) r ≡ slice_index next p + 1
      now_same r same = ap (slice_index (set next p (slice_index next p + 1))) same ∙ get_or-set_same next p (slice_index next p + 1) 0 known

      now_other : (r : ℕ) → (r ≡ p → ⊥) → slice_index (set next p (slice_index next p + 1)) r ≡ slice_index next r
      now_other r other = get_or-set_other next p r (slice_index next p + 1) 0 other

      one_place : (i j r : ℕ) → slice_get stack i ≡ Some r → slice_get stack j ≡ Some r → i ≡ j
      one_place i j r ati atj = opens i j (same_Some (Open i) (Open j) (sym (search.open_marked i r ati) ∙ search.open_marked j r atj))

      apart : slice_get marks p ≡ Some New → slice_get marks p ≡ Some (Open a) → ⊥
      apart new opened = let e : New ≡ Open a = same_Some New (Open a) (sym new ∙ opened) in cc

      search_fresh : (i : ℕ) (t : Way) → slice_get ways i ≡ Some t → slice_get marks t.source ≡ Some New → (t.source ≡ p → ⊥) → slice_index (set next p (slice_index next p + 1)) t.source ≤ i
      search_fresh i t here_t new other = omega (arith, now_other t.source other, search.fresh i t here_t new)

      grows : {i : ℕ} (r : ℕ) → i < slice_index next r → i < slice_index (set next p (slice_index next p + 1)) r
      grows {i} r less = ⊎_elim
          (λ (same : r ≡ p). omega (arith, now_same r same, ap (slice_index next) same))
          (λ (other : r ≡ p → ⊥). omega (arith, now_other r other))
          (cases_eq r p)

  -- the last node of the path
  module _ (place p : ℕ) (last : slice_get path (length path - 1) ≡ Some place) (stands : slice_get stack place ≡ Some p) where
    bounds_low : (b : ℕ) → Contains bounds b → b ≤ place
    bounds_low b among = below_last path place b search.path_rises last (search.bounds_path b among)

    pub reach_last : (i r : ℕ) → slice_get stack i ≡ Some r → Reaches (WaysLead ways) r p
    reach_last i r at = ⊎_elim
        (λ (later : place < i). search.joined place i p r (omega arith) (λ b among low. absurd (omega (arith, bounds_low b among))) stands at)
        (λ (before : i ≤ place). search.chain i place r p before at stands)
        (cases_lt place i)

    -- where the last segment doesn't begin here, none does
    pub not_bound : (slice_get bounds (length bounds - 1) ≡ Some place → ⊥) → Contains bounds place → ⊥
    not_bound other among =
        let last_bound : (b : ℕ) × (slice_get bounds (length bounds - 1) ≡ Some b) = get_within bounds (length bounds - 1) (omega (arith, among.1)) in
        let low : place ≤ last_bound.0 = below_last bounds last_bound.0 place search.bounds_rise last_bound.1 among in
        let high : last_bound.0 ≤ place = bounds_low last_bound.0 (contains_from_get bounds (length bounds - 1) last_bound.0 last_bound.1) in
        let same : last_bound.0 ≡ place = omega arith in
        other (last_bound.1 ∙ ap Some same)

    -- a way to a node of the last segment
    pub leads_inside : (j : ℕ) → ((b : ℕ) → slice_get bounds (length bounds - 1) ≡ Some b → b ≤ j) → Unbroken bounds j place
    leads_inside j below b among above =
        let last_bound : (x : ℕ) × (slice_get bounds (length bounds - 1) ≡ Some x) = get_within bounds (length bounds - 1) (omega (arith, among.1)) in
        let low : b ≤ last_bound.0 = below_last bounds last_bound.0 b search.bounds_rise last_bound.1 among in
        let high : last_bound.0 ≤ j = below last_bound.0 last_bound.1 in
        absurd (omega arith)

    -- a way from it leads back before the last segment
    pub merges : (rest : List ℕ) (b j : ℕ) (s : Way) → bounds ≡ rest ++ b ∷ [] → Contains ways s → s.source ≡ p → slice_get marks s.target ≡ Some (Open j) → j < b → IsSearchOf ways marks next path stack rest count
    merges rest b j s split among from_p opened less =
        record {
          sized = search.sized;
          from = search.from;
          open_marked = search.open_marked;
          marked_open = search.marked_open;
          followed = λ i t a at low placed. led_fewer bounds rest a (slice_get marks t.target) old (search.followed i t a at low placed);
          fresh = search.fresh;
          falls = search.falls;
          alike = search.alike;
          small = search.small;
          chain = search.chain;
          joined = λ k l r t le whole atk atl. ⊎_elim
              (λ (low : k < b). ⊎_elim
              (λ (short : l < b). search.joined k l r t le (λ c within above. ⊎_elim (λ (is_old : Contains rest c). whole c is_old above) (λ (is_b : b ≡ c). omega arith) (either c within)) atk atl)
              (λ (long : b ≤ l). joins t r (reach_last l t atl) (back k l r low long whole atk))
              (cases_lt l b))
              (λ (high : b ≤ k). search.joined k l r t le (λ c within above. ⊎_elim (λ (is_old : Contains rest c). whole c is_old above) (λ (is_b : b ≡ c). absurd (omega arith)) (either c within)) atk atl)
              (cases_lt k b);
          finished = search.finished;
          path_open = search.path_open;
          path_rises = search.path_rises;
          bounds_rise = rises_front rest b rising;
          bounds_path = λ c within. search.bounds_path c (old c within);
          begins = λ some. ⊎_elim (λ (is_old : Contains rest 0). is_old) (λ (is_b : b ≡ 0). absurd (omega arith)) (either 0 (search.begins some));
        }
      where
        q : ℕ
        q = s.target

        old : (c : ℕ) → Contains rest c → Contains bounds c
        old c within = subst (λ (xs : List ℕ). Contains xs c) (sym split) (Contains-append_left rest (b ∷ []) c within)

        either : (c : ℕ) → Contains bounds c → Contains rest c ⊎ (b ≡ c)
        either c within = Contains-push_cases rest b c (subst (λ (xs : List ℕ). Contains xs c) split within)

        rising : AllPairs (λ x y. x < y) (rest ++ b ∷ [])
        rising = subst (λ (xs : List ℕ). AllPairs (λ x y. x < y) xs) split search.bounds_rise

        -- the way's target reaches the node at place `k`, which is in the segment before
        back : (k l r : ℕ) → k < b → b ≤ l → Unbroken rest k l → slice_get stack k ≡ Some r → Reaches (WaysLead ways) s.target r
        back k l r low long whole atk = ⊎_elim
            (λ (after : k < j). search.joined k j r s.target (omega arith) (λ c within above. ⊎_elim (λ (is_old : Contains rest c). let less_b : c < b = before_last rest b c rising is_old in let far : l < c = whole c is_old above in absurd (omega arith)) (λ (is_b : b ≡ c). omega arith) (either c within)) atk (search.marked_open j s.target opened))
            (λ (before : j ≤ k). search.chain j k s.target r before (search.marked_open j s.target opened) atk)
            (cases_lt k j)

        joins : (t r : ℕ) → Reaches (WaysLead ways) t p → Reaches (WaysLead ways) s.target r → Reaches (WaysLead ways) t r
        joins t r to_p from_q = reaches_on t (along s.target to_p (s, among, from_p, refl)) from_q

    -- its ways are followed, and its segment began before
    pub leaves : (rest : List ℕ) → path ≡ rest ++ place ∷ [] → (Contains bounds place → ⊥) → ((i : ℕ) (s : Way) → slice_get ways i ≡ Some s → s.source ≡ p → i < slice_index next p) → IsSearchOf ways marks next rest stack bounds count
    leaves rest split apart all =
        record {
          sized = search.sized;
          from = search.from;
          open_marked = search.open_marked;
          marked_open = search.marked_open;
          followed = search.followed;
          fresh = search.fresh;
          falls = search.falls;
          alike = search.alike;
          small = search.small;
          chain = search.chain;
          joined = search.joined;
          finished = λ a r at. ⊎_elim
              (λ (old : Contains path a). ⊎_elim
              (λ (still : Contains rest a). inl still)
              (λ (now : place ≡ a). inr (subst (λ (x : ℕ). (i : ℕ) (s : Way) → slice_get ways i ≡ Some s → s.source ≡ x → i < slice_index next x) (same_Some p r (sym stands ∙ ap (slice_get stack) now ∙ at)) all))
              (either a old))
              (λ done. inr done)
              (search.finished a r at);
          path_open = λ a within. search.path_open a (in_path a within);
          path_rises = rises_front rest place (subst (λ (xs : List ℕ). AllPairs (λ x y. x < y) xs) split search.path_rises);
          bounds_rise = search.bounds_rise;
          bounds_path = λ b within. ⊎_elim (λ (still : Contains rest b). still) (λ (now : place ≡ b). absurd (apart (subst (λ (x : ℕ). Contains bounds x) (sym now) within))) (either b (search.bounds_path b within));
          begins = search.begins;
        }
      where
        in_path : (a : ℕ) → Contains rest a → Contains path a
        in_path a within = subst (λ (xs : List ℕ). Contains xs a) (sym split) (Contains-append_left rest (place ∷ []) a within)

        either : (a : ℕ) → Contains path a → Contains rest a ⊎ (place ≡ a)
        either a within = Contains-push_cases rest place a (subst (λ (xs : List ℕ). Contains xs a) split within)

    -- its ways are followed, and its segment, the last one, is a class
    module _ (rest low : List ℕ) (split : path ≡ rest ++ place ∷ []) (bounds_split : bounds ≡ low ++ place ∷ []) (all : (i : ℕ) (s : Way) → slice_get ways i ≡ Some s → s.source ≡ p → i < slice_index next p) where
      abbrev new : List Mark
      new = set_all marks (drop place stack) (Done count)

      low_in : (b : ℕ) → Contains low b → Contains bounds b
      low_in b within = subst (λ (xs : List ℕ). Contains xs b) (sym bounds_split) (Contains-append_left low (place ∷ []) b within)

      low_rising : AllPairs (λ x y. x < y) (low ++ place ∷ [])
      low_rising = subst (λ (xs : List ℕ). AllPairs (λ x y. x < y) xs) bounds_split search.bounds_rise

      place_bound : Contains bounds place
      place_bound = subst (λ (xs : List ℕ). Contains xs place) (sym bounds_split) (Contains-push low place)

      -- nodes of the class, by their places
      in_class : (i r : ℕ) → slice_get stack i ≡ Some r → place ≤ i → Contains (drop place stack) r
      in_class i r at high =
          let there : i ≡ place + (i - place) = omega arith in
          contains_from_get (drop place stack) (i - place) r (get_drop stack place (i - place) r (subst (λ (x : ℕ). slice_get stack x ≡ Some r) there at))

      placed_in : (r : ℕ) → Contains (drop place stack) r → (i : ℕ) × (place ≤ i) × (slice_get stack i ≡ Some r)
      placed_in r among =
          let at : (k : ℕ) × (slice_get (drop place stack) k ≡ Some r) = get_from_contains (drop place stack) r among in
          (place + at.0, omega arith, drop_get stack place at.0 r at.1)

      class_done : (r : ℕ) → Contains (drop place stack) r → slice_get new r ≡ Some (Done count)
      class_done r among = let at = placed_in r among in set_all_in marks (drop place stack) (Done count) r among (stack_known at.0 r at.2)

      done_kept : (r c : ℕ) → slice_get marks r ≡ Some (Done c) → slice_get new r ≡ Some (Done c)
      done_kept r c at = set_all_out marks (drop place stack) (Done count) r (Done c) (λ among. let open_at = placed_in r among in clash (search.open_marked open_at.0 r open_at.2)) at
        where
          clash : {i : ℕ} → slice_get marks r ≡ Some (Open i) → ⊥
          clash {i} opened = let e : Done c ≡ Open i = same_Some (Done c) (Open i) (sym at ∙ opened) in cc

      -- an open node below the class stays open
      open_kept : (i r : ℕ) → i < place → slice_get stack i ≡ Some r → slice_get new r ≡ Some (Open i)
      open_kept i r low_i at = set_all_out marks (drop place stack) (Done count) r (Open i) (λ among. let open_at = placed_in r among in apart open_at.0 open_at.1 (search.open_marked open_at.0 r open_at.2)) (search.open_marked i r at)
        where
          apart : (k : ℕ) → place ≤ k → slice_get marks r ≡ Some (Open k) → ⊥
          apart k high opened = let e : i ≡ k = opens i k (same_Some (Open i) (Open k) (sym (search.open_marked i r at) ∙ opened)) in omega arith

      opened_old : (i r : ℕ) → slice_get new r ≡ Some (Open i) → (i < place) × (slice_get stack i ≡ Some r)
      opened_old i r at = ⊎_elim
          (λ inside. cc)
          (λ old.
          let at_i : slice_get stack i ≡ Some r = search.marked_open i r old in
          ⊎_elim (λ (low_i : i < place). (low_i, at_i)) (λ (high : place ≤ i). absurd (clash (class_done r (in_class i r at_i high)))) (cases_lt i place))
          (set_all_cases marks (drop place stack) (Done count) r (Open i) at)
        where
          clash : slice_get new r ≡ Some (Done count) → ⊥
          clash done = let e : Open i ≡ Done count = same_Some (Open i) (Done count) (sym at ∙ done) in cc

      -- all ways of the class are followed, to the class or to one that is done
      class_followed : (i a : ℕ) (s : Way) → slice_get ways i ≡ Some s → place ≤ a → slice_get stack a ≡ Some s.source → i < slice_index next s.source
      class_followed i a s at high stands_a = ⊎_elim
          (λ (on_path : Contains path a).
          let same : a ≡ place = omega (arith, below_last path place a search.path_rises last on_path) in
          let is_p : s.source ≡ p = same_Some s.source p (sym stands_a ∙ ap (slice_get stack) same ∙ stands) in
          subst (λ (x : ℕ). i < slice_index next x) (sym is_p) (all i s at is_p))
          (λ done. done i s at refl)
          (search.finished a s.source stands_a)

      led_done : (a r : ℕ) (m : Option Mark) → place ≤ a → slice_get marks r ≡ m → Led bounds a m → (d : ℕ) × (d ≤ count) × (slice_get new r ≡ Some (Done d))
      led_done a r None high is led = absurd led
      led_done a r (Some New) high is led = absurd led
      led_done a r (Some (Open j)) high is led = (count, omega arith, class_done r (in_class j r (search.marked_open j r is) (⊎_elim (λ (before : j < place). let far : a < place = led place place_bound before in absurd (omega arith)) (λ (fine : place ≤ j). fine) (cases_lt j place))))
      led_done a r (Some (Done d)) high is led = (d, omega (arith, search.small r d is), done_kept r d is)

      led_after : (a r : ℕ) (m : Option Mark) → a < place → slice_get marks r ≡ m → Led bounds a m → Led low a (slice_get new r)
      led_after a r None less is led = absurd led
      led_after a r (Some New) less is led = absurd led
      led_after a r (Some (Open j)) less is led = ⊎_elim
          (λ (before : j < place). rw (open_kept j r before (search.marked_open j r is)) (λ b among above. led b (low_in b among) above))
          (λ (inside : place ≤ j). rw (class_done r (in_class j r (search.marked_open j r is) inside)) tt)
          (cases_lt j place)
      led_after a r (Some (Done d)) less is led = rw (done_kept r d is) tt

      done_cases : (r c : ℕ) → slice_get new r ≡ Some (Done c) → (Contains (drop place stack) r × (c ≡ count)) ⊎ (slice_get marks r ≡ Some (Done c))
      done_cases r c at = ⊎_elim (λ inside. inl (inside.0, dones c (inside.1))) (λ old. inr old) (set_all_cases marks (drop place stack) (Done count) r (Done c) at)
        where
          dones : (d : ℕ) → Done count ≡ Done d → d ≡ count
          dones d e = cc

      -- the nodes of the class reach one another
      class_alike : (x y : ℕ) → Contains (drop place stack) x → Contains (drop place stack) y → Reaches (WaysLead ways) x y
      class_alike x y among_x among_y =
          let at_x = placed_in x among_x in
          let at_y = placed_in y among_y in
          ⊎_elim
          (λ (later : at_y.0 < at_x.0). search.joined at_y.0 at_x.0 y x (omega arith) (λ b among above. absurd (omega (arith, bounds_low b among, at_y.1))) at_y.2 at_x.2)
          (λ (before : at_x.0 ≤ at_y.0). search.chain at_x.0 at_y.0 x y before at_x.2 at_y.2)
          (cases_lt at_y.0 at_x.0)

      front_at : (i r : ℕ) → slice_get (take place stack) i ≡ Some r → (i < place) × (slice_get stack i ≡ Some r)
      front_at i r at = take_get stack place i r at

      rest_low : (a : ℕ) → Contains rest a → a < place
      rest_low a within = before_last rest place a (subst (λ (xs : List ℕ). AllPairs (λ x y. x < y) xs) split search.path_rises) within

      pub closes : IsSearchOf ways (set_all marks (drop place stack) (Done count)) next rest (take place stack) low (count + 1)
      closes =
          record {
            sized = omega (arith, search.sized, length-set_all marks (drop place stack) (Done count));
            from = search.from;
            open_marked = λ i r at. let before = front_at i r at in open_kept i r before.0 before.1;
            marked_open = λ i r at. let before = opened_old i r at in get_take stack place i r before.0 before.1;
            followed = λ i s a at less stands_a. let before = front_at a s.source stands_a in led_after a s.target (slice_get marks s.target) before.0 refl (search.followed i s a at less before.1);
            fresh = λ i s at is. ⊎_elim (λ inside. cc) (λ old. search.fresh i s at old) (set_all_cases marks (drop place stack) (Done count) s.source New is);
            falls = λ s c among at. ⊎_elim
                (λ inside.
                let on_stack = placed_in s.source inside.0 in
                let placed : (i : ℕ) × (slice_get ways i ≡ Some s) = get_from_contains ways s among in
                let led = led_done on_stack.0 s.target (slice_get marks s.target) on_stack.1 refl (search.followed placed.0 s on_stack.0 placed.1 (class_followed placed.0 on_stack.0 s placed.1 on_stack.1 on_stack.2) on_stack.2) in
                (led.0, omega (arith, led.1, inside.1), led.2))
                (λ old. let below = search.falls s c among old in (below.0, below.1, done_kept s.target below.0 below.2))
                (done_cases s.source c at);
            alike = λ x y c at_x at_y. ⊎_elim
                (λ in_x. ⊎_elim (λ in_y. class_alike x y in_x.0 in_y.0) (λ old_y. absurd (omega (arith, search.small y c old_y, in_x.1))) (done_cases y c at_y))
                (λ old_x. ⊎_elim (λ in_y. absurd (omega (arith, search.small x c old_x, in_y.1))) (λ old_y. search.alike x y c old_x old_y) (done_cases y c at_y))
                (done_cases x c at_x);
            small = λ x c at. ⊎_elim (λ inside. omega (arith, inside.1)) (λ old. omega (arith, search.small x c old)) (done_cases x c at);
            chain = λ i j x y le at_i at_j. search.chain i j x y le (front_at i x at_i).1 (front_at j y at_j).1;
            joined = λ i j x y le whole at_i at_j.
                let less : j < place = (front_at j y at_j).0 in
                search.joined i j x y le (λ b among above. ⊎_elim (λ (old : Contains low b). whole b old above) (λ (is : place ≡ b). omega arith) (Contains-push_cases low place b (subst (λ (xs : List ℕ). Contains xs b) bounds_split among))) (front_at i x at_i).1 (front_at j y at_j).1;
            finished = λ a r at.
                let before = front_at a r at in
                ⊎_elim
                (λ (old : Contains path a). ⊎_elim (λ (still : Contains rest a). inl still) (λ (now : place ≡ a). absurd (omega (arith, before.0))) (Contains-push_cases rest place a (subst (λ (xs : List ℕ). Contains xs a) split old)))
                (λ done. inr done)
                (search.finished a r before.1);
            path_open = λ a within. omega (arith, rest_low a within, length-take place stack, slice_get_within stack place p stands);
            path_rises = rises_front rest place (subst (λ (xs : List ℕ). AllPairs (λ x y. x < y) xs) split search.path_rises);
            bounds_rise = rises_front low place low_rising;
            bounds_path = λ b within. ⊎_elim (λ (still : Contains rest b). still) (λ (now : place ≡ b). absurd (omega (arith, before_last low place b low_rising within))) (Contains-push_cases rest place b (subst (λ (xs : List ℕ). Contains xs b) split (search.bounds_path b (low_in b within))));
            begins = λ some. ⊎_elim
                (λ (old : Contains low 0). old)
                (λ (now : place ≡ 0). absurd (omega (arith, length-take place stack)))
                (Contains-push_cases low place 0 (subst (λ (xs : List ℕ). Contains xs 0) bounds_split (search.begins (omega (arith, slice_get_within stack place p stands)))));
          }

module _ (ways : List Way) (marks : List Mark) (next path stack bounds : List ℕ) (count : ℕ) (search : IsSearchOf ways marks next path stack bounds count) (place p : ℕ) (last : slice_get path (length path - 1) ≡ Some place) (stands : slice_get stack place ≡ Some p) where
  -- a way from the last node of the path to a new node is followed
  pub enters_follows : (s : Way) → slice_get ways (slice_index next p) ≡ Some s → s.source ≡ p → slice_get marks s.target ≡ Some New → IsSearchOf ways (set marks s.target (Open (length stack))) (set next p (slice_index next p + 1)) (path ++ length stack ∷ []) (stack ++ s.target ∷ []) (bounds ++ length stack ∷ []) count
  enters_follows s here_s from_p new =
      let known : s.target < length marks = slice_get_within marks s.target New new in
      let entered : IsSearchOf ways (set marks s.target (Open (length stack))) next (path ++ length stack ∷ []) (stack ++ s.target ∷ []) (bounds ++ length stack ∷ []) count = enters ways marks next path stack bounds count search s.target new (λ i r at. along s.target (reach_last ways marks next path stack bounds count search place p last stands i r at) (s, contains_from_get ways (slice_index next p) s here_s, from_p, refl)) in
      follows ways (set marks s.target (Open (length stack))) next (path ++ length stack ∷ []) (stack ++ s.target ∷ []) (bounds ++ length stack ∷ []) count entered place p s (get_left stack (s.target ∷ []) place p stands) here_s from_p
      (rw (get_set marks s.target (Open (length stack)) known) (λ b among above. ⊎_elim (λ (old : Contains bounds b). absurd (omega (arith, bounds_known ways marks next path stack bounds count search b old))) (λ (now : length stack ≡ b). absurd (omega arith)) (Contains-push_cases bounds (length stack) b among)))
