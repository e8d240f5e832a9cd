-- Potentials inside columns: with them the line of each step is met.
use Rattle.std.proofs.Common.{◌≡◌, ℕ, zero, suc, ◌+◌, ◌-◌, ◌<◌, ◌≤◌, ◌==◌, ◌||◌, not, ℤ, pos, negsuc, ◌+ℤ◌, ◌-ℤ◌, ◌*ℤ◌, neg_ℤ, ◌≤ℤ◌, ◌<ℤ◌, Bool, true, false, if◌then◌else◌, List, [], ◌∷◌, ◌++◌, map, get_or, take, drop, length, inl, inr, ◌⊎◌, Option, None, Some, option_and_then, option_map, refl, sym, ap, ap₂, subst, ◌∙◌, arith}
use Rattle.std.specs.Prelude.{IfSome, slice_get}
use Rattle.std.specs.List.{All, AllByRecursion}
use Rattle.std.proofs.Math.IntN.{*ℤ_comm}
use Rattle.std.proofs.lemmas.Bool.{cases_eq, eq-eqb, ne_eqb, or_parts}
use Rattle.std.proofs.lemmas.Int.{ints}
use Rattle.std.proofs.lemmas.List.{get_or-map, length-map}
use Rattle.std.proofs.lemmas.List.FromFn.{get_or-range_with_len, length-range_with_len}
use Rattle.std.proofs.lemmas.Option.{get_or_from_slice_get, same_Some, slice_get_within}
use Rattle.wc_base.specs.Sums.{chosen, sum_in, sum_placed}
use Rattle.wc_base.proofs.EachLemmas.{each_append, each_parts, each_weaker}
use Rattle.wc_base.proofs.Products.{spread_left}
use Rattle.wc_model.specs.declared.flow_system.System.{System}
use Rattle.wc_model.specs.declared.flow_system.SystemLimit.{SystemLimit}
use Rattle.wc_model.specs.declared.flow_system.SystemLoop.{SystemLoop}
use Rattle.wc_model.specs.declared.flow_system.SystemStep.{SystemStep}
use Rattle.wc_model.specs.Flow.Cells.{is_passed, next_of, row_nodes}
use Rattle.wc_model.specs.Flow.Certificates.{Prices, ahead_of, back_price, entry_price, factor_of, limit_price, step_price}
use Rattle.wc_model.specs.Flow.Exact.{exact, negate_exact}
use Rattle.wc_model.specs.Flow.Places.{IsOnce, is_listed, number_at}
use Rattle.wc_model.specs.Flow.RowResults.{RowPrices, back_terms, chain_potentials, entry_terms, inner_potentials, limit_terms, numbered, price_ahead, price_of, step_potential, sum_terms}
use Rattle.wc_simplex.proofs.ChainLemmas.{IsFirst, IsNext, next_is, next_there, passed_is, step_at}
use Rattle.wc_simplex.proofs.ExactLemmas.{kept_is}
use Rattle.wc_simplex.proofs.LineSums.{price_unlisted}
use Rattle.wc_simplex.proofs.PartitionLemmas.{IsRun, RunsFrom}

-- Sums of terms that are all there.
abbrev pub terms_total : List (Option ℤ) → ℤ
terms_total [] = pos 0
terms_total (None ∷ ts) = terms_total ts
terms_total (Some x ∷ ts) = x +ℤ terms_total ts

abbrev pub AreThere : List (Option ℤ) → Type 0
AreThere [] = Unit {0}
AreThere (None ∷ ts) = ⊥
AreThere (Some x ∷ ts) = AreThere ts

pub sum_terms_is : (acc : ℤ) (ts : List (Option ℤ)) (v : ℤ) → sum_terms acc ts ≡ Some v → (v ≡ acc +ℤ terms_total ts) × AreThere ts
sum_terms_is acc [] v is = (omega (arith, ints, same_Some acc v is), tt)
sum_terms_is acc (None ∷ ts) v is = absurd (cc)
sum_terms_is acc (Some x ∷ ts) v is = by (exact (acc +ℤ x)) refl is (λ sum e. sum_terms_is sum ts v e)
  where
    by : (o : Option ℤ) → exact (acc +ℤ x) ≡ o → option_and_then (λ sum. sum_terms sum ts) o ≡ Some v → ((sum : ℤ) → sum_terms sum ts ≡ Some v → (v ≡ sum +ℤ terms_total ts) × AreThere ts)
        → (v ≡ acc +ℤ (x +ℤ terms_total ts)) × AreThere ts
    by None p e go = absurd (cc)
    by (Some sum) p e go = let rest = go sum e in (omega (arith, ints, rest.0, (kept_is (acc +ℤ x) sum p).0), rest.1)

total_append : (as_ bs : List (Option ℤ)) → AreThere (as_ ++ bs) → (terms_total (as_ ++ bs) ≡ terms_total as_ +ℤ terms_total bs) × AreThere as_ × AreThere bs
total_append [] bs there = (omega (arith, ints), tt, there)
total_append (None ∷ as_) bs there = absurd there
total_append (Some x ∷ as_) bs there = let rest = total_append as_ bs there in (omega (arith, ints, rest.0), rest.1, rest.2)

-- the terms of loops and limits
there_head : (o : Option ℤ) (ts : List (Option ℤ)) → AreThere (o ∷ ts) → (x : ℤ) × (o ≡ Some x) × AreThere ts
there_head None ts there = absurd there
there_head (Some x) ts there = (x, refl, there)

term_head : (o : Option ℤ) (x : ℤ) (ts : List (Option ℤ)) → o ≡ Some x → terms_total (o ∷ ts) ≡ x +ℤ terms_total ts
term_head o x ts is = ap (λ p. terms_total (p ∷ ts)) is

back_total : (i : ℕ) (loops : List SystemLoop) (vs : List ℤ) → length vs ≡ length loops → AreThere (back_terms i loops vs) → terms_total (back_terms i loops vs) ≡ neg_ℤ (back_price (number_at vs) loops i)
back_total i [] vs same there = refl
back_total i (l ∷ loops) [] same there = absurd (omega (arith, same))
back_total i (l ∷ loops) (v ∷ vs) same there = by (is_listed i l.back) there (λ later. back_total i loops vs (omega (arith, same)) later)
  where
    by : (b : Bool) → AreThere (if b then negate_exact v ∷ back_terms i loops vs else back_terms i loops vs) → (AreThere (back_terms i loops vs) → terms_total (back_terms i loops vs) ≡ neg_ℤ (back_price (number_at vs) loops i))
        → terms_total (if b then negate_exact v ∷ back_terms i loops vs else back_terms i loops vs) ≡ neg_ℤ (chosen b v +ℤ back_price (number_at vs) loops i)
    by true all go =
        let head = there_head (negate_exact v) (back_terms i loops vs) all in
        omega (arith, ints, term_head (negate_exact v) head.0 (back_terms i loops vs) head.1, (kept_is (pos 0 -ℤ v) head.0 head.1).0, go head.2)
    by false all go = omega (arith, ints, go all)

entry_total : (i : ℕ) (loops : List SystemLoop) (vs : List ℤ) → length vs ≡ length loops → AreThere (entry_terms i loops vs) → terms_total (entry_terms i loops vs) ≡ entry_price (number_at vs) loops i
entry_total i [] vs same there = refl
entry_total i (l ∷ loops) [] same there = absurd (omega (arith, same))
entry_total i (l ∷ loops) (v ∷ vs) same there = by (is_listed i l.entry) there (λ later. entry_total i loops vs (omega (arith, same)) later)
  where
    by : (b : Bool) → AreThere (if b then exact (pos l.bound *ℤ v) ∷ entry_terms i loops vs else entry_terms i loops vs)
        → (AreThere (entry_terms i loops vs) → terms_total (entry_terms i loops vs) ≡ entry_price (number_at vs) loops i)
        → terms_total (if b then exact (pos l.bound *ℤ v) ∷ entry_terms i loops vs else entry_terms i loops vs) ≡ chosen b (pos l.bound *ℤ v) +ℤ entry_price (number_at vs) loops i
    by true all go =
        let head = there_head (exact (pos l.bound *ℤ v)) (entry_terms i loops vs) all in
        omega (arith, ints, term_head (exact (pos l.bound *ℤ v)) head.0 (entry_terms i loops vs) head.1, (kept_is (pos l.bound *ℤ v) head.0 head.1).0, go head.2)
    by false all go = omega (arith, ints, go all)

limit_term : (factor w x : ℤ) → option_and_then negate_exact (exact (factor *ℤ w)) ≡ Some x → x ≡ neg_ℤ (factor *ℤ w)
limit_term factor w x is = by (exact (factor *ℤ w)) refl is
  where
    by : (o : Option ℤ) → exact (factor *ℤ w) ≡ o → option_and_then negate_exact o ≡ Some x → x ≡ neg_ℤ (factor *ℤ w)
    by None p e = absurd (cc)
    by (Some y) p e = omega (arith, ints, (kept_is (pos 0 -ℤ y) x e).0, (kept_is (factor *ℤ w) y p).0)

limit_total : (q : ℕ) (limits : List SystemLimit) (ws : List ℤ) → length ws ≡ length limits → AreThere (limit_terms q limits ws) → terms_total (limit_terms q limits ws) ≡ neg_ℤ (limit_price (number_at ws) limits q)
limit_total q [] ws same there = refl
limit_total q (l ∷ limits) [] same there = absurd (omega (arith, same))
limit_total q (l ∷ limits) (w ∷ ws) same there =
    let head = there_head (option_and_then negate_exact (exact (factor_of q l.factors *ℤ w))) (limit_terms q limits ws) there in
    omega (
      arith,
      ints,
      term_head (option_and_then negate_exact (exact (factor_of q l.factors *ℤ w))) head.0 (limit_terms q limits ws) head.1,
      limit_term (factor_of q l.factors) w head.0 head.1,
      limit_total q limits ws (omega (arith, same)) head.2,
    )

module _ (s : System) (scale : ℤ) (known : RowPrices) (loops_counted : length known.loops ≡ length s.loops) (limits_counted : length known.limits ≡ length s.limits) where
  pub potential_is : (ahead : ℤ) (i : ℕ) (t : SystemStep) (u : ℤ) → step_potential s scale known ahead i t ≡ Some u
      → u ≡ ahead +ℤ pos t.cost *ℤ scale -ℤ back_price (number_at known.loops) s.loops i +ℤ entry_price (number_at known.loops) s.loops i -ℤ limit_price (number_at known.limits) s.limits t.source
  potential_is ahead i t u is =
      let sum = sum_terms_is ahead (exact (pos t.cost *ℤ scale) ∷ back_terms i s.loops known.loops ++ entry_terms i s.loops known.loops ++ limit_terms t.source s.limits known.limits) u is in
      let head = there_head (exact (pos t.cost *ℤ scale)) (back_terms i s.loops known.loops ++ entry_terms i s.loops known.loops ++ limit_terms t.source s.limits known.limits) sum.1 in
      let outer = total_append (back_terms i s.loops known.loops ++ entry_terms i s.loops known.loops) (limit_terms t.source s.limits known.limits) head.2 in
      let inner = total_append (back_terms i s.loops known.loops) (entry_terms i s.loops known.loops) outer.1 in
      omega (
        arith,
        ints,
        sum.0,
        term_head (exact (pos t.cost *ℤ scale)) head.0 (back_terms i s.loops known.loops ++ entry_terms i s.loops known.loops ++ limit_terms t.source s.limits known.limits) head.1,
        (kept_is (pos t.cost *ℤ scale) head.0 head.1).0,
        outer.0,
        inner.0,
        back_total i s.loops known.loops loops_counted inner.1,
        entry_total i s.loops known.loops loops_counted inner.2,
        limit_total t.source s.limits known.limits limits_counted outer.2,
      )

  -- what a chain's potentials are
  abbrev pub ChainHolds : List ℕ → List (ℕ × ℤ) → Type 0
  ChainHolds [] [] = Unit {0}
  ChainHolds [] (p ∷ us) = ⊥
  ChainHolds (i ∷ later) [] = ⊥
  ChainHolds (i ∷ later) (p ∷ us) =
      (p.0 ≡ (step_at s i).source) × (step_potential s scale known (price_ahead (us ++ known.nodes) (step_at s i).target) i (step_at s i) ≡ Some p.1) × ChainHolds later us

  pub chain_holds : (later : List ℕ) (us : List (ℕ × ℤ)) → chain_potentials s scale known later ≡ Some us → ChainHolds later us
  chain_holds [] us is = subst (λ (l : List (ℕ × ℤ)). ChainHolds [] l) (same_Some [] us is) tt
  chain_holds (i ∷ later) us is = by (chain_potentials s scale known later) refl is (λ rest e. chain_holds later rest e)
    where
      by : (o : Option (List (ℕ × ℤ))) → chain_potentials s scale known later ≡ o
          → option_and_then (λ us. option_map (λ u. ((step_at s i).source, u) ∷ us) (step_potential s scale known (price_ahead (us ++ known.nodes) (step_at s i).target) i (step_at s i))) o ≡ Some us
          → ((rest : List (ℕ × ℤ)) → chain_potentials s scale known later ≡ Some rest → ChainHolds later rest) → ChainHolds (i ∷ later) us
      by None p e go = absurd (cc)
      by (Some rest) p e go = at (step_potential s scale known (price_ahead (rest ++ known.nodes) (step_at s i).target) i (step_at s i)) refl e
        where
          at : (o : Option ℤ) → step_potential s scale known (price_ahead (rest ++ known.nodes) (step_at s i).target) i (step_at s i) ≡ o → option_map (λ u. ((step_at s i).source, u) ∷ rest) o ≡ Some us → ChainHolds (i ∷ later) us
          at None q f = absurd (cc)
          at (Some u) q f = subst (λ (l : List (ℕ × ℤ)). ChainHolds (i ∷ later) l) (same_Some (((step_at s i).source, u) ∷ rest) us f) (refl, q, go rest p)

  -- all chains
  abbrev pub ChainsHold : List (List ℕ) → List (ℕ × ℤ) → Type 0
  ChainsHold [] inner = inner ≡ []
  ChainsHold (column ∷ columns) inner = (us : List (ℕ × ℤ)) × (more : List (ℕ × ℤ)) × (inner ≡ us ++ more) × ChainHolds (drop 1 column) us × ChainsHold columns more

  pub chains_hold : (columns : List (List ℕ)) (inner : List (ℕ × ℤ)) → inner_potentials s scale known columns ≡ Some inner → ChainsHold columns inner
  chains_hold [] inner is = sym (same_Some [] inner is)
  chains_hold (column ∷ columns) inner is =
      by (chain_potentials s scale known (drop 1 column)) refl (inner_potentials s scale known columns) refl is (λ more e. chains_hold columns more e)
    where
      by : (o : Option (List (ℕ × ℤ))) → chain_potentials s scale known (drop 1 column) ≡ o → (l : Option (List (ℕ × ℤ))) → inner_potentials s scale known columns ≡ l
          → option_and_then (λ us. option_map (λ more. us ++ more) l) o ≡ Some inner → ((more : List (ℕ × ℤ)) → inner_potentials s scale known columns ≡ Some more → ChainsHold columns more) → ChainsHold (column ∷ columns) inner
      by None p l q e go = absurd (cc)
      by (Some us) p None q e go = absurd (cc)
      by (Some us) p (Some more) q e go = (us, more, sym (same_Some (us ++ more) inner e), chain_holds (drop 1 column) us p, go more q)

-- Lists of nodes and numbers.
abbrev pub keys : List (ℕ × ℤ) → List ℕ
keys known = map (λ p. p.0) known

price_absent : (known : List (ℕ × ℤ)) (q : ℕ) → is_listed q (keys known) ≡ false → price_of known q ≡ pos 0
price_absent [] q none = refl
price_absent (p ∷ known) q none =
    let parts : ((q == p.0) ≡ false) × (is_listed q (keys known) ≡ false) = or_parts (q == p.0) (is_listed q (keys known)) none in
    ap (λ b. if b then p.1 else price_of known q) (ne_eqb p.0 q (λ same. wrong (q == p.0) (eq-eqb q p.0 (sym same)) parts.0)) ∙ price_absent known q parts.1
  where
    wrong : (b : Bool) → b ≡ true → b ≡ false → ⊥
    wrong true e f = cc
    wrong false e f = cc

pub price_skips : (front back : List (ℕ × ℤ)) (q : ℕ) → is_listed q (keys front) ≡ false → price_of (front ++ back) q ≡ price_of back q
price_skips [] back q none = refl
price_skips (p ∷ front) back q none =
    let parts : ((q == p.0) ≡ false) × (is_listed q (keys front) ≡ false) = or_parts (q == p.0) (is_listed q (keys front)) none in
    ap (λ b. if b then p.1 else price_of (front ++ back) q) (ne_eqb p.0 q (λ same. wrong (q == p.0) (eq-eqb q p.0 (sym same)) parts.0)) ∙ price_skips front back q parts.1
  where
    wrong : (b : Bool) → b ≡ true → b ≡ false → ⊥
    wrong true e f = cc
    wrong false e f = cc

pub price_stays : (front back : List (ℕ × ℤ)) (q : ℕ) → is_listed q (keys front) ≡ true → price_of (front ++ back) q ≡ price_of front q
price_stays [] back q listed = absurd (cc)
price_stays (p ∷ front) back q listed = by (cases_eq p.0 q) (λ e. price_stays front back q e)
  where
    by : (p.0 ≡ q) ⊎ (p.0 ≡ q → ⊥) → (is_listed q (keys front) ≡ true → price_of (front ++ back) q ≡ price_of front q)
        → (if p.0 == q then p.1 else price_of (front ++ back) q) ≡ (if p.0 == q then p.1 else price_of front q)
    by (inl same) go = ap₂ (λ (b c : Bool). if b then p.1 else price_of (front ++ back) q) (eq-eqb p.0 q same) (eq-eqb p.0 q same) ∙ sym (ap (λ b. if b then p.1 else price_of front q) (eq-eqb p.0 q same))
    by (inr apart) go = ap₂ (λ (b : Bool) z. if b then p.1 else z) refl (go (ap (λ b. b || is_listed q (keys front)) (sym (ne_eqb q p.0 (λ same. apart (sym same)))) ∙ listed))

-- where no node stands twice, each number is what is found
unlisted_apart : (known : List (ℕ × ℤ)) (q : ℕ) → is_listed q (keys known) ≡ false → AllByRecursion (λ p. p.0 ≡ q → ⊥) known
unlisted_apart [] q none = tt
unlisted_apart (p ∷ known) q none =
    let parts : ((q == p.0) ≡ false) × (is_listed q (keys known) ≡ false) = or_parts (q == p.0) (is_listed q (keys known)) none in
    (λ same. wrong (q == p.0) (eq-eqb q p.0 (sym same)) parts.0, unlisted_apart known q parts.1)
  where
    wrong : (b : Bool) → b ≡ true → b ≡ false → ⊥
    wrong true e f = cc
    wrong false e f = cc

pub once_found : (known : List (ℕ × ℤ)) → IsOnce (keys known) → AllByRecursion (λ p. price_of known p.0 ≡ p.1) known
once_found [] once = tt
once_found (p ∷ known) once =
    (ap (λ b. if b then p.1 else price_of known p.0) (eq-eqb p.0 p.0 refl), both known (unlisted_apart known p.0 once.0) (once_found known once.1))
  where
    both : (rest : List (ℕ × ℤ)) → AllByRecursion (λ r. r.0 ≡ p.0 → ⊥) rest → AllByRecursion (λ r. price_of known r.0 ≡ r.1) rest → AllByRecursion (λ r. price_of (p ∷ known) r.0 ≡ r.1) rest
    both [] apart found = tt
    both (r ∷ rest) apart found =
        (ap (λ b. if b then p.1 else price_of known r.0) (ne_eqb p.0 r.0 (λ same. apart.0 (sym same))) ∙ found.0, both rest apart.1 found.1)

pub numbered_keys : (qs : List ℕ) (xs : List ℤ) → length qs ≤ length xs → keys (numbered qs xs) ≡ qs
numbered_keys [] xs few = refl
numbered_keys (q ∷ qs) [] few = absurd (omega (arith, few))
numbered_keys (q ∷ qs) (x ∷ xs) few = ap (λ l. q ∷ l) (numbered_keys qs xs (omega (arith, few)))

-- keys of chains are the sources of their steps
pub chain_keys : (s : System) (scale : ℤ) (known : RowPrices) (a : length known.loops ≡ length s.loops) (b : length known.limits ≡ length s.limits) (later : List ℕ) (us : List (ℕ × ℤ))
    → ChainHolds s scale known a b later us → keys us ≡ map (λ i. (step_at s i).source) later
chain_keys s scale known a b [] [] holds = refl
chain_keys s scale known a b [] (p ∷ us) holds = absurd holds
chain_keys s scale known a b (i ∷ later) [] holds = absurd holds
chain_keys s scale known a b (i ∷ later) (p ∷ us) holds = ap₂ (λ x xs. x ∷ xs) holds.0 (chain_keys s scale known a b later us holds.2)

-- The potential of each node, from the rows and inside columns.
module _ (s : System) (scale : ℤ) (known : RowPrices) (a : length known.loops ≡ length s.loops) (b : length known.limits ≡ length s.limits) (inner : List (ℕ × ℤ))
    (nodes_are : keys known.nodes ≡ row_nodes s) (rows_apart : (q : ℕ) → is_passed s q ≡ true → is_listed q (row_nodes s) ≡ false)
    (rows_there : (q : ℕ) → q < s.nodes → is_passed s q ≡ false → is_listed q (row_nodes s) ≡ true) where
  abbrev pub u_of : ℕ → ℤ
  u_of q = price_of (known.nodes ++ inner) q

  abbrev pub whole : Prices
  whole = record { u = λ q. price_of (known.nodes ++ inner) q; v = number_at known.loops; w = number_at known.limits }

  passed_price : (q : ℕ) → is_passed s q ≡ true → u_of q ≡ price_of inner q
  passed_price q passes = price_skips known.nodes inner q (ap (is_listed q) nodes_are ∙ rows_apart q passes)

  pub row_price : (q : ℕ) → q < s.nodes → is_passed s q ≡ false → u_of q ≡ price_of known.nodes q
  row_price q within fails = price_stays known.nodes inner q (ap (is_listed q) nodes_are ∙ rows_there q within fails)

  ahead_row : (o : Option ℕ) → IfSome o (λ q. (q < s.nodes) × (is_passed s q ≡ false)) → price_ahead known.nodes o ≡ ahead_of u_of o
  ahead_row None ends = refl
  ahead_row (Some q) ends = sym (row_price q ends.0 ends.1)

  -- the last step of a run leads to no node that is passed through
  pub last_ends : (targets : All (λ t. IfSome t.target (λ q. q < s.nodes)) s.steps) (i : ℕ) → i < length s.steps → next_of s i ≡ None → IfSome (step_at s i).target (λ q. (q < s.nodes) × (is_passed s q ≡ false))
  last_ends targets i within none = by (step_at s i).target refl (targets i no_step_there within)
    where
      no_step_there : SystemStep
      no_step_there = record { source = 0; target = None; cost = 0 }

      wrong : (j : ℕ) → Some j ≡ None → ⊥
      wrong j e = cc

      by : (o : Option ℕ) → (step_at s i).target ≡ o → IfSome (step_at s i).target (λ q. q < s.nodes) → IfSome o (λ q. (q < s.nodes) × (is_passed s q ≡ false))
      by None p inside = tt
      by (Some q) p inside = (subst (λ (o : Option ℕ). IfSome o (λ q. q < s.nodes)) p inside, fails (is_passed s q) refl)
        where
          fails : (c : Bool) → is_passed s q ≡ c → c ≡ false
          fails false e = refl
          fails true e =
              let passed = passed_is s q e in
              absurd (wrong passed.exit (sym (next_there s i q passed within e p) ∙ none))

  module _ (targets : All (λ t. IfSome t.target (λ q. q < s.nodes)) s.steps) where
    -- the equations of a chain
    abbrev pub StepIs : ℕ → Type 0
    StepIs i = step_price s whole i (step_at s i) ≡ pos (step_at s i).cost *ℤ scale

    pub chain_steps : (m : ℕ) (later : List ℕ) (us : List (ℕ × ℤ)) → RunsFrom s m later → ChainHolds s scale known a b later us → AllByRecursion (λ p. price_of inner p.0 ≡ p.1) us → AllByRecursion StepIs later
    chain_steps m [] us runs holds found = tt
    chain_steps m (i ∷ later) [] runs holds found = absurd holds
    chain_steps m (i ∷ later) (p ∷ us) runs holds found =
        let is_next = next_is s m i runs.0 in
        let source : u_of (step_at s i).source ≡ p.1 = passed_price (step_at s i).source is_next.passes ∙ ap (price_of inner) (sym holds.0) ∙ found.0 in
        let value = potential_is s scale known a b (price_ahead (us ++ known.nodes) (step_at s i).target) i (step_at s i) p.1 holds.1 in
        let ahead : price_ahead (us ++ known.nodes) (step_at s i).target ≡ ahead_of u_of (step_at s i).target = ahead_is later us runs.1 holds.2 found.1 is_next.inside in
        (omega (arith, ints, source, value, ahead), chain_steps i later us runs.1 holds.2 found.1)
      where
        ahead_is : (later : List ℕ) (us : List (ℕ × ℤ)) → RunsFrom s i later → ChainHolds s scale known a b later us → AllByRecursion (λ p. price_of inner p.0 ≡ p.1) us → i < length s.steps
            → price_ahead (us ++ known.nodes) (step_at s i).target ≡ ahead_of u_of (step_at s i).target
        ahead_is [] [] runs holds found within = ahead_row (step_at s i).target (last_ends targets i within runs)
        ahead_is [] (r ∷ us) runs holds found within = absurd holds
        ahead_is (k ∷ later) [] runs holds found within = absurd holds
        ahead_is (k ∷ later) (r ∷ us) runs holds found within =
            let is_next = next_is s i k runs.0 in
            ap (price_ahead ((r ∷ us) ++ known.nodes)) is_next.leads
            ∙ (ap (λ c. if c then r.1 else price_of (us ++ known.nodes) (step_at s k).source) (eq-eqb r.0 (step_at s k).source holds.0)
            ∙ sym (passed_price (step_at s k).source is_next.passes ∙ ap (price_of inner) (sym holds.0) ∙ found.0))
            ∙ sym (ap (ahead_of u_of) is_next.leads)

    -- Along a run the potentials between cancel.
    abbrev end_of : ℕ → List ℕ → ℕ
    end_of m [] = m
    end_of m (i ∷ later) = end_of i later

    telescope : (f : ℕ → ℤ) (m : ℕ) (later : List ℕ) → RunsFrom s m later
        → sum_in (λ i. f (step_at s i).source -ℤ ahead_of f (step_at s i).target) (m ∷ later) ≡ f (step_at s m).source -ℤ ahead_of f (step_at s (end_of m later)).target
    telescope f m [] runs = omega (arith, ints)
    telescope f m (i ∷ later) runs =
        let is_next = next_is s m i runs.0 in
        omega (arith, ints, telescope f i later runs.1, ap (ahead_of f) is_next.leads)

    end_ends : (m : ℕ) (later : List ℕ) → m < length s.steps → RunsFrom s m later → IfSome (step_at s (end_of m later)).target (λ q. (q < s.nodes) × (is_passed s q ≡ false))
    end_ends m [] within runs = last_ends targets m within runs
    end_ends m (i ∷ later) within runs = end_ends i later (next_is s m i runs.0).inside runs.1

    same_ahead : (o : Option ℕ) → IfSome o (λ q. (q < s.nodes) × (is_passed s q ≡ false)) → ahead_of u_of o ≡ ahead_of (price_of known.nodes) o
    same_ahead None ends = refl
    same_ahead (Some q) ends = row_price q ends.0 ends.1

    abbrev pub rows_only : Prices
    rows_only = record { u = price_of known.nodes; v = number_at known.loops; w = number_at known.limits }

    apart_sum : (f : ℕ → ℤ) (xs : List ℕ)
        → sum_in (λ i. step_price s (record { u = f; v = number_at known.loops; w = number_at known.limits }) i (step_at s i)) xs
        ≡ sum_in (λ i. f (step_at s i).source -ℤ ahead_of f (step_at s i).target) xs +ℤ sum_in (λ i. back_price (number_at known.loops) s.loops i -ℤ entry_price (number_at known.loops) s.loops i +ℤ limit_price (number_at known.limits) s.limits (step_at s i).source) xs
    apart_sum f [] = refl
    apart_sum f (x ∷ xs) = omega (arith, ints, apart_sum f xs)

    run_sums : (m : ℕ) (later : List ℕ) → m < length s.steps → (step_at s m).source < s.nodes → is_passed s (step_at s m).source ≡ false → RunsFrom s m later
        → sum_in (λ i. step_price s whole i (step_at s i)) (m ∷ later) ≡ sum_in (λ i. step_price s rows_only i (step_at s i)) (m ∷ later)
    run_sums m later within inside fails runs =
        apart_sum u_of (m ∷ later)
        ∙ ap (λ z. z +ℤ sum_in (λ i. back_price (number_at known.loops) s.loops i -ℤ entry_price (number_at known.loops) s.loops i +ℤ limit_price (number_at known.limits) s.limits (step_at s i).source) (m ∷ later))
        (telescope u_of m later runs
        ∙ ap₂ (λ x y. x -ℤ y) (row_price (step_at s m).source inside fails) (same_ahead (step_at s (end_of m later)).target (end_ends m later within runs))
        ∙ sym (telescope (price_of known.nodes) m later runs))
        ∙ sym (apart_sum (price_of known.nodes) (m ∷ later))

    inner_sum : (xs : List ℕ) → AllByRecursion StepIs xs → sum_in (λ i. step_price s whole i (step_at s i)) xs ≡ scale *ℤ sum_in (λ i. pos (step_at s i).cost) xs
    inner_sum [] all = sym (zero_right scale)
      where
        zero_right : (z : ℤ) → z *ℤ pos 0 ≡ pos 0
        zero_right z = omega (arith, ints)
    inner_sum (x ∷ xs) all = omega (arith, ints, all.0, *ℤ_comm (pos (step_at s x).cost) scale, inner_sum xs all.1, spread_left scale (pos (step_at s x).cost) (sum_in (λ i. pos (step_at s i).cost) xs))

    -- Each step of a column is worth its cost.
    abbrev pub IsPaid : ℕ → Type 0
    IsPaid i = (pos (step_at s i).cost *ℤ scale) ≤ℤ step_price s whole i (step_at s i)

    pub column_paid : (sources : All (λ t. t.source < s.nodes) s.steps) (m : ℕ) (later : List ℕ) (us : List (ℕ × ℤ)) → IsFirst s m → RunsFrom s m later → ChainHolds s scale known a b later us
        → AllByRecursion (λ p. price_of inner p.0 ≡ p.1) us
        → (scale *ℤ sum_in (λ i. pos (step_at s i).cost) (m ∷ later)) ≤ℤ sum_in (λ i. step_price s rows_only i (step_at s i)) (m ∷ later)
        → AllByRecursion IsPaid (m ∷ later)
    column_paid sources m later us first runs holds found most =
        let steps = chain_steps m later us runs holds found in
        let inside : (step_at s m).source < s.nodes = sources m (record { source = 0; target = None; cost = 0 }) first.0 in
        let same = run_sums m later first.0 inside first.1 runs in (
          omega (
            arith,
            ints,
            most,
            same,
            inner_sum later steps,
            *ℤ_comm (pos (step_at s m).cost) scale,
            spread_left scale (pos (step_at s m).cost) (sum_in (λ i. pos (step_at s i).cost) later),
          ),
          paid later steps,
        )
      where
        paid : (xs : List ℕ) → AllByRecursion StepIs xs → AllByRecursion IsPaid xs
        paid [] all = tt
        paid (x ∷ xs) all = (omega (arith, ints, all.0), paid xs all.1)
