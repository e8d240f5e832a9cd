-- Every text of the grammar is read, as what it states.
use Rattle.std.proofs.Common.{◌≡◌, ℕ, ◌-◌, Bool, true, false, cond, List, [], ◌∷◌, ◌++◌, length, Option, None, Some, Ok, Err, refl, sym, ap, ◌∙◌, subst, arith, append_assoc, append-nil, ◌⊎◌, inl, inr, ⊎_elim}
use Rattle.wc_model.specs.declared.flow_facts.Fact.{Fact}
use Rattle.wc_model.specs.declared.flow_facts.Fact.TheVariants.{Loop, Multibranch, Multicall, Noreturn, Checksum, Limit}
use Rattle.wc_model.specs.declared.flow_facts.Term.{Term}
use Rattle.wc_model.specs.declared.flow_facts.Term.TheVariants.{Constant, Visits}
use Rattle.wc_f4.specs.declared.stops.Stop.TheVariants.{Bad}
use Rattle.wc_f4.specs.declared.tokens.Mark.TheVariants as sign
use Rattle.wc_f4.specs.declared.tokens.Word.{Word}
use Rattle.wc_f4.specs.declared.tokens.Word.TheVariants as keyword
use Rattle.wc_f4.specs.Grammar.{Names, IsAddress, plain, named, above, below, AreAddresses, IsBound, IsBranching, IsFact, IsSum, IsTerm, IsText, IsWithin, Wanted, any, one, IsWhole}
use Rattle.wc_f4.specs.Places as place
use Rattle.wc_f4.specs.Places.{Answer, Owner, Part, Place, Side, Turn, after_address, answer, branching_fact, follow, is_this, on_this, turn, with_term, with_terms}
use Rattle.wc_f4.specs.declared.branchings.Branching.{Branching}
use Rattle.wc_f4.specs.declared.branchings.Branching.TheVariants.{Jump, Call}
use Rattle.wc_f4.specs.Tokens.{Token, Placed, tokens_of, word, number, quoted, mark, text_end}
use Rattle.wc_f4.proofs.ParsingLemmas.{back, by_turn, within}
use Rattle.wc_f4.proofs.JoinedLemmas.{one_term, term_first}
use Rattle.wc_f4.proofs.Refusals.{minus_refused, plus_refused, star_refused, whole_refuses}
use Rattle.wc_f4.proofs.SameTokens.{this_is}

-- where reading begins, and where a fact has ended
abbrev pub first_of : Wanted → Place
first_of any = place.start
first_of one = place.first

abbrev pub later_of : Wanted → Place
later_of any = place.start
later_of one = place.finish

-- a place that takes one more token than another: what the other one doesn't refuse has the same turn at both
abbrev Like : Turn → Turn → Type 0
Like more less = (more ≡ less) ⊎ (less ≡ place.refused)

like_this : (u t : Token) (does : Turn) (less : Token → Turn) → less u ≡ place.refused → Like (on_this u t does (less t)) (less t)
like_this u t does less never = by_case (is_this u t) refl
  where
    by_case : (same : Bool) → is_this u t ≡ same → Like (cond same does (less t)) (less t)
    by_case true is = inr (ap less (sym (this_is u t is)) ∙ never)
    by_case false is = inl refl

like_both : (a b c : Turn) → Like a b → Like b c → Like a c
like_both a b c (inl same) (inl again) = inl (same ∙ again)
like_both a b c (inr none) (inl again) = inr (sym again ∙ none)
like_both a b c first (inr none) = inr none

like_moved : (part : Part) (at : ℕ) (t : Token) → Like (place.at_moved part at t) (place.at_behind (after_address part at) t)
like_moved part at t =
    let next = after_address part at in
    like_both _ _ _
    (like_this (mark sign.Plus) t (place.go (place.above part at)) (λ u. on_this (mark sign.Minus) u (place.go (place.below part at)) (place.at_behind next u)) (plus_refused next))
    (like_this (mark sign.Minus) t (place.go (place.below part at)) (place.at_behind next) (minus_refused next))

module _ (names : Names) (later : Place) (fs : List Fact) where
  -- the tokens are read as the facts
  abbrev pub Accepts : Place → List Fact → List Token → Type 0
  Accepts p facts us = (ts : List Placed) → tokens_of ts ≡ us → answer names later p facts ts ≡ Ok fs

  accept_go : (p next : Place) (facts : List Fact) (t : Token) (us : List Token) → turn names p t ≡ place.go next → Accepts next facts us → Accepts p facts (t ∷ us)
  accept_go p next facts t us does h [] are = absurd (cc)
  accept_go p next facts t us does h (x ∷ ts) are =
      let head : x.0 ≡ t = cc in
      let tail : tokens_of ts ≡ us = cc in
      by_turn names later p facts (x ∷ ts) ts x.0 x.1 (place.go next) refl (ap (turn names p) head ∙ does) ∙ h ts tail

  accept_fact : (p : Place) (fact : Fact) (facts : List Fact) (t : Token) (us : List Token) → turn names p t ≡ place.states fact → Accepts later (facts ++ fact ∷ []) us → Accepts p facts (t ∷ us)
  accept_fact p fact facts t us does h [] are = absurd (cc)
  accept_fact p fact facts t us does h (x ∷ ts) are =
      let head : x.0 ≡ t = cc in
      let tail : tokens_of ts ≡ us = cc in
      by_turn names later p facts (x ∷ ts) ts x.0 x.1 (place.states fact) refl (ap (turn names p) head ∙ does) ∙ h ts tail

  accept_end : (p : Place) (us : List Token) → turn names p text_end ≡ place.ends → us ≡ text_end ∷ [] → Accepts p fs us
  accept_end p us does is [] are = absurd (cc)
  accept_end p us does is (x ∷ ts) are =
      let head : x.0 ≡ text_end = cc in
      by_turn names later p fs (x ∷ ts) ts x.0 x.1 place.ends refl (ap (turn names p) head ∙ does)

  -- a place is as good as another one, if each token has the same turn there or is refused at the other one
  accept_like : (p q : Place) (facts : List Fact) (us : List Token) → ((t : Token) → Like (turn names p t) (turn names q t)) → Accepts q facts us → Accepts p facts us
  unfolding answer
  accept_like p q facts us like h [] are = h [] are
  accept_like p q facts us like h (x ∷ ts) are =
      ⊎_elim (λ same. ap (λ (u : Turn). follow u x.1 later facts (λ next all. answer names later next all ts)) same ∙ h (x ∷ ts) are)
      (λ no_turn.
      let wrong : answer names later q facts (x ∷ ts) ≡ Err (Bad x.1) = by_turn names later q facts (x ∷ ts) ts x.0 x.1 place.refused refl no_turn in
      let right : answer names later q facts (x ∷ ts) ≡ Ok fs = h (x ∷ ts) are in
      let both : ◌≡◌ {A = Answer} (Err (Bad x.1)) (Ok fs) = sym wrong ∙ right in
      absurd (cc))
      (like x.0)

  accept_tokens : (p : Place) (facts : List Fact) (us vs : List Token) → us ≡ vs → Accepts p facts vs → Accepts p facts us
  accept_tokens p facts us vs same h = λ ts are. h ts (are ∙ same)

  address_accepted : (part : Part) (facts : List Fact) (us : List Token) (at : ℕ) (rest : List Token) → IsAddress names us at → Accepts (place.behind (after_address part at)) facts rest → Accepts (place.address part) facts (us ++ rest)
  address_accepted part facts us at rest (plain is) h =
      subst (λ (vs : List Token). Accepts (place.address part) facts (vs ++ rest)) (sym is) (accept_go (place.address part) (place.behind (after_address part at)) facts (number at) rest refl h)
  address_accepted part facts us at rest (named s is stands) h =
      subst (λ (vs : List Token). Accepts (place.address part) facts (vs ++ rest)) (sym is)
      (accept_go (place.address part) (place.moved part at) facts (quoted s) rest (ap (place.named part) stands)
      (accept_like (place.moved part at) (place.behind (after_address part at)) facts rest (like_moved part at) h))
  address_accepted part facts us at rest (above s base n is stands sum fits) h =
      subst (λ (vs : List Token). Accepts (place.address part) facts (vs ++ rest)) (sym is)
      (accept_go (place.address part) (place.moved part base) facts (quoted s) (mark sign.Plus ∷ number n ∷ rest) (ap (place.named part) stands)
      (accept_go (place.moved part base) (place.above part base) facts (mark sign.Plus) (number n ∷ rest) refl
      (accept_go (place.above part base) (place.behind (after_address part at)) facts (number n) rest
      (within part base n (omega (arith, sum, fits)) ∙ ap (place.lands part) (sym sum)) h)))
  address_accepted part facts us at rest (below s base n is stands sum) h =
      let distance : base - n ≡ at = omega (arith, sum) in
      subst (λ (vs : List Token). Accepts (place.address part) facts (vs ++ rest)) (sym is)
      (accept_go (place.address part) (place.moved part base) facts (quoted s) (mark sign.Minus ∷ number n ∷ rest) (ap (place.named part) stands)
      (accept_go (place.moved part base) (place.below part base) facts (mark sign.Minus) (number n ∷ rest) refl
      (accept_go (place.below part base) (place.behind (after_address part at)) facts (number n) rest
      (back part base n (omega (arith, sum)) ∙ ap (place.lands part) distance) h)))

  addresses_accepted : (owner : Owner) (before : List ℕ) (facts : List Fact) (ws : List Token) (more : List ℕ) (rest : List Token) → AreAddresses names ws more
      → Accepts (place.whole owner (before ++ more)) facts rest → Accepts (place.address (place.listed owner before)) facts (ws ++ rest)
  addresses_accepted owner before facts ws [] rest are h = absurd are
  addresses_accepted owner before facts ws (a ∷ []) rest is h =
      let list = before ++ a ∷ [] in
      address_accepted (place.listed owner before) facts ws a rest is
      (accept_like (place.behind (place.after_listed owner list)) (place.whole owner list) facts rest
      (λ t. like_this (mark sign.Comma) t _ (place.at_whole owner list) (whole_refuses owner list (mark sign.Comma) refl refl)) h)
  addresses_accepted owner before facts ws (a ∷ b ∷ more) rest (us, vs, same, is, are) h =
      let tokens : ws ++ rest ≡ us ++ (mark sign.Comma ∷ (vs ++ rest)) = ap (λ (xs : List Token). xs ++ rest) same ∙ append_assoc us (mark sign.Comma ∷ vs) rest in
      accept_tokens (place.address (place.listed owner before)) facts _ _ tokens
      (address_accepted (place.listed owner before) facts us a (mark sign.Comma ∷ (vs ++ rest)) is
      (accept_go (place.behind (place.after_listed owner (before ++ a ∷ []))) (place.address (place.listed owner (before ++ a ∷ []))) facts (mark sign.Comma) (vs ++ rest) refl
      (addresses_accepted owner (before ++ a ∷ []) facts vs (b ∷ more) rest are
      (subst (λ (all : List ℕ). Accepts (place.whole owner all) facts rest) (sym (append_assoc before (a ∷ []) (b ∷ more))) h))))

  within_accepted : (owner : Owner) (facts : List Fact) (ws : List Token) (within : List ℕ) (rest : List Token) → IsWithin names ws within
      → Accepts (place.whole owner within) facts rest → Accepts (place.behind (place.within owner)) facts (ws ++ rest)
  within_accepted owner facts ws [] rest none h =
      accept_tokens (place.behind (place.within owner)) facts _ _ (ap (λ (xs : List Token). xs ++ rest) none)
      (accept_like (place.behind (place.within owner)) (place.whole owner []) facts rest
      (λ t. like_this (word keyword.In) t _ (place.at_whole owner []) (whole_refuses owner [] (word keyword.In) refl refl)) h)
  within_accepted owner facts ws (a ∷ more) rest (us, same, are) h =
      accept_tokens (place.behind (place.within owner)) facts _ _ (ap (λ (xs : List Token). xs ++ rest) same)
      (accept_go (place.behind (place.within owner)) (place.address (place.listed owner [])) facts (word keyword.In) (us ++ rest) refl
      (addresses_accepted owner [] facts us (a ∷ more) rest are h))

  visits_accepted : (side : Side) (n : ℕ) (facts : List Fact) (us vs : List Token) (at : ℕ) (within : List ℕ) (rest : List Token) → IsAddress names us at → IsWithin names vs within
      → Accepts (place.after_term (with_term side (Visits n at within))) facts rest → Accepts (place.address (place.visited side n)) facts ((us ++ (vs ++ mark sign.Close ∷ [])) ++ rest)
  visits_accepted side n facts us vs at within rest is are h =
      let tokens : (us ++ (vs ++ mark sign.Close ∷ [])) ++ rest ≡ us ++ (vs ++ (mark sign.Close ∷ rest)) = simp append_assoc in
      accept_tokens (place.address (place.visited side n)) facts _ _ tokens
      (address_accepted (place.visited side n) facts us at (vs ++ mark sign.Close ∷ rest) is
      (within_accepted (place.counted side n at) facts vs within (mark sign.Close ∷ rest) are
      (accept_go (place.whole (place.counted side n at) within) (place.after_term (with_term side (Visits n at within))) facts (mark sign.Close) rest refl h)))

  term_accepted : (side : Side) (facts : List Fact) (ts : List Token) (t : Term) (rest : List Token) → IsTerm names ts t
      → Accepts (place.after_term (with_term side t)) facts rest → Accepts (place.term side) facts (ts ++ rest)
  term_accepted side facts ts (Constant n) rest is h =
      accept_tokens (place.term side) facts _ _ (ap (λ (xs : List Token). xs ++ rest) is)
      (accept_go (place.term side) (place.times side n) facts (number n) rest refl
      (accept_like (place.times side n) (place.after_term (with_term side (Constant n))) facts rest
      (λ t. like_this (mark sign.Star) t _ (place.at_after_term (with_term side (Constant n))) (star_refused (with_term side (Constant n)))) h))
  term_accepted side facts ts (Visits n at within) rest (us, vs, is, are, inl (once, same)) h =
      accept_tokens (place.term side) facts _ _ (ap (λ (xs : List Token). xs ++ rest) same)
      (accept_go (place.term side) (place.address (place.visited side 1)) facts (mark sign.Open) ((us ++ (vs ++ mark sign.Close ∷ [])) ++ rest) refl
      (visits_accepted side 1 facts us vs at within rest is are (subst (λ (k : ℕ). Accepts (place.after_term (with_term side (Visits k at within))) facts rest) once h)))
  term_accepted side facts ts (Visits n at within) rest (us, vs, is, are, inr same) h =
      accept_tokens (place.term side) facts _ _ (ap (λ (xs : List Token). xs ++ rest) same)
      (accept_go (place.term side) (place.times side n) facts (number n) _ refl
      (accept_go (place.times side n) (place.opening side n) facts (mark sign.Star) _ refl
      (accept_go (place.opening side n) (place.address (place.visited side n)) facts (mark sign.Open) ((us ++ (vs ++ mark sign.Close ∷ [])) ++ rest) refl
      (visits_accepted side n facts us vs at within rest is are h))))

  sum_accepted : (side : Side) (facts : List Fact) (ws : List Token) (terms : List Term) (rest : List Token) → IsSum names ws terms
      → Accepts (place.after_term (with_terms side terms)) facts rest → Accepts (place.term side) facts (ws ++ rest)
  sum_accepted side facts ws [] rest are h = absurd are
  sum_accepted side facts ws (t ∷ []) rest is h = term_accepted side facts ws t rest is (subst (λ (s : Side). Accepts (place.after_term s) facts rest) (one_term side t) h)
  sum_accepted side facts ws (t ∷ u ∷ terms) rest (us, vs, same, is, are) h =
      let tokens : ws ++ rest ≡ us ++ (mark sign.Plus ∷ (vs ++ rest)) = ap (λ (xs : List Token). xs ++ rest) same ∙ append_assoc us (mark sign.Plus ∷ vs) rest in
      accept_tokens (place.term side) facts _ _ tokens
      (term_accepted side facts us t (mark sign.Plus ∷ (vs ++ rest)) is
      (accept_go (place.after_term (with_term side t)) (place.term (with_term side t)) facts (mark sign.Plus) (vs ++ rest) refl
      (sum_accepted (with_term side t) facts vs (u ∷ terms) rest are
      (subst (λ (s : Side). Accepts (place.after_term s) facts rest) (term_first side t (u ∷ terms)) h))))

  branching_accepted : (p : Place) (kind : Branching) (w : Word) → turn names p (word w) ≡ place.go (place.address (place.branching kind)) → (facts : List Fact) (ts : List Token) (at : ℕ) (list : List ℕ) (rest : List Token)
      → IsBranching names w ts at list → Accepts later (facts ++ branching_fact kind at list ∷ []) rest → Accepts p facts (ts ++ rest)
  branching_accepted p kind w begins facts ts at list rest (us, vs, same, is, are) h =
      let tokens : (word w ∷ us ++ (word keyword.To ∷ vs ++ mark sign.Semicolon ∷ [])) ++ rest ≡ word w ∷ (us ++ (word keyword.To ∷ (vs ++ mark sign.Semicolon ∷ rest))) = simp append_assoc in
      accept_tokens p facts _ _ (ap (λ (xs : List Token). xs ++ rest) same ∙ tokens)
      (accept_go p (place.address (place.branching kind)) facts (word w) _ begins
      (address_accepted (place.branching kind) facts us at (word keyword.To ∷ (vs ++ mark sign.Semicolon ∷ rest)) is
      (accept_go (place.behind (place.to kind at)) (place.address (place.listed (place.targets kind at) [])) facts (word keyword.To) (vs ++ mark sign.Semicolon ∷ rest) refl
      (addresses_accepted (place.targets kind at) [] facts vs list (mark sign.Semicolon ∷ rest) are
      (accept_fact (place.whole (place.targets kind at) list) (branching_fact kind at list) facts (mark sign.Semicolon) rest refl h)))))

  bound_turns : (at : ℕ) (t : Token) (b : Option ℕ) → IsBound t b → turn names (place.behind (place.bound at)) t ≡ place.go (place.behind (place.within (place.bounded at b)))
  bound_turns at t None is = ap (place.at_behind (place.bound at)) is
  bound_turns at t (Some n) is = ap (place.at_behind (place.bound at)) is

  pub fact_accepted : (p : Place) → ((w : Word) → turn names p (word w) ≡ place.begin_fact w) → (facts : List Fact) (ts : List Token) (f : Fact) (rest : List Token) → IsFact names ts f
      → Accepts later (facts ++ f ∷ []) rest → Accepts p facts (ts ++ rest)
  fact_accepted p starts facts ts (Loop at b within) rest (us, t, vs, same, is, bounds, are) h =
      let tokens : (word keyword.Loop ∷ us ++ (t ∷ (vs ++ mark sign.Semicolon ∷ []))) ++ rest ≡ word keyword.Loop ∷ (us ++ (t ∷ (vs ++ (mark sign.Semicolon ∷ rest)))) = simp append_assoc in
      accept_tokens p facts _ _ (ap (λ (xs : List Token). xs ++ rest) same ∙ tokens)
      (accept_go p (place.address place.looped) facts (word keyword.Loop) _ (starts keyword.Loop)
      (address_accepted place.looped facts us at (t ∷ (vs ++ (mark sign.Semicolon ∷ rest))) is
      (accept_go (place.behind (place.bound at)) (place.behind (place.within (place.bounded at b))) facts t (vs ++ (mark sign.Semicolon ∷ rest)) (bound_turns at t b bounds)
      (within_accepted (place.bounded at b) facts vs within (mark sign.Semicolon ∷ rest) are
      (accept_fact (place.whole (place.bounded at b) within) (Loop at b within) facts (mark sign.Semicolon) rest refl h)))))
  fact_accepted p starts facts ts (Multibranch at list) rest is h = branching_accepted p Jump keyword.Multibranch (starts keyword.Multibranch) facts ts at list rest is h
  fact_accepted p starts facts ts (Multicall at list) rest is h = branching_accepted p Call keyword.Multicall (starts keyword.Multicall) facts ts at list rest is h
  fact_accepted p starts facts ts (Noreturn at) rest (us, same, is) h =
      let tokens : ts ++ rest ≡ word keyword.Noreturn ∷ (us ++ mark sign.Semicolon ∷ rest) = ap (λ (xs : List Token). xs ++ rest) same ∙ append_assoc (word keyword.Noreturn ∷ us) (mark sign.Semicolon ∷ []) rest in
      accept_tokens p facts _ _ tokens
      (accept_go p (place.address place.noreturn) facts (word keyword.Noreturn) _ (starts keyword.Noreturn)
      (address_accepted place.noreturn facts us at (mark sign.Semicolon ∷ rest) is
      (accept_fact (place.behind (place.closing (Noreturn at))) (Noreturn at) facts (mark sign.Semicolon) rest refl h)))
  fact_accepted p starts facts ts (Checksum s n) rest same h =
      accept_tokens p facts _ _ (ap (λ (xs : List Token). xs ++ rest) same)
      (accept_go p place.name facts (word keyword.Checksum) _ (starts keyword.Checksum)
      (accept_go place.name (place.value s) facts (quoted s) _ refl
      (accept_go (place.value s) (place.behind (place.closing (Checksum s n))) facts (number n) _ refl
      (accept_fact (place.behind (place.closing (Checksum s n))) (Checksum s n) facts (mark sign.Semicolon) rest refl h))))
  fact_accepted p starts facts ts (Limit first second) rest (us, vs, same, are, others) h =
      let tokens : (word keyword.Limit ∷ us ++ (mark sign.AtMost ∷ vs ++ mark sign.Semicolon ∷ [])) ++ rest ≡ word keyword.Limit ∷ (us ++ (mark sign.AtMost ∷ (vs ++ mark sign.Semicolon ∷ rest))) = simp append_assoc in
      accept_tokens p facts _ _ (ap (λ (xs : List Token). xs ++ rest) same ∙ tokens)
      (accept_go p (place.term (place.left [])) facts (word keyword.Limit) _ (starts keyword.Limit)
      (sum_accepted (place.left []) facts us first (mark sign.AtMost ∷ (vs ++ mark sign.Semicolon ∷ rest)) are
      (accept_go (place.after_term (place.left first)) (place.term (place.right first [])) facts (mark sign.AtMost) _ refl
      (sum_accepted (place.right first []) facts vs second (mark sign.Semicolon ∷ rest) others
      (accept_fact (place.after_term (place.right first second)) (Limit first second) facts (mark sign.Semicolon) rest refl h)))))

all_accepted : (names : Names) (fs facts : List Fact) (ts : List Token) (more : List Fact) → fs ≡ facts ++ more → IsText names ts more → Accepts names place.start fs place.start facts ts
all_accepted names fs facts ts [] all is =
    subst (λ (gs : List Fact). Accepts names place.start fs place.start gs ts) (all ∙ append-nil facts) (accept_end names place.start fs place.start ts refl is)
all_accepted names fs facts ts (f ∷ more) all (us, vs, same, is, text) =
    accept_tokens names place.start fs place.start facts ts (us ++ vs) same
    (fact_accepted names place.start fs place.start (λ w. refl) facts us f vs is
    (all_accepted names fs (facts ++ f ∷ []) vs more (all ∙ sym (append_assoc facts (f ∷ []) more)) text))

one_accepted : (names : Names) (fs : List Fact) (ts : List Token) → IsText names ts fs → length fs ≡ 1 → Accepts names place.finish fs place.first [] ts
one_accepted names [] ts text count = absurd (omega arith)
one_accepted names (f ∷ []) ts (us, vs, same, is, ended) count =
    accept_tokens names place.finish (f ∷ []) place.first [] ts (us ++ vs) same
    (fact_accepted names place.finish (f ∷ []) place.first (λ w. refl) [] us f vs is (accept_end names place.finish (f ∷ []) place.finish vs refl ended))
one_accepted names (f ∷ g ∷ fs) ts text count = absurd (omega arith)

pub whole_accepted : (wanted : Wanted) (names : Names) (ts : List Token) (fs : List Fact) → IsWhole wanted names ts fs → Accepts names (later_of wanted) fs (first_of wanted) [] ts
whole_accepted any names ts fs (text, count) = all_accepted names fs [] ts fs refl text
whole_accepted one names ts fs (text, count) = one_accepted names fs ts text count
