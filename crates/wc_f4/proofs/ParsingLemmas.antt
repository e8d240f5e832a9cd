-- One token's turn, and parts of a text read one behind the other.
use Rattle.std.proofs.Common.{◌≡◌, ℕ, ◌+◌, ◌-◌, ◌<◌, ◌≤◌, ◌^◌, Bool, true, false, nat_lt, nat_le, List, [], ◌∷◌, ◌++◌, None, Some, Result, Ok, Err, IsErrAnd, subst, refl, sym, ap, ◌∙◌, arith, append_assoc, append-nil}
use Rattle.std.proofs.lemmas.Bool.Decides.{nat_tests}
use Rattle.std.proofs.lemmas.Result.{err_from_is_err_and}
use Rattle.std.specs.declared.alloc.AllocError.{AllocError}
use Rattle.wc_model.specs.declared.flow_facts.Fact.{Fact}
use Rattle.wc_model.specs.declared.flow_facts.Term.{Term}
use Rattle.wc_f4.specs.declared.tokens.Mark.TheVariants as sign
use Rattle.wc_f4.specs.declared.tokens.Word.{Word}
use Rattle.wc_f4.specs.declared.stops.Stop.{Stop}
use Rattle.wc_f4.specs.declared.stops.Stop.TheVariants.{Bad, Unknown, Memory}
use Rattle.wc_f4.specs.Grammar.{Names}
use Rattle.wc_f4.specs.Parts.{after_one, after_one_term}
use Rattle.wc_f4.specs.Places.{Answer, Goes, Place, Turn, Part, Side, Owner, answer, follow, turn, go, ends, refused, start, first, finish, address, listed, moved, bound, behind as past, after_listed, whole, term, after_term, ended, after_address, lands, up, down, with_term, with_terms, left, right, begin_fact, on_number, on_quoted, on_word, on_end, number_or}
use Rattle.wc_f4.specs.Taking.{Heads, StandsAtEnd, Takes, TakesAny, TakesThis}
use Rattle.wc_f4.specs.Tokens.{Token, Placed, word, number, quoted, mark, text_end}
use Rattle.wc_f4.proofs.SameTokens.{other_this}

-- the first token's turn
pub turns : (names : Names) (later place : Place) (facts : List Fact) (old rest : List Placed) (t : Token) (at : ℕ) → old ≡ (t, at) ∷ rest
    → answer names later place facts old ≡ follow (turn names place t) at later facts (λ next all. answer names later next all rest)
unfolding answer
turns names later place facts old rest t at is = ap (answer names later place facts) is

pub by_turn : (names : Names) (later place : Place) (facts : List Fact) (old rest : List Placed) (t : Token) (at : ℕ) (is : Turn) → old ≡ (t, at) ∷ rest → turn names place t ≡ is
    → answer names later place facts old ≡ follow is at later facts (λ next all. answer names later next all rest)
by_turn names later place facts old rest t at is head does =
    turns names later place facts old rest t at head ∙ ap (λ (u : Turn). follow u at later facts (λ next all. answer names later next all rest)) does

-- a token has the same turn at two places
pub same_turn : (names : Names) (later p q : Place) (facts : List Fact) (old : List Placed) (t : Token) (at : ℕ) → Heads t at old → turn names p t ≡ turn names q t
    → answer names later p facts old ≡ answer names later q facts old
same_turn names later p q facts old t at (rest, is) same =
    by_turn names later p facts old rest t at (turn names q t) is same ∙ sym (turns names later q facts old rest t at is)

-- a part behind what was read before
pub behind : {Y : Type 0} (result : Result Y Stop) (before mid : Answer) (after : Y → Answer) → before ≡ mid → Goes result mid after → Goes result before after
behind (Ok y) before mid after same goes = same ∙ goes
behind (Err (Memory e)) before mid after same goes = tt
behind (Err (Bad at)) before mid after same goes = same ∙ goes
behind (Err (Unknown at)) before mid after same goes = same ∙ goes

-- a stop passed on
pub passed : {X Y : Type 0} (stop : Stop) (before : Answer) (k : X → Answer) (after : Y → Answer) → Goes {X = X} (Err stop) before k → Goes {X = Y} (Err stop) before after
passed (Memory e) before k after goes = tt
passed (Bad at) before k after goes = goes
passed (Unknown at) before k after goes = goes

-- an error that was handed on
kept : {X E : Type 0} (r : Result X E) (e : E) → IsErrAnd r (λ x. x ≡ e) → r ≡ Err e
kept r e is = let p = err_from_is_err_and r is in p.1 ∙ ap Err p.2

pub passed_on : {X Y : Type 0} (result : Result Y Stop) (stop : Stop) (before : Answer) (k : X → Answer) (after : Y → Answer)
    → IsErrAnd result (λ s. s ≡ stop) → Goes {X = X} (Err stop) before k → Goes result before after
passed_on {Y = Y} result stop before k after is goes = subst (λ (r : Result Y Stop). Goes r before after) (sym (kept result stop is)) (passed stop before k after goes)

pub no_memory : {Y : Type 0} (result : Result Y Stop) (e : AllocError) (before : Answer) (after : Y → Answer) → IsErrAnd result (λ s. s ≡ Memory e) → Goes result before after
no_memory {Y = Y} result e before after is = subst (λ (r : Result Y Stop). Goes r before after) (sym (kept result (Memory e) is)) tt

-- the answer after a part, in other words
pub ahead : {Y : Type 0} (result : Result Y Stop) (before : Answer) (k after : Y → Answer) → ((y : Y) → k y ≡ after y) → Goes result before k → Goes result before after
ahead (Ok y) before k after same goes = goes ∙ same y
ahead (Err (Memory e)) before k after same goes = tt
ahead (Err (Bad at)) before k after same goes = goes
ahead (Err (Unknown at)) before k after same goes = goes

-- a token that a place refuses
pub takes_stop : {X Y : Type 0} (names : Names) (place : Place) (is : X → Token) (stop : Stop) (old new : List Placed)
    → ((t : Token) → ((x : X) → t ≡ is x → ⊥) → turn names place t ≡ refused) → Takes is (Err stop) old new
    → (later : Place) (facts : List Fact) (after : Y → Answer) → Goes {X = Y} (Err stop) (answer names later place facts old) after
takes_stop names place is (Bad at) old new refuses (t, (rest, head), other) later facts after = by_turn names later place facts old rest t at refused head (refuses t other)
takes_stop names place is (Unknown at) old new refuses none later facts after = absurd none
takes_stop names place is (Memory e) old new refuses none later facts after = absurd none

pub stopped : {X Y : Type 0} (names : Names) (place : Place) (is : X → Token) (result : Result Y Stop) (stop : Stop) (old new : List Placed)
    → ((t : Token) → ((x : X) → t ≡ is x → ⊥) → turn names place t ≡ refused) → IsErrAnd result (λ s. s ≡ stop) → Takes is (Err stop) old new
    → (later : Place) (facts : List Fact) (after : Y → Answer) → Goes result (answer names later place facts old) after
stopped {Y = Y} names place is result stop old new refuses ends_with takes later facts after =
    subst (λ (r : Result Y Stop). Goes r (answer names later place facts old) after) (sym (kept result stop ends_with)) (takes_stop names place is stop old new refuses takes later facts after)

-- a token stands at one place
pub one_place : (old rest more : List Placed) (t u : Token) (p q : ℕ) → old ≡ (t, p) ∷ rest → old ≡ (u, q) ∷ more → p ≡ q
one_place old rest more t u p q head again = let pair : ◌≡◌ {A = Placed} (t, p) (u, q) = cc in ap (λ (x : Placed). x.1) pair

-- a mark or a word that is read where it stands
pub this_read : (names : Names) (later place : Place) (facts : List Fact) (u : Token) (next : Place) (old new : List Placed)
    → turn names place u ≡ go next → TakesThis u true old new → answer names later place facts old ≡ answer names later next facts new
this_read names later place facts u next old new wants (at, head) = by_turn names later place facts old new u at (go next) head wants

-- one that doesn't stand there: the place is as good as another one
pub this_absent : (names : Names) (later p q : Place) (facts : List Fact) (u : Token) (old new : List Placed)
    → ((t : Token) → (t ≡ u → ⊥) → turn names p t ≡ turn names q t) → TakesThis u false old new → answer names later p facts old ≡ answer names later q facts new
this_absent names later p q facts u old new alike (same, (at, (t, heads, other))) =
    same_turn names later p q facts old t at heads (alike t (λ is. other tt is)) ∙ ap (answer names later q facts) (sym same)

pub any_absent : {X : Type 0} (names : Names) (later p q : Place) (facts : List Fact) (is : X → Token) (old new : List Placed)
    → ((t : Token) → ((x : X) → t ≡ is x → ⊥) → turn names p t ≡ turn names q t) → TakesAny is None old new → answer names later p facts old ≡ answer names later q facts new
any_absent names later p q facts is old new alike (same, (at, (t, heads, other))) =
    same_turn names later p q facts old t at heads (alike t other) ∙ ap (answer names later q facts) (sym same)

pub any_read : {X : Type 0} (names : Names) (later place : Place) (facts : List Fact) (is : X → Token) (x : X) (next : Place) (old new : List Placed)
    → turn names place (is x) ≡ go next → TakesAny is (Some x) old new → answer names later place facts old ≡ answer names later next facts new
any_read names later place facts is x next old new wants (at, head) = by_turn names later place facts old new (is x) at (go next) head wants

-- tokens of other kinds
pub no_number : (t : Token) (is : ℕ → Turn) → ((n : ℕ) → t ≡ number n → ⊥) → on_number t is ≡ refused
no_number (number n) is differs = absurd (differs n refl)
no_number _ is differs = refl

pub other_number : (t : Token) (is : ℕ → Turn) (other : Turn) → ((n : ℕ) → t ≡ number n → ⊥) → number_or t is other ≡ other
other_number (number n) is other differs = absurd (differs n refl)
other_number _ is other differs = refl

pub no_quoted : (t : Token) (is : List ℕ → Turn) → ((s : List ℕ) → t ≡ quoted s → ⊥) → on_quoted t is ≡ refused
no_quoted (quoted s) is differs = absurd (differs s refl)
no_quoted _ is differs = refl

pub no_word : (t : Token) (is : Word → Turn) → ((w : Word) → t ≡ word w → ⊥) → on_word t is ≡ refused
no_word (word w) is differs = absurd (differs w refl)
no_word _ is differs = refl

pub no_end : (t : Token) (other : Turn) → (t ≡ text_end → ⊥) → on_end t other ≡ other
no_end text_end other differs = absurd (differs refl)
no_end _ other differs = refl

-- distances
pub within : (part : Part) (base n : ℕ) → base + n < 2 ^ 32 → up part base n ≡ lands part (base + n)
within part base n few = let is : nat_lt (base + n) (2 ^ 32) ≡ true = grind (arith, nat_tests) in rw is refl

pub beyond : (part : Part) (base n : ℕ) → 2 ^ 32 ≤ base + n → up part base n ≡ refused
beyond part base n many = let is : nat_lt (base + n) (2 ^ 32) ≡ false = grind (arith, nat_tests) in rw is refl

pub back : (part : Part) (base n : ℕ) → n ≤ base → down part base n ≡ lands part (base - n)
back part base n few = let is : nat_le n base ≡ true = grind (arith, nat_tests) in rw is refl

pub too_far_back : (part : Part) (base n : ℕ) → base < n → down part base n ≡ refused
too_far_back part base n many = let is : nat_le n base ≡ false = grind (arith, nat_tests) in rw is refl

pub stays : (names : Names) (later : Place) (part : Part) (base : ℕ) (facts : List Fact) (old mid new : List Placed)
    → TakesThis (mark sign.Plus) false old mid → TakesThis (mark sign.Minus) false mid new
    → answer names later (moved part base) facts old ≡ answer names later (past (after_address part base)) facts new
stays names later part base facts old mid new (same, (at, (t, (rest, head), other))) (again, (at', (u, (more, next), differs))) =
    let pair : ◌≡◌ {A = Placed} (t, at) (u, at') = cc in
    let one : t ≡ u = ap (λ (x : Placed). x.0) pair in
    same_turn names later (moved part base) (past (after_address part base)) facts old t at (rest, head)
    (other_this (mark sign.Plus) t _ _ (λ is. other tt is) ∙ other_this (mark sign.Minus) t _ _ (λ is. differs tt (sym one ∙ is)))
    ∙ ap (answer names later (past (after_address part base)) facts) (sym same ∙ sym again)

pub one_more : (side : Side) (terms : List Term) (t : Term) → with_term (with_terms side terms) t ≡ with_terms side (terms ++ t ∷ [])
one_more (left before) terms t = ap left (append_assoc before terms (t ∷ []))
one_more (right before terms') terms t = ap (right before) (append_assoc terms' terms (t ∷ []))

pub after_sum : (names : Names) (later : Place) (facts : List Fact) (side : Side) (terms : List Term) (more : Bool) (old new : List Placed) → TakesThis (mark sign.Plus) more old new
    → answer names later (after_term (with_terms side terms)) facts old ≡ answer names later (after_one_term side terms more) facts new
after_sum names later facts side terms true old new takes = this_read names later (after_term (with_terms side terms)) facts (mark sign.Plus) (term (with_terms side terms)) old new refl takes
after_sum names later facts side terms false old new takes =
    this_absent names later (after_term (with_terms side terms)) (ended (with_terms side terms)) facts (mark sign.Plus) old new (λ t other. other_this (mark sign.Plus) t _ _ other) takes

pub after_list : (names : Names) (later : Place) (facts : List Fact) (owner : Owner) (addresses : List ℕ) (more : Bool) (old new : List Placed) → TakesThis (mark sign.Comma) more old new
    → answer names later (past (after_listed owner addresses)) facts old ≡ answer names later (after_one owner addresses more) facts new
after_list names later facts owner addresses true old new taken = this_read names later (past (after_listed owner addresses)) facts (mark sign.Comma) (address (listed owner addresses)) old new refl taken
after_list names later facts owner addresses false old new taken =
    this_absent names later (past (after_listed owner addresses)) (whole owner addresses) facts (mark sign.Comma) old new (λ t other. other_this (mark sign.Comma) t _ _ other) taken

pub no_terms : (side : Side) → with_terms side [] ≡ side
no_terms (left before) = ap left (append-nil before)
no_terms (right before terms) = ap (right before) (append-nil terms)

-- two places of the same turns
pub alike_places : (names : Names) (later p q : Place) (facts : List Fact) (ts : List Placed) → ((t : Token) → turn names p t ≡ turn names q t)
    → answer names later p facts ts ≡ answer names later q facts ts
unfolding answer
alike_places names later p q facts [] alike = refl
alike_places names later p q facts (t ∷ ts) alike = ap (λ (u : Turn). follow u t.1 later facts (λ next all. answer names later next all ts)) (alike t.0)

no_bound_stop : {Y : Type 0} (names : Names) (later : Place) (from : ℕ) (facts : List Fact) (stop : Stop) (old mid new : List Placed)
    → TakesThis (mark sign.Question) false old mid → Takes number (Err stop) mid new → (next : Y → Answer)
    → Goes {X = Y} (Err stop) (answer names later (past (bound from)) facts old) next
no_bound_stop names later from facts (Bad p) old mid new (same, (at, (t, (rest, head), other))) (u, (more, again), differs) next =
    let pair : ◌≡◌ {A = Placed} (t, at) (u, p) = cc in
    let one : t ≡ u = ap (λ (x : Placed). x.0) pair in
    by_turn names later (past (bound from)) facts old more u p refused (sym same ∙ again)
    (other_this (mark sign.Question) u _ _ (λ is. other tt (one ∙ is)) ∙ no_number u _ differs)
no_bound_stop names later from facts (Unknown p) old mid new absent none next = absurd none
no_bound_stop names later from facts (Memory e) old mid new absent none next = absurd none

pub no_bound : {Y : Type 0} (names : Names) (later : Place) (from : ℕ) (facts : List Fact) (result : Result Y Stop) (stop : Stop) (old mid new : List Placed)
    → TakesThis (mark sign.Question) false old mid → IsErrAnd result (λ s. s ≡ stop) → Takes number (Err stop) mid new → (next : Y → Answer)
    → Goes result (answer names later (past (bound from)) facts old) next
no_bound {Y = Y} names later from facts result stop old mid new absent ends_with takes next =
    subst (λ (r : Result Y Stop). Goes r (answer names later (past (bound from)) facts old) next) (sym (kept result stop ends_with)) (no_bound_stop names later from facts stop old mid new absent takes next)

-- the end of the text, where it may stand
pub at_end : (names : Names) (later place : Place) (facts : List Fact) (ts : List Placed) → turn names place text_end ≡ ends → StandsAtEnd true ts
    → answer names later place facts ts ≡ Ok facts
at_end names later place facts ts does (at, (rest, head)) = by_turn names later place facts ts rest text_end at ends head does

pub not_at_end : (names : Names) (later : Place) (facts : List Fact) (ts : List Placed) (p : ℕ) → StandsAtEnd false ts → (t : Token) × Heads t p ts
    → answer names later finish facts ts ≡ Err (Bad p)
not_at_end names later facts ts p (t, at, (rest, head), other) (u, (more, next)) =
    by_turn names later finish facts ts rest t at refused head (no_end t refused other)
    ∙ ap (λ (q : ℕ). Err (Bad q)) (one_place ts rest more t u at p head next)

-- where a fact may stand, another token than the end is as good where one must stand
pub alike_here : (names : Names) (later : Place) (facts : List Fact) (ts : List Placed) → StandsAtEnd false ts
    → answer names later start facts ts ≡ answer names later first facts ts
alike_here names later facts ts (t, at, heads, other) = same_turn names later start first facts ts t at heads (no_end t (on_word t begin_fact) other)
