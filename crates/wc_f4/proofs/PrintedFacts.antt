-- A printed fact is a text of the grammar, and states the fact.
use Rattle.std.proofs.Common.{◌≡◌, ℕ, Bool, true, false, ◌==◌, cond, List, [], ◌∷◌, ◌++◌, Option, None, Some, refl, sym, ap, ◌∙◌, subst, arith, append_assoc, append-nil, inl, inr, decimal}
use Rattle.std.proofs.lemmas.Bool.Decides.{nat_tests}
use Rattle.std.proofs.lemmas.List.Concat.{flat_map-cons}
use Rattle.std.specs.List.{AllByRecursion}
use Rattle.std.specs.Prelude.{codes, IfSome}
use Rattle.wc_base.specs.FaultTexts.{address}
use Rattle.wc_model.specs.declared.flow_facts.Fact.{Fact}
use Rattle.wc_model.specs.declared.flow_facts.Fact.TheVariants.{Loop, Multibranch, Multicall, Noreturn, Checksum, Limit}
use Rattle.wc_model.specs.declared.flow_facts.Term.{Term}
use Rattle.wc_model.specs.declared.flow_facts.Term.TheVariants.{Constant, Visits}
use Rattle.wc_f4.specs.declared.tokens.Mark.TheVariants as sign
use Rattle.wc_f4.specs.declared.tokens.Word.{Word}
use Rattle.wc_f4.specs.declared.tokens.Word.TheVariants as keyword
use Rattle.wc_f4.specs.FactText.{bound_text, fact_text, branching_text, separated, term_text, within_text}
use Rattle.wc_f4.specs.Grammar.{Names, plain, AreAddresses, IsBranching, IsFact, IsBound, IsSum, IsTerm, IsWhole, IsWithin, bracketed, one}
use Rattle.wc_f4.specs.Stated.{IsSmall, IsStated, IsStatedTerm}
use Rattle.wc_f4.specs.Tokens.{Token, word, number, quoted, mark, text_end}
use Rattle.wc_f4.proofs.PrintedTokens.{Breaks, breaks, lex, lex_address, lex_at_most, lex_checksum, lex_close, lex_comma, lex_decimal, lex_in, lex_limit, lex_loop, lex_multibranch, lex_multicall, lex_noreturn, lex_nothing, lex_open, lex_plus, lex_question, lex_quoted, lex_semicolon, lex_space, lex_star, lex_to}

the_end : lex (59 ∷ []) ≡ mark sign.Semicolon ∷ text_end ∷ []
the_end = lex_semicolon [] ∙ ap (λ (ts : List Token). mark sign.Semicolon ∷ ts) lex_nothing

before_blank : (rest : List ℕ) → Breaks (32 ∷ rest)
before_blank rest = breaks 32 rest refl refl refl

before_end : (rest : List ℕ) → Breaks (59 ∷ rest)
before_end rest = breaks 59 rest refl refl refl

then : (t : Token) (us vs : List Token) → us ≡ vs → t ∷ us ≡ t ∷ vs
then t us vs same = ap (λ (ts : List Token). t ∷ ts) same

-- bounds
abbrev bound_token : Option ℕ → Token
bound_token None = mark sign.Question
bound_token (Some n) = number n

lex_bound : (b : Option ℕ) (rest : List ℕ) → IfSome b IsSmall → Breaks rest → lex (bound_text b ++ rest) ≡ bound_token b ∷ lex rest
lex_bound None rest small ends = lex_question rest
lex_bound (Some n) rest small ends = lex_decimal n rest small ends

bound_is : (b : Option ℕ) → IsBound (bound_token b) b
bound_is None = refl
bound_is (Some n) = refl

-- lists of addresses
abbrev more_addresses : List ℕ → List Token
more_addresses [] = []
more_addresses (a ∷ list) = mark sign.Comma ∷ number a ∷ more_addresses list

separated_cons : {X : Type 0} (between_them : List ℕ) (text : X → List ℕ) (x : X) (xs : List X) → separated between_them text (x ∷ xs) ≡ (between_them ++ text x) ++ separated between_them text xs
separated_cons between_them text x xs = flat_map-cons (λ (y : _). between_them ++ text y) x xs

addresses_break : (list : List ℕ) (rest : List ℕ) → Breaks rest → Breaks (separated (codes ", ") address list ++ rest)
addresses_break [] rest ends = ends
addresses_break (a ∷ list) rest ends = subst (λ (t : List ℕ). Breaks (t ++ rest)) (sym (separated_cons (codes ", ") address a list)) (breaks 44 _ refl refl refl)

lex_more_addresses : (list : List ℕ) (rest : List ℕ) → AllByRecursion IsSmall list → Breaks rest → lex (separated (codes ", ") address list ++ rest) ≡ more_addresses list ++ lex rest
lex_more_addresses [] rest small ends = refl
lex_more_addresses (a ∷ list) rest small ends =
    ap (λ (t : List ℕ). lex (t ++ rest)) (separated_cons (codes ", ") address a list)
    ∙ lex_comma (32 ∷ (address a ++ (separated (codes ", ") address list ++ rest)))
    ∙ then _ _ _ (lex_space (address a ++ (separated (codes ", ") address list ++ rest)) ∙ lex_address a (separated (codes ", ") address list ++ rest) small.0 (addresses_break list rest ends)
    ∙ then _ _ _ (lex_more_addresses list rest small.1 ends))

addresses_are : (names : Names) (a : ℕ) (list : List ℕ) → AreAddresses names (number a ∷ more_addresses list) (a ∷ list)
addresses_are names a [] = plain refl
addresses_are names a (b ∷ list) = (number a ∷ [], number b ∷ more_addresses list, refl, plain refl, addresses_are names b list)

lex_addresses : (a : ℕ) (list rest : List ℕ) → IsSmall a → AllByRecursion IsSmall list → Breaks rest
    → lex (address a ++ (separated (codes ", ") address list ++ rest)) ≡ number a ∷ (more_addresses list ++ lex rest)
lex_addresses a list rest small all ends =
    lex_address a (separated (codes ", ") address list ++ rest) small (addresses_break list rest ends) ∙ then _ _ _ (lex_more_addresses list rest all ends)

-- call strings
abbrev within_tokens : List ℕ → List Token
within_tokens [] = []
within_tokens (a ∷ list) = word keyword.In ∷ number a ∷ more_addresses list

within_breaks : (within rest : List ℕ) → Breaks rest → Breaks (within_text within ++ rest)
within_breaks [] rest ends = ends
within_breaks (a ∷ list) rest ends = before_blank _

lex_within : (within rest : List ℕ) → AllByRecursion IsSmall within → Breaks rest → lex (within_text within ++ rest) ≡ within_tokens within ++ lex rest
lex_within [] rest small ends = refl
lex_within (a ∷ list) rest (small, all) ends =
    ap lex (within_cells (address a) (separated (codes ", ") address list) rest)
    ∙ lex_space (codes "in " ++ (address a ++ (separated (codes ", ") address list ++ rest)))
    ∙ lex_in (address a ++ (separated (codes ", ") address list ++ rest))
    ∙ then _ _ _ (lex_addresses a list rest small all ends)
  where
    within_cells : (first others more : List ℕ) → (codes " in " ++ (first ++ others)) ++ more ≡ 32 ∷ (codes "in " ++ (first ++ (others ++ more)))
    within_cells first others more = simp append_assoc

within_is : (names : Names) (within : List ℕ) → IsWithin names (within_tokens within) within
within_is names [] = refl
within_is names (a ∷ list) = (number a ∷ more_addresses list, refl, addresses_are names a list)

-- sums
abbrev visits_tokens : Bool → ℕ → ℕ → List ℕ → List Token
visits_tokens true times at within = bracketed (number at ∷ []) (within_tokens within)
visits_tokens false times at within = number times ∷ mark sign.Star ∷ bracketed (number at ∷ []) (within_tokens within)

abbrev term_tokens : Term → List Token
term_tokens (Constant n) = number n ∷ []
term_tokens (Visits times at within) = visits_tokens (times == 1) times at within

abbrev more_terms : List Term → List Token
more_terms [] = []
more_terms (t ∷ ts) = mark sign.Plus ∷ (term_tokens t ++ more_terms ts)

lex_visited : (at : ℕ) (within rest : List ℕ) → IsSmall at → AllByRecursion IsSmall within
    → lex (((codes "[" ++ address at) ++ (within_text within ++ codes "]")) ++ rest) ≡ bracketed (number at ∷ []) (within_tokens within) ++ lex rest
lex_visited at within rest small all =
    let close = within_text within ++ 93 ∷ rest in
    let breaks_here = within_breaks within (93 ∷ rest) (breaks 93 rest refl refl refl) in
    ap lex (visited_cells (address at) (within_text within) rest)
    ∙ lex_open (address at ++ close)
    ∙ then _ _ _ (lex_address at close small breaks_here
    ∙ then _ _ _ (lex_within within (93 ∷ rest) all (breaks 93 rest refl refl refl) ∙ ap (λ (ts : List Token). within_tokens within ++ ts) (lex_close rest)))
    ∙ tokens (within_tokens within) (lex rest)
  where
    visited_cells : (first others more : List ℕ) → ((codes "[" ++ first) ++ (others ++ codes "]")) ++ more ≡ 91 ∷ (first ++ (others ++ 93 ∷ more))
    visited_cells first others more = simp append_assoc

    tokens : (us vs : List Token) → mark sign.Open ∷ number at ∷ (us ++ mark sign.Close ∷ vs) ≡ bracketed (number at ∷ []) us ++ vs
    tokens us vs = simp append_assoc

lex_visits : (once : Bool) (times at : ℕ) (within rest : List ℕ) → IsSmall times → IsSmall at → AllByRecursion IsSmall within
    → lex ((cond once [] (decimal times ++ codes " * ") ++ ((codes "[" ++ address at) ++ (within_text within ++ codes "]"))) ++ rest) ≡ visits_tokens once times at within ++ lex rest
lex_visits true times at within rest times_small small all = lex_visited at within rest small all
lex_visits false times at within rest times_small small all =
    let visited = (codes "[" ++ address at) ++ (within_text within ++ codes "]") in
    ap lex (times_cells (decimal times) visited rest)
    ∙ lex_decimal times (32 ∷ 42 ∷ 32 ∷ (visited ++ rest)) times_small (before_blank _)
    ∙ then _ _ _ (lex_space (42 ∷ 32 ∷ (visited ++ rest)) ∙ lex_star (32 ∷ (visited ++ rest)) ∙ then _ _ _ (lex_space (visited ++ rest) ∙ lex_visited at within rest small all))
  where
    times_cells : (digits text more : List ℕ) → ((digits ++ codes " * ") ++ text) ++ more ≡ digits ++ (32 ∷ 42 ∷ 32 ∷ (text ++ more))
    times_cells digits text more = simp append_assoc

lex_term : (t : Term) (rest : List ℕ) → IsStatedTerm t → Breaks rest → lex (term_text t ++ rest) ≡ term_tokens t ++ lex rest
lex_term (Constant n) rest small ends = lex_decimal n rest small ends
lex_term (Visits times at within) rest small ends = lex_visits (times == 1) times at within rest small.0 small.1 small.2

terms_break : (ts : List Term) (rest : List ℕ) → Breaks rest → Breaks (separated (codes " + ") term_text ts ++ rest)
terms_break [] rest ends = ends
terms_break (t ∷ ts) rest ends = subst (λ (u : List ℕ). Breaks (u ++ rest)) (sym (separated_cons (codes " + ") term_text t ts)) (before_blank _)

lex_sum : (t : Term) (ts : List Term) (rest : List ℕ) → IsStatedTerm t → AllByRecursion IsStatedTerm ts → Breaks rest
    → lex ((term_text t ++ separated (codes " + ") term_text ts) ++ rest) ≡ (term_tokens t ++ more_terms ts) ++ lex rest
lex_sum t [] rest small all ends =
    ap (λ (u : List ℕ). lex (u ++ rest)) (append-nil (term_text t)) ∙ lex_term t rest small ends ∙ ap (λ (us : List Token). us ++ lex rest) (sym (append-nil (term_tokens t)))
lex_sum t (u ∷ ts) rest small all ends =
    let behind = (term_text u ++ separated (codes " + ") term_text ts) ++ rest in
    let cells : (separated (codes " + ") term_text (u ∷ ts)) ++ rest ≡ 32 ∷ 43 ∷ 32 ∷ behind = ap (λ (v : List ℕ). v ++ rest) (separated_cons (codes " + ") term_text u ts) in
    append_lex t (separated (codes " + ") term_text (u ∷ ts)) rest small (terms_break (u ∷ ts) rest ends)
    ∙ ap (λ (us : List Token). term_tokens t ++ us)
    (ap lex cells ∙ lex_space (43 ∷ 32 ∷ behind) ∙ lex_plus (32 ∷ behind) ∙ then _ _ _ (lex_space behind ∙ lex_sum u ts rest all.0 all.1 ends))
    ∙ sym (append_assoc (term_tokens t) (more_terms (u ∷ ts)) (lex rest))
  where
    append_lex : (v : Term) (text more : List ℕ) → IsStatedTerm v → Breaks (text ++ more) → lex ((term_text v ++ text) ++ more) ≡ term_tokens v ++ lex (text ++ more)
    append_lex v text more stated breaks_more = ap lex (append_assoc (term_text v) text more) ∙ lex_term v (text ++ more) stated breaks_more

times_once : (times : ℕ) (same : Bool) → (times == 1) ≡ same → same ≡ true → times ≡ 1
times_once times same is yes_same = grind (arith, nat_tests)

visits_are : (names : Names) (times at : ℕ) (within : List ℕ) (once : Bool) → (times == 1) ≡ once → IsTerm names (visits_tokens once times at within) (Visits times at within)
visits_are names times at within true is = (number at ∷ [], within_tokens within, plain refl, within_is names within, inl (times_once times true is refl, refl))
visits_are names times at within false is = (number at ∷ [], within_tokens within, plain refl, within_is names within, inr refl)

term_is : (names : Names) (t : Term) → IsTerm names (term_tokens t) t
term_is names (Constant n) = refl
term_is names (Visits times at within) = visits_are names times at within (times == 1) refl

sum_is : (names : Names) (t : Term) (ts : List Term) → IsSum names (term_tokens t ++ more_terms ts) (t ∷ ts)
sum_is names t [] = subst (λ (us : List Token). IsTerm names us t) (sym (append-nil (term_tokens t))) (term_is names t)
sum_is names t (u ∷ ts) = (term_tokens t, term_tokens u ++ more_terms ts, refl, term_is names t, sum_is names u ts)

-- the tokens of a fact, and the end of the text
whole : (names : Names) (fact : Fact) (us : List Token) → lex (fact_text fact) ≡ us ++ text_end ∷ [] → IsFact names us fact → IsWhole one names (lex (fact_text fact)) (fact ∷ [])
whole names fact us same is = ((us, text_end ∷ [], same, is, refl), refl)

-- the tokens of a fact on an indirect jump or call
abbrev branching_tokens : Word → ℕ → ℕ → List ℕ → List Token
branching_tokens w at a list = word w ∷ number at ∷ word keyword.To ∷ number a ∷ (more_addresses list ++ mark sign.Semicolon ∷ [])

lex_branching : (head : List ℕ) (w : Word) → ((rest : List ℕ) → lex (head ++ rest) ≡ word w ∷ lex rest) → (at a : ℕ) (list : List ℕ) → IsSmall at → IsSmall a → AllByRecursion IsSmall list
    → lex (branching_text head at (a ∷ list)) ≡ branching_tokens w at a list ++ text_end ∷ []
lex_branching head w reads at a list small first all =
    let rest = address a ++ (separated (codes ", ") address list ++ 59 ∷ []) in
    ap lex (branching_cells head (address at) (address a) (separated (codes ", ") address list))
    ∙ reads (address at ++ (32 ∷ (codes "to " ++ rest)))
    ∙ then _ _ _ (lex_address at (32 ∷ (codes "to " ++ rest)) small (before_blank _)
    ∙ then _ _ _ (lex_space (codes "to " ++ rest) ∙ lex_to rest
    ∙ then _ _ _ (lex_addresses a list (59 ∷ []) first all (before_end []) ∙ then _ _ _ (ap (λ (ts : List Token). more_addresses list ++ ts) the_end ∙ sym (append_assoc (more_addresses list) (mark sign.Semicolon ∷ []) (text_end ∷ []))))))
  where
    branching_cells : (word_text from first_to others : List ℕ) → (word_text ++ (from ++ codes " to ")) ++ ((first_to ++ others) ++ codes ";") ≡ word_text ++ (from ++ (32 ∷ (codes "to " ++ (first_to ++ (others ++ 59 ∷ [])))))
    branching_cells word_text from first_to others = simp append_assoc

branching_is : (names : Names) (w : Word) (at a : ℕ) (list : List ℕ) → IsBranching names w (branching_tokens w at a list) at (a ∷ list)
branching_is names w at a list = (number at ∷ [], number a ∷ more_addresses list, refl, plain refl, addresses_are names a list)

lex_loop_fact : (at : ℕ) (b : Option ℕ) (within : List ℕ) → IsStated (Loop at b within)
    → lex (fact_text (Loop at b within)) ≡ (word keyword.Loop ∷ number at ∷ bound_token b ∷ (within_tokens within ++ mark sign.Semicolon ∷ [])) ++ text_end ∷ []
lex_loop_fact at b within (small, bound, all) =
    let rest = within_text within ++ 59 ∷ [] in
    ap lex (loop_cells (address at) (bound_text b) (within_text within))
    ∙ lex_loop (address at ++ (32 ∷ (bound_text b ++ rest)))
    ∙ then _ _ _ (lex_address at (32 ∷ (bound_text b ++ rest)) small (before_blank _)
    ∙ then _ _ _ (lex_space (bound_text b ++ rest) ∙ lex_bound b rest bound (within_breaks within (59 ∷ []) (before_end []))
    ∙ then _ _ _ (lex_within within (59 ∷ []) all (before_end []) ∙ ap (λ (ts : List Token). within_tokens within ++ ts) the_end ∙ sym (append_assoc (within_tokens within) (mark sign.Semicolon ∷ []) (text_end ∷ [])))))
  where
    loop_cells : (from most others : List ℕ) → (codes "loop " ++ from ++ codes " " ++ most) ++ (others ++ codes ";") ≡ codes "loop " ++ (from ++ (32 ∷ (most ++ (others ++ 59 ∷ []))))
    loop_cells from most others = simp append_assoc

pub printed_whole : (names : Names) (fact : Fact) → IsStated fact → IsWhole one names (lex (fact_text fact)) (fact ∷ [])
printed_whole names (Loop at b within) stated =
    whole names (Loop at b within) (word keyword.Loop ∷ number at ∷ bound_token b ∷ (within_tokens within ++ mark sign.Semicolon ∷ [])) (lex_loop_fact at b within stated)
    (number at ∷ [], bound_token b, within_tokens within, refl, plain refl, bound_is b, within_is names within)
printed_whole names (Multibranch at []) (small, none, all) = absurd none
printed_whole names (Multibranch at (a ∷ list)) (small, some, all) =
    whole names (Multibranch at (a ∷ list)) (branching_tokens keyword.Multibranch at a list)
    (lex_branching (codes "multibranch ") keyword.Multibranch lex_multibranch at a list small all.0 all.1) (branching_is names keyword.Multibranch at a list)
printed_whole names (Multicall at []) (small, none, all) = absurd none
printed_whole names (Multicall at (a ∷ list)) (small, some, all) =
    whole names (Multicall at (a ∷ list)) (branching_tokens keyword.Multicall at a list)
    (lex_branching (codes "multicall ") keyword.Multicall lex_multicall at a list small all.0 all.1) (branching_is names keyword.Multicall at a list)
printed_whole names (Noreturn at) small =
    whole names (Noreturn at) (word keyword.Noreturn ∷ number at ∷ mark sign.Semicolon ∷ [])
    (lex_noreturn (address at ++ 59 ∷ []) ∙ then _ _ _ (lex_address at (59 ∷ []) small (before_end []) ∙ then _ _ _ the_end))
    (number at ∷ [], refl, plain refl)
printed_whole names (Checksum s n) (all, small) =
    let text : fact_text (Checksum s n) ≡ codes "checksum " ++ (34 ∷ (s ++ 34 ∷ (32 ∷ (decimal n ++ 59 ∷ [])))) = checksum_cells s (decimal n) in
    whole names (Checksum s n) (word keyword.Checksum ∷ quoted s ∷ number n ∷ mark sign.Semicolon ∷ [])
    (ap lex text ∙ lex_checksum (34 ∷ (s ++ 34 ∷ (32 ∷ (decimal n ++ 59 ∷ []))))
    ∙ then _ _ _ (lex_quoted s (32 ∷ (decimal n ++ 59 ∷ [])) all
    ∙ then _ _ _ (lex_space (decimal n ++ 59 ∷ []) ∙ lex_decimal n (59 ∷ []) small (before_end []) ∙ then _ _ _ the_end)))
    refl
  where
    checksum_cells : (name digits : List ℕ) → codes "checksum \"" ++ name ++ codes "\" " ++ digits ++ codes ";" ≡ codes "checksum " ++ (34 ∷ (name ++ 34 ∷ (32 ∷ (digits ++ 59 ∷ []))))
    checksum_cells name digits = simp append_assoc
printed_whole names (Limit [] right) (none, all, some, others) = absurd none
printed_whole names (Limit (t ∷ ts) []) (some, all, none, others) = absurd none
printed_whole names (Limit (t ∷ ts) (u ∷ us)) (some, all, more, others) =
    let rest = (term_text u ++ separated (codes " + ") term_text us) ++ 59 ∷ [] in
    whole names (Limit (t ∷ ts) (u ∷ us)) (word keyword.Limit ∷ ((term_tokens t ++ more_terms ts) ++ (mark sign.AtMost ∷ ((term_tokens u ++ more_terms us) ++ mark sign.Semicolon ∷ []))))
    (lex_limit ((term_text t ++ separated (codes " + ") term_text ts) ++ (32 ∷ 60 ∷ 61 ∷ 32 ∷ rest))
    ∙ then _ _ _ (lex_sum t ts (32 ∷ 60 ∷ 61 ∷ 32 ∷ rest) all.0 all.1 (before_blank _)
    ∙ ap (λ (vs : List Token). (term_tokens t ++ more_terms ts) ++ vs)
    (lex_space (60 ∷ 61 ∷ 32 ∷ rest) ∙ lex_at_most (32 ∷ rest) ∙ then _ _ _ (lex_space rest ∙ lex_sum u us (59 ∷ []) others.0 others.1 (before_end []) ∙ ap (λ (vs : List Token). (term_tokens u ++ more_terms us) ++ vs) the_end)))
    ∙ limit_end (term_tokens t ++ more_terms ts) (term_tokens u ++ more_terms us))
    (term_tokens t ++ more_terms ts, term_tokens u ++ more_terms us, refl, sum_is names t ts, sum_is names u us)
  where
    limit_end : (xs ys : List Token) → word keyword.Limit ∷ (xs ++ (mark sign.AtMost ∷ (ys ++ (mark sign.Semicolon ∷ text_end ∷ [])))) ≡ (word keyword.Limit ∷ (xs ++ (mark sign.AtMost ∷ (ys ++ mark sign.Semicolon ∷ [])))) ++ text_end ∷ []
    limit_end xs ys = simp append_assoc
