-- What the tokens before a place say: whatever the grammar allows behind them makes a fact.
use Rattle.std.proofs.Common.{◌≡◌, ℕ, ◌+◌, ◌-◌, ◌<◌, ◌≤◌, ◌^◌, Bool, true, false, nat_lt, nat_le, cond, List, [], ◌∷◌, ◌++◌, Option, None, Some, refl, sym, ap, subst, arith, append_assoc, append-nil, inl, inr}
use Rattle.std.proofs.lemmas.Bool.Decides.{nat_tests}
use Rattle.wc_model.specs.declared.flow_facts.Fact.{Fact}
use Rattle.wc_model.specs.declared.flow_facts.Fact.TheVariants.{Loop, Checksum, Limit}
use Rattle.wc_model.specs.declared.flow_facts.Term.{Term}
use Rattle.wc_model.specs.declared.flow_facts.Term.TheVariants.{Constant, Visits}
use Rattle.wc_f4.specs.declared.tokens.Mark.TheVariants as sign
use Rattle.wc_f4.specs.declared.tokens.Word.{Word}
use Rattle.wc_f4.specs.declared.tokens.Word.TheVariants as keyword
use Rattle.wc_f4.specs.Grammar.{Names, IsAddress, plain, named, above, below, AreAddresses, IsBound, IsBranching, IsFact, IsSum, IsTerm, IsWithin, bracketed}
use Rattle.wc_f4.specs.Places as place
use Rattle.wc_f4.specs.Places.{Owner, Part, Place, Side, Turn, after_address, branching_fact, turn, with_term, with_terms, is_this, on_this, on_number, on_quoted, on_word, on_end, number_or}
use Rattle.wc_f4.specs.Tokens.{Token, word, number, quoted, mark, text_end}
use Rattle.wc_f4.proofs.JoinedLemmas.{joined_cons, one_term, term_first, within_is}
use Rattle.wc_f4.proofs.SameTokens.{this_is}

few : (a b : ℕ) → nat_lt a b ≡ true → a < b
few a b is = grind (arith, nat_tests)

not_more : (a b : ℕ) → nat_le a b ≡ true → a ≤ b
not_more a b is = grind (arith, nat_tests)

-- a place inside a fact
abbrev pub IsInner : Place → Type 0
IsInner place.start = ⊥
IsInner place.first = ⊥
IsInner place.finish = ⊥
IsInner _ = Unit {0}

-- names stand for addresses
abbrev pub Bounded : Names → Type 0
Bounded names = (s : List ℕ) (at : ℕ) → names s ≡ Some at → at < 2 ^ 32

module _ (names : Names) where
  -- the fact, once ";" stands behind the tokens
  abbrev pub Done : Fact → List Token → Type 0
  Done fact vs = IsFact names (vs ++ mark sign.Semicolon ∷ []) fact

  abbrev pub Ended : Side → List Token → Type 0
  Ended (place.left terms) vs = (ws : List Token) (more : List Term) → IsSum names ws more → Done (Limit terms more) ((vs ++ mark sign.AtMost ∷ []) ++ ws)
  Ended (place.right first terms) vs = Done (Limit first terms) vs

  abbrev pub AtTerm : Side → List Token → Type 0
  AtTerm side vs = (ws : List Token) (more : List Term) → IsSum names ws more → Ended (with_terms side more) (vs ++ ws)

  abbrev pub AfterTerm : Side → List Token → Type 0
  AfterTerm side vs = Ended side vs × AtTerm side (vs ++ mark sign.Plus ∷ [])

  -- behind a whole list of addresses
  abbrev pub Whole : Owner → List ℕ → List Token → Type 0
  Whole (place.targets kind at) to vs = Done (branching_fact kind at to) vs
  Whole (place.bounded at b) within vs = Done (Loop at b within) vs
  Whole (place.counted side n at) within vs = AfterTerm (with_term side (Visits n at within)) (vs ++ mark sign.Close ∷ [])

  abbrev pub AtList : Owner → List ℕ → List Token → Type 0
  AtList owner before vs = (ws : List Token) (more : List ℕ) → AreAddresses names ws more → Whole owner (before ++ more) (vs ++ ws)

  abbrev pub Within : Owner → List Token → Type 0
  Within owner vs = Whole owner [] vs × AtList owner [] (vs ++ word keyword.In ∷ [])

  abbrev pub AtBound : ℕ → List Token → Type 0
  AtBound at vs = (t : Token) (b : Option ℕ) → IsBound t b → Within (place.bounded at b) (vs ++ t ∷ [])

  -- behind an address
  abbrev pub Behind : place.Behind → List Token → Type 0
  Behind (place.bound at) vs = AtBound at vs
  Behind (place.to kind at) vs = AtList (place.targets kind at) [] (vs ++ word keyword.To ∷ [])
  Behind (place.within owner) vs = Within owner vs
  Behind (place.after_listed owner before) vs = Whole owner before vs × AtList owner before (vs ++ mark sign.Comma ∷ [])
  Behind (place.closing fact) vs = Done fact vs

  abbrev pub Landed : Part → ℕ → List Token → Type 0
  Landed part at vs = Behind (after_address part at) vs

  abbrev pub AtAddress : Part → List Token → Type 0
  AtAddress part vs = (us : List Token) (at : ℕ) → IsAddress names us at → Landed part at (vs ++ us)

  abbrev pub Above : Part → ℕ → List Token → Type 0
  Above part base vs = (n : ℕ) → base + n < 2 ^ 32 → Landed part (base + n) (vs ++ number n ∷ [])

  abbrev pub Below : Part → ℕ → List Token → Type 0
  Below part base vs = (n : ℕ) → n ≤ base → Landed part (base - n) (vs ++ number n ∷ [])

  abbrev pub AtOpening : Side → ℕ → List Token → Type 0
  AtOpening side n vs = AtAddress (place.visited side n) (vs ++ mark sign.Open ∷ [])

  -- what the tokens of a fact before a place say
  abbrev pub Holds : Place → List Token → Type 0
  Holds place.start vs = vs ≡ []
  Holds place.first vs = vs ≡ []
  Holds place.finish vs = vs ≡ []
  Holds (place.address part) vs = AtAddress part vs
  Holds (place.label part) vs = ⊥
  Holds (place.moved part at) vs = (at < 2 ^ 32) × Landed part at vs × Above part at (vs ++ mark sign.Plus ∷ []) × Below part at (vs ++ mark sign.Minus ∷ [])
  Holds (place.above part at) vs = (at < 2 ^ 32) × Above part at vs
  Holds (place.below part at) vs = Below part at vs
  Holds (place.behind next) vs = Behind next vs
  Holds (place.whole owner addresses) vs = ⊥
  Holds place.name vs = (s : List ℕ) (n : ℕ) → Done (Checksum s n) ((vs ++ quoted s ∷ []) ++ number n ∷ [])
  Holds (place.value s) vs = (n : ℕ) → Done (Checksum s n) (vs ++ number n ∷ [])
  Holds (place.term side) vs = AtTerm side vs
  Holds (place.times side n) vs = AfterTerm (with_term side (Constant n)) vs × AtOpening side n (vs ++ mark sign.Star ∷ [])
  Holds (place.opening side n) vs = AtOpening side n vs
  Holds (place.after_term side) vs = AfterTerm side vs
  Holds (place.ended side) vs = ⊥

  -- what the tokens up to a turn say
  abbrev pub Follows : Turn → List Token → Type 0
  Follows (place.go next) vs = IsInner next × Holds next vs
  Follows (place.states fact) vs = IsFact names vs fact
  Follows place.ends vs = vs ≡ text_end ∷ []
  Follows place.refused vs = Unit {0}
  Follows place.unknown vs = (s : List ℕ) × (names s ≡ None)

  -- turns by the kind of token
  by_this : (same : Bool) (a b : Turn) (vs : List Token) → (same ≡ true → Follows a vs) → Follows b vs → Follows (cond same a b) vs
  by_this true a b vs h g = h refl
  by_this false a b vs h g = g

  this_turn : (u t : Token) (a b : Turn) (vs : List Token) → Follows a (vs ++ u ∷ []) → Follows b (vs ++ t ∷ []) → Follows (on_this u t a b) (vs ++ t ∷ [])
  this_turn u t a b vs h g = by_this (is_this u t) a b (vs ++ t ∷ []) (λ is. subst (λ (x : Token). Follows a (vs ++ x ∷ [])) (this_is u t is) h) g

  number_turn : (t : Token) (f : ℕ → Turn) (vs : List Token) → ((n : ℕ) → Follows (f n) (vs ++ number n ∷ [])) → Follows (on_number t f) (vs ++ t ∷ [])
  number_turn (number n) f vs h = h n
  number_turn _ f vs h = tt

  number_or_turn : (t : Token) (f : ℕ → Turn) (b : Turn) (vs : List Token) → ((n : ℕ) → Follows (f n) (vs ++ number n ∷ [])) → Follows b (vs ++ t ∷ []) → Follows (number_or t f b) (vs ++ t ∷ [])
  number_or_turn (number n) f b vs h g = h n
  number_or_turn _ f b vs h g = g

  quoted_turn : (t : Token) (f : List ℕ → Turn) (vs : List Token) → ((s : List ℕ) → Follows (f s) (vs ++ quoted s ∷ [])) → Follows (on_quoted t f) (vs ++ t ∷ [])
  quoted_turn (quoted s) f vs h = h s
  quoted_turn _ f vs h = tt

  word_turn : (t : Token) (f : Word → Turn) (vs : List Token) → ((w : Word) → Follows (f w) (vs ++ word w ∷ [])) → Follows (on_word t f) (vs ++ t ∷ [])
  word_turn (word w) f vs h = h w
  word_turn _ f vs h = tt

  end_turn : (t : Token) (b : Turn) (vs : List Token) → vs ≡ [] → Follows b (vs ++ t ∷ []) → Follows (on_end t b) (vs ++ t ∷ [])
  end_turn text_end b vs none g = ap (λ (us : List Token). us ++ text_end ∷ []) none
  end_turn _ b vs none g = g

  -- one address of a list, and those behind it
  at_listed : (owner : Owner) (before : List ℕ) (vs : List Token) → AtList owner before vs → AtAddress (place.listed owner before) vs
  at_listed owner before vs h us at is = (
    h us (at ∷ []) is,
    λ ws more are.
        let tokens : vs ++ (us ++ mark sign.Comma ∷ ws) ≡ ((vs ++ us) ++ mark sign.Comma ∷ []) ++ ws = simp append_assoc in
        subst (λ (list : List ℕ). Whole owner list (((vs ++ us) ++ mark sign.Comma ∷ []) ++ ws)) (sym (append_assoc before (at ∷ []) more))
        (subst (λ (ts : List Token). Whole owner (before ++ at ∷ more) ts) tokens (h (us ++ mark sign.Comma ∷ ws) (at ∷ more) (joined_cons (IsAddress names) (mark sign.Comma) us ws at more is are))),
  )

  -- a list behind "in", or none
  at_within : (owner : Owner) (vs : List Token) → ((ws : List Token) (within : List ℕ) → IsWithin names ws within → Whole owner within (vs ++ ws)) → Within owner vs
  at_within owner vs h = (
    subst (Whole owner []) (append-nil vs) (h [] [] refl),
    λ ws more are. subst (Whole owner more) (sym (append_assoc vs (word keyword.In ∷ []) ws)) (h (word keyword.In ∷ ws) more (within_is names ws more are)),
  )

  at_term : (side : Side) (vs : List Token) → AtTerm side vs → (ws : List Token) (t : Term) → IsTerm names ws t → AfterTerm (with_term side t) (vs ++ ws)
  at_term side vs h ws t is = (
    subst (λ (s : Side). Ended s (vs ++ ws)) (one_term side t) (h ws (t ∷ []) is),
    λ us more are.
        let tokens : vs ++ (ws ++ mark sign.Plus ∷ us) ≡ ((vs ++ ws) ++ mark sign.Plus ∷ []) ++ us = simp append_assoc in
        subst (λ (s : Side). Ended s (((vs ++ ws) ++ mark sign.Plus ∷ []) ++ us)) (term_first side t more)
        (subst (λ (ts : List Token). Ended (with_terms side (t ∷ more)) ts) tokens (h (ws ++ mark sign.Plus ∷ us) (t ∷ more) (joined_cons (IsTerm names) (mark sign.Plus) ws us t more is are))),
  )

  -- the beginnings
  loop_begins : AtAddress place.looped (word keyword.Loop ∷ [])
  loop_begins us at is = λ t b bounds.
      at_within (place.bounded at b) ((word keyword.Loop ∷ us) ++ t ∷ [])
      (λ ws within are.
      let tokens : ((((word keyword.Loop ∷ us) ++ t ∷ []) ++ ws) ++ mark sign.Semicolon ∷ []) ≡ word keyword.Loop ∷ us ++ (t ∷ (ws ++ mark sign.Semicolon ∷ [])) = simp append_assoc in
      (us, t, ws, tokens, is, bounds, are))

  branching_begins : (w : Word) (us : List Token) (at : ℕ) (ws : List Token) (to : List ℕ) → IsAddress names us at → AreAddresses names ws to
      → IsBranching names w ((((word w ∷ us) ++ word keyword.To ∷ []) ++ ws) ++ mark sign.Semicolon ∷ []) at to
  branching_begins w us at ws to is are =
      let tokens : ((((word w ∷ us) ++ word keyword.To ∷ []) ++ ws) ++ mark sign.Semicolon ∷ []) ≡ word w ∷ us ++ (word keyword.To ∷ ws ++ mark sign.Semicolon ∷ []) = simp append_assoc in
      (us, ws, tokens, is, are)

  limit_begins : AtTerm (place.left []) (word keyword.Limit ∷ [])
  limit_begins us first are = λ ws more others.
      let tokens : ((((word keyword.Limit ∷ us) ++ mark sign.AtMost ∷ []) ++ ws) ++ mark sign.Semicolon ∷ []) ≡ word keyword.Limit ∷ us ++ (mark sign.AtMost ∷ ws ++ mark sign.Semicolon ∷ []) = simp append_assoc in
      (us, ws, tokens, are, others)

  word_begins : (w : Word) → Follows (place.begin_fact w) (word w ∷ [])
  word_begins keyword.Loop = (tt, loop_begins)
  word_begins keyword.Multibranch = (tt, λ us at is ws to are. branching_begins keyword.Multibranch us at ws to is are)
  word_begins keyword.Multicall = (tt, λ us at is ws to are. branching_begins keyword.Multicall us at ws to is are)
  word_begins keyword.Noreturn = (tt, λ us at is. (us, refl, is))
  word_begins keyword.Checksum = (tt, λ s n. refl)
  word_begins keyword.Limit = (tt, limit_begins)
  word_begins keyword.To = tt
  word_begins keyword.In = tt
  word_begins keyword.Other = tt

  begins : (vs : List Token) → vs ≡ [] → (w : Word) → Follows (place.begin_fact w) (vs ++ word w ∷ [])
  begins vs none w = subst (λ (us : List Token). Follows (place.begin_fact w) (us ++ word w ∷ [])) (sym none) (word_begins w)

  -- each place's turns
  closing_turn : (fact : Fact) (t : Token) (vs : List Token) → Done fact vs → Follows (place.at_closing fact t) (vs ++ t ∷ [])
  closing_turn fact t vs h = this_turn (mark sign.Semicolon) t (place.states fact) place.refused vs h tt

  whole_turn : (owner : Owner) (addresses : List ℕ) (t : Token) (vs : List Token) → Whole owner addresses vs → Follows (place.at_whole owner addresses t) (vs ++ t ∷ [])
  whole_turn (place.targets kind at) to t vs h = closing_turn (branching_fact kind at to) t vs h
  whole_turn (place.bounded at b) within t vs h = closing_turn (Loop at b within) t vs h
  whole_turn (place.counted side n at) within t vs h = this_turn (mark sign.Close) t _ place.refused vs (tt, h) tt

  behind_turn : (next : place.Behind) (t : Token) (vs : List Token) → Behind next vs → Follows (place.at_behind next t) (vs ++ t ∷ [])
  behind_turn (place.bound at) t vs h = this_turn (mark sign.Question) t _ _ vs (tt, h (mark sign.Question) None refl) (number_turn t _ vs (λ n. (tt, h (number n) (Some n) refl)))
  behind_turn (place.to kind at) t vs h = this_turn (word keyword.To) t _ place.refused vs (tt, at_listed (place.targets kind at) [] (vs ++ word keyword.To ∷ []) h) tt
  behind_turn (place.within owner) t vs (done, more) =
      this_turn (word keyword.In) t _ _ vs (tt, at_listed owner [] (vs ++ word keyword.In ∷ []) more) (whole_turn owner [] t vs done)
  behind_turn (place.after_listed owner before) t vs (done, more) =
      this_turn (mark sign.Comma) t _ _ vs (tt, at_listed owner before (vs ++ mark sign.Comma ∷ []) more) (whole_turn owner before t vs done)
  behind_turn (place.closing fact) t vs h = closing_turn fact t vs h

  ended_turn : (side : Side) (t : Token) (vs : List Token) → Ended side vs → Follows (place.at_ended side t) (vs ++ t ∷ [])
  ended_turn (place.left terms) t vs h = this_turn (mark sign.AtMost) t _ place.refused vs (tt, h) tt
  ended_turn (place.right first terms) t vs h = closing_turn (Limit first terms) t vs h

  after_term_turn : (side : Side) (t : Token) (vs : List Token) → AfterTerm side vs → Follows (place.at_after_term side t) (vs ++ t ∷ [])
  after_term_turn side t vs (ended, more) = this_turn (mark sign.Plus) t _ _ vs (tt, more) (ended_turn side t vs ended)

  up_turn : (part : Part) (base : ℕ) (vs : List Token) → Above part base vs → (n : ℕ) (fits : Bool) → nat_lt (base + n) (2 ^ 32) ≡ fits
      → Follows (cond fits (place.lands part (base + n)) place.refused) (vs ++ number n ∷ [])
  up_turn part base vs h n true is = (tt, h n (few (base + n) (2 ^ 32) is))
  up_turn part base vs h n false is = tt

  down_turn : (part : Part) (base : ℕ) (vs : List Token) → Below part base vs → (n : ℕ) (fits : Bool) → nat_le n base ≡ fits
      → Follows (cond fits (place.lands part (base - n)) place.refused) (vs ++ number n ∷ [])
  down_turn part base vs h n true is = (tt, h n (not_more n base is))
  down_turn part base vs h n false is = tt

  named_turn : Bounded names → (part : Part) (vs : List Token) → AtAddress part vs → (s : List ℕ) (o : Option ℕ) → names s ≡ o → Follows (place.named part o) (vs ++ quoted s ∷ [])
  named_turn bounded part vs h s None is = (s, is)
  named_turn bounded part vs h s (Some at) is = (
    tt,
    (
      bounded s at is,
      h (quoted s ∷ []) at (named s refl is),
      λ n fits.
          let tokens : vs ++ (quoted s ∷ mark sign.Plus ∷ number n ∷ []) ≡ ((vs ++ quoted s ∷ []) ++ mark sign.Plus ∷ []) ++ number n ∷ [] = simp append_assoc in
          subst (Landed part (at + n)) tokens (h (quoted s ∷ mark sign.Plus ∷ number n ∷ []) (at + n) (above s at n refl is refl fits)),
      λ n fits.
          let tokens : vs ++ (quoted s ∷ mark sign.Minus ∷ number n ∷ []) ≡ ((vs ++ quoted s ∷ []) ++ mark sign.Minus ∷ []) ++ number n ∷ [] = simp append_assoc in
          subst (Landed part (at - n)) tokens (h (quoted s ∷ mark sign.Minus ∷ number n ∷ []) (at - n) (below s at n refl is (omega arith))),
    ),
  )

  visits_open : (side : Side) (n : ℕ) (vs : List Token) → AtTerm side vs → AtOpening side n ((vs ++ number n ∷ []) ++ mark sign.Star ∷ [])
  visits_open side n vs h us at is =
      let front = (((vs ++ number n ∷ []) ++ mark sign.Star ∷ []) ++ mark sign.Open ∷ []) ++ us in
      at_within (place.counted side n at) front
      (λ ws within are.
      let tokens : vs ++ (number n ∷ mark sign.Star ∷ bracketed us ws) ≡ (((((vs ++ number n ∷ []) ++ mark sign.Star ∷ []) ++ mark sign.Open ∷ []) ++ us) ++ ws) ++ mark sign.Close ∷ [] = simp append_assoc in
      subst (AfterTerm (with_term side (Visits n at within))) tokens (at_term side vs h (number n ∷ mark sign.Star ∷ bracketed us ws) (Visits n at within) (us, ws, is, are, inr refl)))

  visits_once : (side : Side) (vs : List Token) → AtTerm side vs → AtAddress (place.visited side 1) (vs ++ mark sign.Open ∷ [])
  visits_once side vs h us at is =
      at_within (place.counted side 1 at) ((vs ++ mark sign.Open ∷ []) ++ us)
      (λ ws within are.
      let tokens : vs ++ bracketed us ws ≡ (((vs ++ mark sign.Open ∷ []) ++ us) ++ ws) ++ mark sign.Close ∷ [] = simp append_assoc in
      subst (AfterTerm (with_term side (Visits 1 at within))) tokens (at_term side vs h (bracketed us ws) (Visits 1 at within) (us, ws, is, are, inl (refl, refl))))

  -- what holds before a token gives what holds behind it
  pub after_turn : Bounded names → (p : Place) (t : Token) (vs : List Token) → Holds p vs → Follows (turn names p t) (vs ++ t ∷ [])
  after_turn bounded place.start t vs h = end_turn t _ vs h (word_turn t _ vs (begins vs h))
  after_turn bounded place.first t vs h = word_turn t _ vs (begins vs h)
  after_turn bounded place.finish t vs h = end_turn t place.refused vs h tt
  after_turn bounded (place.address part) t vs h =
      number_or_turn t _ _ vs (λ n. (tt, h (number n ∷ []) n (plain refl))) (quoted_turn t _ vs (λ s. named_turn bounded part vs h s (names s) refl))
  after_turn bounded (place.label part) t vs h = absurd h
  after_turn bounded (place.moved part at) t vs (small, here, up, down) = this_turn (mark sign.Plus) t _ _ vs (tt, (small, up)) (this_turn (mark sign.Minus) t _ _ vs (tt, down) (behind_turn (after_address part at) t vs here))
  after_turn bounded (place.above part at) t vs (small, h) = number_turn t _ vs (λ n. up_turn part at vs h n (nat_lt (at + n) (2 ^ 32)) refl)
  after_turn bounded (place.below part at) t vs h = number_turn t _ vs (λ n. down_turn part at vs h n (nat_le n at) refl)
  after_turn bounded (place.behind next) t vs h = behind_turn next t vs h
  after_turn bounded (place.whole owner addresses) t vs h = absurd h
  after_turn bounded place.name t vs h = quoted_turn t _ vs (λ s. (tt, h s))
  after_turn bounded (place.value s) t vs h = number_turn t _ vs (λ n. (tt, h n))
  after_turn bounded (place.term side) t vs h =
      number_or_turn t _ _ vs (λ n. (tt, (at_term side vs h (number n ∷ []) (Constant n) refl, visits_open side n vs h))) (this_turn (mark sign.Open) t _ place.refused vs (tt, visits_once side vs h) tt)
  after_turn bounded (place.times side n) t vs (after, opens) = this_turn (mark sign.Star) t _ _ vs (tt, opens) (after_term_turn (with_term side (Constant n)) t vs after)
  after_turn bounded (place.opening side n) t vs h = this_turn (mark sign.Open) t _ place.refused vs (tt, h) tt
  after_turn bounded (place.after_term side) t vs h = after_term_turn side t vs h
  after_turn bounded (place.ended side) t vs h = absurd h
