-- The tokens before each place can be completed to a fact.
use Rattle.std.proofs.Common.{ℕ, ◌+◌, ◌-◌, List, [], ◌∷◌, ◌++◌, None, refl, sym, subst, arith, append_assoc, ◌⊎◌, inl, inr}
use Rattle.wc_model.specs.declared.flow_facts.Fact.{Fact}
use Rattle.wc_model.specs.declared.flow_facts.Fact.TheVariants.{Checksum, Limit, Loop, Noreturn}
use Rattle.wc_model.specs.declared.flow_facts.Term.TheVariants.{Constant, Visits}
use Rattle.wc_f4.specs.declared.tokens.Mark.TheVariants as sign
use Rattle.wc_f4.specs.declared.tokens.Word.TheVariants as keyword
use Rattle.wc_f4.specs.Grammar.{Names, IsFact, plain}
use Rattle.wc_f4.specs.Places as place
use Rattle.wc_f4.specs.Places.{Owner, Part, Place, Side, after_address, branching_fact, with_term, with_terms}
use Rattle.wc_f4.specs.Tokens.{Token, word, number, quoted, mark}
use Rattle.wc_f4.proofs.GrammarLemmas.{Done, AtList, Ended, AtTerm, AtAddress, Behind, Holds, Whole}

-- the end of a text may stand at the place
abbrev pub IsOutside : Place → Type 0
IsOutside place.start = Unit {0}
IsOutside place.finish = Unit {0}
IsOutside _ = ⊥

module _ (names : Names) where
  abbrev pub Ending : List Token → Type 0
  Ending vs = (more : List Token) × (fact : Fact) × IsFact names (vs ++ more) fact

  done_ends : (fact : Fact) (vs : List Token) → Done names fact vs → Ending vs
  done_ends fact vs h = (mark sign.Semicolon ∷ [], fact, h)

  later_ends : (vs ws : List Token) → Ending (vs ++ ws) → Ending vs
  later_ends vs ws (more, fact, is) = (ws ++ more, fact, subst (λ (ts : List Token). IsFact names ts fact) (append_assoc vs ws more) is)

  ended_ends : (side : Side) (vs : List Token) → Ended names side vs → Ending vs
  ended_ends (place.left terms) vs h = later_ends vs (mark sign.AtMost ∷ []) (later_ends _ (number 0 ∷ []) (done_ends (Limit terms (Constant 0 ∷ [])) _ (h (number 0 ∷ []) (Constant 0 ∷ []) refl)))
  ended_ends (place.right first terms) vs h = done_ends (Limit first terms) vs h

  term_ends : (side : Side) (vs : List Token) → AtTerm names side vs → Ending vs
  term_ends side vs h = later_ends vs (number 0 ∷ []) (ended_ends (with_terms side (Constant 0 ∷ [])) (vs ++ number 0 ∷ []) (h (number 0 ∷ []) (Constant 0 ∷ []) refl))

  whole_ends : (owner : Owner) (addresses : List ℕ) (vs : List Token) → Whole names owner addresses vs → Ending vs
  whole_ends (place.targets kind at) to vs h = done_ends (branching_fact kind at to) vs h
  whole_ends (place.bounded at b) within vs h = done_ends (Loop at b within) vs h
  whole_ends (place.counted side n at) within vs (ended, more) = later_ends vs (mark sign.Close ∷ []) (ended_ends (with_term side (Visits n at within)) _ ended)

  list_ends : (owner : Owner) (before : List ℕ) (vs : List Token) → AtList names owner before vs → Ending vs
  list_ends owner before vs h = later_ends vs (number 0 ∷ []) (whole_ends owner (before ++ 0 ∷ []) _ (h (number 0 ∷ []) (0 ∷ []) (plain refl)))

  behind_ends : (next : place.Behind) (vs : List Token) → Behind names next vs → Ending vs
  behind_ends (place.bound at) vs h = later_ends vs (mark sign.Question ∷ []) (whole_ends (place.bounded at None) [] _ (h (mark sign.Question) None refl).0)
  behind_ends (place.to kind at) vs h = later_ends vs (word keyword.To ∷ []) (list_ends (place.targets kind at) [] _ h)
  behind_ends (place.within owner) vs (done, more) = whole_ends owner [] vs done
  behind_ends (place.after_listed owner before) vs (done, more) = whole_ends owner before vs done
  behind_ends (place.closing fact) vs h = done_ends fact vs h

  address_ends : (part : Part) (vs : List Token) → AtAddress names part vs → Ending vs
  address_ends part vs h = later_ends vs (number 0 ∷ []) (behind_ends (after_address part 0) _ (h (number 0 ∷ []) 0 (plain refl)))

  -- the end of the text, or the rest of a fact, may stand next
  pub ends_or : (p : Place) (vs : List Token) → Holds names p vs → IsOutside p ⊎ Ending vs
  ends_or place.start vs h = inl tt
  ends_or place.finish vs h = inl tt
  ends_or place.first vs none =
      inr (
        word keyword.Noreturn ∷ number 0 ∷ mark sign.Semicolon ∷ [],
        Noreturn 0,
        subst (λ (us : List Token). IsFact names (us ++ word keyword.Noreturn ∷ number 0 ∷ mark sign.Semicolon ∷ []) (Noreturn 0)) (sym none) (number 0 ∷ [], refl, plain refl),
      )
  ends_or (place.address part) vs h = inr (address_ends part vs h)
  ends_or (place.label part) vs h = absurd h
  ends_or (place.moved part at) vs (small, here, up, down) = inr (behind_ends (after_address part at) vs here)
  ends_or (place.above part at) vs (small, h) = inr (later_ends vs (number 0 ∷ []) (behind_ends (after_address part (at + 0)) _ (h 0 (omega arith))))
  ends_or (place.below part at) vs h = inr (later_ends vs (number 0 ∷ []) (behind_ends (after_address part (at - 0)) _ (h 0 (omega arith))))
  ends_or (place.behind next) vs h = inr (behind_ends next vs h)
  ends_or (place.whole owner addresses) vs h = absurd h
  ends_or place.name vs h = inr (later_ends vs (quoted [] ∷ []) (later_ends _ (number 0 ∷ []) (done_ends (Checksum [] 0) _ (h [] 0))))
  ends_or (place.value s) vs h = inr (later_ends vs (number 0 ∷ []) (done_ends (Checksum s 0) _ (h 0)))
  ends_or (place.term side) vs h = inr (term_ends side vs h)
  ends_or (place.times side n) vs ((ended, more), opens) = inr (ended_ends (with_term side (Constant n)) vs ended)
  ends_or (place.opening side n) vs h = inr (later_ends vs (mark sign.Open ∷ []) (address_ends (place.visited side n) _ h))
  ends_or (place.after_term side) vs (ended, more) = inr (ended_ends side vs ended)
  ends_or (place.ended side) vs h = absurd h
