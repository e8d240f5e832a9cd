-- What no place behind a part of a fact takes, and what stands at the end of the text.
use Rattle.std.proofs.Common.{◌≡◌, ℕ, Bool, false, cond, List, [], refl, sym, ap, subst}
use Rattle.wc_model.specs.declared.flow_facts.Fact.TheVariants.{Loop}
use Rattle.wc_model.specs.declared.flow_facts.Term.TheVariants.{Visits}
use Rattle.wc_f4.specs.declared.tokens.Mark.TheVariants as sign
use Rattle.wc_f4.specs.Grammar.{Names}
use Rattle.wc_f4.specs.Places as place
use Rattle.wc_f4.specs.Places.{Owner, Place, Side, Turn, after_address, branching_fact, is_this, turn, with_term}
use Rattle.wc_f4.specs.Tokens.{Token, mark, text_end}
use Rattle.wc_f4.proofs.Completions.{IsOutside}

-- behind a list only its owner's end may stand
pub whole_refuses : (owner : Owner) (addresses : List ℕ) (t : Token) → is_this (mark sign.Semicolon) t ≡ false → is_this (mark sign.Close) t ≡ false → place.at_whole owner addresses t ≡ place.refused
whole_refuses (place.targets kind at) to t no_end no_close = ap (λ (b : Bool). cond b (place.states (branching_fact kind at to)) place.refused) no_end
whole_refuses (place.bounded at b) within t no_end no_close = ap (λ (c : Bool). cond c (place.states (Loop at b within)) place.refused) no_end
whole_refuses (place.counted side n at) within t no_end no_close =
    ap (λ (b : Bool). cond b (place.go (place.after_term (with_term side (Visits n at within)))) place.refused) no_close

pub plus_refused : (next : place.Behind) → place.at_behind next (mark sign.Plus) ≡ place.refused
plus_refused (place.bound at) = refl
plus_refused (place.to kind at) = refl
plus_refused (place.within owner) = whole_refuses owner [] (mark sign.Plus) refl refl
plus_refused (place.after_listed owner before) = whole_refuses owner before (mark sign.Plus) refl refl
plus_refused (place.closing fact) = refl

pub minus_refused : (next : place.Behind) → place.at_behind next (mark sign.Minus) ≡ place.refused
minus_refused (place.bound at) = refl
minus_refused (place.to kind at) = refl
minus_refused (place.within owner) = whole_refuses owner [] (mark sign.Minus) refl refl
minus_refused (place.after_listed owner before) = whole_refuses owner before (mark sign.Minus) refl refl
minus_refused (place.closing fact) = refl

pub star_refused : (side : Side) → place.at_after_term side (mark sign.Star) ≡ place.refused
star_refused (place.left terms) = refl
star_refused (place.right first terms) = refl

-- at the end of the text only the end of facts may stand
abbrev pub IsEndTurn : Place → Turn → Type 0
IsEndTurn p (place.go next) = ⊥
IsEndTurn p (place.states f) = ⊥
IsEndTurn p place.ends = IsOutside p
IsEndTurn p place.refused = Unit {0}
IsEndTurn p place.unknown = Unit {0}

behind_end : (next : place.Behind) → place.at_behind next text_end ≡ place.refused
behind_end (place.bound at) = refl
behind_end (place.to kind at) = refl
behind_end (place.within owner) = whole_refuses owner [] text_end refl refl
behind_end (place.after_listed owner before) = whole_refuses owner before text_end refl refl
behind_end (place.closing fact) = refl

pub end_turns : (names : Names) (p : Place) → IsEndTurn p (turn names p text_end)
end_turns names (place.moved part at) = subst (IsEndTurn (place.moved part at)) (sym (behind_end (after_address part at))) tt
end_turns names (place.behind next) = subst (IsEndTurn (place.behind next)) (sym (behind_end next)) tt
end_turns names (place.whole owner list) = subst (IsEndTurn (place.whole owner list)) (sym (whole_refuses owner list text_end refl refl)) tt
end_turns names (place.times (place.left terms) n) = tt
end_turns names (place.times (place.right first terms) n) = tt
end_turns names (place.after_term (place.left terms)) = tt
end_turns names (place.after_term (place.right first terms)) = tt
end_turns names (place.ended (place.left terms)) = tt
end_turns names (place.ended (place.right first terms)) = tt
end_turns names _ = tt
