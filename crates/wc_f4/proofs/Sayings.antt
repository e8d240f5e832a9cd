-- What the tokens before a place say, and which text they begin.
use Rattle.std.proofs.Common.{◌≡◌, ℕ, ◌<◌, ◌^◌, Bool, true, false, cond, List, [], ◌∷◌, ◌++◌, length, Option, None, Some, refl, sym, ap, ◌∙◌, subst, arith, append_assoc, append-nil, ◌⊎◌, inl, inr, ⊎_elim}
use Rattle.std.specs.Prelude.{bytes_eq, unwrap_or}
use Rattle.std.proofs.lemmas.Slice.Eq.{bytes_eq-Decides}
use Rattle.wc_model.specs.declared.flow_facts.Fact.{Fact}
use Rattle.wc_f4.specs.Grammar.{Names, IsFact, IsText, Wanted, any, one, HasWanted, Begins}
use Rattle.wc_f4.specs.Places as place
use Rattle.wc_f4.specs.Places.{Answer, Goes, Part, Place, Turn, answer, follow, turn}
use Rattle.wc_f4.specs.Reading.{with_name}
use Rattle.wc_f4.specs.Tokens.{Token, quoted, text_end}
use Rattle.wc_f4.proofs.Acceptance.{later_of}
use Rattle.wc_f4.proofs.Completions.{IsOutside, Ending, ends_or}
use Rattle.wc_f4.proofs.GrammarLemmas.{Bounded, Follows, Holds, IsInner, after_turn}

-- the facts of tokens
abbrev pub AreFacts : Names → List Token → List Fact → Type 0
AreFacts names ts [] = ts ≡ []
AreFacts names ts (f ∷ fs) = (us : List Token) × (vs : List Token) × (ts ≡ us ++ vs) × IsFact names us f × AreFacts names vs fs

pub facts_snoc : (names : Names) (us vs : List Token) (fs : List Fact) (f : Fact) → AreFacts names us fs → IsFact names vs f → AreFacts names (us ++ vs) (fs ++ f ∷ [])
facts_snoc names us vs [] f none is = (vs, [], ap (λ (ts : List Token). ts ++ vs) none ∙ sym (append-nil vs), is, refl)
facts_snoc names us vs (g ∷ fs) f (front, rest, same, first, are) is =
    (front, rest ++ vs, ap (λ (ts : List Token). ts ++ vs) same ∙ append_assoc front rest vs, first, facts_snoc names rest vs fs f are is)

pub facts_text : (names : Names) (us : List Token) (fs : List Fact) → AreFacts names us fs → IsText names (us ++ text_end ∷ []) fs
facts_text names us [] none = ap (λ (ts : List Token). ts ++ text_end ∷ []) none
facts_text names us (f ∷ fs) (front, rest, same, first, are) =
    (front, rest ++ text_end ∷ [], ap (λ (ts : List Token). ts ++ text_end ∷ []) same ∙ append_assoc front rest (text_end ∷ []), first, facts_text names rest fs are)

-- the tokens are those of facts and of what stands before a place
abbrev pub Said : Names → Place → List Fact → List Token → Type 0
Said names p facts ts = (us : List Token) × (vs : List Token) × (ts ≡ us ++ vs) × AreFacts names us facts × Holds names p vs

-- as many facts as a text may have up to a place
abbrev pub Fits : Wanted → Place → List Fact → Type 0
Fits any p facts = Unit {0}
Fits one place.start facts = ⊥
Fits one place.finish facts = length facts ≡ 1
Fits one _ facts = facts ≡ []

abbrev pub Extends : Names → Names → Type 0
Extends names more = (s : List ℕ) (at : ℕ) → names s ≡ Some at → more s ≡ Some at

pub outside_or : (p : Place) → IsOutside p ⊎ (IsOutside p → ⊥)
outside_or place.start = inl tt
outside_or place.finish = inl tt
outside_or _ = inr (λ none. none)

pub outside_empty : (names : Names) (p : Place) (vs : List Token) → IsOutside p → Holds names p vs → vs ≡ []
outside_empty names place.start vs outside h = h
outside_empty names place.finish vs outside h = h
outside_empty names _ vs outside h = absurd outside

pub outside_count : (wanted : Wanted) (p : Place) (facts : List Fact) → IsOutside p → Fits wanted p facts → HasWanted wanted facts
outside_count any p facts outside fits = tt
outside_count one place.start facts outside fits = absurd fits
outside_count one place.finish facts outside fits = fits
outside_count one _ facts outside fits = absurd outside

pub inside_count : (p : Place) (facts : List Fact) → (IsOutside p → ⊥) → Fits one p facts → facts ≡ []
inside_count place.start facts inside fits = absurd fits
inside_count place.finish facts inside fits = absurd (inside tt)
inside_count _ facts inside fits = fits

pub inner_fits : (p : Place) (facts : List Fact) → IsInner p → facts ≡ [] → Fits one p facts
inner_fits place.start facts inner none = absurd inner
inner_fits place.first facts inner none = absurd inner
inner_fits place.finish facts inner none = absurd inner
inner_fits _ facts inner none = none

pub one_fact : (facts : List Fact) (f : Fact) → facts ≡ [] → length (facts ++ f ∷ []) ≡ 1
one_fact facts f none = ap (λ (gs : List Fact). length (gs ++ f ∷ [])) none

pub wanted_count : (w : Wanted) (p : Place) (facts : List Fact) (f : Fact) → (IsOutside p → ⊥) → Fits w p facts → HasWanted w (facts ++ f ∷ [])
wanted_count any p facts f inside fits = tt
wanted_count one p facts f inside fits = one_fact facts f (inside_count p facts inside fits)

pub begins_inside : (wanted : Wanted) (names : Names) (p : Place) (facts : List Fact) (ts us vs : List Token) → ts ≡ us ++ vs → AreFacts names us facts → (IsOutside p → ⊥) → Fits wanted p facts → Ending names vs → Begins wanted names ts
begins_inside wanted names p facts ts us vs same are inside fits (more, f, is) =
    let tokens : (us ++ (vs ++ more)) ++ text_end ∷ [] ≡ ts ++ (more ++ text_end ∷ []) = ap (λ (xs : List Token). xs ++ text_end ∷ []) (sym (append_assoc us vs more)) ∙ append_assoc (us ++ vs) more (text_end ∷ []) ∙ ap (λ (xs : List Token). xs ++ (more ++ text_end ∷ [])) (sym same) in
    let text : IsText names (ts ++ (more ++ text_end ∷ [])) (facts ++ f ∷ []) = subst (λ (xs : List Token). IsText names xs (facts ++ f ∷ [])) tokens (facts_text names (us ++ (vs ++ more)) (facts ++ f ∷ []) (facts_snoc names us (vs ++ more) facts f are is)) in
    (more ++ text_end ∷ [], facts ++ f ∷ [], (text, wanted_count wanted p facts f inside fits))

pub begins_outside : (wanted : Wanted) (names : Names) (p : Place) (facts : List Fact) (ts us vs : List Token) → ts ≡ us ++ vs → AreFacts names us facts → Holds names p vs → IsOutside p → Fits wanted p facts → Begins wanted names ts
begins_outside wanted names p facts ts us vs same are holds outside fits =
    let nothing : vs ≡ [] = outside_empty names p vs outside holds in
    let tokens : us ++ text_end ∷ [] ≡ ts ++ text_end ∷ [] = ap (λ (xs : List Token). xs ++ text_end ∷ []) (sym (append-nil us) ∙ ap (λ (xs : List Token). us ++ xs) (sym nothing) ∙ sym same) in
    let text : IsText names (ts ++ text_end ∷ []) facts = subst (λ (xs : List Token). IsText names xs facts) tokens (facts_text names us facts are) in
    (text_end ∷ [], facts, (text, outside_count wanted p facts outside fits))

-- what was said so far begins a text
pub begins_said : (wanted : Wanted) (names : Names) (p : Place) (facts : List Fact) (ts : List Token) → Said names p facts ts → Fits wanted p facts → Begins wanted names ts
begins_said wanted names p facts ts (us, vs, same, are, holds) fits =
    ⊎_elim
    (λ outside. begins_outside wanted names p facts ts us vs same are holds outside fits)
    (λ inside. ⊎_elim (λ outside. absurd (inside outside)) (λ ending. begins_inside wanted names p facts ts us vs same are inside fits ending) (ends_or names p vs holds))
    (outside_or p)

-- a turn's effect on what was said
pub said_follows : (names : Names) → Bounded names → (p : Place) (t : Token) (u : Turn) (vs : List Token) → turn names p t ≡ u → Holds names p vs → Follows names u (vs ++ t ∷ [])
said_follows names bounded p t u vs is holds = subst (λ (v : Turn). Follows names v (vs ++ t ∷ [])) is (after_turn names bounded p t vs holds)

pub said_go : (names : Names) → Bounded names → (p next : Place) (facts : List Fact) (t : Token) (ts : List Token) → turn names p t ≡ place.go next → Said names p facts ts → IsInner next × Said names next facts (ts ++ t ∷ [])
said_go names bounded p next facts t ts is (us, vs, same, are, holds) =
    let follows = said_follows names bounded p t (place.go next) vs is holds in
    (follows.0, (us, vs ++ t ∷ [], ap (λ (xs : List Token). xs ++ t ∷ []) same ∙ append_assoc us vs (t ∷ []), are, follows.1))

pub said_states : (names : Names) → Bounded names → (wanted : Wanted) (p : Place) (facts : List Fact) (f : Fact) (t : Token) (ts : List Token) → turn names p t ≡ place.states f → Said names p facts ts
    → Said names (later_of wanted) (facts ++ f ∷ []) (ts ++ t ∷ [])
said_states names bounded wanted p facts f t ts is (us, vs, same, are, holds) =
    let follows = said_follows names bounded p t (place.states f) vs is holds in
    let tokens : ts ++ t ∷ [] ≡ us ++ (vs ++ t ∷ []) = ap (λ (xs : List Token). xs ++ t ∷ []) same ∙ append_assoc us vs (t ∷ []) in
    (us ++ (vs ++ t ∷ []), [], tokens ∙ sym (append-nil (us ++ (vs ++ t ∷ []))), facts_snoc names us (vs ++ t ∷ []) facts f are follows, nothing_later wanted)
  where
    nothing_later : (w : Wanted) → Holds names (later_of w) []
    nothing_later any = refl
    nothing_later one = refl

-- more names change no turn but those of names that weren't known
pub named_more : (names more : Names) → Extends names more → (part : Part) (s : List ℕ) (o : Option ℕ) → names s ≡ o → (place.named part o ≡ place.unknown → ⊥) → place.named part (more s) ≡ place.named part o
named_more names more ext part s None is known = absurd (known refl)
named_more names more ext part s (Some at) is known = ap (place.named part) (ext s at is)

pub turn_more : (names more : Names) → Extends names more → (p : Place) (t : Token) → (turn names p t ≡ place.unknown → ⊥) → turn more p t ≡ turn names p t
turn_more names more ext (place.address part) (quoted s) known = named_more names more ext part s (names s) refl known
turn_more names more ext (place.label part) (quoted s) known = named_more names more ext part s (names s) refl known
turn_more names more ext (place.address part) _ known = refl
turn_more names more ext (place.label part) _ known = refl
turn_more names more ext _ _ known = refl

pub known_go : (names : Names) (p : Place) (t : Token) (next : Place) → turn names p t ≡ place.go next → turn names p t ≡ place.unknown → ⊥
known_go names p t next is not_known = let both : place.go next ≡ place.unknown = sym is ∙ not_known in absurd (cc)

pub known_states : (names : Names) (p : Place) (t : Token) (f : Fact) → turn names p t ≡ place.states f → turn names p t ≡ place.unknown → ⊥
known_states names p t f is not_known = let both : place.states f ≡ place.unknown = sym is ∙ not_known in absurd (cc)

pub known_refused : (names : Names) (p : Place) (t : Token) → turn names p t ≡ place.refused → turn names p t ≡ place.unknown → ⊥
known_refused names p t is not_known = let both : place.refused ≡ place.unknown = sym is ∙ not_known in absurd (cc)

-- names that stand for an address each
abbrev pub filled : Names → Names
filled names s = Some (unwrap_or (names s) 0)

pub filled_is : (o : Option ℕ) (at : ℕ) → o ≡ Some at → Some (unwrap_or o 0) ≡ Some at
filled_is None at is = absurd (cc)
filled_is (Some a) at is = is

pub filled_small : (o : Option ℕ) → ((at : ℕ) → o ≡ Some at → at < 2 ^ 32) → (at : ℕ) → Some (unwrap_or o 0) ≡ Some at → at < 2 ^ 32
filled_small None small at is = let zero : 0 ≡ at = cc in omega (arith, zero)
filled_small (Some a) small at is = small at is

-- only an address can hold a name that isn't known
pub unknown_is : (names : Names) → Bounded names → (p : Place) (t : Token) (vs ws : List Token) → Holds (filled names) p vs → Holds names p ws → turn names p t ≡ place.unknown
    → (s : List ℕ) × (part : Part) × (t ≡ quoted s) × (names s ≡ None) × (p ≡ place.address part)
unknown_is names bounded (place.address part) (quoted s) vs ws full holds is = (s, part, refl, not_known part (names s) is, refl)
  where
    not_known : (q : Part) (o : Option ℕ) → place.named q o ≡ place.unknown → o ≡ None
    not_known q None is = refl
    not_known q (Some a) is = absurd (cc)
unknown_is names bounded (place.address part) _ vs ws full holds is = absurd (cc)
unknown_is names bounded (place.label part) _ vs ws full holds is = absurd holds
unknown_is names bounded p t vs ws full holds is = absurd (never_unknown (said_follows (filled names) (λ s at stands. filled_small (names s) (bounded s) at stands) p t place.unknown vs is full))
  where
    never_unknown : ((s : List ℕ) × (filled names s ≡ None)) → ⊥
    never_unknown (s, none) = absurd (cc)

-- a name beside the names
pub same_bytes : (s : List ℕ) → bytes_eq s s ≡ true
same_bytes s = (bytes_eq-Decides s s).1 refl

pub with_name_is : (names : Names) (s : List ℕ) → with_name s names s ≡ Some 0
with_name_is names s = ap (λ (b : Bool). cond b (Some 0) (names s)) (same_bytes s)

pub with_name_extends : (names : Names) (s : List ℕ) → names s ≡ None → Extends names (with_name s names)
with_name_extends names s none name at is = added (bytes_eq name s) refl
  where
    added : (same : Bool) → bytes_eq name s ≡ same → cond same (Some 0) (names name) ≡ Some at
    added true same =
        let missing : names name ≡ None = ap names ((bytes_eq-Decides name s).0 same) ∙ none in
        absurd (cc)
    added false same = is

pub with_name_bounded : (names : Names) (s : List ℕ) → Bounded names → Bounded (with_name s names)
with_name_bounded names s bounded name at is = added (bytes_eq name s) is
  where
    added : (same : Bool) → cond same (Some 0) (names name) ≡ Some at → at < 2 ^ 32
    added true is = let zero : 0 ≡ at = cc in omega (arith, zero)
    added false is = bounded name at is
