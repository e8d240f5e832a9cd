-- Reading gives what the grammar says: the facts of the text, or the fault of its first wrong token.
use Rattle.std.proofs.Common.{◌≡◌, ℕ, ◌%◌, ◌<◌, ◌^◌, List, [], ◌∷◌, ◌++◌, map, Some, Result, Ok, Err, refl, sym, ap, ◌∙◌, subst, arith, append_assoc, inl, inr}
use Rattle.std.proofs.lemmas.List.{map-append}
use Rattle.wc_base.specs.declared.faults.Fault.{Fault}
use Rattle.wc_model.specs.Program.Words.{find_of}
use Rattle.wc_model.specs.declared.elf_image.Image.{Image}
use Rattle.wc_model.specs.declared.flow_facts.Fact.{Fact}
use Rattle.wc_f4.specs.declared.stops.Stop.{Stop}
use Rattle.wc_f4.specs.declared.stops.Stop.TheVariants.{Bad, Unknown, Memory}
use Rattle.wc_f4.specs.Grammar.{Names, IsText, Wanted, any, one, IsWhole, Begins}
use Rattle.wc_f4.specs.Places as place
use Rattle.wc_f4.specs.Places.{Answer, Goes, Part, Place, Turn, answer, follow, turn}
use Rattle.wc_f4.specs.Reading.{IsUnknown, Refuses, found, names_of, trouble_of, with_name}
use Rattle.wc_f4.specs.Stated.{IsStated}
use Rattle.std.specs.List.{AllByRecursion}
use Rattle.wc_f4.specs.Tokens.{Token, Placed, tokens_of, placed_tokens, word, number, quoted, mark, wrong, text_end}
use Rattle.wc_f4.proofs.Acceptance.{first_of, later_of, whole_accepted}
use Rattle.wc_f4.proofs.Completions.{IsOutside}
use Rattle.wc_f4.proofs.GrammarLemmas.{Bounded, IsInner}
use Rattle.wc_f4.proofs.ParsingLemmas.{by_turn}
use Rattle.wc_f4.proofs.Sayings.{facts_text, Said, Fits, Extends, outside_count, inner_fits, one_fact, begins_said, said_follows, said_go, said_states, turn_more, known_go, known_states, known_refused, filled, filled_is, filled_small, unknown_is, with_name_is, with_name_extends, with_name_bounded}
use Rattle.wc_f4.proofs.StatedLemmas.{text_stated, tokens_sound}
use Rattle.wc_f4.proofs.Refusals.{IsEndTurn, end_turns}
use Rattle.wc_f4.proofs.TokenLemmas.{IsEnded, tokens_ended}

-- The tokens read so far, at a place and with facts: what they say under the names and under more of them, and where reading goes on.
abbrev Reached : Wanted → Names → Place → List Fact → List Placed → Type 0
Reached wanted names p facts front =
    Fits wanted p facts × ((more : Names) → Extends names more → Bounded more → Said more p facts (tokens_of front)
    × ((rest : List Placed) → answer more (later_of wanted) (first_of wanted) [] (front ++ rest) ≡ answer more (later_of wanted) p facts rest))

tokens_snoc : (front : List Placed) (t : Placed) → tokens_of (front ++ t ∷ []) ≡ tokens_of front ++ t.0 ∷ []
tokens_snoc front t = map-append (λ (x : Placed). x.0) front (t ∷ [])

finish_stays : (t : Token) (next : Place) → place.on_end t place.refused ≡ place.go next → ⊥
finish_stays text_end next is = absurd (cc)
finish_stays _ next is = absurd (cc)

finish_states : (t : Token) (f : Fact) → place.on_end t place.refused ≡ place.states f → ⊥
finish_states text_end f is = absurd (cc)
finish_states _ f is = absurd (cc)

go_none : (names : Names) (p next : Place) (facts : List Fact) (t : Token) → turn names p t ≡ place.go next → Fits one p facts → facts ≡ []
go_none names place.start next facts t is fits = absurd fits
go_none names place.finish next facts t is fits = absurd (finish_stays t next is)
go_none names _ next facts t is fits = fits

states_none : (names : Names) (p : Place) (f : Fact) (facts : List Fact) (t : Token) → turn names p t ≡ place.states f → Fits one p facts → facts ≡ []
states_none names place.start f facts t is fits = absurd fits
states_none names place.finish f facts t is fits = absurd (finish_states t f is)
states_none names _ f facts t is fits = fits

go_fits : (wanted : Wanted) (names : Names) (p next : Place) (facts : List Fact) (t : Token) → turn names p t ≡ place.go next → IsInner next → Fits wanted p facts → Fits wanted next facts
go_fits any names p next facts t is inner fits = tt
go_fits one names p next facts t is inner fits = inner_fits next facts inner (go_none names p next facts t is fits)

states_fits : (wanted : Wanted) (names : Names) (p : Place) (f : Fact) (facts : List Fact) (t : Token) → turn names p t ≡ place.states f → Fits wanted p facts → Fits wanted (later_of wanted) (facts ++ f ∷ [])
states_fits any names p f facts t is fits = tt
states_fits one names p f facts t is fits = one_fact facts f (states_none names p f facts t is fits)

runs_on : (names : Names) (wanted : Wanted) (p : Place) (facts : List Fact) (front : List Placed) (t : Placed) (u : Turn)
    → ((rest : List Placed) → answer names (later_of wanted) (first_of wanted) [] (front ++ rest) ≡ answer names (later_of wanted) p facts rest) → turn names p t.0 ≡ u
    → (rest : List Placed) → answer names (later_of wanted) (first_of wanted) [] ((front ++ t ∷ []) ++ rest) ≡ follow u t.1 (later_of wanted) facts (λ next all. answer names (later_of wanted) next all rest)
runs_on names wanted p facts front t u runs does rest =
    ap (answer names (later_of wanted) (first_of wanted) []) (append_assoc front (t ∷ []) rest)
    ∙ runs (t ∷ rest)
    ∙ by_turn names (later_of wanted) p facts (t ∷ rest) rest t.0 t.1 u refl does

same_names : (names : Names) → Extends names names
same_names names s at is = is

pub reach_go : (wanted : Wanted) (names : Names) → Bounded names → (p next : Place) (facts : List Fact) (front : List Placed) (t : Placed) → turn names p t.0 ≡ place.go next
    → Reached wanted names p facts front → Reached wanted names next facts (front ++ t ∷ [])
reach_go wanted names bounded p next facts front t does (fits, reached) = (
  go_fits wanted names p next facts t.0 does (said_go names bounded p next facts t.0 (tokens_of front) does (reached names (same_names names) bounded).0).0 fits,
  λ more ext small.
      let here = reached more ext small in
      let again : turn more p t.0 ≡ place.go next = turn_more names more ext p t.0 (known_go names p t.0 next does) ∙ does in (
        subst (Said more next facts) (sym (tokens_snoc front t)) (said_go more small p next facts t.0 (tokens_of front) again here.0).1,
        runs_on more wanted p facts front t (place.go next) here.1 again,
      ),
)

pub reach_fact : (wanted : Wanted) (names : Names) → Bounded names → (p : Place) (f : Fact) (facts : List Fact) (front : List Placed) (t : Placed) → turn names p t.0 ≡ place.states f
    → Reached wanted names p facts front → Reached wanted names (later_of wanted) (facts ++ f ∷ []) (front ++ t ∷ [])
reach_fact wanted names bounded p f facts front t does (fits, reached) = (
  states_fits wanted names p f facts t.0 does fits,
  λ more ext small.
      let here = reached more ext small in
      let again : turn more p t.0 ≡ place.states f = turn_more names more ext p t.0 (known_states names p t.0 f does) ∙ does in (
        subst (Said more (later_of wanted) (facts ++ f ∷ [])) (sym (tokens_snoc front t)) (said_states more small wanted p facts f t.0 (tokens_of front) again here.0),
        runs_on more wanted p facts front t (place.states f) here.1 again,
      ),
)

-- tokens at any place of a text
abbrev somewhere : List Token → List Placed
somewhere ts = map (λ t. (t, 0)) ts

somewhere_tokens : (ts : List Token) → tokens_of (somewhere ts) ≡ ts
somewhere_tokens [] = refl
somewhere_tokens (t ∷ ts) = ap (λ (us : List Token). t ∷ us) (somewhere_tokens ts)

-- no text begins with tokens of which the last one is refused
begins_none : (wanted : Wanted) (names : Names) (p : Place) (facts : List Fact) (front : List Placed) (t : Token) (stop : Stop)
    → ((rest : List Placed) → answer names (later_of wanted) (first_of wanted) [] (front ++ (t, 0) ∷ rest) ≡ Err stop) → Begins wanted names (tokens_of front ++ t ∷ []) → ⊥
begins_none wanted names p facts front t stop stops (more, fs, whole) =
    let tokens : tokens_of (front ++ (t, 0) ∷ somewhere more) ≡ (tokens_of front ++ t ∷ []) ++ more =
    map-append (λ (x : Placed). x.0) front ((t, 0) ∷ somewhere more) ∙ ap (λ (us : List Token). tokens_of front ++ t ∷ us) (somewhere_tokens more) ∙ sym (append_assoc (tokens_of front) (t ∷ []) more) in
    let read : answer names (later_of wanted) (first_of wanted) [] (front ++ (t, 0) ∷ somewhere more) ≡ Ok fs = whole_accepted wanted names ((tokens_of front ++ t ∷ []) ++ more) fs whole (front ++ (t, 0) ∷ somewhere more) tokens in
    let both : ◌≡◌ {A = Answer} (Err stop) (Ok fs) = sym (stops (somewhere more)) ∙ read in
    absurd (cc)

stops_at : (names : Names) (wanted : Wanted) (p : Place) (facts : List Fact) (front : List Placed) (t : Token) (u : Turn) (stop : Stop)
    → ((rest : List Placed) → answer names (later_of wanted) (first_of wanted) [] (front ++ rest) ≡ answer names (later_of wanted) p facts rest) → turn names p t ≡ u
    → ((rest : List Placed) → follow u 0 (later_of wanted) facts (λ next all. answer names (later_of wanted) next all rest) ≡ Err stop)
    → (rest : List Placed) → answer names (later_of wanted) (first_of wanted) [] (front ++ (t, 0) ∷ rest) ≡ Err stop
stops_at names wanted p facts front t u stop runs does is rest = runs ((t, 0) ∷ rest) ∙ by_turn names (later_of wanted) p facts ((t, 0) ∷ rest) rest t 0 u refl does ∙ is rest

-- what reading a list of tokens gives
abbrev Stops : Wanted → Names → List Placed → ℕ → (List Token → Token → Type 0) → Type 0
Stops wanted names all at Cause =
    (front : List Placed) × (t : Token) × (behind : List Placed) × (all ≡ front ++ (t, at) ∷ behind) × Begins wanted names (tokens_of front) × (Begins wanted names (tokens_of front ++ t ∷ []) → ⊥) × Cause (tokens_of front) t

abbrev pub Outcome : Wanted → Names → List Placed → Answer → Type 0
Outcome wanted names all (Ok fs) = IsWhole wanted names (tokens_of all) fs
Outcome wanted names all (Err (Bad at)) = Stops wanted names all at (λ front t. IsUnknown wanted names front t → ⊥)
Outcome wanted names all (Err (Unknown at)) = Stops wanted names all at (IsUnknown wanted names)
Outcome wanted names all (Err (Memory _)) = ⊥

refused_more : (names more : Names) → Extends names more → (p : Place) (t : Token) → turn names p t ≡ place.refused → turn more p t ≡ place.refused
refused_more names more ext p t is = turn_more names more ext p t (known_refused names p t is) ∙ is

pub not_unknown : (wanted : Wanted) (names : Names) → Bounded names → (p : Place) (facts : List Fact) (front : List Placed) (t : Token) → turn names p t ≡ place.refused → Reached wanted names p facts front
    → IsUnknown wanted names (tokens_of front) t → ⊥
not_unknown wanted names bounded p facts front (quoted s) does (fits, reached) (none, begins) =
    let ext : Extends names (with_name s names) = with_name_extends names s none in
    let here = reached (with_name s names) ext (with_name_bounded names s bounded) in
    begins_none wanted (with_name s names) p facts front (quoted s) (Bad 0)
    (stops_at (with_name s names) wanted p facts front (quoted s) place.refused (Bad 0) here.1 (refused_more names (with_name s names) ext p (quoted s) does) (λ rest. refl)) begins
not_unknown wanted names bounded p facts front (word _) does reached none = none
not_unknown wanted names bounded p facts front (number _) does reached none = none
not_unknown wanted names bounded p facts front (mark _) does reached none = none
not_unknown wanted names bounded p facts front wrong does reached none = none
not_unknown wanted names bounded p facts front text_end does reached none = none

not_end : (names : Names) (p : Place) (t : Token) (u : Turn) → turn names p t ≡ u → (IsEndTurn p u → ⊥) → t ≡ text_end → ⊥
not_end names p t u does never is = never (subst (IsEndTurn p) (ap (turn names p) (sym is) ∙ does) (end_turns names p))

last_token : (vs : List Token) (t e : Token) → vs ++ t ∷ [] ≡ e ∷ [] → (vs ≡ []) × (t ≡ e)
last_token [] t e is = (refl, cc)
last_token (v ∷ []) t e is = absurd (cc)
last_token (v ∷ w ∷ vs) t e is = absurd (cc)

still_ended : (t : Placed) (ts : List Placed) → IsEnded (t ∷ ts) → (t.0 ≡ text_end → ⊥) → IsEnded ts
still_ended t ts (inl is) other = absurd (other is.0)
still_ended t ts (inr rest) other = rest.1

nothing_behind : (t : Placed) (ts : List Placed) → IsEnded (t ∷ ts) → t.0 ≡ text_end → ts ≡ []
nothing_behind t ts (inl is) end = is.1
nothing_behind t ts (inr rest) end = absurd (rest.0 end)

ends_outside : (names : Names) (p : Place) (t : Token) → turn names p t ≡ place.ends → t ≡ text_end → IsOutside p
ends_outside names p t does end = subst (IsEndTurn p) (ap (turn names p) (sym end) ∙ does) (end_turns names p)

ended_case : (wanted : Wanted) (names : Names) → Bounded names → (p : Place) (facts : List Fact) (front : List Placed) (t : Placed) (ts : List Placed) → turn names p t.0 ≡ place.ends
    → Fits wanted p facts → Said names p facts (tokens_of front) → IsEnded (t ∷ ts) → IsWhole wanted names (tokens_of (front ++ t ∷ ts)) facts
ended_case wanted names bounded p facts front t ts does fits (us, vs, same, are, holds) ended =
    let last : vs ++ t.0 ∷ [] ≡ text_end ∷ [] = said_follows names bounded p t.0 place.ends vs does holds in
    let end : t.0 ≡ text_end = (last_token vs t.0 text_end last).1 in
    let tokens : tokens_of (front ++ t ∷ ts) ≡ us ++ text_end ∷ [] =
    ap (λ (rest : List Placed). tokens_of (front ++ t ∷ rest)) (nothing_behind t ts ended end) ∙ tokens_snoc front t
    ∙ ap (λ (xs : List Token). xs ++ t.0 ∷ []) same ∙ append_assoc us vs (t.0 ∷ []) ∙ ap (λ (xs : List Token). us ++ xs) last in (
      subst (λ (xs : List Token). IsText names xs facts) (sym tokens) (facts_text names us facts are),
      outside_count wanted p facts (ends_outside names p t.0 does end) fits,
    )

-- an unknown name fits under one more name
is_unknown : (wanted : Wanted) (names : Names) → Bounded names → (p : Place) (facts : List Fact) (front : List Placed) (t : Token) → turn names p t ≡ place.unknown → Reached wanted names p facts front
    → IsUnknown wanted names (tokens_of front) t
is_unknown wanted names bounded p facts front t does (fits, reached) =
    let filled_small_names : Bounded (filled names) = λ s at stands. filled_small (names s) (bounded s) at stands in
    let full = (reached (filled names) (λ s at stands. filled_is (names s) at stands) filled_small_names).0 in
    let here = (reached names (same_names names) bounded).0 in
    let found = unknown_is names bounded p t full.1 here.1 full.4 here.4 does in
    let s = found.0 in
    let more = with_name s names in
    let small : Bounded more = with_name_bounded names s bounded in
    let goes : turn more p (quoted s) ≡ place.go (place.moved found.1 0) =
    ap (λ (q : Place). turn more q (quoted s)) found.4 ∙ ap (place.named found.1) (with_name_is names s) in
    let said = said_go more small p (place.moved found.1 0) facts (quoted s) (tokens_of front) goes (reached more (with_name_extends names s found.3) small).0 in
    subst (IsUnknown wanted names (tokens_of front)) (sym found.2)
    (found.3, begins_said wanted more (place.moved found.1 0) facts (tokens_of front ++ quoted s ∷ []) said.1 (go_fits wanted more p (place.moved found.1 0) facts (quoted s) goes tt fits))

abbrev Goals : Wanted → Names → List Placed → Type 0
Goals wanted names ts =
    (front : List Placed) (p : Place) (facts : List Fact) → Reached wanted names p facts front → IsEnded ts → Outcome wanted names (front ++ ts) (answer names (later_of wanted) p facts ts)

turn_case : (wanted : Wanted) (names : Names) → Bounded names → (t : Placed) (ts : List Placed) → Goals wanted names ts
    → (front : List Placed) (p : Place) (facts : List Fact) → Reached wanted names p facts front → IsEnded (t ∷ ts) → (u : Turn) → turn names p t.0 ≡ u
    → Outcome wanted names (front ++ t ∷ ts) (follow u t.1 (later_of wanted) facts (λ next all. answer names (later_of wanted) next all ts))
turn_case wanted names bounded t ts later front p facts reached ended (place.go next) does =
    subst (λ (all : List Placed). Outcome wanted names all (answer names (later_of wanted) next facts ts)) (append_assoc front (t ∷ []) ts)
    (later (front ++ t ∷ []) next facts (reach_go wanted names bounded p next facts front t does reached) (still_ended t ts ended (not_end names p t.0 (place.go next) does (λ none. none))))
turn_case wanted names bounded t ts later front p facts reached ended (place.states f) does =
    subst (λ (all : List Placed). Outcome wanted names all (answer names (later_of wanted) (later_of wanted) (facts ++ f ∷ []) ts)) (append_assoc front (t ∷ []) ts)
    (later (front ++ t ∷ []) (later_of wanted) (facts ++ f ∷ []) (reach_fact wanted names bounded p f facts front t does reached) (still_ended t ts ended (not_end names p t.0 (place.states f) does (λ none. none))))
turn_case wanted names bounded t ts later front p facts reached ended place.ends does =
    ended_case wanted names bounded p facts front t ts does reached.0 (reached.1 names (same_names names) bounded).0 ended
turn_case wanted names bounded t ts later front p facts reached ended place.refused does =
    let here = reached.1 names (same_names names) bounded in (
      front,
      t.0,
      ts,
      refl,
      begins_said wanted names p facts (tokens_of front) here.0 reached.0,
      begins_none wanted names p facts front t.0 (Bad 0) (stops_at names wanted p facts front t.0 place.refused (Bad 0) here.1 does (λ rest. refl)),
      not_unknown wanted names bounded p facts front t.0 does reached,
    )
turn_case wanted names bounded t ts later front p facts reached ended place.unknown does =
    let here = reached.1 names (same_names names) bounded in (
      front,
      t.0,
      ts,
      refl,
      begins_said wanted names p facts (tokens_of front) here.0 reached.0,
      begins_none wanted names p facts front t.0 (Unknown 0) (stops_at names wanted p facts front t.0 place.unknown (Unknown 0) here.1 does (λ rest. refl)),
      is_unknown wanted names bounded p facts front t.0 does reached,
    )

analyse : (wanted : Wanted) (names : Names) → Bounded names → (ts : List Placed) → Goals wanted names ts
unfolding answer
analyse wanted names bounded [] front p facts reached ended = absurd ended
analyse wanted names bounded (t ∷ ts) front p facts reached ended =
    turn_case wanted names bounded t ts (analyse wanted names bounded ts) front p facts reached ended (turn names p t.0) refl

reached_first : (wanted : Wanted) (names : Names) → Reached wanted names (first_of wanted) [] []
reached_first any names = (tt, λ more ext small. (([], [], refl, refl, refl), λ rest. refl))
reached_first one names = (refl, λ more ext small. (([], [], refl, refl, refl), λ rest. refl))

-- what reading a whole list of tokens gives
pub outcome : (wanted : Wanted) (names : Names) → Bounded names → (ts : List Placed) → IsEnded ts → Outcome wanted names ts (answer names (later_of wanted) (first_of wanted) [] ts)
outcome wanted names bounded ts ended = analyse wanted names bounded ts [] (first_of wanted) [] (reached_first wanted names) ended

found_small : (r : Result ℕ Fault) (at : ℕ) → found r ≡ Some at → at < 2 ^ 32
found_small (Ok a) at is = let same : a % 2 ^ 32 ≡ at = cc in omega (arith, same)
found_small (Err f) at is = absurd (cc)

image_bounded : (image : Image) → Bounded (names_of image)
image_bounded image s at is = found_small (find_of image s) at is

outcome_of : (wanted : Wanted) (image : Image) (text : List ℕ) (given : Answer) → answer (names_of image) (later_of wanted) (first_of wanted) [] (placed_tokens text) ≡ given
    → Outcome wanted (names_of image) (placed_tokens text) given
outcome_of wanted image text given is =
    subst (Outcome wanted (names_of image) (placed_tokens text)) is (outcome wanted (names_of image) (image_bounded image) (placed_tokens text) (tokens_ended text 0 0))

pub reads_whole : (wanted : Wanted) (image : Image) (text : List ℕ) (fs : List Fact) → answer (names_of image) (later_of wanted) (first_of wanted) [] (placed_tokens text) ≡ Ok fs
    → IsWhole wanted (names_of image) (tokens_of (placed_tokens text)) fs
reads_whole wanted image text fs is = outcome_of wanted image text (Ok fs) is

pub refuses : {X : Type 0} (wanted : Wanted) (image : Image) (text : List ℕ) (stop : Stop) (k : X → Answer)
    → Goes {X = X} (Err stop) (answer (names_of image) (later_of wanted) (first_of wanted) [] (placed_tokens text)) k → Refuses wanted (names_of image) text (trouble_of text stop)
refuses wanted image text (Memory e) k goes = tt
refuses wanted image text (Bad at) k goes =
    let (front, t, behind, tokens, begins, none, cause) = outcome_of wanted image text (Err (Bad at)) goes in
    record { front = front; token = t; place = at; behind = behind; tokens = tokens; right = begins; wrong = none; fault_of = (refl, cause) }
refuses wanted image text (Unknown at) k goes =
    let (front, t, behind, tokens, begins, none, cause) = outcome_of wanted image text (Err (Unknown at)) goes in
    record { front = front; token = t; place = at; behind = behind; tokens = tokens; right = begins; wrong = none; fault_of = (refl, cause) }

pub facts_stated : (wanted : Wanted) (image : Image) (text : List ℕ) (fs : List Fact) → answer (names_of image) (later_of wanted) (first_of wanted) [] (placed_tokens text) ≡ Ok fs
    → AllByRecursion IsStated fs
facts_stated wanted image text fs is =
    text_stated (names_of image) (image_bounded image) (tokens_of (placed_tokens text)) fs (reads_whole wanted image text fs is).0 (tokens_sound text 0 0)
