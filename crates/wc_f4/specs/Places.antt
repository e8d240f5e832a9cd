-- What may stand at each place of a text of flow facts, and what the tokens so far state.
use Rattle.std.specs.Prelude.{ℕ, ◌+◌, ◌-◌, ◌^◌, ◌≡◌, Bool, true, false, nat_le, nat_lt, if◌then◌else◌, List, [], ◌∷◌, ◌++◌, Option, None, Some, Result, Ok, Err}
use Rattle.wc_model.specs.declared.flow_facts.Fact.{Fact}
use Rattle.wc_model.specs.declared.flow_facts.Fact.TheVariants.{Loop, Multibranch, Multicall, Noreturn, Checksum, Limit}
use Rattle.wc_model.specs.declared.flow_facts.Term.{Term}
use Rattle.wc_model.specs.declared.flow_facts.Term.TheVariants.{Constant, Visits}
use Rattle.wc_f4.specs.declared.branchings.Branching.{Branching}
use Rattle.wc_f4.specs.declared.branchings.Branching.TheVariants.{Jump, Call}
use Rattle.wc_f4.specs.declared.tokens.Mark.{Mark}
use Rattle.wc_f4.specs.declared.tokens.Mark.TheVariants as sign
use Rattle.wc_f4.specs.declared.tokens.Word.{Word}
use Rattle.wc_f4.specs.declared.tokens.Word.TheVariants as keyword
use Rattle.wc_f4.specs.declared.stops.Stop.{Stop}
use Rattle.wc_f4.specs.declared.stops.Stop.TheVariants.{Bad, Unknown, Memory}
use Rattle.wc_f4.specs.Grammar.{Names}
use Rattle.wc_f4.specs.Tokens.{Token, Placed, word, number, quoted, mark, text_end}

abbrev pub branching_fact : Branching → ℕ → List ℕ → Fact
branching_fact Jump at list = Multibranch at list
branching_fact Call at list = Multicall at list

-- the sum that is being read of a limit: the left one, or the right one behind the left one
pub data Side : Type 0 where
  left : List Term → Side
  right : List Term → List Term → Side

abbrev pub with_term : Side → Term → Side
with_term (left terms) t = left (terms ++ t ∷ [])
with_term (right before terms) t = right before (terms ++ t ∷ [])

abbrev pub with_terms : Side → List Term → Side
with_terms (left before) terms = left (before ++ terms)
with_terms (right first before) terms = right first (before ++ terms)

-- what a list of addresses belongs to
pub data Owner : Type 0 where
  targets : Branching → ℕ → Owner
  bounded : ℕ → Option ℕ → Owner
  counted : Side → ℕ → ℕ → Owner

-- which address of a fact is being read
pub data Part : Type 0 where
  looped : Part
  branching : Branching → Part
  noreturn : Part
  visited : Side → ℕ → Part
  listed : Owner → List ℕ → Part

-- what stands behind an address
pub data Behind : Type 0 where
  bound : ℕ → Behind
  to : Branching → ℕ → Behind
  -- "in", or what follows without it
  within : Owner → Behind
  -- ",", or what follows the list
  after_listed : Owner → List ℕ → Behind
  closing : Fact → Behind

abbrev pub after_address : Part → ℕ → Behind
after_address looped at = bound at
after_address (branching kind) at = to kind at
after_address noreturn at = closing (Noreturn at)
after_address (visited side n) at = within (counted side n at)
after_address (listed owner before) at = after_listed owner (before ++ at ∷ [])

-- what stands next
pub data Place : Type 0 where
  -- a fact, or the end of the text
  start : Place
  -- a fact alone
  first : Place
  -- the end of the text alone
  finish : Place
  address : Part → Place
  -- the name of an address
  label : Part → Place
  -- behind a name: "+" or "-", or what follows the address
  moved : Part → ℕ → Place
  above : Part → ℕ → Place
  below : Part → ℕ → Place
  behind : Behind → Place
  -- behind a list that doesn't go on
  whole : Owner → List ℕ → Place
  name : Place
  value : List ℕ → Place
  term : Side → Place
  -- behind a number: "*", or what follows a term
  times : Side → ℕ → Place
  opening : Side → ℕ → Place
  after_term : Side → Place
  -- behind a sum that doesn't go on
  ended : Side → Place

-- what a token does at a place
pub data Turn : Type 0 where
  go : Place → Turn
  states : Fact → Turn
  ends : Turn
  refused : Turn
  unknown : Turn

abbrev pub same_mark : Mark → Mark → Bool
same_mark sign.Semicolon sign.Semicolon = true
same_mark sign.Comma sign.Comma = true
same_mark sign.Question sign.Question = true
same_mark sign.Plus sign.Plus = true
same_mark sign.Minus sign.Minus = true
same_mark sign.Star sign.Star = true
same_mark sign.Open sign.Open = true
same_mark sign.Close sign.Close = true
same_mark sign.AtMost sign.AtMost = true
same_mark _ _ = false

abbrev pub same_word : Word → Word → Bool
same_word keyword.Loop keyword.Loop = true
same_word keyword.Multibranch keyword.Multibranch = true
same_word keyword.Multicall keyword.Multicall = true
same_word keyword.Noreturn keyword.Noreturn = true
same_word keyword.Checksum keyword.Checksum = true
same_word keyword.Limit keyword.Limit = true
same_word keyword.To keyword.To = true
same_word keyword.In keyword.In = true
same_word keyword.Other keyword.Other = true
same_word _ _ = false

-- the token is this mark, or this word
abbrev pub is_this : Token → Token → Bool
is_this (mark m) (mark k) = same_mark m k
is_this (word w) (word v) = same_word w v
is_this _ _ = false

abbrev pub on_this : Token → Token → Turn → Turn → Turn
on_this wanted t does other = if is_this wanted t then does else other

abbrev pub on_number : Token → (ℕ → Turn) → Turn
on_number (number n) does = does n
on_number _ does = refused

abbrev pub on_quoted : Token → (List ℕ → Turn) → Turn
on_quoted (quoted s) does = does s
on_quoted _ does = refused

abbrev pub on_word : Token → (Word → Turn) → Turn
on_word (word w) does = does w
on_word _ does = refused

-- a number, or else another token
abbrev pub number_or : Token → (ℕ → Turn) → Turn → Turn
number_or (number n) does other = does n
number_or _ does other = other

abbrev pub begin_fact : Word → Turn
begin_fact keyword.Loop = go (address looped)
begin_fact keyword.Multibranch = go (address (branching Jump))
begin_fact keyword.Multicall = go (address (branching Call))
begin_fact keyword.Noreturn = go (address noreturn)
begin_fact keyword.Checksum = go name
begin_fact keyword.Limit = go (term (left []))
begin_fact _ = refused

abbrev pub on_end : Token → Turn → Turn
on_end text_end other = ends
on_end _ other = other

abbrev pub named : Part → Option ℕ → Turn
named part None = unknown
named part (Some at) = go (moved part at)

abbrev pub lands : Part → ℕ → Turn
lands part at = go (behind (after_address part at))

abbrev pub up : Part → ℕ → ℕ → Turn
up part base n = if nat_lt (base + n) (2 ^ 32) then lands part (base + n) else refused

abbrev pub down : Part → ℕ → ℕ → Turn
down part base n = if nat_le n base then lands part (base - n) else refused

abbrev pub at_label : Names → Part → Token → Turn
at_label names part t = on_quoted t (λ s. named part (names s))

abbrev pub at_closing : Fact → Token → Turn
at_closing fact t = on_this (mark sign.Semicolon) t (states fact) refused

-- what follows a list of addresses
abbrev pub at_whole : Owner → List ℕ → Token → Turn
at_whole (targets kind at) list t = at_closing (branching_fact kind at list) t
at_whole (bounded at most) list t = at_closing (Loop at most list) t
at_whole (counted side n at) list t = on_this (mark sign.Close) t (go (after_term (with_term side (Visits n at list)))) refused

abbrev pub at_behind : Behind → Token → Turn
at_behind (bound at) t = on_this (mark sign.Question) t (go (behind (within (bounded at None)))) (on_number t (λ n. go (behind (within (bounded at (Some n))))))
at_behind (to kind at) t = on_this (word keyword.To) t (go (address (listed (targets kind at) []))) refused
at_behind (within owner) t = on_this (word keyword.In) t (go (address (listed owner []))) (at_whole owner [] t)
at_behind (after_listed owner before) t = on_this (mark sign.Comma) t (go (address (listed owner before))) (at_whole owner before t)
at_behind (closing fact) t = at_closing fact t

abbrev pub at_moved : Part → ℕ → Token → Turn
at_moved part at t = on_this (mark sign.Plus) t (go (above part at)) (on_this (mark sign.Minus) t (go (below part at)) (at_behind (after_address part at) t))

abbrev pub at_opening : Side → ℕ → Token → Turn
at_opening side n t = on_this (mark sign.Open) t (go (address (visited side n))) refused

-- the left sum ends at "<=", the right one at ";"
abbrev pub at_ended : Side → Token → Turn
at_ended (left terms) t = on_this (mark sign.AtMost) t (go (term (right terms []))) refused
at_ended (right before terms) t = at_closing (Limit before terms) t

abbrev pub at_after_term : Side → Token → Turn
at_after_term side t = on_this (mark sign.Plus) t (go (term side)) (at_ended side t)

abbrev pub at_times : Side → ℕ → Token → Turn
at_times side n t = on_this (mark sign.Star) t (go (opening side n)) (at_after_term (with_term side (Constant n)) t)

abbrev pub turn : Names → Place → Token → Turn
turn names start t = on_end t (on_word t begin_fact)
turn names first t = on_word t begin_fact
turn names finish t = on_end t refused
turn names (address part) t = number_or t (lands part) (at_label names part t)
turn names (label part) t = at_label names part t
turn names (moved part at) t = at_moved part at t
turn names (above part base) t = on_number t (up part base)
turn names (below part base) t = on_number t (down part base)
turn names (behind next) t = at_behind next t
turn names (whole owner addresses) t = at_whole owner addresses t
turn names name t = on_quoted t (λ s. go (value s))
turn names (value s) t = on_number t (λ n. go (behind (closing (Checksum s n))))
turn names (term side) t = number_or t (λ n. go (times side n)) (at_opening side 1 t)
turn names (times side n) t = at_times side n t
turn names (opening side n) t = at_opening side n t
turn names (after_term side) t = at_after_term side t
turn names (ended side) t = at_ended side t

abbrev pub Answer : Type 0
Answer = Result (List Fact) Stop

abbrev pub follow : Turn → ℕ → Place → List Fact → (Place → List Fact → Answer) → Answer
follow (go next) at later facts rest = rest next facts
follow (states fact) at later facts rest = rest later (facts ++ fact ∷ [])
follow ends at later facts rest = Ok facts
follow refused at later facts rest = Err (Bad at)
follow unknown at later facts rest = Err (Unknown at)

-- What the tokens from a place on give, behind tokens that state facts; `later` is the place behind a fact.
unfoldable pub answer : Names → Place → Place → List Fact → List Placed → Answer
answer names later place facts [] = Ok facts
answer names later place facts (t ∷ ts) = follow (turn names place t.0) t.1 later facts (λ next all. answer names later next all ts)

-- what is read and the tokens left behind it give what the tokens before it gave
abbrev pub Goes : {X : Type 0} → Result X Stop → Answer → (X → Answer) → Type 0
Goes (Ok x) before after = before ≡ after x
Goes (Err (Memory _)) before after = Unit {0}
Goes (Err stop) before after = before ≡ Err stop
