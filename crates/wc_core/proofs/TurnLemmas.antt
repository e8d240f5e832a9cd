-- What a turn says of the replay.
use Rattle.std.proofs.Common.{◌≡◌, ◌≢◌, ℕ, zero, suc, ◌+◌, ◌<◌, ◌≤◌, ◌==◌, ◌&&◌, ◌||◌, Bool, true, false, not, cond, if◌then◌else◌, List, [], ◌∷◌, ◌++◌, take, length, Option, None, Some, is_none, is_some, refl, sym, ap, ap₂, ◌∙◌, arith, ⊎_elim}
use Rattle.std.specs.List.{Contains, before_first, find, list_all, list_any, position_or_len, slice_get}
use Rattle.std.specs.Option.{option_map}
use Rattle.std.proofs.lemmas.Bool.{and_parts, eq-eqb, eqb-true, false≢true}
use Rattle.std.proofs.lemmas.Option.{none-some, same_Some}
use Rattle.wc_model.specs.Workspace.Closures.{has_kind, order_of}
use Rattle.wc_model.specs.Workspace.History.{before, bound_kind, may_start}
use Rattle.wc_model.specs.Workspace.States.{Opening, Key, State, Run, Ask, home_of, is_out, is_stored, key_of, own_run, same_key, stamp_at, within_reach}
use Rattle.wc_core.specs.Turns.{Turn, answers, at_home, first_missing, next_turn, runner_of_key, starts, turn_for, unless_running, waits}
use Rattle.wc_core.proofs.CopyLemmas.{same_name_refl}
use Rattle.wc_core.proofs.FindLemmas.{any_found, found_passes}
use Rattle.wc_core.proofs.TestLemmas.{and_both}

-- a start is the turn of the first kind out of reach
pub record Starts (o : Opening) (st : State) (ask : Ask) (kind : ℕ) : Type 0 where
  pub quiet : ask.memory ≡ false
  pub unreached : within_reach o st ask bound_kind ≡ false
  pub first : first_missing o st ask (order_of o.kinds) ≡ Some kind
  pub alone : runner_of_key (key_of o st ask kind) st.out ≡ None

starts_same : (a b : ℕ) → starts a ≡ starts b → a ≡ b
starts_same a b is = cc

home_case : (k kind : ℕ) (home : List ℕ) (out : List Run) → at_home k home out ≡ starts kind → k ≡ kind
home_case k kind [] out is = cc
home_case k kind (h ∷ hs) out is = starts_same k kind is

running_case : (k kind : ℕ) (home : List ℕ) (out : List Run) (runner : Option ℕ) → unless_running k home out runner ≡ starts kind → (k ≡ kind) × (runner ≡ None)
running_case k kind home out None is = (home_case k kind home out is, refl)
running_case k kind home out (Some s) is = cc

turn_case : (o : Opening) (st : State) (ask : Ask) (kind : ℕ) (first : Option ℕ) → turn_for o st ask first ≡ starts kind → (first ≡ Some kind) × (runner_of_key (key_of o st ask kind) st.out ≡ None)
turn_case o st ask kind None is = cc
turn_case o st ask kind (Some k) is =
    let both = running_case k kind (home_of k st.home) st.out (runner_of_key (key_of o st ask k) st.out) is in
    (ap Some both.0, ap (λ j. runner_of_key (key_of o st ask j) st.out) (sym both.0) ∙ both.1)

or_none : (a b : Bool) → (a || b) ≡ false → (a ≡ false) × (b ≡ false)
or_none false b is = (refl, is)
or_none true b is = cc

pub next_case : (o : Opening) (st : State) (ask : Ask) (kind : ℕ) (done : Bool) → (if done then answers else turn_for o st ask (first_missing o st ask (order_of o.kinds))) ≡ starts kind → (done ≡ false) × (turn_for o st ask (first_missing o st ask (order_of o.kinds)) ≡ starts kind)
next_case o st ask kind true is = cc
next_case o st ask kind false is = (refl, is)

pub turn_starts : (o : Opening) (st : State) (ask : Ask) (kind : ℕ) → next_turn o st ask ≡ starts kind → Starts o st ask kind
turn_starts o st ask kind is =
    let open_ = next_case o st ask kind (ask.memory || within_reach o st ask bound_kind) is in
    let none = or_none ask.memory (within_reach o st ask bound_kind) open_.0 in
    let first = turn_case o st ask kind (first_missing o st ask (order_of o.kinds)) open_.1 in
    record { quiet = none.0; unreached = none.1; first = first.0; alone = first.1 }

-- what stands before the first kind out of reach is within reach
find_has_case : (p : ℕ → Bool) (x kind : ℕ) (xs : List ℕ) (here : Bool) → cond here (Some x) (find p xs) ≡ Some kind → (find p xs ≡ Some kind → has_kind kind xs ≡ true) → ((x == kind) || has_kind kind xs) ≡ true
find_has_case p x kind xs true is later = ap (λ b. b || has_kind kind xs) (eq-eqb x kind (same_Some x kind is))
find_has_case p x kind xs false is later = or_right (x == kind) (has_kind kind xs) (later is) where
  or_right : (a b : Bool) → b ≡ true → (a || b) ≡ true
  or_right true b it = refl
  or_right false b it = it

pub find_has : (p : ℕ → Bool) (xs : List ℕ) (kind : ℕ) → find p xs ≡ Some kind → has_kind kind xs ≡ true
find_has p [] kind is = absurd (none-some kind is)
find_has p (x ∷ xs) kind is = find_has_case p x kind xs (p x) is (λ later. find_has p xs kind later)

one_more : (n : ℕ) → 1 + n ≡ suc n
one_more n = omega arith

before_case : (q : ℕ → Bool) (x kind : ℕ) (xs : List ℕ) (reached same : Bool) → q x ≡ reached → (x == kind) ≡ same → cond (not reached) (Some x) (find (λ k. not (q k)) xs) ≡ Some kind
    → (find (λ k. not (q k)) xs ≡ Some kind → list_all q (before kind xs) ≡ true) → list_all q (take (cond (not same) (1 + position_or_len (λ k. k == kind) xs) 0) (x ∷ xs)) ≡ true
before_case q x kind xs reached true is at found later = refl
before_case q x kind xs true false is at found later = ap (λ m. list_all q (take m (x ∷ xs))) (one_more (position_or_len (λ k. k == kind) xs)) ∙ and_both (q x) (list_all q (before kind xs)) is (later found)
before_case q x kind xs false false is at found later = absurd (false≢true (sym at ∙ eq-eqb x kind (same_Some x kind found)))

pub before_all : (q : ℕ → Bool) (xs : List ℕ) (kind : ℕ) → find (λ k. not (q k)) xs ≡ Some kind → list_all q (before kind xs) ≡ true
before_all q [] kind is = refl
before_all q (x ∷ xs) kind is = before_case q x kind xs (q x) (x == kind) refl refl is (λ later. before_all q xs kind later)

-- the place of a kind
at_case : (x kind : ℕ) (xs : List ℕ) (same : Bool) → (x == kind) ≡ same → (same || has_kind kind xs) ≡ true → (has_kind kind xs ≡ true → (i : ℕ) × (slice_get xs i ≡ Some kind) × (take i xs ≡ before kind xs))
    → (i : ℕ) × (slice_get (x ∷ xs) i ≡ Some kind) × (take i (x ∷ xs) ≡ take (cond (not same) (1 + position_or_len (λ k. k == kind) xs) 0) (x ∷ xs))
at_case x kind xs true same is later = (0, ap Some (eqb-true x kind same), refl)
at_case x kind xs false same is later = let more = later is in (suc more.0, more.1, ap (λ ys. x ∷ ys) more.2 ∙ ap (λ m. take m (x ∷ xs)) (sym (one_more (position_or_len (λ k. k == kind) xs))))

pub kind_at : (xs : List ℕ) (kind : ℕ) → has_kind kind xs ≡ true → (i : ℕ) × (slice_get xs i ≡ Some kind) × (take i xs ≡ before kind xs)
kind_at [] kind is = cc
kind_at (x ∷ xs) kind is = at_case x kind xs (x == kind) refl is (λ later. kind_at xs kind later)

-- no run of the key is out
map_none : {A B : Type 0} (f : A → B) (found : Option A) → option_map f found ≡ None → is_some found ≡ false
map_none f None is = refl
map_none f (Some a) is = cc

pub not_out : (key : Key) (out : List Run) → runner_of_key key out ≡ None → is_out key out ≡ false
not_out key out is = any_found (λ r. same_key r.key key) out ∙ map_none (λ (r : Run). r.session) (find (λ r. same_key r.key key) out) is

false_of : (b : Bool) → not b ≡ true → b ≡ false
false_of true is = cc
false_of false is = refl

-- The start is legal.
pub record CanStart (o : Opening) (st : State) (session : ℕ) (ask : Ask) (kind : ℕ) : Type 0 where
  pub may : may_start o st session (key_of o st ask kind) ask ≡ true
  pub listed : has_kind kind (order_of o.kinds) ≡ true
  pub lacks : has_kind kind ask.kinds ≡ false
  pub unstored : is_stored o st ask kind ≡ false
  pub out : is_out (key_of o st ask kind) st.out ≡ false
  pub before_it : list_all (within_reach o st ask) (before kind (order_of o.kinds)) ≡ true

pub can_start : (o : Opening) (st : State) (session : ℕ) (ask : Ask) (kind : ℕ) → own_run session st.out ≡ None → Starts o st ask kind → CanStart o st session ask kind
can_start o st session ask kind rests turn =
    let key : Key = key_of o st ask kind in
    let beyond : not (within_reach o st ask kind) ≡ true = found_passes (λ k. not (within_reach o st ask k)) (order_of o.kinds) kind turn.first in
    let reach = or_none (has_kind kind ask.kinds) (is_stored o st ask kind) (false_of (within_reach o st ask kind) beyond) in
    let listed = find_has (λ k. not (within_reach o st ask k)) (order_of o.kinds) kind turn.first in
    let out = not_out key st.out turn.alone in
    let all = before_all (within_reach o st ask) (order_of o.kinds) kind turn.first in
    record {
      may = and_both _ _ (and_both _ _ (and_both _ _ (and_both _ _ (and_both _ _ (and_both _ _ (and_both _ _ (and_both _ _ (same_name_refl ask.name) (ap (λ (r : Option Run). is_none r) rests)) (ap not turn.quiet))
          (eq-eqb key.stamp (stamp_at o st kind ask.at) refl)) beyond) (ap not turn.unreached)) listed) all) (ap not out);
      listed = listed;
      lacks = reach.0;
      unstored = reach.1;
      out = out;
      before_it = all;
    }
