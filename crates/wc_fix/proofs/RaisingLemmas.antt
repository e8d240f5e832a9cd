-- What raising one state changes, over plain lists.
use Rattle.std.proofs.Common.{ℕ, zero, suc, ◌≡◌, ◌≢◌, ◌<◌, ◌≤◌, ◌⊎◌, inl, inr, ⊎_elim, Bool, true, false, List, [], ◌∷◌, Option, None, Some, IfSome, length, get_or, set, replicate, if◌then◌else◌, refl, sym, ap, subst, ◌∙◌, arith, length-set, get_or-set_same, get_or-set_other}
use Rattle.std.specs.List.{Contains}
use Rattle.std.proofs.lemmas.Bool.{cases_eq, cases_lt, true≢false, false≢true}
use Rattle.std.proofs.lemmas.List.{set-get_or, get_or_past, get_or_read_under}
use Rattle.std.proofs.lemmas.List.Sums.{sum_by-set}
use Rattle.std.proofs.lemmas.Option.{none-some, same_Some}
use Rattle.wc_fix.specs.declared.lattice.Lattice.{Ghosts}
use Rattle.wc_fix.specs.Solved.{Alike, AllAlike}
use Rattle.wc_fix.specs.Inner.Queues.{Waits}
use Rattle.wc_fix.specs.Inner.Fixing.{state_at, weight, flag, work_left, IsRaised, IsLed, IsAbove}

-- A Boolean list at one place changed.
pub waits_set : (waiting : List Bool) (q : ℕ) → q < length waiting → Waits (set waiting q true) q
waits_set waiting q within = get_or-set_same waiting q true false within

pub waits_kept : (waiting : List Bool) (q p : ℕ) → Waits waiting p → Waits (set waiting q true) p
waits_kept waiting q p waits = ⊎_elim
    (λ (same : p ≡ q). ⊎_elim
    (λ (within : q < length waiting). subst (λ (n : ℕ). Waits (set waiting q true) n) (sym same) (waits_set waiting q within))
    (λ (past : length waiting ≤ q). absurd (false≢true (sym (get_or_past waiting q false past) ∙ ap (λ (n : ℕ). get_or waiting n false) (sym same) ∙ waits)))
    (cases_lt q (length waiting)))
    (λ (apart : p ≢ q). get_or-set_other waiting q p true false apart ∙ waits)
    (cases_eq p q)

pub waits_news : (waiting : List Bool) (q p : ℕ) → Waits (set waiting q true) p → Waits waiting p ⊎ (p ≡ q)
waits_news waiting q p waits = ⊎_elim
    (λ (same : p ≡ q). inr same)
    (λ (apart : p ≢ q). inl (sym (get_or-set_other waiting q p true false apart) ∙ waits))
    (cases_eq p q)

pub waits_off : (waiting : List Bool) (q p : ℕ) → q < length waiting → Waits (set waiting q false) p → (p ≢ q) × Waits waiting p
waits_off waiting q p within waits = ⊎_elim
    (λ (same : p ≡ q). absurd (false≢true (sym (get_or-set_same waiting q false false within) ∙ ap (λ (n : ℕ). get_or (set waiting q false) n false) (sym same) ∙ waits)))
    (λ (apart : p ≢ q). (apart, sym (get_or-set_other waiting q p false false apart) ∙ waits))
    (cases_eq p q)

pub waits_within : (waiting : List Bool) (p : ℕ) → Waits waiting p → p < length waiting
waits_within waiting p waits = ⊎_elim
    (λ (within : p < length waiting). within)
    (λ (past : length waiting ≤ p). absurd (false≢true (sym (get_or_past waiting p false past) ∙ waits)))
    (cases_lt p (length waiting))

-- A state at one place changed.
pub state_within : {L : Type 0} (states : List (Option L)) (p : ℕ) (a : L) → state_at states p ≡ Some a → p < length states
state_within {L} states p a there = ⊎_elim
    (λ (within : p < length states). within)
    (λ (past : length states ≤ p). absurd (none-some a (sym (get_or_past states p None past) ∙ there)))
    (cases_lt p (length states))

pub nothing_there : {L : Type 0} (n p : ℕ) → state_at (replicate n (let x : Option L = None in x)) p ≡ None
nothing_there zero p = refl
nothing_there (suc n) zero = refl
nothing_there {L} (suc n) (suc p) = nothing_there {L = L} n p

pub no_flag : (n p : ℕ) → get_or (replicate n false) p false ≡ false
no_flag zero p = refl
no_flag (suc n) zero = refl
no_flag (suc n) (suc p) = no_flag n p

abbrev pub or_first : {L : Type 0} → L → Option L → L
or_first first None = first
or_first first (Some a) = a

pub contains_head : {X : Type 0} (x : X) (xs : List X) → Contains (x ∷ xs) x
contains_head x xs = (0, omega arith, refl)

pub contains_tail : {X : Type 0} (x : X) (xs : List X) (y : X) → Contains xs y → Contains (x ∷ xs) y
contains_tail x xs y among = (suc among.0, omega (arith, among.1), among.2)

pub contains_cons : {X : Type 0} (x : X) (xs : List X) (y : X) → Contains (x ∷ xs) y → (x ≡ y) ⊎ Contains xs y
contains_cons x xs y (zero, within, is) = inl is
contains_cons x xs y (suc k, within, is) = inr (k, omega arith, is)

pub contains_nothing : {X : Type 0} (x : X) → Contains [] x → ⊥
contains_nothing x among = omega (arith, among.1)

pub read_held : {L : Type 0} (states : List (Option L)) (node : ℕ) (x : Option L) (held value : L) → x ≡ get_or states node x → x ≡ Some value → state_at states node ≡ Some held → held ≡ value
read_held states node x held value read is there =
    same_Some held value (sym there ∙ sym (get_or_read_under states node (length states) x None read (state_within states node held there) refl) ∙ is)

-- What raising gives, whether or not there was a state.
module _ {L : Type 0} (lat : Ghosts L) where
  record Rise (old : Option L) (brought b : L) (changed : Bool) : Type 0 where
    same : (first : L) → IfSome old (Alike lat first) → Alike lat first brought → Alike lat first b
    above : lat.precise (lat.state brought) (lat.state b)
    grown : IfSome old (λ a. lat.precise (lat.state a) (lat.state b))
    least : (c : lat.State) → IfSome old (λ a. lat.precise (lat.state a) c) → lat.precise (lat.state brought) c → lat.precise (lat.state b) c
    unchanged : changed ≡ false → old ≡ Some b
    falls : changed ≡ true → lat.rank b < weight lat old

  -- What a step that was followed to `q` changes.
  pub record Grows (q : ℕ) (brought : L) (states : List (Option L)) (waiting : List Bool) (new_states : List (Option L)) (new_waiting : List Bool) : Type 0 where
    pub counted : length new_states ≡ length states
    pub flagged : length new_waiting ≡ length waiting
    pub kept : (p : ℕ) → Waits waiting p → Waits new_waiting p
    pub newly : (p : ℕ) → Waits new_waiting p → Waits waiting p ⊎ (p ≡ q)
    pub stays : (p : ℕ) (a : L) → state_at new_states p ≡ Some a → Waits new_waiting p ⊎ (state_at states p ≡ Some a)
    pub grown : (p : ℕ) (b : L) → state_at states p ≡ Some b → IsAbove lat new_states (lat.state b) p
    pub reached : IsAbove lat new_states (lat.state brought) q
    pub same : (first : L) → AllAlike lat first states → Alike lat first brought → AllAlike lat first new_states
    pub least : (other : ℕ → lat.State) → ((p : ℕ) (a : L) → state_at states p ≡ Some a → lat.precise (lat.state a) (other p)) → lat.precise (lat.state brought) (other q)
        → (p : ℕ) (a : L) → state_at new_states p ≡ Some a → lat.precise (lat.state a) (other p)
    pub work : work_left lat new_states new_waiting ≤ work_left lat states waiting

module _ {L : Type 0} (lat : Ghosts L) (refl_of : (a : lat.State) → lat.precise a a) where
  rise : (old : Option L) (brought : L) (new : Option L) (changed : Bool) → IsRaised lat old brought new changed → (b : L) × (new ≡ Some b) × Rise lat old brought b changed
  rise None brought new changed raised =
      let b : L = raised.0 in
      let copy = raised.2 in (
        b,
        raised.1,
        record {
          same = λ first _ alike. (copy.alike.0 ∙ alike.0, copy.alike.1 ∙ alike.1);
          above = subst (λ (x : lat.State). lat.precise (lat.state brought) x) (sym copy.same_state) (refl_of (lat.state brought));
          grown = tt;
          least = λ c _ less. subst (λ (x : lat.State). lat.precise x c) (sym copy.same_state) less;
          unchanged = λ no. absurd (true≢false (sym raised.3 ∙ no));
          falls = λ _. copy.small;
        },
      )
  rise (Some a) brought new changed raised =
      let b : L = raised.0 in
      let join = raised.2 in (
        b,
        raised.1,
        record {
          same = λ first alike _. (join.alike.0 ∙ alike.0, join.alike.1 ∙ alike.1);
          above = join.above_other;
          grown = join.above_self;
          least = join.least;
          unchanged = λ no. ap Some (sym (join.unchanged no));
          falls = join.falls;
        },
      )

  if_there : (P : L → Type 0) (old : Option L) → ((a : L) → old ≡ Some a → P a) → IfSome old P
  if_there P None all = tt
  if_there P (Some a) all = all a refl

  of_there : (P : L → Type 0) (old : Option L) (a : L) → old ≡ Some a → IfSome old P → P a
  of_there P old a is holds = let h : IfSome (Some a) P = subst (λ (o : Option L). IfSome o P) is holds in h

  same_grows : (q : ℕ) (brought b : L) (states : List (Option L)) (waiting : List Bool) → state_at states q ≡ Some b → Rise lat (state_at states q) brought b false → Grows lat q brought states waiting states waiting
  same_grows q brought b states waiting there r = record {
    counted = refl;
    flagged = refl;
    kept = λ p w. w;
    newly = λ p w. inl w;
    stays = λ p a is. inr is;
    grown = λ p c is. (c, is, refl_of (lat.state c));
    reached = (b, there, r.above);
    same = λ first all _. all;
    least = λ other below _. below;
    work = omega arith;
  }

  less_work : (states : List (Option L)) (waiting : List Bool) (q : ℕ) (b : L) → q < length states → q < length waiting → lat.rank b < weight lat (state_at states q)
      → work_left lat (set states q (Some b)) (set waiting q true) ≤ work_left lat states waiting
  less_work states waiting q b within flagged falls =
      let s = sum_by-set (weight lat) states q (Some b) None within in
      let w = sum_by-set flag waiting q true false flagged in
      omega (arith, s, w)

  set_grows : (q : ℕ) (brought b : L) (states : List (Option L)) (waiting : List Bool) → q < length states → q < length waiting → Rise lat (state_at states q) brought b true → Grows lat q brought states waiting (set states q (Some b)) (set waiting q true)
  set_grows q brought b states waiting within flagged r =
      let new : List (Option L) = set states q (Some b) in
      let here : state_at new q ≡ Some b = get_or-set_same states q (Some b) None within in
      let elsewhere = λ (p : ℕ) (apart : p ≢ q). get_or-set_other states q p (Some b) None apart in
      let same_value = λ (p : ℕ) (a : L) (same : p ≡ q) (is : state_at new p ≡ Some a). same_Some b a (sym here ∙ ap (state_at new) (sym same) ∙ is) in
      record {
        counted = length-set states q (Some b);
        flagged = length-set waiting q true;
        kept = λ p w. waits_kept waiting q p w;
        newly = λ p w. waits_news waiting q p w;
        stays = λ p a is. ⊎_elim
            (λ (same : p ≡ q). inl (subst (λ (n : ℕ). Waits (set waiting q true) n) (sym same) (waits_set waiting q flagged)))
            (λ (apart : p ≢ q). inr (sym (elsewhere p apart) ∙ is))
            (cases_eq p q);
        grown = λ p c is. ⊎_elim
            (λ (same : p ≡ q). (b, ap (state_at new) same ∙ here, of_there (λ a. lat.precise (lat.state a) (lat.state b)) (state_at states q) c (ap (state_at states) (sym same) ∙ is) r.grown))
            (λ (apart : p ≢ q). (c, elsewhere p apart ∙ is, refl_of (lat.state c)))
            (cases_eq p q);
        reached = (b, here, r.above);
        same = λ first all alike. λ p a is. ⊎_elim
            (λ (same : p ≡ q). subst (λ (x : L). Alike lat first x) (same_value p a same is) (r.same first (if_there (Alike lat first) (state_at states q) (all q)) alike))
            (λ (apart : p ≢ q). all p a (sym (elsewhere p apart) ∙ is))
            (cases_eq p q);
        least = λ other below less p a is. ⊎_elim
            (λ (same : p ≡ q). subst (λ (x : L). lat.precise (lat.state x) (other p)) (same_value p a same is)
            (subst (λ (n : ℕ). lat.precise (lat.state b) (other n)) (sym same) (r.least (other q) (if_there (λ x. lat.precise (lat.state x) (other q)) (state_at states q) (below q)) less)))
            (λ (apart : p ≢ q). below p a (sym (elsewhere p apart) ∙ is))
            (cases_eq p q);
        work = less_work states waiting q b within flagged (r.falls refl);
      }

  raised_grows : (q : ℕ) (brought b : L) (states : List (Option L)) (waiting : List Bool) (changed : Bool) → q < length states → q < length waiting → Rise lat (state_at states q) brought b changed
      → Grows lat q brought states waiting (set states q (Some b)) (if changed then set waiting q true else waiting)
  raised_grows q brought b states waiting true within flagged r = set_grows q brought b states waiting within flagged r
  raised_grows q brought b states waiting false within flagged r =
      let there : state_at states q ≡ Some b = r.unchanged refl in
      let kept : states ≡ set states q (Some b) = sym (set-get_or states q None) ∙ ap (λ (x : Option L). set states q x) there in
      subst (λ (xs : List (Option L)). Grows lat q brought states waiting xs waiting) kept (same_grows q brought b states waiting there r)

  pub led_grows : (q : ℕ) (brought : L) (states : List (Option L)) (waiting : List Bool) (new_states : List (Option L)) (new_waiting : List Bool) → q < length states → q < length waiting
      → IsLed lat q brought states waiting new_states new_waiting → Grows lat q brought states waiting new_states new_waiting
  led_grows q brought states waiting new_states new_waiting within flagged led =
      let up = rise (state_at states q) brought led.slot led.changed led.raised in
      let grows = raised_grows q brought up.0 states waiting led.changed within flagged up.2 in
      let same : new_states ≡ set states q (Some up.0) = led.states_are ∙ ap (λ (x : Option L). set states q x) up.1 in
      subst (λ (ws : List Bool). Grows lat q brought states waiting new_states ws) (sym led.waiting_is)
      (subst (λ (xs : List (Option L)). Grows lat q brought states waiting xs (if led.changed then set waiting q true else waiting)) (sym same) grows)
