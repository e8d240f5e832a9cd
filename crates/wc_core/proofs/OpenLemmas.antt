-- The core's invariant after the opening edits.
use Rattle.std.proofs.Common.{◌≡◌, ℕ, zero, suc, ◌+◌, ◌≤◌, ◌<◌, ◌&&◌, ◌==◌, ◌||◌, Bool, true, false, cond, List, [], ◌∷◌, ◌++◌, length, take, drop, map, replicate, reverse, Option, None, Some, is_none, nat_le, refl, sym, ap, ap₂, subst, ◌∙◌, arith, le-leb}
use Rattle.std.specs.Global.{Global}
use Rattle.std.specs.List.{All, Contains, filter, find, list_any}
use Rattle.std.specs.Option.{option_map_or}
use Rattle.std.specs.declared.sync.Arc.{Arc}
use Rattle.std.proofs.lemmas.Bool.{eqb-true, false≢true}
use Rattle.std.proofs.lemmas.List.{length-replicate}
use Rattle.std.proofs.lemmas.List.Elements.{All-head, All-nil, All-tail}
use Rattle.std.proofs.lemmas.Option.{none-some}
use Rattle.std.proofs.Math.Seq.{take-length, drop-length}
use Rattle.wc_model.specs.declared.elf_image.Image.{Image}
use Rattle.wc_model.specs.declared.entries.Entry.{Entry}
use Rattle.wc_model.specs.declared.entries.Entry.TheVariants.{Edit as EditEntry}
use Rattle.wc_model.specs.declared.flow_facts.Fact.{Fact}
use Rattle.wc_model.specs.declared.inputs.Edit.{Edit}
use Rattle.wc_model.specs.declared.inputs.Edit.TheVariants.{Add, Hardware as Timing}
use Rattle.wc_model.specs.declared.kinds.Describe.{Describe}
use Rattle.wc_model.specs.Workspace.Closures.{closure, has_kind, last_touch, order_of}
use Rattle.wc_model.specs.Workspace.Edits.{Setting, all_edited, bare, edited, edits_of, numbered}
use Rattle.wc_model.specs.Workspace.History.{Chain, EachRight, IsLegal, bound_kind, opened, opening_entries, opening_entry, replay, state_after}
use Rattle.wc_model.specs.Workspace.Registry.{IsOrderOf, IsProvided}
use Rattle.wc_model.specs.Workspace.States.{Opening, Run, State, ask_at, count_of, home_of, is_free, is_session, stamp_at, start}
use Rattle.wc_model.proofs.Replays.{Kept, kept_is_legal, length-opening_entries}
use Rattle.wc_model.proofs.Untouched.{same_image}
use Rattle.wc_registry.proofs.ClosureLemmas.{order_length}
use Rattle.wc_registry.proofs.KindLemmas.{has_there, there_has}
use Rattle.wc_core.specs.Answers.{LeavesFree}
use Rattle.wc_core.specs.Fits.{Feature}
use Rattle.wc_core.specs.Inner.Begins.{AreBegun, entries_from, key_after}
use Rattle.wc_core.specs.Inner.Lines.{Line}
use Rattle.wc_core.specs.Inner.Seats.{KnownSeat, all_names, no_seat, seat_at}
use Rattle.wc_core.specs.Inner.Stocks.{AreInputs, AreLines, AreParts, AreSeated, AreWorks, IsCore, IsRun, IsTidy, SeatIs, Stock, keys_at}
use Rattle.wc_core.specs.Inner.Works.{runs_with}
use Rattle.wc_core.specs.Openings.{IsOpened, IsStaffed, works_in}
use Rattle.wc_core.proofs.BeginLemmas.{entries_facts, length-entries}
use Rattle.wc_core.proofs.CoreLemmas.{known}
use Rattle.wc_core.proofs.IdleLemmas.{HaveNotRun, few_runs, first_home, home_gone, home_listed, home_there, number_none, number_of, reverse_zeros, runs_zeros, zeros}
use Rattle.wc_core.proofs.TestLemmas.{and_both}

-- The history of the opening edits.

edits_of-facts : (number : ℕ) (facts : List Fact) → edits_of (map opening_entry (numbered number facts)) ≡ map Add facts
edits_of-facts number [] = refl
edits_of-facts number (f ∷ fs) = ap (λ l. Add f ∷ l) (edits_of-facts (number + 1) fs)

right_facts : (chain : Chain) (image : Image) (edits : List Edit) (number : ℕ) (facts : List Fact) → EachRight chain image edits (map opening_entry (numbered number facts))
right_facts chain image edits number [] = tt
right_facts chain image edits number (f ∷ fs) = (tt, right_facts chain image (edits ++ Add f ∷ []) (number + 1) fs)

kept_begins : (chain : Chain) (o : Opening) → Kept chain o (opening_entries o) (start o)
kept_begins chain o =
    let h : List Entry = opening_entries o in
    let long : length h ≡ opened o = length-opening_entries o in
    let none : drop (opened o) h ≡ [] = ap (λ n. drop n h) (sym long) ∙ drop-length h in
    record {
      begins = ap (λ n. take n h) (sym long) ∙ take-length h;
      state = ap (λ l. replay o (Some (start o)) l) none;
      right = (tt, right_facts chain o.image _ 2 o.facts);
      edits = sym (ap (λ l. Timing o.hardware ∷ l) (edits_of-facts 2 o.facts));
    }

image_stays : (count : ℕ) (s : Setting) (es : List Edit) → s.image ≡ (all_edited count s es).image
image_stays count s [] = refl
image_stays count s (e ∷ es) = same_image (count + 1) s e ∙ image_stays (count + 1) (edited (count + 1) s e) es

-- The asks and the seats.

at_none : (session n : ℕ) → ask_at session (replicate n None) ≡ None
at_none session zero = refl
at_none zero (suc n) = refl
at_none (suc session) (suc n) = at_none session n

abbrev pub AreEmpty : List KnownSeat → Type 0
AreEmpty seats = All (λ s. s ≡ no_seat) seats

empty_at : (session : ℕ) (seats : List KnownSeat) → AreEmpty seats → (seat_at session seats).names ≡ []
empty_at session [] empty = refl
empty_at zero (s ∷ ss) empty = ap (λ (x : KnownSeat). x.names) (All-head (λ (x : KnownSeat). x ≡ no_seat) s ss empty)
empty_at (suc n) (s ∷ ss) empty = empty_at n ss (All-tail (λ (x : KnownSeat). x ≡ no_seat) s ss empty)

no_names : (seats : List KnownSeat) → AreEmpty seats → all_names seats ≡ 0
no_names [] empty = refl
no_names (s ∷ ss) empty = ap₂ (λ (x : KnownSeat) n. length x.names + n) (All-head (λ (x : KnownSeat). x ≡ no_seat) s ss empty) (no_names ss (All-tail (λ (x : KnownSeat). x ≡ no_seat) s ss empty))

-- What the code has made.
pub record IsBare {V : Type 0} (o : Opening) (works : List ℕ) (history : List Entry) (d : Stock V) : Type 0 where
  pub begun : AreBegun o.kinds o.image (Timing o.hardware ∷ map Add o.facts) d.inputs d.keys history
  pub below : All (λ k. k < 65) (order_of o.kinds)
  pub order : IsOrderOf o.kinds (order_of o.kinds)
  pub staffed : IsStaffed o.kinds works
  pub works_are : o.works ≡ works_in works (order_of o.kinds)
  pub home_kinds : map (λ w. w.0) d.home ≡ works
  pub idle : HaveNotRun d.home
  pub count : d.count ≡ length history
  pub lines : d.lines ≡ []
  pub out : d.out ≡ []
  pub empty : AreEmpty d.seats
  pub seats : length d.seats ≡ o.sessions + 1
  pub owed : d.owed ≡ 0
  pub room : length history ≤ d.room

module _ {V : Type 0} (chain : Chain) (feature : Feature V) (o : Opening) (works : List ℕ) (h : List Entry) (d : Stock V) (is : IsBare o works h d) where
  abbrev edits : List Edit
  edits = Timing o.hardware ∷ map Add o.facts

  entries_now : h ≡ opening_entries o
  entries_now = is.begun.entries_are ∙ ap (λ l. EditEntry 0 1 (Timing o.hardware) ∷ l) (entries_facts 2 o.facts)

  long : length h ≡ length edits
  long = ap length is.begun.entries_are ∙ length-entries 1 edits

  runs_now : IsRun o
  runs_now =
      record {
        bound = there_has bound_kind (order_of o.kinds) ((is.order.exactly bound_kind).1 is.staffed.bound);
        few = few_all (length (order_of o.kinds)) (length o.kinds) (order_length o.kinds) is.staffed.few;
        below = is.below;
        order = is.order;
      } where
        few_all : (a b : ℕ) → a ≤ b → b ≤ 11 → a ≤ 11
        few_all a b le most = omega (arith, le, most)

  keys_now : (ks : List ℕ) → map (key_after o.kinds o.image edits) ks ≡ keys_at o (start o) (length edits) ks
  keys_now [] = refl
  keys_now (k ∷ ks) = ap₂ (λ (es : List Edit) l. (k, last_touch (closure o.kinds k) 0 0 (bare o.image) es) ∷ l) (sym (take-length edits)) (keys_now ks)

  inputs_now : AreInputs o (start o) d
  inputs_now =
      record {
        inputs = is.begun.inputs_are ∙ ap (λ es. all_edited 0 (bare o.image) es) (sym (take-length edits));
        count = is.count ∙ long;
        keys = is.begun.keys_are ∙ keys_now (order_of o.kinds);
      }

  lines_now : AreLines feature o (start o) []
  lines_now =
      record {
        rows = refl;
        apart = tt;
        shaped = All-nil _;
        copied = λ n k s y at stored. absurd (false≢true stored);
        right = λ n k s y a found. absurd (none-some a found);
      }

  tidy_now : IsTidy o (start o)
  tidy_now =
      record {
        current = λ n k s stored. absurd (false≢true stored);
        listed = λ n k s stored. absurd (false≢true stored);
        single = All-nil _;
        once = tt;
        fresh = λ y r flies. absurd (none-some r flies);
        alone = λ x y r s apart flies other. absurd (none-some r flies);
      }

  home_case : (kind : ℕ) (among staffed : Bool) → has_kind kind (order_of o.kinds) ≡ among → has_kind kind works ≡ staffed → home_of kind (first_home works (order_of o.kinds)) ≡ zeros (number_of kind works)
  home_case kind true staffed there has = home_there works kind (order_of o.kinds) there
  home_case kind false false there has = home_gone works kind (order_of o.kinds) there ∙ sym (ap (λ n. zeros n) (number_none kind works has))
  home_case kind false true there has = absurd (false≢true (sym there ∙ there_has kind (order_of o.kinds) ((is.order.exactly kind).1 ((is.staffed.each kind).0 (has_there kind works has)))))

  home_now : (kind : ℕ) → home_of kind (start o).home ≡ reverse (runs_with kind d.home)
  home_now kind =
      ap (λ (ws : List (ℕ × ℕ)). home_of kind (map (λ w. (w.0, zeros w.1)) ws)) is.works_are
      ∙ home_case kind (has_kind kind (order_of o.kinds)) (has_kind kind works) refl refl
      ∙ sym (reverse_zeros (number_of kind works))
      ∙ ap (λ ws. reverse (zeros (number_of kind ws))) (sym is.home_kinds)
      ∙ ap reverse (sym (runs_zeros kind d.home is.idle))

  works_now : AreWorks o (start o) d.home [] (length h)
  works_now =
      record {
        listed = ap (λ (ws : List (ℕ × ℕ)). map (λ (g : ℕ × List ℕ). g.0) (map (λ w. (w.0, zeros w.1)) ws)) is.works_are ∙ home_listed works (order_of o.kinds);
        home_is = home_now;
        out_is = refl;
        few_home = few_runs (length h) d.home is.idle;
        few_out = All-nil _;
      }

  seats_now : AreSeated o (start o) d.seats
  seats_now =
      record {
        asks = length-replicate (o.sessions + 1) None;
        seats = is.seats;
        each = λ s known. subst (λ a. SeatIs o (start o) s a (seat_at s d.seats)) (sym (at_none s (o.sessions + 1))) (refl, empty_at s d.seats is.empty);
      }

  parts_now : AreParts feature o (start o) (length h) d
  parts_now =
      record {
        inputs = inputs_now;
        lines = subst (λ ls. AreLines feature o (start o) ls) (sym is.lines) lines_now;
        tidy = tidy_now;
        works = subst (λ rs. AreWorks o (start o) d.home rs (length h)) (sym is.out) works_now;
        seated = seats_now;
        owes = owes_all (all_names d.seats) (length d.out) is.owed (no_names d.seats is.empty) (ap length is.out);
        within = omega (arith, is.room, is.owed);
        stored = omega (arith, is.owed);
        counted = omega (arith, is.count);
      } where
        owes_all : (a b : ℕ) → d.owed ≡ 0 → a ≡ 0 → b ≡ 0 → d.owed ≡ a + b
        owes_all a b none names runs = omega (arith, none, names, runs)

  kept_now : Kept chain o h (start o)
  kept_now = subst (λ l. Kept chain o l (start o)) (sym entries_now) (kept_begins chain o)

  core_now : IsCore chain feature o h d
  core_now = record { st = start o; kept = kept_now; runs = runs_now; parts = parts_now }

  free_now : (session : ℕ) → 1 ≤ session → session ≤ o.sessions → is_free o (start o) session ≡ true
  free_now session least most =
      and_both (is_session o session) (is_none (ask_at session (start o).asks)) (and_both (nat_le 1 session) (nat_le session o.sessions) (le-leb 1 session least) (le-leb session o.sessions most))
      (ap (λ a. is_none a) (at_none session (o.sessions + 1)))

  opened_now : IsOpened chain o (known o h)
  opened_now =
      record {
        opening = refl;
        history = entries_now;
        legal = kept_is_legal chain o h (start o) kept_now;
        free = λ session least most. record { st = start o; state = kept_now.state; free = free_now session least most };
      }

  image_now : o.image ≡ d.inputs.image
  image_now = image_stays 0 (bare o.image) edits ∙ sym (ap (λ (s : Setting). s.image) is.begun.inputs_are)

  pub core_opens : IsCore chain feature (record o { image = d.inputs.image }) h d
  core_opens = let I : Image → Type 0 = λ x. IsCore chain feature (record o { image = x }) h d in subst I image_now core_now

  pub opens : (first : Opening) → o ≡ first → IsOpened chain first (known (record o { image = d.inputs.image }) h)
  opens first same =
      let I : Image → Type 0 = λ x. IsOpened chain o (known (record o { image = x }) h) in
      let F : Opening → Type 0 = λ x. IsOpened chain x (known (record o { image = d.inputs.image }) h) in
      subst F same (subst I image_now opened_now)
