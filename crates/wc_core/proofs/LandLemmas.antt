-- A landed value: its finish, and the ticket that goes on.
use Rattle.std.proofs.Common.{◌≡◌, ◌≢◌, ℕ, ◌+◌, ◌<◌, ◌≤◌, ◌&&◌, ◌||◌, ◌==◌, ◌⊎◌, Bool, true, false, inl, inr, ⊎_elim, List, [], ◌∷◌, ◌++◌, length, map, set, Option, None, Some, IfSome, is_none, is_some, refl, sym, ap, ap₂, subst, ◌∙◌, arith, if◌then◌else◌}
use Rattle.std.specs.Global.{Global}
use Rattle.std.specs.List.{All, list_any}
use Rattle.std.specs.Option.{option_map}
use Rattle.std.specs.declared.sync.Arc.{Arc}
use Rattle.std.proofs.lemmas.Bool.{eqb-true}
use Rattle.std.proofs.lemmas.List.{append-nil}
use Rattle.std.proofs.lemmas.List.Elements.{All-head, All-tail}
use Rattle.std.proofs.lemmas.List.Folds.{list_any-append}
use Rattle.wc_base.proofs.TestLemmas.{if_true}
use Rattle.wc_model.specs.declared.entries.Entry.{Entry}
use Rattle.wc_model.specs.declared.entries.Entry.TheVariants.{Finish}
use Rattle.wc_model.specs.Workspace.Closures.{has_kind, order_of}
use Rattle.wc_model.specs.Workspace.History.{Chain, ask_after}
use Rattle.wc_model.specs.Workspace.States.{Opening, State, Ask, ask_at, has_key, inputs_at, is_session, open_ask, own_run}
use Rattle.wc_model.proofs.Sharing.{length-with_ask}
use Rattle.wc_core.specs.Answers.{Advances}
use Rattle.wc_core.specs.Features.{arc_at}
use Rattle.wc_core.specs.Fits.{Feature, FitsLanded, FitsTicket, HoldsFeatures, IsOpen, run_of}
use Rattle.wc_core.specs.Inner.Ends.{end_for}
use Rattle.wc_core.specs.Inner.Gifts.{IsGift, KnownGift, gift_value}
use Rattle.wc_core.specs.Inner.Moves.{Had, settled}
use Rattle.wc_core.specs.Inner.Stocks.{AreParts, IsCore, Stock}
use Rattle.wc_core.specs.Views.{Known, KnownLanded, KnownTicket, ask_with}
use Rattle.wc_model.proofs.StepLemmas.{some_same}
use Rattle.wc_core.proofs.AskLemmas.{asked_from}
use Rattle.wc_core.proofs.CoreLemmas.{ArePinned, known, moved}
use Rattle.wc_core.proofs.FeatureLemmas.{IsStable}
use Rattle.wc_core.proofs.FinishLemmas.{IsLanding, asked_now, end_now, finished_stock, flies_out, gone, leaves, new, new_ask, out_is, right, seats_case, works_now}
use Rattle.wc_core.proofs.PullLemmas.{held_is, held_or}
use Rattle.wc_core.proofs.SettleLemmas.{settled_is}
use Rattle.wc_core.proofs.TestLemmas.{or_cases, or_false}
use Rattle.wc_core.proofs.StepLemmas.{step_finish}
use Rattle.wc_core.proofs.WorkLemmas.{length-without}

-- a kind of the order is a small number
pub listed_below : (kind : ℕ) (order : List ℕ) → All (λ k. k < 65) order → has_kind kind order ≡ true → kind < 65
listed_below kind [] small listed = cc
listed_below kind (k ∷ ks) small listed =
    ⊎_elim (λ (here : (k == kind) ≡ true). subst (λ n. n < 65) (eqb-true k kind here) (All-head (λ n. n < 65) k ks small)) (λ (later : has_kind kind ks ≡ true). listed_below kind ks (All-tail (λ n. n < 65) k ks small) later) (or_cases (k == kind) (has_kind kind ks) listed)

-- what the ticket has then
has_more : (kinds : List ℕ) (kind j : ℕ) → has_kind j (kinds ++ kind ∷ []) ≡ (has_kind j kinds || (kind == j))
has_more kinds kind j = list_any-append (λ k. k == j) kinds (kind ∷ []) ∙ ap (λ b. has_kind j kinds || b) (or_false (kind == j))

held_case : {V : Type 0} (kinds : List ℕ) (kind : ℕ) (t : KnownTicket V) (gave : Option (KnownGift V)) (current : Bool) → kind < length t.had → ((j : ℕ) → has_kind j kinds ≡ is_some (arc_at j t.had))
    → (j : ℕ) → has_kind j (ask_after (end_for (is_some gave) current) kind (ask_with t kinds)).kinds ≡ is_some (arc_at j (settled kind gave t).had)
held_case kinds kind t None current within same j = same j
held_case kinds kind t (Some g) true within same j = has_more kinds kind j ∙ ap (λ b. b || (kind == j)) (same j) ∙ sym (held_is kind t.had within g.own j)
held_case kinds kind t (Some g) false within same j = has_more kinds kind j ∙ ap (λ b. b || (kind == j)) (same j) ∙ sym (held_is kind t.had within g.own j)

ask_case : {V : Type 0} (kinds : List ℕ) (kind : ℕ) (t : KnownTicket V) (gave : Option (KnownGift V)) (current : Bool) → ask_after (end_for (is_some gave) current) kind (ask_with t kinds) ≡ ask_with (settled kind gave t) (ask_after (end_for (is_some gave) current) kind (ask_with t kinds)).kinds
ask_case kinds kind t None current = refl
ask_case kinds kind t (Some g) true = refl
ask_case kinds kind t (Some g) false = refl

features_case : {V : Type 0} (feature : Feature V) (kind : ℕ) (t : KnownTicket V) (gave : Option (KnownGift V)) → kind < length t.had → HoldsFeatures feature t → IfSome gave (λ g. feature kind t.inputs t.name g.own.value) → HoldsFeatures feature (settled kind gave t)
features_case {V} feature kind t None within holds is j a at = holds j a at
features_case {V} feature kind t (Some g) within holds is j a at =
    ⊎_elim (λ (old : arc_at j t.had ≡ Some a). holds j a old)
    (λ (new_ : (j ≡ kind) × (g.own ≡ a)). subst (λ k. feature k t.inputs t.name a.value) (sym new_.0) (subst (λ (b : Arc V Global). feature kind t.inputs t.name b.value) new_.1 is))
    (held_or kind t.had within g.own j a at)

same_case : {V : Type 0} (kind : ℕ) (t : KnownTicket V) (gave : Option (KnownGift V)) → ((settled kind gave t).session ≡ t.session) × ((settled kind gave t).name ≡ t.name) × ((settled kind gave t).at ≡ t.at) × ((settled kind gave t).inputs ≡ t.inputs)
same_case kind t None = (refl, refl, refl, refl)
same_case kind t (Some g) = (refl, refl, refl, refl)

pub record Lands {V : Type 0} (chain : Chain) (feature : Feature V) (o : Opening) (k : Known) (entries : List Entry) (d : Stock V) (session : ℕ) (t : KnownTicket V) : Type 0 where
  pub core : IsCore chain feature o entries d
  pub advances : Advances chain feature k (known o entries) session
  pub fits : FitsTicket feature o entries t

module _ {V : Type 0} (chain : Chain) (feature : Feature V) (o : Opening) (h : List Entry) (d : Stock V) (core : IsCore chain feature o h d) (t : KnownTicket V) (kind stamp runs owed room spare : ℕ) (gave : Option (KnownGift V)) (current : Bool)
    (landing : IsLanding feature o core.st d t kind stamp runs gave current) (stable : IsStable feature o) (pinned : ArePinned o core.st) where
  abbrev st_now : State
  st_now = new chain feature o h d core t kind stamp runs owed room spare gave current landing stable pinned

  abbrev pub stock_now : Stock V
  stock_now = finished_stock chain feature o h d core t kind stamp runs owed room spare gave current landing stable pinned

  abbrev ask_now : Ask
  ask_now = new_ask chain feature o h d core t kind stamp runs owed room spare gave current landing stable pinned

  parts_now : owed + 1 ≡ d.owed → d.room ≤ room → owed ≤ spare → AreParts feature o st_now (length h + 1) stock_now
  parts_now less within stored =
      let parts = core.parts in
      let both = settled_is chain feature o h d core t kind stamp runs owed room spare gave current landing stable pinned in
      record {
        inputs = record { inputs = parts.inputs.inputs; count = parts.inputs.count; keys = parts.inputs.keys };
        lines = both.0;
        tidy = both.1;
        works = works_now chain feature o h d core t kind stamp runs owed room spare gave current landing stable pinned;
        seated = record { asks = length-with_ask t.session (Some ask_now) core.st.asks ∙ parts.seated.asks; seats = parts.seated.seats; each = λ s is. seats_case chain feature o h d core t kind stamp runs owed room spare gave current landing stable pinned s is (s == t.session) refl };
        owes = omega (arith, less, parts.owes, length-without t.session (run_of t kind stamp runs) d.out (flies_out chain feature o h d core t kind stamp runs owed room spare gave current landing stable pinned));
        within = omega (arith, less, parts.within, within);
        stored = stored;
        counted = omega (arith, parts.counted);
      }

  open_now : length t.had ≡ 65 → IsOpen feature o st_now (settled kind gave t)
  open_now wide =
      let same = same_case kind t gave in
      let kinds : List ℕ = landing.asked.is_open.kinds in
      let small : kind < 65 = listed_below kind (order_of o.kinds) core.runs.below (out_is chain feature o h d core t kind stamp runs owed room spare gave current landing stable pinned).listed in
      record {
        kinds = ask_now.kinds;
        same = held_case kinds kind t gave current (omega (arith, wide, small)) landing.asked.is_open.same;
        ask = ap (open_ask o st_now) same.0 ∙ if_true (is_session o t.session) (ask_at t.session st_now.asks) None landing.asked.known_is
            ∙ asked_now chain feature o h d core t kind stamp runs owed room spare gave current landing stable pinned ∙ ap Some (ask_case kinds kind t gave current);
        inputs = same.3 ∙ landing.asked.is_open.inputs ∙ ap (inputs_at o core.st) (sym same.2);
        features = features_case feature kind t gave (omega (arith, wide, small)) landing.asked.is_open.features landing.value;
      }

  pub lands : (k : Known) (view : known o h ≡ k) (entries : List Entry) → length t.had ≡ 65 → entries ≡ h ++ Finish t.session kind t.name stamp (end_for (is_some gave) current) ∷ [] → owed + 1 ≡ d.owed → d.room ≤ room → owed ≤ spare
      → Lands chain feature o k entries stock_now t.session (settled kind gave t)
  lands k view entries wide entries_are less within stored =
      let m = moved chain feature o h d k view core entries (Finish t.session kind t.name stamp (end_for (is_some gave) current)) st_now stock_now entries_are
      (step_finish o core.st (ask_with t landing.asked.is_open.kinds) (run_of t kind stamp runs) t.session (end_for (is_some gave) current) landing.asked.is_open.ask landing.flies
      (right chain feature o h d core t kind stamp runs owed room spare gave current landing stable pinned))
      tt (sym (append-nil core.st.edits)) (leaves chain feature o h d core t kind stamp runs owed room spare gave current landing stable pinned) (parts_now less within stored) in
      record {
        core = m.core;
        advances = m.advances;
        fits = record {
          st = st_now;
          state = m.state;
          is_open = open_now wide;
          rests = ap (λ s. own_run s st_now.out) (same_case kind t gave).0 ∙ gone chain feature o h d core t kind stamp runs owed room spare gave current landing stable pinned;
        };
      }

-- A landed value that fits, at the core's own state.
value_case : {V : Type 0} (P : V → Type 0) (gave : Option (KnownGift V)) → IfSome (gift_value gave) P → IfSome gave (λ g. P g.own.value)
value_case P None is = is
value_case P (Some g) is = is

pub landing_at : {V : Type 0} (chain : Chain) (feature : Feature V) (o : Opening) (h : List Entry) (d : Stock V) (k : Known) (view : known o h ≡ k) (core : IsCore chain feature o h d) (t : KnownTicket V) (kind stamp runs sessions : ℕ) (gave : Option (KnownGift V)) (current : Bool) (l : KnownLanded V)
    → record { ticket = t; kind = kind; stamp = stamp; runs = runs; sessions = sessions; gave = gift_value gave } ≡ l → FitsLanded feature k.opening k.history l → IfSome gave (IsGift sessions t.session t.name) → current ≡ has_key kind stamp d.keys
    → (before : ℕ) × (runs ≡ before + 1) × IsLanding feature o core.st d t kind stamp before gave current
landing_at {V} chain feature o h d k view core t kind stamp runs sessions gave current l is fits gift now =
    let F : Known → Type 0 = λ v. FitsLanded feature v.opening v.history l in
    let L : KnownLanded V → Type 0 = λ x. FitsLanded feature o h x in
    let own : L (record { ticket = t; kind = kind; stamp = stamp; runs = runs; sessions = sessions; gave = gift_value gave }) = subst L (sym is) (subst F (sym view) fits) in
    let same : own.st ≡ core.st = some_same own.st core.st (sym own.state ∙ core.kept.state) in (
      own.runs,
      own.ran,
      record {
        asked = asked_from chain feature o h d k view core t own.st same own.is_open;
        flies = ap (λ (x : State). own_run t.session x.out) (sym same) ∙ own.flies;
        current_is = now;
        gift = subst (λ n. IfSome gave (IsGift n t.session t.name)) own.sessions gift;
        value = value_case (λ v. feature kind t.inputs t.name v) gave own.gave;
      },
    )
