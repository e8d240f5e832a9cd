-- What `give` owes, from a landed value that fits.
use Rattle.std.proofs.Common.{◌≡◌, ℕ, ◌+◌, ◌<◌, ◌≤◌, ◌==◌, Bool, true, false, List, [], ◌∷◌, ◌++◌, length, Option, None, Some, IfSome, is_none, is_some, refl, sym, ap, subst, ◌∙◌, arith}
use Rattle.wc_model.specs.declared.entries.Entry.{Entry}
use Rattle.wc_model.specs.declared.entries.Entry.TheVariants.{Finish}
use Rattle.wc_model.specs.Workspace.Closures.{order_of}
use Rattle.wc_model.specs.Workspace.History.{Chain, state_after}
use Rattle.wc_model.specs.Workspace.States.{Opening, Run, State, has_key, own_run, without_own}
use Rattle.wc_model.proofs.StepLemmas.{some_same}
use Rattle.wc_core.specs.Answers.{IsGiven, end_of, is_current}
use Rattle.wc_core.specs.Fits.{Feature, FitsLanded, FitsTicket, run_of}
use Rattle.wc_core.specs.Inner.Ends.{end_for}
use Rattle.wc_core.specs.Inner.Gifts.{IsGift, KnownGift, gift_value}
use Rattle.wc_core.specs.Inner.Moves.{CanSettle, settled, settled_lines}
use Rattle.wc_core.specs.Inner.Stocks.{IsCore, Stock}
use Rattle.wc_core.specs.Views.{Known, KnownLanded, KnownTicket, SameAsk}
use Rattle.wc_core.proofs.CoreLemmas.{core_pinned, known}
use Rattle.wc_core.proofs.FeatureLemmas.{IsStable}
use Rattle.wc_core.proofs.FinishLemmas.{IsLanding, is_current as current_at, out_is}
use Rattle.wc_core.proofs.HoldLemmas.{gave_is, others_stay}
use Rattle.wc_core.proofs.LandLemmas.{Lands, landing_at, lands, listed_below}
use Rattle.wc_core.proofs.SettleLemmas.{can_settle}
use Rattle.wc_core.proofs.WorkLemmas.{length-without}

abbrev pub landed_view : {V : Type 0} → KnownTicket V → ℕ → ℕ → ℕ → ℕ → Option (KnownGift V) → KnownLanded V
landed_view t kind stamp runs sessions gave = record { ticket = t; kind = kind; stamp = stamp; runs = runs; sessions = sessions; gave = gift_value gave }

-- The stock after a finish.
abbrev pub given_stock : {V : Type 0} → Stock V → KnownTicket V → ℕ → ℕ → ℕ → Option (KnownGift V) → Bool → ℕ → ℕ → ℕ → Stock V
given_stock d t kind stamp runs gave current owed room spare =
    record d { lines = settled_lines kind stamp current gave d.lines; home = (kind, runs) ∷ d.home; out = without_own t.session d.out; owed = owed; spare = spare; room = room }

pub record Gives {V : Type 0} (chain : Chain) (feature : Feature V) (o : Opening) (h : List Entry) (d : Stock V) (k : Known) (t : KnownTicket V) (kind stamp runs : ℕ) (gave : Option (KnownGift V)) (current : Bool) : Type 0 where
  pub run : Run
  pub flies : own_run t.session d.out ≡ Some run
  pub named : run.key.name ≡ t.name
  pub owed : 1 ≤ d.owed
  pub room : length h < d.room
  pub settles : CanSettle d.spare current gave d.lines
  pub quiet : t.memory ≡ false
  pub small : kind < 65
  pub now_is : (st : State) → state_after k.opening k.history ≡ Some st → current ≡ is_current k.opening st kind stamp
  pub lands_ : (entries : List Entry) (owed room spare : ℕ) → length t.had ≡ 65 → entries ≡ h ++ Finish t.session kind t.name stamp (end_for (is_some gave) current) ∷ [] → owed + 1 ≡ d.owed → d.room ≤ room → owed ≤ spare
      → Lands chain feature o k entries (given_stock d t kind stamp runs gave current owed room spare) t.session (settled kind gave t)

pub gives : {V : Type 0} (chain : Chain) (feature : Feature V) (o : Opening) (h : List Entry) (d : Stock V) (k : Known) (view : known o h ≡ k) (core : IsCore chain feature o h d) (t : KnownTicket V) (kind stamp runs sessions : ℕ) (gave : Option (KnownGift V)) (current : Bool) (l : KnownLanded V)
    → IsStable feature o → landed_view t kind stamp runs sessions gave ≡ l → FitsLanded feature k.opening k.history l → IfSome gave (IsGift sessions t.session t.name) → current ≡ has_key kind stamp d.keys
    → Gives chain feature o h d k t kind stamp runs gave current
gives chain feature o h d k view core t kind stamp runs sessions gave current l stable is fits gift now =
    let at = landing_at chain feature o h d k view core t kind stamp runs sessions gave current l is fits gift now in
    let flies : own_run t.session d.out ≡ Some (run_of t kind stamp at.0) = ap (own_run t.session) (sym core.parts.works.out_is) ∙ at.2.flies in
    let some : 1 ≤ length d.out = omega (arith, length-without t.session (run_of t kind stamp at.0) d.out flies) in
    let owes : 1 ≤ d.owed = omega (arith, some, core.parts.owes) in
    let pinned = core_pinned chain feature o h d k view core in
    record {
      run = run_of t kind stamp at.0;
      flies = flies;
      named = refl;
      owed = owes;
      room = omega (arith, owes, core.parts.within);
      settles = can_settle chain feature o h d core t kind stamp at.0 0 0 0 gave current at.2 stable pinned (omega (arith, owes, core.parts.stored));
      quiet = (out_is chain feature o h d core t kind stamp at.0 0 0 0 gave current at.2 stable pinned).quiet;
      small = listed_below kind (order_of o.kinds) core.runs.below (out_is chain feature o h d core t kind stamp at.0 0 0 0 gave current at.2 stable pinned).listed;
      now_is =
          let P : Known → Type 0 = λ v. (st : State) → state_after v.opening v.history ≡ Some st → current ≡ is_current v.opening st kind stamp in
          subst P view (λ st state. current_at chain feature o h d core t kind stamp at.0 0 0 0 gave current at.2 stable pinned ∙ ap (λ (s : State). is_current o s kind stamp) (some_same core.st st (sym core.kept.state ∙ state)));
      lands_ = λ entries owed room spare wide entries_are less within stored.
          let L : ℕ → Type 0 = λ n. Lands chain feature o k entries (given_stock d t kind stamp n gave current owed room spare) t.session (settled kind gave t) in
          subst L (sym at.1) (lands chain feature o h d core t kind stamp at.0 owed room spare gave current at.2 stable pinned k view entries wide entries_are less within stored);
    }

ends_same : {V : Type 0} (gave : Option (KnownGift V)) (current : Bool) → end_for (is_some gave) current ≡ end_of (gift_value gave) current
ends_same None current = refl
ends_same (Some g) true = refl
ends_same (Some g) false = refl

same_ask : {V : Type 0} (kind : ℕ) (gave : Option (KnownGift V)) (t : KnownTicket V) → SameAsk t (settled kind gave t)
same_ask kind None t = record { session = refl; name = refl; at = refl; inputs = refl }
same_ask kind (Some g) t = record { session = refl; name = refl; at = refl; inputs = refl }

memory_is : {V : Type 0} (kind : ℕ) (gave : Option (KnownGift V)) (t : KnownTicket V) → t.memory ≡ false → (settled kind gave t).memory ≡ is_none (gift_value gave)
memory_is kind None t quiet = refl
memory_is kind (Some g) t quiet = quiet

pub given_is : {V : Type 0} (feature : Feature V) (o : Opening) (h : List Entry) (k : Known) (view : known o h ≡ k) (t : KnownTicket V) (kind stamp runs sessions : ℕ) (gave : Option (KnownGift V)) (current : Bool) (l : KnownLanded V)
    → landed_view t kind stamp runs sessions gave ≡ l → t.memory ≡ false → kind < length t.had → ((st : State) → state_after k.opening k.history ≡ Some st → current ≡ is_current k.opening st kind stamp) → (entries : List Entry) → entries ≡ h ++ Finish t.session kind t.name stamp (end_for (is_some gave) current) ∷ []
    → FitsTicket feature o entries (settled kind gave t) → IsGiven feature k (known o entries) l (settled kind gave t)
given_is {V} feature o h k view t kind stamp runs sessions gave current l is quiet within now entries entries_are fits =
    let G : KnownLanded V → Type 0 = λ x. IsGiven feature k (known o entries) x (settled kind gave t) in
    subst G is (record {
      same = same_ask kind gave t;
      gave = gave_is kind gave t within;
      rest = others_stay kind gave t;
      end = end_for (is_some gave) current;
      ends = λ st state. ends_same gave current ∙ ap (λ (b : Bool). end_of (gift_value gave) b) (now st state);
      memory = memory_is kind gave t quiet;
      entry = entries_are ∙ ap (λ (v : Known). v.history ++ Finish t.session kind t.name stamp (end_for (is_some gave) current) ∷ []) view;
      fits = fits;
    })
