-- An ask between its pin and its answer.
use Rattle.std.proofs.Common.{◌≡◌, ℕ, List, [], ◌∷◌, ◌++◌, sym, ap, ◌∙◌, append_assoc}
use Rattle.wc_model.specs.declared.entries.Entry.{Entry}
use Rattle.wc_model.specs.declared.entries.Entry.TheVariants.{Pin, Start, Finish}
use Rattle.wc_model.specs.Workspace.History.{Chain, IsLegal}
use Rattle.wc_core.specs.Answers.{Advances, IsStarted, IsGiven}
use Rattle.wc_core.specs.Fits.{Feature, FitsTicket}
use Rattle.wc_core.specs.Views.{Known, KnownTicket, KnownFlight, KnownLanded}
use Rattle.wc_session.specs.Answered.{IsRunOf}
use Rattle.wc_session.specs.Each.{Each}
use Rattle.wc_session.proofs.PartLemmas.{each_append}

pub record IsAsking {V : Type 0} (chain : Chain) (feature : Feature V) (name : List ℕ) (old now : Known) (t : KnownTicket V) : Type 0 where
  pub session : t.session ≡ 1
  pub name_is : t.name ≡ name
  pub fits : FitsTicket feature now.opening now.history t
  pub opening : now.opening ≡ old.opening
  pub legal : IsLegal chain now.opening now.history
  pub runs : List Entry
  pub own : Each (IsRunOf 1 name) runs
  pub added : now.history ≡ old.history ++ Pin 1 name t.at ∷ runs

-- Two entries more.
two_more : (a b c old tail : List Entry) (s f : Entry) → a ≡ old ++ tail → b ≡ a ++ s ∷ [] → c ≡ b ++ f ∷ [] → c ≡ old ++ (tail ++ s ∷ f ∷ [])
two_more a b c old tail s f p q r =
    r ∙ ap (λ l. l ++ f ∷ []) (q ∙ ap (λ l. l ++ s ∷ []) p ∙ append_assoc old tail (s ∷ []))
    ∙ append_assoc old (tail ++ s ∷ []) (f ∷ []) ∙ ap (λ l. old ++ l) (append_assoc tail (s ∷ []) (f ∷ []))

pin_at : List Entry → List ℕ → List Entry → ℕ → List Entry
pin_at old name rest at = old ++ Pin 1 name at ∷ rest

pub gave : {V : Type 0} (chain : Chain) (feature : Feature V) (name : List ℕ) (old now mid new : Known) (t : KnownTicket V) (f : KnownFlight V) (l : KnownLanded V) (back : KnownTicket V)
    → IsAsking chain feature name old now t
    → IsStarted feature now mid t f → Advances chain feature now mid t.session
    → l.ticket ≡ f.ticket
    → IsGiven feature mid new l back → Advances chain feature mid new l.ticket.session
    → IsAsking chain feature name old new back
unfolding pin_at
gave chain feature name old now mid new t f l back asking started first same given second =
    let start : Entry = Start t.session f.kind t.name f.stamp in
    let finish : Entry = Finish l.ticket.session l.kind l.ticket.name l.stamp given.end in
    let session : l.ticket.session ≡ 1 = ap (λ (k : KnownTicket _). k.session) same ∙ started.same.session ∙ asking.session in
    let named : l.ticket.name ≡ name = ap (λ (k : KnownTicket _). k.name) same ∙ started.same.name ∙ asking.name_is in
    let at : t.at ≡ back.at = sym (given.same.at ∙ ap (λ (k : KnownTicket _). k.at) same ∙ started.same.at) in
    record {
      session = given.same.session ∙ session;
      name_is = given.same.name ∙ named;
      fits = given.fits;
      opening = second.opening ∙ first.opening ∙ asking.opening;
      legal = second.legal;
      runs = asking.runs ++ start ∷ finish ∷ [];
      own = each_append (IsRunOf 1 name) asking.runs (start ∷ finish ∷ []) asking.own ((asking.session, asking.name_is), ((session, named), tt));
      added = two_more now.history mid.history new.history old.history (Pin 1 name t.at ∷ asking.runs) start finish asking.added started.entry given.entry
          ∙ ap (pin_at old.history name (asking.runs ++ start ∷ finish ∷ [])) at;
    }
