-- What a resting ask may count on: places, names and room.
use Rattle.std.proofs.Common.{◌≡◌, ℕ, ◌+◌, ◌*◌, ◌<◌, ◌≤◌, Bool, true, false, List, length, None, sym, ap, subst, arith, if◌then◌else◌}
use Rattle.std.specs.Global.{Global}
use Rattle.std.specs.List.{All}
use Rattle.std.specs.declared.sync.Arc.{Arc}
use Rattle.std.proofs.lemmas.List.Elements.{All-weaker}
use Rattle.wc_base.proofs.TestLemmas.{if_false}
use Rattle.wc_model.specs.declared.entries.Entry.{Entry}
use Rattle.wc_model.specs.Workspace.Closures.{order_of}
use Rattle.wc_model.specs.Workspace.History.{Chain}
use Rattle.wc_model.specs.Workspace.States.{Opening, State, Ask, own_run}
use Rattle.wc_core.specs.Fits.{Feature}
use Rattle.wc_core.specs.Inner.Lines.{AllWide, Line}
use Rattle.wc_core.specs.Inner.Seats.{seat_at}
use Rattle.wc_core.specs.Inner.Shelves.{KnownShelf}
use Rattle.wc_core.specs.Inner.Stocks.{IsCore, Stock, lacking, names_needed}
use Rattle.wc_core.specs.Views.{KnownTicket, ask_with}
use Rattle.wc_core.proofs.AskLemmas.{IsAsked, names_of}
use Rattle.wc_core.proofs.PullLemmas.{Shaped}
use Rattle.wc_core.proofs.SeatLemmas.{names_at}

pub record IsReady {V : Type 0} (o : Opening) (h : List Entry) (d : Stock V) (t : KnownTicket V) (ask : Ask) : Type 0 where
  pub wide : AllWide t.session d.lines
  pub place : t.session < length d.seats
  pub names : names_needed o ask ≤ length (seat_at t.session d.seats).names
  pub some : 1 ≤ length (seat_at t.session d.seats).names
  pub owes : length (seat_at t.session d.seats).names ≤ d.owed
  pub room : length h + d.owed ≤ d.room

some_case : (memory : Bool) (n names : ℕ) → (if memory then 1 else 2 * n + 1) ≤ names → 1 ≤ names
some_case true n names le = le
some_case false n names le = omega (arith, le)

pub ready : {V : Type 0} (chain : Chain) (feature : Feature V) (o : Opening) (h : List Entry) (d : Stock V) (core : IsCore chain feature o h d) (t : KnownTicket V) (asked : IsAsked feature o core.st d t) → own_run t.session core.st.out ≡ None → IsReady o h d t (ask_with t asked.is_open.kinds)
ready {V} chain feature o h d core t asked rests =
    let names = names_of o core.st t.session (ask_with t asked.is_open.kinds) (seat_at t.session d.seats) rests asked.seated in
    let small : t.session < o.sessions + 1 = omega (arith, asked.place, core.parts.seated.asks) in
    record {
      wide = All-weaker (Shaped 11 (o.sessions + 1)) (λ (l : Line (Arc V Global)). All (λ (s : KnownShelf (Arc V Global)). t.session < length s.copies) l.row.shelves)
          (λ l p. All-weaker (λ (s : KnownShelf (Arc V Global)). length s.copies ≡ o.sessions + 1) (λ (s : KnownShelf (Arc V Global)). t.session < length s.copies) (λ s is. omega (arith, is, small)) l.row.shelves p.1) d.lines core.parts.lines.shaped;
      place = asked.place_seats;
      names = names;
      some = some_case t.memory (lacking o (ask_with t asked.is_open.kinds)) (length (seat_at t.session d.seats).names) names;
      owes = omega (arith, core.parts.owes, names_at t.session d.seats);
      room = core.parts.within;
    }
