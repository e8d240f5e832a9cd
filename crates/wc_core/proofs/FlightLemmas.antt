-- A flight that fits lands as a value that fits.
use Rattle.std.proofs.Common.{◌≡◌, ℕ, ◌+◌, List, Option, IfSome, refl, sym, subst}
use Rattle.wc_model.specs.declared.entries.Entry.{Entry}
use Rattle.wc_model.specs.Workspace.States.{Opening}
use Rattle.wc_core.specs.Fits.{Feature, FitsFlight, FitsLanded}
use Rattle.wc_core.specs.Views.{KnownFlight, KnownLanded}

abbrev pub landed_from : {V : Type 0} → KnownFlight V → Option V → KnownLanded V
landed_from f gave = record { ticket = f.ticket; kind = f.kind; stamp = f.stamp; runs = f.runs + 1; sessions = f.sessions; gave = gave }

pub lands_from : {V : Type 0} (feature : Feature V) (o : Opening) (h : List Entry) (f : KnownFlight V) (l : KnownLanded V) → l ≡ landed_from f l.gave → IfSome l.gave (λ v. feature f.kind f.ticket.inputs f.ticket.name v) → FitsFlight feature o h f → FitsLanded feature o h l
lands_from {V} feature o h f l is gave fits =
    let L : KnownLanded V → Type 0 = λ x. FitsLanded feature o h x in
    subst L (sym is) (record { st = fits.st; state = fits.state; runs = f.runs; ran = refl; is_open = fits.is_open; flies = fits.flies; sessions = fits.sessions; gave = gave })
