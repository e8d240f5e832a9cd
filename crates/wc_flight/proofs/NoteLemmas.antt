-- A pass that learns by a note of another pass of the workspace stays ready.
use Rattle.std.proofs.Common.{◌≡◌, Bool, true, false, List, length, nat_le, sym, subst, ◌∙◌, if◌then◌else◌}
use Rattle.atomic_table.specs.Seated.{TableId}
use Rattle.wc_model.specs.declared.entries.Entry.{Entry}
use Rattle.wc_model.specs.Workspace.Entries.{entries_of}
use Rattle.wc_model.specs.Workspace.History.{Chain, IsLegal}
use Rattle.wc_model.specs.Workspace.States.{Opening}
use Rattle.wc_core.specs.Answers.{LeavesFree}
use Rattle.wc_pass.specs.Known.{IsPrefix, KnownPass, longer}
use Rattle.wc_flight.specs.Calls.{IsReady}
use Rattle.wc_flight.proofs.OthersLemmas.{free_later}

longer_case : (chain : Chain) (o : Opening) (own note : List Entry) (here : Bool) → IsLegal chain o own → IsLegal chain o note → IsLegal chain o (if here then own else note)
longer_case chain o own note true mine theirs = mine
longer_case chain o own note false mine theirs = theirs

pub ready_learned : (chain : Chain) (own : TableId) (o : Opening) (old new : KnownPass) (note : List Entry) → new.desk ≡ old.desk → new.session ≡ old.session → new.seen ≡ longer old.seen note
    → IsPrefix old.seen new.seen → entries_of old.session new.seen ≡ entries_of old.session old.seen → IsLegal chain o old.seen → IsLegal chain o note → IsReady own o old → IsReady own o new
ready_learned chain own o old new note desk session seen before same mine theirs ready =
    let legal : IsLegal chain o new.seen = subst (λ h. IsLegal chain o h) (sym seen) (longer_case chain o old.seen note (nat_le (length note) (length old.seen)) mine theirs) in
    record {
      desk_is = desk ∙ ready.desk_is;
      free = subst (LeavesFree o new.seen) (sym session) (free_later chain o old.session old.seen new.seen before same legal ready.free);
    }
