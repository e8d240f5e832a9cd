use Rattle.std.proofs.Common.{ℕ, ◌≡◌, ◌<◌, ◌≤◌, Some, None, List, Bool, ◌||◌, true, length, sym, ap, ◌∙◌, arith}
use Rattle.std.specs.List.{Contains, find}
use Rattle.std.specs.Option.{option_map}
use Rattle.std.proofs.lemmas.List.Sums.{count_by-le-length}
use Rattle.wc_model.specs.declared.kinds.Describe.{Describe}
use Rattle.wc_model.specs.Workspace.Closures.{has_kind}
use Rattle.wc_registry.specs.Inner.KindSets.{holds, is_open, size}
use Rattle.wc_registry.proofs.KindLemmas.{each_fails, found_at}
use Rattle.wc_registry.proofs.ReachLemmas.{finding_begins, finding_ends, finding_goes_on}
use Rattle.wc_registry.proofs.SetLemmas.{open_grows}
use Rattle.wc_registry.proofs.requirements.required.Goals as goal

pub loop-describe-init : goal.loop-describe-init
loop-describe-init c = finding_begins c.args.list.now c.args.number c.empty-found.result c.add_direct.new.found c.empty-found.ensures.empty c.add_direct.ensures

pub loop-describe-smaller : goal.loop-describe-smaller
loop-describe-smaller c =
    let d : Describe = c.in-Some.describe.now in
    let old : List Bool = c.loop-describe.found in
    let new : List Bool = c.add_all.new.self in
    let is : find (is_open old) c.args.list.now ≡ Some d = sym c.next_open.ensures ∙ ap (λ o. option_map (λ e. e.now) o) c.in-Some.is in
    let open_d : Contains c.args.list.now d × (is_open old d ≡ true) = found_at (is_open old) c.args.list.now d is in
    let grows : size old < size new = open_grows d old new open_d.1 (λ k. c.add_all.ensures.adds k ∙ ap (λ (ks : List ℕ). has_kind k ks || holds c.loop-describe.found k) c.items.ensures) in
    let most : size new ≤ length new = count_by-le-length (λ (mark : Bool). mark) new in
    omega (arith, c.add_all.ensures.counted)

pub loop-describe-preserved : goal.loop-describe-preserved
loop-describe-preserved c =
    let d : Describe = c.in-Some.describe.now in
    let old : List Bool = c.loop-describe.found in
    let is : find (is_open old) c.args.list.now ≡ Some d = sym c.next_open.ensures ∙ ap (λ o. option_map (λ e. e.now) o) c.in-Some.is in
    let open_d : Contains c.args.list.now d × (is_open old d ≡ true) = found_at (is_open old) c.args.list.now d is in
    finding_goes_on c.args.list.now c.args.number c.requires d old c.add_all.new.self open_d.0 open_d.1 (λ k. c.add_all.ensures.adds k ∙ ap (λ (ks : List ℕ). has_kind k ks || holds c.loop-describe.found k) c.items.ensures) c.loop-describe.invariant

pub returns : goal.returns
returns c =
    let is : find (is_open c.loop-describe.found) c.args.list.now ≡ None = sym c.next_open.ensures ∙ ap (λ o. option_map (λ e. e.now) o) c.in_default.is in
    finding_ends c.args.list.now c.args.number c.loop-describe.found c.loop-describe.invariant (each_fails (is_open c.loop-describe.found) c.args.list.now is)
