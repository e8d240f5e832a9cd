use Rattle.std.proofs.Common.{ℕ, ◌≡◌, ◌-◌, ◌<◌, Some, IfSome, length, sum_by, refl, sym, ap, subst, ◌∙◌, arith}
use Rattle.std.specs.List.{Contains, slice_get, slice_index}
use Rattle.std.proofs.lemmas.Option.{none-some, same_Some, slice_get_within, slice_get_read}
use Rattle.std.proofs.lemmas.List.Elements.{All-contains}
use Rattle.wc_model.specs.declared.walks.search.Mark.TheVariants.{New, Open, Done}
use Rattle.wc_model.specs.Inner.Searches.{weight}
use Rattle.wc_model.proofs.Places.{contains_from_get}
use Rattle.wc_model.proofs.Searching.{last_known, last_open, cycle_found, enters, enter_falls, leaves_with, leave_falls, follows_with, follow_falls}
use Rattle.wc_model.proofs.walks.search.Search.advance.Goals as goal
use Rattle.wc_model.proofs.walks.search.Search.advance.Goals.{In-Some, In-Some-target}
use Rattle.wc_model.proofs.walks.search.Search.advance.Given.{Over}

pub next_step-requires : goal.next_step-requires
next_step-requires g c = let s = c.args.self.now in omega (arith, c.requires.search.sized, last_known g.S.Arrow.ends c.args.steps.now s.start s.marks.items s.next.items s.path.items s.done.items c.args.node c.requires.search c.requires.last)

pub leave-requires-clause-known : goal.leave-requires-clause-known
leave-requires-clause-known g c = let s = c.args.self.now in last_known g.S.Arrow.ends c.args.steps.now s.start s.marks.items s.next.items s.path.items s.done.items c.args.node c.requires.search c.requires.last

node_known : (g : Over) (c : In-Some g) → c.args.node < length c.args.self.now.next.items
node_known g c = let s = c.args.self.now in omega (arith, c.requires.search.sized, last_known g.S.Arrow.ends c.args.steps.now s.start s.marks.items s.next.items s.path.items s.done.items c.args.node c.requires.search c.requires.last)

among : (g : Over) (c : In-Some g) → Contains c.args.steps.now c.in-Some.step
among g c = contains_from_get c.args.steps.now (slice_index c.args.self.now.next.items c.args.node) c.in-Some.step c.in-Some.ensures.next.0

target_is : (g : Over) (c : In-Some-target g) → (g.S.Arrow.ends c.in-Some.step).target ≡ Some c.in-Some-target.target
target_is g c = sym c.target.ensures ∙ c.in-Some-target.is

target_known : (g : Over) (c : In-Some-target g) → c.in-Some-target.target < length c.args.self.now.marks.items
target_known g c = rw (target_is g c) at (All-contains (λ (t : g.row.S.Denot). IfSome (g.S.Arrow.ends t).target (λ q. q < length c.args.self.now.marks.items)) c.args.steps.now c.in-Some.step c.requires.steps.targets (contains_from_get c.args.steps.now (slice_index c.args.self.now.next.items c.args.node) c.in-Some.step c.in-Some.ensures.next.0))

pub follow-requires-clause-known : goal.follow-requires-clause-known
follow-requires-clause-known g c = node_known g (goal.at.follow-requires-clause-known g c).In-Some

pub returns-in_ok-leave-in-None-clause-round : goal.returns-in_ok-leave-in-None-clause-round
returns-in_ok-leave-in-None-clause-round g c =
    let s = c.args.self.now in
    let e = c.in_ok-leave-in-None.ensures in
    rw (e.start, e.marks, e.next, e.done) (
      leaves_with g.S.Arrow.ends c.args.steps.now s.start s.marks.items s.next.items s.path.items s.done.items c.args.node c.requires.search c.requires.last c.leave.new.self.path.items e.path c.requires.steps.sorted c.in-None.ensures.next,
      leave_falls s.marks.items c.args.node (sum_by (λ (place : ℕ). length c.args.steps.now - place) s.next.items) (last_open g.S.Arrow.ends c.args.steps.now s.start s.marks.items s.next.items s.path.items s.done.items c.args.node c.requires.search c.requires.last),
    )

pub index-requires : goal.index-requires
index-requires g c = omega (arith, target_known g (goal.at.index-requires g c).In-Some-target, c.args.self.now.marks.ok.0)

pub returns-in-Open-clause-round : goal.returns-in-Open-clause-round
returns-in-Open-clause-round g c =
    let s = c.args.self.now in
    let q = c.in-Some-target.target in
    let marked : slice_get s.marks.items q ≡ Some Open = slice_get_read s.marks.items (length s.marks.items) q c.index.result.now refl (target_known g (goal.at.returns-in-Open-clause-round g c).In-Some-target) c.index.ensures ∙ ap Some c.in-Open.is in
    cycle_found g.S.Arrow.ends c.args.steps.now s.start s.marks.items s.next.items s.path.items s.done.items c.args.node c.requires.search c.requires.last c.in-Some.step q (among g (goal.at.returns-in-Open-clause-round g c).In-Some) c.in-Some.ensures.next.1 (target_is g (goal.at.returns-in-Open-clause-round g c).In-Some-target) marked

pub follow-requires-in-Done-clause-known : goal.follow-requires-in-Done-clause-known
follow-requires-in-Done-clause-known g c = node_known g (goal.at.follow-requires-in-Done-clause-known g c).In-Some

pub returns-in-None-target-clause-round : goal.returns-in-None-target-clause-round
returns-in-None-target-clause-round g c =
    let s = c.args.self.now in
    let e = c.follow.ensures in
    let within : slice_index s.next.items c.args.node < length c.args.steps.now = slice_get_within c.args.steps.now (slice_index s.next.items c.args.node) c.in-Some.step c.in-Some.ensures.next.0 in
    rw (e.start, e.marks, e.next, e.path, e.done) (
      follows_with g.S.Arrow.ends c.args.steps.now s.start s.marks.items s.next.items s.path.items s.done.items c.args.node c.requires.search c.requires.last c.in-Some.step c.in-Some.ensures.next.0 c.in-Some.ensures.next.1 (λ q to. absurd (none-some q (sym (sym c.target.ensures ∙ c.in-None-target.is) ∙ to))),
      follow_falls s.next.items c.args.node (length c.args.steps.now) (sum_by weight s.marks.items) (node_known g (goal.at.returns-in-None-target-clause-round g c).In-Some) within,
    )

pub returns-in_ok-enter-in-New-clause-round : goal.returns-in_ok-enter-in-New-clause-round
returns-in_ok-enter-in-New-clause-round g c =
    let s = c.args.self.now in
    let q = c.in-Some-target.target in
    let e = c.in_ok-enter-in-New.ensures in
    let marked : slice_get s.marks.items q ≡ Some New = slice_get_read s.marks.items (length s.marks.items) q c.index.result.now refl (target_known g (goal.at.returns-in_ok-enter-in-New-clause-round g c).In-Some-target) c.index.ensures ∙ ap Some c.in-New.is in
    rw (e.start, e.marks, e.next, e.path, e.done) (
      enters g.S.Arrow.ends c.args.steps.now s.start s.marks.items s.next.items s.path.items s.done.items c.args.node c.requires.search c.requires.last c.in-Some.step q (among g (goal.at.returns-in_ok-enter-in-New-clause-round g c).In-Some) c.in-Some.ensures.next.1 (target_is g (goal.at.returns-in_ok-enter-in-New-clause-round g c).In-Some-target) marked,
      enter_falls s.marks.items q (sum_by (λ (place : ℕ). length c.args.steps.now - place) s.next.items) marked,
    )

pub returns-in-Done-clause-round : goal.returns-in-Done-clause-round
returns-in-Done-clause-round g c =
    let s = c.args.self.now in
    let q = c.in-Some-target.target in
    let e = c.follow-in-Done.ensures in
    let marked : slice_get s.marks.items q ≡ Some Done = slice_get_read s.marks.items (length s.marks.items) q c.index.result.now refl (target_known g (goal.at.returns-in-Done-clause-round g c).In-Some-target) c.index.ensures ∙ ap Some c.in-Done.is in
    let within : slice_index s.next.items c.args.node < length c.args.steps.now = slice_get_within c.args.steps.now (slice_index s.next.items c.args.node) c.in-Some.step c.in-Some.ensures.next.0 in
    rw (e.start, e.marks, e.next, e.path, e.done) (
      follows_with g.S.Arrow.ends c.args.steps.now s.start s.marks.items s.next.items s.path.items s.done.items c.args.node c.requires.search c.requires.last c.in-Some.step c.in-Some.ensures.next.0 c.in-Some.ensures.next.1 (λ r to. subst (λ (x : ℕ). slice_get s.marks.items x ≡ Some Done) (same_Some q r (sym (target_is g (goal.at.returns-in-Done-clause-round g c).In-Some-target) ∙ to)) marked),
      follow_falls s.next.items c.args.node (length c.args.steps.now) (sum_by weight s.marks.items) (node_known g (goal.at.returns-in-Done-clause-round g c).In-Some) within,
    )
