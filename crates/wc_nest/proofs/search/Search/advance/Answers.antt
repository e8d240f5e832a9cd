-- A round of the search.
use Rattle.std.proofs.Common.{ℕ, ◌≡◌, ◌+◌, ◌-◌, ◌<◌, List, Some, All, length, get_or, drop, refl, ap, subst, ◌∙◌, arith}
use Rattle.std.specs.List.{Contains, slice_get, slice_index}
use Rattle.std.proofs.lemmas.List.{length_push}
use Rattle.std.proofs.lemmas.List.Elements.{All-contains}
use Rattle.std.proofs.lemmas.Option.{slice_get_within, slice_get_read, slice_get-get_or}
use Rattle.wc_model.proofs.Places.{contains_from_get, get_from_contains}
use Rattle.wc_nest.specs.declared.marking.Mark.{Mark}
use Rattle.wc_nest.specs.declared.marking.Mark.TheVariants.{New, Open, Done}
use Rattle.wc_nest.specs.declared.search.Search.{Search}
use Rattle.wc_nest.specs.declared.ways.Way.{Way}
use Rattle.wc_nest.specs.Inner.Searches.{IsSearch, IsSearchOf, Led}
use Rattle.wc_nest.proofs.ListLemmas.{drop_get}
use Rattle.wc_nest.proofs.RoundLemmas.{follow_fewer, enter_fewer, leave_fewer, merge_fewer, close_fewer, spreads_same, spreads_open, spreads_done}
use Rattle.wc_nest.proofs.SearchLemmas.{stack_known, enters_follows, follows, merges, leaves, closes, not_bound, leads_inside, all_ways}
use Rattle.wc_nest.proofs.search.Search.advance.Goals as goal

place_known : (ways : List Way) (s : Search) (place : ℕ) → IsSearch ways s → slice_get s.path.items (length s.path.items - 1) ≡ Some place → place < length s.stack.items
place_known ways s place search last = search.path_open place (contains_from_get s.path.items (length s.path.items - 1) place last)

stands_at : (ways : List Way) (s : Search) (place node : ℕ) → IsSearch ways s → slice_get s.path.items (length s.path.items - 1) ≡ Some place → node ≡ get_or s.stack.items place node → slice_get s.stack.items place ≡ Some node
stands_at ways s place node search last is = slice_get_read s.stack.items (length s.stack.items) place node refl (place_known ways s place search last) is

node_known : (ways : List Way) (s : Search) (place node : ℕ) → IsSearch ways s → slice_get s.stack.items place ≡ Some node → node < length s.marks.items
node_known ways s place node search at = stack_known ways s.marks.items s.next.items s.path.items s.stack.items s.bounds.items (length s.roots.items) search place node at

target_known : (ways : List Way) (nodes place : ℕ) (w : Way) → All (λ t. t.target < nodes) ways → slice_get ways place ≡ Some w → w.target < nodes
target_known ways nodes place w targets at = All-contains (λ (t : Way). t.target < nodes) ways w targets (contains_from_get ways place w at)

marked_as : (marks : List Mark) (q : ℕ) (read m : Mark) → q < length marks → read ≡ get_or marks q read → read ≡ m → slice_get marks q ≡ Some m
marked_as marks q read m known is same = slice_get_read marks (length marks) q read refl known is ∙ ap Some same

opened_in : (ways : List Way) (s : Search) (place : ℕ) → IsSearch ways s → (p : ℕ) → Contains (drop place s.stack.items) p → (i : ℕ) × (slice_get s.marks.items p ≡ Some (Open i))
opened_in ways s place search p among =
    let at : (k : ℕ) × (slice_get (drop place s.stack.items) k ≡ Some p) = get_from_contains (drop place s.stack.items) p among in
    (place + at.0, search.open_marked (place + at.0) p (drop_get s.stack.items place at.0 p at.1))

pub index-node-requires : goal.index-node-requires
index-node-requires c = omega (arith, place_known c.args.ways.now c.args.self.now c.args.place c.requires.search c.requires.last, c.args.self.now.stack.ok.0)

pub next_way-requires : goal.next_way-requires
next_way-requires c =
    let s = c.args.self.now in
    let at = stands_at c.args.ways.now s c.args.place c.index-node.result.now c.requires.search c.requires.last c.index-node.ensures in
    omega (arith, c.requires.search.sized, node_known c.args.ways.now s c.args.place c.index-node.result.now c.requires.search at)

pub close-requires-clause-known : goal.close-requires-clause-known
close-requires-clause-known c = λ k d within.
    let s = c.args.self.now in
    node_known c.args.ways.now s k (get_or s.stack.items k d) c.requires.search (slice_get-get_or s.stack.items k d within)

pub close-requires-clause-open : goal.close-requires-clause-open
close-requires-clause-open c = omega (arith, place_known c.args.ways.now c.args.self.now c.args.place c.requires.search c.requires.last)

pub index-requires : goal.index-requires
index-requires c = omega (arith, target_known c.args.ways.now (length c.args.self.now.marks.items) (slice_index c.args.self.now.next.items c.index-node.result.now) c.in-Some.way c.requires.steps.targets c.in-Some.ensures.next.0, c.args.self.now.marks.ok.0)

pub enter-requires : goal.enter-requires
enter-requires c = target_known c.args.ways.now (length c.args.self.now.marks.items) (slice_index c.args.self.now.next.items c.index-node.result.now) c.in-Some.way c.requires.steps.targets c.in-Some.ensures.next.0

pub returns-in_ok-close-in-None : goal.returns-in_ok-close-in-None
returns-in_ok-close-in-None c =
    let s = c.args.self.now in
    let ways = c.args.ways.now in
    let node = c.index-node.result.now in
    let new = c.close.new.self in
    let e = c.in_ok-close-in-None.ensures in
    let at = stands_at ways s c.args.place node c.requires.search c.requires.last c.index-node.ensures in
    let all = all_ways ways s.next.items node c.requires.steps.sorted c.requires.search.from c.in-None.ensures.next in
    let opened = opened_in ways s c.args.place c.requires.search in
    let closed = closes ways s.marks.items s.next.items s.path.items s.stack.items s.bounds.items (length s.roots.items) c.requires.search c.args.place node c.requires.last at new.path.items new.bounds.items e.path e.bounds all in
    let one_more : length s.roots.items + 1 ≡ length new.roots.items = omega (arith, ap length e.roots, length_push s.roots.items node) in
    record {
      search = subst (λ (n : ℕ). IsSearchOf ways new.marks.items new.next.items new.path.items new.stack.items new.bounds.items n) one_more (rw (e.marks, e.next, e.stack) closed);
      fewer = rw (e.marks, e.next) (close_fewer (length ways) s.marks.items s.next.items s.path.items new.path.items s.bounds.items new.bounds.items (drop c.args.place s.stack.items) c.args.place (length s.roots.items) e.path e.bounds opened);
      spreads = rw e.marks (spreads_done ways s.marks.items (drop c.args.place s.stack.items) (length s.roots.items) opened);
    }

pub returns-in-None-2 : goal.returns-in-None-2
returns-in-None-2 c =
    let s = c.args.self.now in
    let ways = c.args.ways.now in
    let node = c.index-node.result.now in
    let new = c.leave.new.self in
    let e = c.leave.ensures in
    let at = stands_at ways s c.args.place node c.requires.search c.requires.last c.index-node.ensures in
    let all = all_ways ways s.next.items node c.requires.steps.sorted c.requires.search.from c.in-None-2.ensures.next in
    let other : slice_get s.bounds.items (length s.bounds.items - 1) ≡ Some c.args.place → ⊥ = rw c.if-is_bound.false at c.is_bound.ensures in
    let apart = not_bound ways s.marks.items s.next.items s.path.items s.stack.items s.bounds.items (length s.roots.items) c.requires.search c.args.place node c.requires.last at other in
    record {
      search = rw (e.marks, e.next, e.stack, e.bounds, e.roots) (leaves ways s.marks.items s.next.items s.path.items s.stack.items s.bounds.items (length s.roots.items) c.requires.search c.args.place node c.requires.last at new.path.items e.path apart all);
      fewer = rw (e.marks, e.next, e.bounds) (leave_fewer (length ways) s.marks.items s.next.items s.path.items new.path.items s.bounds.items c.args.place e.path);
      spreads = rw e.marks (spreads_same ways s.marks.items);
    }

pub returns-in_ok-enter-in-New : goal.returns-in_ok-enter-in-New
returns-in_ok-enter-in-New c =
    let s = c.args.self.now in
    let ways = c.args.ways.now in
    let node = c.index-node.result.now in
    let way = c.in-Some.way in
    let i = c.in_ok-enter-in-New.ensures in
    let e = c.follow.ensures in
    let at = stands_at ways s c.args.place node c.requires.search c.requires.last c.index-node.ensures in
    let here_way = c.in-Some.ensures.next.0 in
    let known = node_known ways s c.args.place node c.requires.search at in
    let to_known = target_known ways (length s.marks.items) (slice_index s.next.items node) way c.requires.steps.targets here_way in
    let new = marked_as s.marks.items way.target c.index.result.now New to_known c.index.ensures c.in-New.is in
    let short : slice_index s.next.items node < length ways = slice_get_within ways (slice_index s.next.items node) way here_way in
    let next_known : node < length s.next.items = omega (arith, c.requires.search.sized) in
    record {
      search = rw (e.marks, e.next, e.stack, e.path, e.bounds, e.roots, i.marks, i.next, i.stack, i.path, i.bounds, i.roots) (enters_follows ways s.marks.items s.next.items s.path.items s.stack.items s.bounds.items (length s.roots.items) c.requires.search c.args.place node c.requires.last at way here_way c.in-Some.ensures.next.1 new);
      fewer = rw (e.marks, e.next, e.path, e.bounds, i.marks, i.next, i.path, i.bounds) (enter_fewer (length ways) s.marks.items s.next.items s.path.items s.bounds.items node way.target (length s.stack.items) new next_known short);
      spreads = rw (e.marks, i.marks) (spreads_open ways s.marks.items way.target (length s.stack.items) (way, contains_from_get ways (slice_index s.next.items node) way here_way, refl) to_known);
    }

pub returns-in-Done : goal.returns-in-Done
returns-in-Done c =
    let s = c.args.self.now in
    let ways = c.args.ways.now in
    let node = c.index-node.result.now in
    let way = c.in-Some.way in
    let e = c.follow-in-Done.ensures in
    let at = stands_at ways s c.args.place node c.requires.search c.requires.last c.index-node.ensures in
    let here_way = c.in-Some.ensures.next.0 in
    let known = node_known ways s c.args.place node c.requires.search at in
    let to_known = target_known ways (length s.marks.items) (slice_index s.next.items node) way c.requires.steps.targets here_way in
    let done = marked_as s.marks.items way.target c.index.result.now (Done c.in-Done.field-0) to_known c.index.ensures c.in-Done.is in
    let short : slice_index s.next.items node < length ways = slice_get_within ways (slice_index s.next.items node) way here_way in
    let next_known : node < length s.next.items = omega (arith, c.requires.search.sized) in
    let led : Led s.bounds.items c.args.place (slice_get s.marks.items way.target) = rw done tt in
    record {
      search = rw (e.marks, e.next, e.stack, e.path, e.bounds, e.roots) (follows ways s.marks.items s.next.items s.path.items s.stack.items s.bounds.items (length s.roots.items) c.requires.search c.args.place node way at here_way c.in-Some.ensures.next.1 led);
      fewer = rw (e.marks, e.next, e.path, e.bounds) (follow_fewer (length ways) s.marks.items s.next.items s.path.items s.bounds.items node next_known short);
      spreads = rw e.marks (spreads_same ways s.marks.items);
    }

pub returns-in-Some-bound_after : goal.returns-in-Some-bound_after
returns-in-Some-bound_after c =
    let s = c.args.self.now in
    let ways = c.args.ways.now in
    let node = c.index-node.result.now in
    let way = c.in-Some.way in
    let new = c.merge.new.self in
    let e = c.merge.ensures in
    let at = stands_at ways s c.args.place node c.requires.search c.requires.last c.index-node.ensures in
    let here_way = c.in-Some.ensures.next.0 in
    let to_known = target_known ways (length s.marks.items) (slice_index s.next.items node) way c.requires.steps.targets here_way in
    let opened = marked_as s.marks.items way.target c.index.result.now (Open c.in-Open.first) to_known c.index.ensures c.in-Open.is in
    record {
      search = rw (e.marks, e.next, e.stack, e.path, e.roots) (merges ways s.marks.items s.next.items s.path.items s.stack.items s.bounds.items (length s.roots.items) c.requires.search c.args.place node c.requires.last at new.bounds.items c.in-Some-bound_after.bound c.in-Open.first way e.bounds (contains_from_get ways (slice_index s.next.items node) way here_way) c.in-Some.ensures.next.1 opened c.in-Some-bound_after.ensures.1);
      fewer = rw (e.marks, e.next, e.path) (merge_fewer (length ways) s.marks.items s.next.items s.path.items s.bounds.items new.bounds.items c.in-Some-bound_after.bound e.bounds);
      spreads = rw e.marks (spreads_same ways s.marks.items);
    }

pub returns-in-None-bound_after : goal.returns-in-None-bound_after
returns-in-None-bound_after c =
    let s = c.args.self.now in
    let ways = c.args.ways.now in
    let node = c.index-node.result.now in
    let way = c.in-Some.way in
    let e = c.follow-in-None-bound_after.ensures in
    let at = stands_at ways s c.args.place node c.requires.search c.requires.last c.index-node.ensures in
    let here_way = c.in-Some.ensures.next.0 in
    let known = node_known ways s c.args.place node c.requires.search at in
    let to_known = target_known ways (length s.marks.items) (slice_index s.next.items node) way c.requires.steps.targets here_way in
    let opened = marked_as s.marks.items way.target c.index.result.now (Open c.in-Open.first) to_known c.index.ensures c.in-Open.is in
    let short : slice_index s.next.items node < length ways = slice_get_within ways (slice_index s.next.items node) way here_way in
    let next_known : node < length s.next.items = omega (arith, c.requires.search.sized) in
    let led : Led s.bounds.items c.args.place (slice_get s.marks.items way.target) = rw opened (leads_inside ways s.marks.items s.next.items s.path.items s.stack.items s.bounds.items (length s.roots.items) c.requires.search c.args.place node c.requires.last at c.in-Open.first c.in-None-bound_after.ensures) in
    record {
      search = rw (e.marks, e.next, e.stack, e.path, e.bounds, e.roots) (follows ways s.marks.items s.next.items s.path.items s.stack.items s.bounds.items (length s.roots.items) c.requires.search c.args.place node way at here_way c.in-Some.ensures.next.1 led);
      fewer = rw (e.marks, e.next, e.path, e.bounds) (follow_fewer (length ways) s.marks.items s.next.items s.path.items s.bounds.items node next_known short);
      spreads = rw e.marks (spreads_same ways s.marks.items);
    }
