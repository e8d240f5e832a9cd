use Rattle.std.proofs.Common.{ℕ, ◌≡◌, ◌+◌, ◌<◌, List, [], ◌∷◌, ◌++◌, reverse, Some, vec_len, length, inl, ⊎_elim, sym, ap, subst, ◌∙◌, arith}
use Rattle.std.specs.List.{slice_get}
use Rattle.std.proofs.lemmas.List.{length_push}
use Rattle.wc_graph.specs.Inner.Families.{AreFalling}
use Rattle.wc_graph.specs.Inner.Lists.{Has, Inside}
use Rattle.wc_graph.specs.Inner.Walks.{IsWalking}
use Rattle.wc_graph.proofs.RisingLemmas.{has_append, append_has}
use Rattle.wc_graph.proofs.RoundLemmas.{falling_has, kids_inside, round}
use Rattle.wc_graph.proofs.SpreadLemmas.{last_has, no_rest}
use Rattle.wc_graph.proofs.WalkLemmas.{listed_few, walking_begins, walking_ends}
use Rattle.wc_graph.proofs.walk.listed.Goals as goal

pub returns-in_default : goal.returns-in_default
returns-in_default c = λ entry walkable.
    let frames = c.args.frames.now in
    let live = c.args.live.now in
    let work : List ℕ = c.loop-round.work.items in
    let none : work ≡ [] = no_rest work (vec_len c.loop-round.work) c.loop-round.work.ok.0 c.in_default.ensures.variant.1 in
    walking_ends entry frames live c.requires.frames c.requires.few walkable c.loop-round.listed.items (subst (IsWalking entry frames live c.loop-round.listed.items) (ap reverse none) (c.loop-round.invariant.walking entry walkable))

pub gather-requires : goal.gather-requires
gather-requires c =
    let inside : c.in-Some.frame < length c.args.frames.now = c.loop-round.invariant.inside c.in-Some.frame (subst (λ (xs : List ℕ). Has xs c.in-Some.frame) (sym c.in-Some.ensures.items) (last_has c.pop.new.self.items c.in-Some.frame)) in
    omega (arith, inside, c.requires.kids.are.counted)

pub add_falling-requires : goal.add_falling-requires
add_falling-requires c =
    let j = c.in-Some.frame in
    record { inside = subst (Inside (length c.args.frames.now)) (sym c.as_slice.ensures.value) (kids_inside c.args.frames.now c.args.live.now c.args.kids.now c.requires.frames c.requires.few c.requires.kids j c.gather.new.found.items c.in_ok-gather.ensures) }

pub loop-round-init : goal.loop-round-init
loop-round-init c =
    let frames = c.args.frames.now in
    let live = c.args.live.now in
    let work : c.push.new.self.items ≡ 0 ∷ [] = c.in_ok-push.ensures.items ∙ ap (λ (xs : List ℕ). xs ++ 0 ∷ []) c.new-work.ensures.items in
    record {
      walking = λ entry walkable. subst (λ (xs : List ℕ). IsWalking entry frames live xs (reverse c.push.new.self.items)) (sym c.new-listed.ensures.items) (subst (λ (ys : List ℕ). IsWalking entry frames live [] (reverse ys)) (sym work) (walking_begins entry frames live c.requires.frames c.requires.few walkable));
      count = ap length c.new-listed.ensures.items;
      inside = λ k has. ⊎_elim (λ (same : 0 ≡ k). subst (λ (n : ℕ). n < length frames) same c.requires.some) (λ (none : ⊥). absurd none) (subst (λ (xs : List ℕ). Has xs k) work has);
    }

pub loop-round-preserved : goal.loop-round-preserved
loop-round-preserved c =
    let frames = c.args.frames.now in
    let live = c.args.live.now in
    let kids = c.args.kids.now in
    let j = c.in-Some.frame in
    let rest : List ℕ = c.pop.new.self.items in
    let adds = c.in_ok-add_falling.ensures in
    let fall : List ℕ = adds.falling in
    let v : List ℕ = c.gather.new.found.items in
    let old_inside : Inside (length frames) c.loop-round.work.items = c.loop-round.invariant.inside in
    let at : slice_get kids.into j ≡ Some v = c.in_ok-gather.ensures in
    let falling : AreFalling frames v fall = subst (λ (xs : List ℕ). AreFalling frames xs fall) c.as_slice.ensures.value adds.are in
    let listed : c.push-in-loop-round.new.self.items ≡ c.loop-round.listed.items ++ j ∷ [] = c.in_ok-push-2.ensures.items in
    let work : c.add_falling.new.work.items ≡ rest ++ fall = adds.is in
    record {
      walking = λ entry walkable. subst (λ (xs : List ℕ). IsWalking entry frames live xs (reverse c.add_falling.new.work.items)) (sym listed) (subst (λ (ys : List ℕ). IsWalking entry frames live (c.loop-round.listed.items ++ j ∷ []) (reverse ys)) (sym work)
          (round frames live kids c.requires.frames c.requires.few c.requires.kids j v at fall falling entry walkable c.loop-round.listed.items c.loop-round.work.items rest c.in-Some.ensures.items (c.loop-round.invariant.walking entry walkable)));
      count = ap length listed ∙ length_push c.loop-round.listed.items j ∙ ap (λ (n : ℕ). n + 1) c.loop-round.invariant.count;
      inside = λ k has. ⊎_elim
          (λ (old : Has rest k). old_inside k (subst (λ (xs : List ℕ). Has xs k) (sym c.in-Some.ensures.items) (append_has rest (j ∷ []) k (inl old))))
          (λ (new : Has fall k). kids_inside frames live kids c.requires.frames c.requires.few c.requires.kids j v at k (falling_has frames v fall c.requires.few (kids_inside frames live kids c.requires.frames c.requires.few c.requires.kids j v at) falling k new))
          (has_append rest fall k (subst (λ (xs : List ℕ). Has xs k) work has));
    }

pub returns : goal.returns
returns c = λ entry walkable.
    let few = listed_few entry c.args.frames.now c.args.live.now c.requires.frames c.requires.few walkable c.loop-round.listed.items (reverse c.loop-round.work.items) (c.loop-round.invariant.walking entry walkable) in
    absurd (omega (arith, few, c.loop-round.invariant.count, c.loop-round-test.false))
