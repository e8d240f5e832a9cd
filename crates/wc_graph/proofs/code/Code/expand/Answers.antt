use Rattle.std.proofs.Common.{◌≡◌, ◌+◌, ◌<◌, ◌≤◌, List, [], ◌∷◌, ◌++◌, length, take, get_or, false, refl, sym, subst, ◌∙◌, arith}
use Rattle.std.specs.List.{Contains}
use Rattle.std.proofs.lemmas.List.{take_more}
use Rattle.std.proofs.lemmas.List.Elements.{All-contains, All-take, All-contains_itself}
use Rattle.wc_graph.specs.declared.frames.Leap.{Leap}
use Rattle.wc_graph.specs.declared.frames.Turn.{Turn}
use Rattle.wc_graph.specs.declared.frames.Way.TheVariants.{Go}
use Rattle.wc_graph.specs.Inner.Exploring.{HasTurns}
use Rattle.wc_graph.proofs.CodeLemmas.{grown_count}
use Rattle.wc_graph.proofs.ExpandLemmas.{no_turns, turn_more, full}
use Rattle.wc_graph.proofs.Interning.{kept_within}
use Rattle.wc_graph.proofs.code.Code.expand.Goals as goal

pub loop-turn-init : goal.loop-turn-init
loop-turn-init c =
    let old = c.args.self.now in
    record {
      turned = subst (HasTurns old old c.args.place []) (sym c.clear.ensures.items) (no_turns old c.args.place c.requires.code);
      few = c.requires.few;
      inside = c.requires.inside;
      same = refl;
    }

pub loop-turn-preserved : goal.loop-turn-preserved
loop-turn-preserved c =
    let old = c.args.self.now in
    let mid = c.loop-turn.self in
    let new = c.target.new.self in
    let ts : List Turn = c.args.turns.now in
    let i = c.loop-turn.turn-index in
    let t : Turn = get_or ts i (record { way = Go 0; taken = false }) in
    let less : i < length ts = omega arith in
    let leap : Leap = record { target = c.in_ok-target.target; taken = t.taken } in
    let turned : HasTurns old new c.args.place (take i ts ++ t ∷ []) (c.loop-turn.leaps.items ++ leap ∷ []) = turn_more old mid new c.args.place (take i ts) c.loop-turn.leaps.items t c.in_ok-target.target c.loop-turn.invariant.turned c.in_ok-target.ensures.target c.loop-turn.invariant.inside in
    record {
      turned = subst (λ (xs : List Turn). HasTurns old new c.args.place xs c.push.new.self.items) (sym (take_more ts i (record { way = Go 0; taken = false }) less)) (subst (HasTurns old new c.args.place (take i ts ++ t ∷ [])) (sym c.in_ok-push.ensures.items) turned);
      few = omega (arith, c.len.ensures.len);
      inside = kept_within mid.frames.keys new.frames.keys c.in_ok-target.ensures.target.stays c.args.place.frame c.loop-turn.invariant.inside;
      same = c.in_ok-target.ensures.leaps ∙ c.loop-turn.invariant.same;
    }

pub returns-then-len-gt-MOST-clause-expanded : goal.returns-then-len-gt-MOST-clause-expanded
returns-then-len-gt-MOST-clause-expanded c =
    let old = c.args.self.now in
    let mid = c.loop-turn.self in
    let new = c.target.new.self in
    let ts : List Turn = c.args.turns.now in
    let i = c.loop-turn.turn-index in
    let t : Turn = get_or ts i (record { way = Go 0; taken = false }) in
    let less : i < length ts = omega arith in
    let leap : Leap = record { target = c.in_ok-target.target; taken = t.taken } in
    let turned : HasTurns old new c.args.place (take i ts ++ t ∷ []) (c.loop-turn.leaps.items ++ leap ∷ []) = turn_more old mid new c.args.place (take i ts) c.loop-turn.leaps.items t c.in_ok-target.target c.loop-turn.invariant.turned c.in_ok-target.ensures.target c.loop-turn.invariant.inside in
    let one : length new.places.keys ≤ length mid.places.keys + 1 = grown_count mid.places.keys new.places.keys c.in_ok-target.target c.in_ok-target.ensures.target.grown in
    let count : length new.places.keys ≡ 100001 = omega (arith, c.len.ensures.len, c.loop-turn.invariant.few) in
    full old new c.args.place ts (take i ts ++ t ∷ []) (c.loop-turn.leaps.items ++ leap ∷ []) turned
    (λ u among. All-contains (Contains ts) (take (i + 1) ts) u (All-take (Contains ts) (i + 1) ts (All-contains_itself ts)) (subst (λ (xs : List Turn). Contains xs u) (sym (take_more ts i (record { way = Go 0; taken = false }) less)) among))
    count
