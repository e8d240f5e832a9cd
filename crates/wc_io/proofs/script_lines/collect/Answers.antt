use Rattle.std.proofs.Common.{◌≡◌, ◌+◌, ◌-◌, ℕ, List, [], ◌++◌, length, take, drop, refl, sym, ap, ◌∙◌, subst, arith, length-append}
use Rattle.std.proofs.lemmas.List.{length-take-le, take_all}
use Rattle.std.proofs.KnownBytes.{Consumes-kept, Consumes-nil, Consumes-trans}
use Rattle.std.specs.Io.KnownBytes.{Consumes}
use Rattle.wc_io.specs.Ahead.{Ahead, to_come}
use Rattle.wc_io.proofs.FeedLemmas.{NoFeed, IsFirstFeed, NoFeed_append, first_feed, no_feed}
use Rattle.wc_io.proofs.CollectLemmas.{skipped, at_end, part_grows, ended, fed, fed_beyond, unfed_beyond, none_of}
use Rattle.wc_io.proofs.script_lines.collect.Goals as goal

pub loop-count-init : goal.loop-count-init
loop-count-init g c = record {
  part = ([], (c.requires.empty, c.requires.none), tt, omega arith, Consumes-nil (to_come c.args.ahead.now));
  kept = refl;
  within = omega (arith, c.requires.none);
  later = omega arith;
  place = refl;
}

pub returns-then-count-eq0-clause-found : goal.returns-then-count-eq0-clause-found
returns-then-count-eq0-clause-found g c =
    let p = c.loop-count.invariant.part in
    let a = c.fill.new.self in
    let read = Consumes-kept (to_come c.args.ahead.now) (to_come c.loop-count.ahead) (to_come a) p.0 p.4 c.in-Ok.ensures.bytes in
    let none : a.unread ≡ [] = none_of a.unread (sym c.in-Ok.ensures.count ∙ c.if-count-eq0.true) in
    (p.0, p.1, p.3, ended _ _ p.0 read (at_end a none (c.in-Ok.ensures.end c.if-count-eq0.true)) p.2)

pub returns-then-i-room-clause-found : goal.returns-then-i-room-clause-found
returns-then-i-room-clause-found g c =
    let p = c.loop-count.invariant.part in
    let a = c.fill.new.self in
    let i = c.in-Some.i in
    let read = Consumes-kept (to_come c.args.ahead.now) (to_come c.loop-count.ahead) (to_come a) p.0 p.4 c.in-Ok.ensures.bytes in
    let feed : IsFirstFeed a.unread i = subst (λ (bytes : List ℕ). IsFirstFeed bytes i) c.unread-piece.ensures (first_feed _ i (cc c.in-Some.ensures.first)) in
    let rest : Ahead = record a { unread = drop (i + 1) a.unread } in
    fed_beyond _ (to_come rest) (p.0 ++ take i a.unread) c.args.room
    (omega (arith, p.1.1, c.count.ensures, c.if-i-room.true, length-append p.0 (take i a.unread), length-take-le i a.unread (omega (arith, feed.within))))
    (fed (to_come c.args.ahead.now) (to_come a) (to_come rest) p.0 a.unread i read (skipped a rest (i + 1) refl) p.2 feed)

pub returns-in-Some-clause-found : goal.returns-in-Some-clause-found
returns-in-Some-clause-found g c =
    let p = c.loop-count.invariant.part in
    let a = c.fill.new.self in
    let i = c.in-Some.i in
    let read = Consumes-kept (to_come c.args.ahead.now) (to_come c.loop-count.ahead) (to_come a) p.0 p.4 c.in-Ok.ensures.bytes in
    let feed : IsFirstFeed a.unread i = subst (λ (bytes : List ℕ). IsFirstFeed bytes i) c.unread-piece.ensures (first_feed _ i (cc c.in-Some.ensures.first)) in (
      p.0 ++ take i a.unread,
      (part_grows c.loop-count.line c.append.new.self p.0 (take i a.unread) p.1
          (c.append.ensures.part ∙ ap (λ (bytes : List ℕ). c.loop-count.line.part ++ take (4097 - length c.loop-count.line.part) (take i bytes)) c.unread-piece.ensures)
          (c.append.ensures.count ∙ ap (λ (bytes : List ℕ). c.loop-count.line.count + length (take i bytes)) c.unread-piece.ensures)),
      omega (arith, p.1.1, c.count.ensures, c.if-i-room.false, length-append p.0 (take i a.unread), length-take-le i a.unread (omega (arith, feed.within))),
      fed (to_come c.args.ahead.now) (to_come a) (to_come c.skip.new.self) p.0 a.unread i read (skipped a c.skip.new.self (i + 1) c.skip.ensures) p.2 feed,
    )

pub returns-then-count-room-clause-found : goal.returns-then-count-room-clause-found
returns-then-count-room-clause-found g c =
    let p = c.loop-count.invariant.part in
    let a = c.fill.new.self in
    let n = c.in-Ok.count in
    let read = Consumes-kept (to_come c.args.ahead.now) (to_come c.loop-count.ahead) (to_come a) p.0 p.4 c.in-Ok.ensures.bytes in
    let rest : Ahead = record a { unread = drop n a.unread } in
    let whole : take n a.unread ≡ a.unread = take_all n a.unread (omega (arith, c.in-Ok.ensures.count)) in
    let clean : NoFeed a.unread = subst NoFeed c.unread-piece.ensures (no_feed _ (cc c.in-None.ensures.first)) in
    let all = subst (λ (bytes : List ℕ). Consumes (to_come c.args.ahead.now) (to_come rest) (p.0 ++ bytes)) whole
    (Consumes-trans (to_come c.args.ahead.now) (to_come a) (to_come rest) p.0 (take n a.unread) read (skipped a rest n refl)) in
    unfed_beyond (to_come c.args.ahead.now) (to_come rest) (p.0 ++ a.unread) c.args.room all (NoFeed_append p.0 a.unread p.2 clean)
    (omega (arith, p.1.1, c.count-in-None.ensures, c.if-count-room.true, c.in-Ok.ensures.count, length-append p.0 a.unread))

pub loop-count-preserved : goal.loop-count-preserved
loop-count-preserved g c =
    let p = c.loop-count.invariant.part in
    let a = c.fill.new.self in
    let n = c.in-Ok.count in
    let read = Consumes-kept (to_come c.args.ahead.now) (to_come c.loop-count.ahead) (to_come a) p.0 p.4 c.in-Ok.ensures.bytes in
    let whole : take n a.unread ≡ a.unread = take_all n a.unread (omega (arith, c.in-Ok.ensures.count)) in
    let clean : NoFeed a.unread = subst NoFeed c.unread-piece.ensures (no_feed _ (cc c.in-None.ensures.first)) in
    let all = subst (λ (bytes : List ℕ). Consumes (to_come c.args.ahead.now) (to_come c.skip-in-None.new.self) (p.0 ++ bytes)) whole
    (Consumes-trans (to_come c.args.ahead.now) (to_come a) (to_come c.skip-in-None.new.self) p.0 (take n a.unread) read (skipped a c.skip-in-None.new.self n c.skip-in-None.ensures)) in
    record {
      part = (
        p.0 ++ a.unread,
        part_grows c.loop-count.line c.append-in-None.new.self p.0 a.unread p.1
            (c.append-in-None.ensures.part ∙ ap (λ (bytes : List ℕ). c.loop-count.line.part ++ take (4097 - length c.loop-count.line.part) bytes) c.unread-piece.ensures)
            (c.append-in-None.ensures.count ∙ ap (λ (bytes : List ℕ). c.loop-count.line.count + length bytes) c.unread-piece.ensures),
        NoFeed_append p.0 a.unread p.2 clean,
        omega (arith, p.1.1, c.count-in-None.ensures, c.if-count-room.false, c.in-Ok.ensures.count, length-append p.0 a.unread),
        all,
      );
      kept = c.append-in-None.ensures.line ∙ c.loop-count.invariant.kept;
      within = omega (arith, c.append-in-None.ensures.count, ap length c.unread-piece.ensures, c.count-in-None.ensures, c.if-count-room.false, c.in-Ok.ensures.count, c.loop-count.invariant.within);
      later = omega (arith, c.loop-count.invariant.later, c.in-Ok.ensures.cause.later, ap (λ (x : Ahead). x.faults) c.skip-in-None.ensures);
      place = ap (λ (x : Ahead). x.place) c.skip-in-None.ensures ∙ c.in-Ok.ensures.place ∙ c.loop-count.invariant.place;
    }
