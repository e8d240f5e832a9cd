use Rattle.std.proofs.Common.{◌≡◌, not, length, ap, sym, refl, ◌∙◌, arith}
use Rattle.wc_nest.specs.declared.ways.Way.{Way}
use Rattle.wc_nest.specs.Inner.Levels.{stays}
use Rattle.wc_nest.proofs.FlagLemmas.{length-flag_all}
use Rattle.wc_nest.proofs.StartLemmas.{member_numbers, way_numbers}
use Rattle.wc_nest.proofs.levels.Nesting.find.Goals as goal

pub classes-requires-clause-ends : goal.classes-requires-clause-ends
classes-requires-clause-ends c = rw (c.deref.ensures.value, c.deref-2.ensures.value) c.requires.ends

pub loops-requires-clause-numbers : goal.loops-requires-clause-numbers
loops-requires-clause-numbers c =
    let of = rw (c.deref.ensures.value, c.deref-2.ensures.value) at c.in_ok-classes.ensures in
    let count : c.len-count.result ≡ length c.classes.new.self.roots.items = omega (arith, c.len-count.ensures, c.classes.new.self.roots.ok.0) in
    rw (c.deref-5.ensures.value, c.deref-6.ensures.value, count) (way_numbers c.args.level.now.ways.items c.args.level.now.members.items c.classes.new.self.marks.items (length c.classes.new.self.roots.items) of.classes c.requires.ends)

pub heads_of-requires-clause-flags : goal.heads_of-requires-clause-flags
heads_of-requires-clause-flags c =
    let of = c.in_ok-classes.ensures in
    rw (c.deref-7.ensures.value, c.deref-8.ensures.value) (ap length c.enter_all.ensures ∙ length-flag_all (λ (w : Way). not (stays c.deref-3.result.now w)) (λ (w : Way). w.target) c.args.self.now.entered.items c.deref-4.result.now ∙ c.requires.flags ∙ sym of.marked)

pub heads_of-requires-clause-numbers : goal.heads_of-requires-clause-numbers
heads_of-requires-clause-numbers c =
    let of = rw (c.deref.ensures.value, c.deref-2.ensures.value) at c.in_ok-classes.ensures in
    let count : c.len-count.result ≡ length c.classes.new.self.roots.items = omega (arith, c.len-count.ensures, c.classes.new.self.roots.ok.0) in
    rw (c.deref-7.ensures.value, c.deref-9.ensures.value, count) (member_numbers c.args.level.now.ways.items c.args.level.now.members.items c.classes.new.self.marks.items (length c.classes.new.self.roots.items) of.classes)

pub returns : goal.returns
returns c =
    let of = rw (c.deref.ensures.value, c.deref-2.ensures.value) at c.in_ok-classes.ensures in
    let entered = rw (c.deref-3.ensures.value, c.deref-4.ensures.value) at c.enter_all.ensures in
    let count : c.len-count.result ≡ length c.classes.new.self.roots.items = omega (arith, c.len-count.ensures, c.classes.new.self.roots.ok.0) in
    let looped = rw (c.deref-5.ensures.value, c.deref-6.ensures.value, count) at c.in_ok-looped.ensures in
    let pairs = rw (c.deref-7.ensures.value, c.deref-8.ensures.value, c.deref-9.ensures.value, count) at c.in_ok-pairs.ensures in
    record {
      are = record { classes = of.classes; are_entered = entered; are_looped = looped; are_pairs = pairs };
      classified = of;
      flags_counted = ap length entered ∙ length-flag_all (λ (w : Way). not (stays c.classes.new.self.marks.items w)) (λ (w : Way). w.target) c.args.self.now.entered.items c.args.level.now.ways.items;
      listing = refl;
      back = refl;
    }
