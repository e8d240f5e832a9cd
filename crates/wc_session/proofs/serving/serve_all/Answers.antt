use Rattle.std.proofs.Common.{Some, None, refl, ◌∙◌, arith}
use Rattle.wc_session.proofs.PartLemmas.{keeps_more, keeps_none, part_none, parts}
use Rattle.wc_session.proofs.serving.serve_all.Goals as goal

pub loop-ended-init : goal.loop-ended-init
loop-ended-init g c =
    record {
      kept = keeps_none g.W.Work.chain c.args.core.now c.requires.free;
      part = part_none 1 c.args.image.now c.args.core.now.history c.args.lines.now.rest (g.K.Sink.held c.args.sink.now);
      unread = c.requires.unread;
      reads_later = omega arith;
      writes_later = omega arith;
      source_place = refl;
      sink_place = refl;
    }

pub returns-in-Some-clause-part : goal.returns-in-Some-clause-part
returns-in-Some-clause-part g c =
    parts 1 _ _ c.loop-ended.core.history _ _ c.loop-ended.lines.rest _ _ (g.K.Sink.held c.loop-ended.sink) _ (Some c.in-Some.ended) c.loop-ended.invariant.part c.in-Some.ensures.part

pub loop-ended-preserved : goal.loop-ended-preserved
loop-ended-preserved g c =
    let i = c.loop-ended.invariant in
    record {
      kept = keeps_more g.W.Work.chain c.args.core.now c.loop-ended.core c.serve_next.new.core i.kept c.in_default.ensures.kept;
      part = parts 1 _ _ c.loop-ended.core.history _ _ c.loop-ended.lines.rest _ _ (g.K.Sink.held c.loop-ended.sink) _ None i.part c.in_default.ensures.part;
      unread = c.in_default.ensures.unread refl;
      reads_later = omega (arith, i.reads_later, c.in_default.ensures.reads_later);
      writes_later = omega (arith, i.writes_later, c.in_default.ensures.writes_later);
      source_place = c.in_default.ensures.source_place ∙ i.source_place;
      sink_place = c.in_default.ensures.sink_place ∙ i.sink_place;
    }
