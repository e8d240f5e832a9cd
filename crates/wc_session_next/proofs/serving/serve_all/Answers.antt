use Rattle.std.proofs.Common.{Some, None, refl, ◌∙◌, arith}
use Rattle.wc_session_next.proofs.PartLemmas.{keeps_more, keeps_none, part_none, parts}
use Rattle.wc_session_next.proofs.serving.serve_all.Goals as goal

pub loop-ended-init : goal.loop-ended-init
loop-ended-init g c =
    record {
      kept = keeps_none g.W.Work.chain g.N.Named.desk g.N.Named.opening c.args.pass.now c.requires.ready;
      part = part_none c.args.image.now c.args.pass.now c.args.lines.now.rest (g.K.Sink.held c.args.sink.now);
      unread = c.requires.unread;
      reads_later = omega arith;
      writes_later = omega arith;
      source_place = refl;
      sink_place = refl;
    }

pub returns-in-Some-clause-part : goal.returns-in-Some-clause-part
returns-in-Some-clause-part g c =
    parts _ _ c.loop-ended.pass _ _ c.loop-ended.lines.rest _ _ (g.K.Sink.held c.loop-ended.sink) _ (Some c.in-Some.ended) c.loop-ended.invariant.part c.in-Some.ensures.part

pub loop-ended-preserved : goal.loop-ended-preserved
loop-ended-preserved g c =
    let i = c.loop-ended.invariant in
    record {
      kept = keeps_more g.W.Work.chain g.N.Named.desk g.N.Named.opening c.args.pass.now c.loop-ended.pass c.serve_next.new.pass i.kept c.in_default.ensures.kept;
      part = parts _ _ c.loop-ended.pass _ _ c.loop-ended.lines.rest _ _ (g.K.Sink.held c.loop-ended.sink) _ None i.part c.in_default.ensures.part;
      unread = c.in_default.ensures.unread refl;
      reads_later = omega (arith, i.reads_later, c.in_default.ensures.reads_later);
      writes_later = omega (arith, i.writes_later, c.in_default.ensures.writes_later);
      source_place = c.in_default.ensures.source_place ∙ i.source_place;
      sink_place = c.in_default.ensures.sink_place ∙ i.sink_place;
    }
