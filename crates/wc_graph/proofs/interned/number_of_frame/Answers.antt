use Rattle.wc_graph.proofs.Interning.{has_number, is_frame, frame_same, frame_itself}
use Rattle.wc_graph.proofs.interned.number_of_frame.Goals as goal

pub returns : goal.returns
returns c = has_number c.args.frame (is_frame c.args.frame) (frame_same c.args.frame) (frame_itself c.args.frame) c.args.frames.now.keys c.insert_full.new.self.keys c.in_ok-number.number c.in_ok-number.ensures.keys c.in_ok-number.ensures.stored
