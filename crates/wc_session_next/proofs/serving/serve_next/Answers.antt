use Rattle.wc_session_next.proofs.AnswerLemmas.{end_served, fault_served, line_served, long_served, much_served}
use Rattle.wc_session_next.proofs.serving.serve_next.Goals as goal

pub returns-in-Line-clause-part : goal.returns-in-Line-clause-part
returns-in-Line-clause-part g c =
    line_served _ _ _ _ c.next_line.new.self _ _ _ _ c.send.result c.line.result.now c.answer_line-answer.result c.answer_line-answer.ensures.answer c.send.ensures.sent c.in-Line.ensures.next c.line.ensures

pub returns-in-TooLong-clause-part : goal.returns-in-TooLong-clause-part
returns-in-TooLong-clause-part g c =
    long_served _ _ _ c.next_line.new.self _ _ _ _ c.send-in-TooLong.result c.of.result c.of.ensures c.send-in-TooLong.ensures.sent c.in-TooLong.ensures.next

pub returns-in-TooMuch-clause-part : goal.returns-in-TooMuch-clause-part
returns-in-TooMuch-clause-part g c =
    much_served _ _ _ c.next_line.new.self _ _ _ _ c.send-in-TooMuch.result c.send-in-TooMuch.ensures.sent c.in-TooMuch.ensures.next

pub returns-in-End-clause-part : goal.returns-in-End-clause-part
returns-in-End-clause-part g c = end_served _ _ _ _ c.next_line.new.self _ c.in-End.ensures.next

pub returns-in-ReadFault-clause-part : goal.returns-in-ReadFault-clause-part
returns-in-ReadFault-clause-part g c = fault_served _ _ _ _ _
