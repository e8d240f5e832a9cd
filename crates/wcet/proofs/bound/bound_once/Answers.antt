use Rattle.wcet.specs.Files.{Holds}
use Rattle.wcet.proofs.BoundAnswers.{bound, refused, usage, read, unread, read_line, memory, memory_line, file, write_line, opened, bad_file, complete}
use Rattle.wcet.proofs.bound.bound_once.Goals as goal

pub returns-in-Some-clause-bound : goal.returns-in-Some-clause-bound
returns-in-Some-clause-bound g c = bound _ (Holds (g.H.House.tells c.args.house.now) (g.H.House.file c.args.house.now)) _ _ c.in-Some.ensures _ _ _ _ _ _ _ _ c.answer_to-answer.ensures.answer c.finish-in-Some.ensures.line

pub returns-in-Some-clause-refused : goal.returns-in-Some-clause-refused
returns-in-Some-clause-refused g c = refused _ (Holds (g.H.House.tells c.args.house.now) (g.H.House.file c.args.house.now)) _ _ c.in-Some.ensures _ _ _ _ _ _ _ _ c.answer_to-answer.ensures.answer c.finish-in-Some.ensures.line

pub returns-in-Some-clause-usage : goal.returns-in-Some-clause-usage
returns-in-Some-clause-usage g c = usage _ (Holds (g.H.House.tells c.args.house.now) (g.H.House.file c.args.house.now)) _ _ c.in-Some.ensures _ _ _ _ _ _ _ _ c.answer_to-answer.ensures.answer c.finish-in-Some.ensures.line

pub returns-in-Some-clause-read : goal.returns-in-Some-clause-read
returns-in-Some-clause-read g c = read _ (Holds (g.H.House.tells c.args.house.now) (g.H.House.file c.args.house.now)) _ _ c.in-Some.ensures _ _ _ _ _ _ _ _ c.answer_to-answer.ensures.answer c.finish-in-Some.ensures.line

pub returns-in-Some-clause-unread : goal.returns-in-Some-clause-unread
returns-in-Some-clause-unread g c = unread _ (Holds (g.H.House.tells c.args.house.now) (g.H.House.file c.args.house.now)) _ _ c.in-Some.ensures _ _ _ _ _ _ _ _ c.answer_to-answer.ensures.answer c.finish-in-Some.ensures.line

pub returns-in-Some-clause-read_line : goal.returns-in-Some-clause-read_line
returns-in-Some-clause-read_line g c = read_line _ (Holds (g.H.House.tells c.args.house.now) (g.H.House.file c.args.house.now)) _ _ c.in-Some.ensures _ _ _ _ _ _ _ _ c.answer_to-answer.ensures.answer c.finish-in-Some.ensures.line

pub returns-in-Some-clause-memory_line : goal.returns-in-Some-clause-memory_line
returns-in-Some-clause-memory_line g c = memory_line _ (Holds (g.H.House.tells c.args.house.now) (g.H.House.file c.args.house.now)) _ _ c.in-Some.ensures _ _ _ _ _ _ _ _ c.answer_to-answer.ensures.answer c.finish-in-Some.ensures.line

pub returns-in-Some-clause-memory : goal.returns-in-Some-clause-memory
returns-in-Some-clause-memory g c = memory _ (Holds (g.H.House.tells c.args.house.now) (g.H.House.file c.args.house.now)) _ _ c.in-Some.ensures _ _ _ _ _ _ _ _ c.answer_to-answer.ensures.answer c.finish-in-Some.ensures.line

pub returns-in-Some-clause-file : goal.returns-in-Some-clause-file
returns-in-Some-clause-file g c = file _ (Holds (g.H.House.tells c.args.house.now) (g.H.House.file c.args.house.now)) _ _ c.in-Some.ensures _ _ _ _ _ _ _ _ c.answer_to-answer.ensures.answer c.finish-in-Some.ensures.line

pub returns-in-Some-clause-write_line : goal.returns-in-Some-clause-write_line
returns-in-Some-clause-write_line g c = write_line _ (Holds (g.H.House.tells c.args.house.now) (g.H.House.file c.args.house.now)) _ _ c.in-Some.ensures _ _ _ _ _ _ _ _ c.answer_to-answer.ensures.answer c.finish-in-Some.ensures.line

pub returns-in-Some-clause-bad_file : goal.returns-in-Some-clause-bad_file
returns-in-Some-clause-bad_file g c = bad_file _ (g.H.House.file c.args.house.now) (g.H.House.tells c.args.house.now) _ _ c.in-Some.ensures _ _ _ _ _ _ _ _ c.answer_to-answer.ensures.answer c.finish-in-Some.ensures.line

pub returns-in-Some-clause-complete : goal.returns-in-Some-clause-complete
returns-in-Some-clause-complete g c = complete _ (g.H.House.file c.args.house.now) (g.H.House.tells c.args.house.now) _ _ c.in-Some.ensures _ _ _ _ _ _ _ _ c.answer_to-answer.ensures.answer c.finish-in-Some.ensures.line

pub returns-in-Some-clause-opened : goal.returns-in-Some-clause-opened
returns-in-Some-clause-opened g c = opened _ (Holds (g.H.House.tells c.args.house.now) (g.H.House.file c.args.house.now)) _ _ c.in-Some.ensures _ _ _ c.answer_to-answer.ensures.answer

-- words of no known form name no files
pub returns-in-None-clause-complete : goal.returns-in-None-clause-complete
returns-in-None-clause-complete g c sound same quiet = absurd (c.in-None.ensures sound.paths sound.name sound.call)

pub returns-in-Some-clause-unopened : goal.returns-in-Some-clause-unopened
returns-in-Some-clause-unopened g c = λ faulty. absurd (faulty _ _ c.in-Some.ensures)
