use Rattle.std.proofs.Common.{inl, inr}
use Rattle.wcet.proofs.ServeAnswers.{ok_served, ok_usage, ok_read, ok_read_line, ok_write, ok_write_line, ok_bad_file, ok_many, ok_complete, ok_known, ok_opened, not_two, not_five, not_six, keeps, err_usage, err_read, err_read_line, err_write, err_write_line, err_read_why, err_write_why, err_memory_line, err_memory_why, err_kept, err_file, err_bad_file, err_complete, err_opened}
use Rattle.wcet.proofs.serve.serve.Goals as goal

pub returns-in-Ok-clause-served : goal.returns-in-Ok-clause-served
returns-in-Ok-clause-served g c = ok_served _ (g.H.House.tells c.args.house.now) (g.H.House.file c.args.house.now) (g.H.House.file c.serve_files.new.house) _ _ _ c.in-Some.ensures (g.H.House.opened c.args.house.now) (g.H.House.opened c.serve_files.new.house) (g.K.Sink.held c.args.out.now) (g.K.Sink.held c.finish_served.new.out) (g.K.Sink.faults c.args.out.now) (g.K.Sink.faults c.finish_served.new.out) c.finish_served.result c.in-Ok.served.history.items c.in-Ok.served.runs c.in-Ok.ensures.session.1 c.in-Ok.served.ended c.in-Ok.ensures.session.0 c.finish_served.ensures.report

pub returns-in-Ok-clause-usage : goal.returns-in-Ok-clause-usage
returns-in-Ok-clause-usage g c = ok_usage _ (g.H.House.tells c.args.house.now) (g.H.House.file c.args.house.now) (g.H.House.file c.serve_files.new.house) _ _ _ c.in-Some.ensures (g.H.House.opened c.args.house.now) (g.H.House.opened c.serve_files.new.house) (g.K.Sink.held c.args.out.now) (g.K.Sink.held c.finish_served.new.out) (g.K.Sink.faults c.args.out.now) (g.K.Sink.faults c.finish_served.new.out) c.finish_served.result c.in-Ok.served.history.items c.in-Ok.served.runs c.in-Ok.ensures.session.1 c.in-Ok.served.ended c.finish_served.ensures.report

pub returns-in-Ok-clause-usage_line : goal.returns-in-Ok-clause-usage_line
returns-in-Ok-clause-usage_line g c = λ z. absurd (not_two _ (g.H.House.tells c.args.house.now) (g.H.House.file c.args.house.now) (g.H.House.file c.serve_files.new.house) _ _ _ c.in-Some.ensures (g.H.House.opened c.args.house.now) (g.H.House.opened c.serve_files.new.house) (g.K.Sink.held c.args.out.now) (g.K.Sink.held c.finish_served.new.out) (g.K.Sink.faults c.args.out.now) (g.K.Sink.faults c.finish_served.new.out) c.finish_served.result c.in-Ok.served.history.items c.in-Ok.served.runs c.in-Ok.ensures.session.1 c.in-Ok.served.ended c.finish_served.ensures.report z)

pub returns-in-Ok-clause-read : goal.returns-in-Ok-clause-read
returns-in-Ok-clause-read g c = ok_read _ (g.H.House.tells c.args.house.now) (g.H.House.file c.args.house.now) (g.H.House.file c.serve_files.new.house) _ _ _ c.in-Some.ensures (g.H.House.opened c.args.house.now) (g.H.House.opened c.serve_files.new.house) (g.K.Sink.held c.args.out.now) (g.K.Sink.held c.finish_served.new.out) (g.K.Sink.faults c.args.out.now) (g.K.Sink.faults c.finish_served.new.out) c.finish_served.result c.in-Ok.served.history.items c.in-Ok.served.runs c.in-Ok.ensures.session.1 c.in-Ok.served.ended c.in-Ok.ensures.session.0 c.finish_served.ensures.report

pub returns-in-Ok-clause-read_line : goal.returns-in-Ok-clause-read_line
returns-in-Ok-clause-read_line g c = λ z. inr (ok_read_line _ (g.H.House.tells c.args.house.now) (g.H.House.file c.args.house.now) (g.H.House.file c.serve_files.new.house) _ _ _ c.in-Some.ensures (g.H.House.opened c.args.house.now) (g.H.House.opened c.serve_files.new.house) (g.K.Sink.held c.args.out.now) (g.K.Sink.held c.finish_served.new.out) (g.K.Sink.faults c.args.out.now) (g.K.Sink.faults c.finish_served.new.out) c.finish_served.result c.in-Ok.served.history.items c.in-Ok.served.runs c.in-Ok.ensures.session.1 c.in-Ok.served.ended c.in-Ok.ensures.session.0 c.finish_served.ensures.report z)

pub returns-in-Ok-clause-write : goal.returns-in-Ok-clause-write
returns-in-Ok-clause-write g c = ok_write _ (g.H.House.tells c.args.house.now) (g.H.House.file c.args.house.now) (g.H.House.file c.serve_files.new.house) _ _ _ c.in-Some.ensures (g.H.House.opened c.args.house.now) (g.H.House.opened c.serve_files.new.house) (g.K.Sink.held c.args.out.now) (g.K.Sink.held c.finish_served.new.out) (g.K.Sink.faults c.args.out.now) (g.K.Sink.faults c.finish_served.new.out) c.finish_served.result c.in-Ok.served.history.items c.in-Ok.served.runs c.in-Ok.ensures.session.1 c.in-Ok.served.ended c.in-Ok.ensures.session.0 c.finish_served.ensures.report

pub returns-in-Ok-clause-write_line : goal.returns-in-Ok-clause-write_line
returns-in-Ok-clause-write_line g c = λ z. inr (ok_write_line _ (g.H.House.tells c.args.house.now) (g.H.House.file c.args.house.now) (g.H.House.file c.serve_files.new.house) _ _ _ c.in-Some.ensures (g.H.House.opened c.args.house.now) (g.H.House.opened c.serve_files.new.house) (g.K.Sink.held c.args.out.now) (g.K.Sink.held c.finish_served.new.out) (g.K.Sink.faults c.args.out.now) (g.K.Sink.faults c.finish_served.new.out) c.finish_served.result c.in-Ok.served.history.items c.in-Ok.served.runs c.in-Ok.ensures.session.1 c.in-Ok.served.ended c.in-Ok.ensures.session.0 c.finish_served.ensures.report z)

pub returns-in-Ok-clause-memory_line : goal.returns-in-Ok-clause-memory_line
returns-in-Ok-clause-memory_line g c = λ z. absurd (not_five _ (g.H.House.tells c.args.house.now) (g.H.House.file c.args.house.now) (g.H.House.file c.serve_files.new.house) _ _ _ c.in-Some.ensures (g.H.House.opened c.args.house.now) (g.H.House.opened c.serve_files.new.house) (g.K.Sink.held c.args.out.now) (g.K.Sink.held c.finish_served.new.out) (g.K.Sink.faults c.args.out.now) (g.K.Sink.faults c.finish_served.new.out) c.finish_served.result c.in-Ok.served.history.items c.in-Ok.served.runs c.in-Ok.ensures.session.1 c.in-Ok.served.ended c.finish_served.ensures.report z)

pub returns-in-Ok-clause-memory : goal.returns-in-Ok-clause-memory
returns-in-Ok-clause-memory g c = λ z. absurd (not_five _ (g.H.House.tells c.args.house.now) (g.H.House.file c.args.house.now) (g.H.House.file c.serve_files.new.house) _ _ _ c.in-Some.ensures (g.H.House.opened c.args.house.now) (g.H.House.opened c.serve_files.new.house) (g.K.Sink.held c.args.out.now) (g.K.Sink.held c.finish_served.new.out) (g.K.Sink.faults c.args.out.now) (g.K.Sink.faults c.finish_served.new.out) c.finish_served.result c.in-Ok.served.history.items c.in-Ok.served.runs c.in-Ok.ensures.session.1 c.in-Ok.served.ended c.finish_served.ensures.report z)

pub returns-in-Ok-clause-file : goal.returns-in-Ok-clause-file
returns-in-Ok-clause-file g c = λ z. absurd (not_six _ (g.H.House.tells c.args.house.now) (g.H.House.file c.args.house.now) (g.H.House.file c.serve_files.new.house) _ _ _ c.in-Some.ensures (g.H.House.opened c.args.house.now) (g.H.House.opened c.serve_files.new.house) (g.K.Sink.held c.args.out.now) (g.K.Sink.held c.finish_served.new.out) (g.K.Sink.faults c.args.out.now) (g.K.Sink.faults c.finish_served.new.out) c.finish_served.result c.in-Ok.served.history.items c.in-Ok.served.runs c.in-Ok.ensures.session.1 c.in-Ok.served.ended c.finish_served.ensures.report z)

pub returns-in-Ok-clause-file_kept : goal.returns-in-Ok-clause-file_kept
returns-in-Ok-clause-file_kept g c = λ z. absurd (not_six _ (g.H.House.tells c.args.house.now) (g.H.House.file c.args.house.now) (g.H.House.file c.serve_files.new.house) _ _ _ c.in-Some.ensures (g.H.House.opened c.args.house.now) (g.H.House.opened c.serve_files.new.house) (g.K.Sink.held c.args.out.now) (g.K.Sink.held c.finish_served.new.out) (g.K.Sink.faults c.args.out.now) (g.K.Sink.faults c.finish_served.new.out) c.finish_served.result c.in-Ok.served.history.items c.in-Ok.served.runs c.in-Ok.ensures.session.1 c.in-Ok.served.ended c.finish_served.ensures.report z)

pub returns-in-Ok-clause-bad_file : goal.returns-in-Ok-clause-bad_file
returns-in-Ok-clause-bad_file g c = λ t. ok_bad_file _ (g.H.House.tells c.args.house.now) (g.H.House.file c.args.house.now) (g.H.House.file c.serve_files.new.house) _ _ _ c.in-Some.ensures (g.H.House.opened c.args.house.now) (g.H.House.opened c.serve_files.new.house) (g.K.Sink.held c.args.out.now) (g.K.Sink.held c.finish_served.new.out) (g.K.Sink.faults c.args.out.now) (g.K.Sink.faults c.finish_served.new.out) c.finish_served.result c.in-Ok.served.history.items c.in-Ok.served.runs c.in-Ok.ensures.session.1 c.in-Ok.served.ended c.in-Ok.ensures.session.0 t

pub returns-in-Ok-clause-many : goal.returns-in-Ok-clause-many
returns-in-Ok-clause-many g c = ok_many _ (g.H.House.tells c.args.house.now) (g.H.House.file c.args.house.now) (g.H.House.file c.serve_files.new.house) _ _ _ c.in-Some.ensures (g.H.House.opened c.args.house.now) (g.H.House.opened c.serve_files.new.house) (g.K.Sink.held c.args.out.now) (g.K.Sink.held c.finish_served.new.out) (g.K.Sink.faults c.args.out.now) (g.K.Sink.faults c.finish_served.new.out) c.finish_served.result c.in-Ok.served.history.items c.in-Ok.served.runs c.in-Ok.ensures.session.1 c.in-Ok.served.ended c.in-Ok.ensures.session.0 c.finish_served.ensures.report

pub returns-in-Ok-clause-complete : goal.returns-in-Ok-clause-complete
returns-in-Ok-clause-complete g c = λ t reads writes quiet. ok_complete _ (g.H.House.tells c.args.house.now) (g.H.House.file c.args.house.now) (g.H.House.file c.serve_files.new.house) _ _ _ c.in-Some.ensures (g.H.House.opened c.args.house.now) (g.H.House.opened c.serve_files.new.house) (g.K.Sink.held c.args.out.now) (g.K.Sink.held c.finish_served.new.out) (g.K.Sink.faults c.args.out.now) (g.K.Sink.faults c.finish_served.new.out) c.finish_served.result c.in-Ok.served.history.items c.in-Ok.served.runs c.in-Ok.ensures.session.1 c.in-Ok.served.ended c.in-Ok.ensures.session.0 c.finish_served.ensures.report reads writes quiet

pub returns-in-Ok-clause-known : goal.returns-in-Ok-clause-known
returns-in-Ok-clause-known g c = ok_known _ (g.H.House.tells c.args.house.now) (g.H.House.file c.args.house.now) (g.H.House.file c.serve_files.new.house) _ _ _ c.in-Some.ensures (g.H.House.opened c.args.house.now) (g.H.House.opened c.serve_files.new.house) (g.K.Sink.held c.args.out.now) (g.K.Sink.held c.finish_served.new.out) (g.K.Sink.faults c.args.out.now) (g.K.Sink.faults c.finish_served.new.out) c.finish_served.result c.in-Ok.served.history.items c.in-Ok.served.runs c.in-Ok.ensures.session.1 c.in-Ok.served.ended c.finish_served.ensures.report

pub returns-in-Ok-clause-opened : goal.returns-in-Ok-clause-opened
returns-in-Ok-clause-opened g c = ok_opened _ (g.H.House.tells c.args.house.now) (g.H.House.file c.args.house.now) (g.H.House.file c.serve_files.new.house) _ _ _ c.in-Some.ensures (g.H.House.opened c.args.house.now) (g.H.House.opened c.serve_files.new.house) (g.K.Sink.held c.args.out.now) (g.K.Sink.held c.finish_served.new.out) (g.K.Sink.faults c.args.out.now) (g.K.Sink.faults c.finish_served.new.out) c.finish_served.result c.in-Ok.served.history.items c.in-Ok.served.runs c.in-Ok.ensures.session.1 c.in-Ok.served.ended c.in-Ok.ensures.session.0

pub returns-in-Ok-clause-unopened : goal.returns-in-Ok-clause-unopened
returns-in-Ok-clause-unopened g c = λ faulty. absurd (faulty _ _ _ c.in-Some.ensures)

pub returns-in-Ok-clause-files : goal.returns-in-Ok-clause-files
returns-in-Ok-clause-files g c = keeps _ (g.H.House.tells c.args.house.now) (g.H.House.file c.args.house.now) (g.H.House.file c.serve_files.new.house) _ _ _ c.in-Some.ensures (g.H.House.opened c.args.house.now) (g.H.House.opened c.serve_files.new.house) (g.K.Sink.held c.args.out.now) (g.K.Sink.held c.finish_served.new.out) (g.K.Sink.faults c.args.out.now) (g.K.Sink.faults c.finish_served.new.out) c.finish_served.result c.in-Ok.ensures.others

pub returns-in-Ok-clause-untouched : goal.returns-in-Ok-clause-untouched
returns-in-Ok-clause-untouched g c = λ faulty. absurd (faulty _ _ _ c.in-Some.ensures)

pub returns-in-Err-clause-usage : goal.returns-in-Err-clause-usage
returns-in-Err-clause-usage g c = err_usage _ (g.H.House.tells c.args.house.now) (g.H.House.file c.args.house.now) (g.H.House.file c.serve_files.new.house) _ _ _ c.in-Some.ensures (g.H.House.opened c.args.house.now) (g.H.House.opened c.serve_files.new.house) (g.K.Sink.held c.args.out.now) (g.K.Sink.held c.finish_unserved.new.out) (g.K.Sink.faults c.args.out.now) (g.K.Sink.faults c.finish_unserved.new.out) c.finish_unserved.result c.in-Err.unserved c.finish_unserved.ensures.status

pub returns-in-Err-clause-read : goal.returns-in-Err-clause-read
returns-in-Err-clause-read g c = err_read _ (g.H.House.tells c.args.house.now) (g.H.House.file c.args.house.now) (g.H.House.file c.serve_files.new.house) _ _ _ c.in-Some.ensures (g.H.House.opened c.args.house.now) (g.H.House.opened c.serve_files.new.house) (g.K.Sink.held c.args.out.now) (g.K.Sink.held c.finish_unserved.new.out) (g.K.Sink.faults c.args.out.now) (g.K.Sink.faults c.finish_unserved.new.out) c.finish_unserved.result c.in-Err.unserved c.in-Err.ensures.session c.finish_unserved.ensures.status

pub returns-in-Err-clause-read_line : goal.returns-in-Err-clause-read_line
returns-in-Err-clause-read_line g c = λ z. inl (err_read_line _ (g.H.House.tells c.args.house.now) (g.H.House.file c.args.house.now) (g.H.House.file c.serve_files.new.house) _ _ _ c.in-Some.ensures (g.H.House.opened c.args.house.now) (g.H.House.opened c.serve_files.new.house) (g.K.Sink.held c.args.out.now) (g.K.Sink.held c.finish_unserved.new.out) (g.K.Sink.faults c.args.out.now) (g.K.Sink.faults c.finish_unserved.new.out) c.finish_unserved.result c.in-Err.unserved c.finish_unserved.ensures.line c.finish_unserved.ensures.status z, err_read_why _ (g.H.House.tells c.args.house.now) (g.H.House.file c.args.house.now) (g.H.House.file c.serve_files.new.house) _ _ _ c.in-Some.ensures (g.H.House.opened c.args.house.now) (g.H.House.opened c.serve_files.new.house) (g.K.Sink.held c.args.out.now) (g.K.Sink.held c.finish_unserved.new.out) (g.K.Sink.faults c.args.out.now) (g.K.Sink.faults c.finish_unserved.new.out) c.finish_unserved.result c.in-Err.unserved c.in-Err.ensures.session c.finish_unserved.ensures.status z)

pub returns-in-Err-clause-write : goal.returns-in-Err-clause-write
returns-in-Err-clause-write g c = err_write _ (g.H.House.tells c.args.house.now) (g.H.House.file c.args.house.now) (g.H.House.file c.serve_files.new.house) _ _ _ c.in-Some.ensures (g.H.House.opened c.args.house.now) (g.H.House.opened c.serve_files.new.house) (g.K.Sink.held c.args.out.now) (g.K.Sink.held c.finish_unserved.new.out) (g.K.Sink.faults c.args.out.now) (g.K.Sink.faults c.finish_unserved.new.out) c.finish_unserved.result c.in-Err.unserved c.in-Err.ensures.session c.finish_unserved.ensures.status

pub returns-in-Err-clause-write_line : goal.returns-in-Err-clause-write_line
returns-in-Err-clause-write_line g c = λ z. inl (err_write_line _ (g.H.House.tells c.args.house.now) (g.H.House.file c.args.house.now) (g.H.House.file c.serve_files.new.house) _ _ _ c.in-Some.ensures (g.H.House.opened c.args.house.now) (g.H.House.opened c.serve_files.new.house) (g.K.Sink.held c.args.out.now) (g.K.Sink.held c.finish_unserved.new.out) (g.K.Sink.faults c.args.out.now) (g.K.Sink.faults c.finish_unserved.new.out) c.finish_unserved.result c.in-Err.unserved c.finish_unserved.ensures.line c.finish_unserved.ensures.status z, err_write_why _ (g.H.House.tells c.args.house.now) (g.H.House.file c.args.house.now) (g.H.House.file c.serve_files.new.house) _ _ _ c.in-Some.ensures (g.H.House.opened c.args.house.now) (g.H.House.opened c.serve_files.new.house) (g.K.Sink.held c.args.out.now) (g.K.Sink.held c.finish_unserved.new.out) (g.K.Sink.faults c.args.out.now) (g.K.Sink.faults c.finish_unserved.new.out) c.finish_unserved.result c.in-Err.unserved c.in-Err.ensures.session c.finish_unserved.ensures.status z)

pub returns-in-Err-clause-memory_line : goal.returns-in-Err-clause-memory_line
returns-in-Err-clause-memory_line g c = err_memory_line _ (g.H.House.tells c.args.house.now) (g.H.House.file c.args.house.now) (g.H.House.file c.serve_files.new.house) _ _ _ c.in-Some.ensures (g.H.House.opened c.args.house.now) (g.H.House.opened c.serve_files.new.house) (g.K.Sink.held c.args.out.now) (g.K.Sink.held c.finish_unserved.new.out) (g.K.Sink.faults c.args.out.now) (g.K.Sink.faults c.finish_unserved.new.out) c.finish_unserved.result c.in-Err.unserved c.finish_unserved.ensures.line c.finish_unserved.ensures.status

pub returns-in-Err-clause-memory : goal.returns-in-Err-clause-memory
returns-in-Err-clause-memory g c = err_memory_why _ (g.H.House.tells c.args.house.now) (g.H.House.file c.args.house.now) (g.H.House.file c.serve_files.new.house) _ _ _ c.in-Some.ensures (g.H.House.opened c.args.house.now) (g.H.House.opened c.serve_files.new.house) (g.K.Sink.held c.args.out.now) (g.K.Sink.held c.finish_unserved.new.out) (g.K.Sink.faults c.args.out.now) (g.K.Sink.faults c.finish_unserved.new.out) c.finish_unserved.result c.in-Err.unserved c.in-Err.ensures.session c.finish_unserved.ensures.status

pub returns-in-Err-clause-file : goal.returns-in-Err-clause-file
returns-in-Err-clause-file g c = err_file _ (g.H.House.tells c.args.house.now) (g.H.House.file c.args.house.now) (g.H.House.file c.serve_files.new.house) _ _ _ c.in-Some.ensures (g.H.House.opened c.args.house.now) (g.H.House.opened c.serve_files.new.house) (g.K.Sink.held c.args.out.now) (g.K.Sink.held c.finish_unserved.new.out) (g.K.Sink.faults c.args.out.now) (g.K.Sink.faults c.finish_unserved.new.out) c.finish_unserved.result c.in-Err.unserved c.in-Err.ensures.session c.finish_unserved.ensures.line c.finish_unserved.ensures.status

pub returns-in-Err-clause-file_kept : goal.returns-in-Err-clause-file_kept
returns-in-Err-clause-file_kept g c = err_kept _ (g.H.House.tells c.args.house.now) (g.H.House.file c.args.house.now) (g.H.House.file c.serve_files.new.house) _ _ _ c.in-Some.ensures (g.H.House.opened c.args.house.now) (g.H.House.opened c.serve_files.new.house) (g.K.Sink.held c.args.out.now) (g.K.Sink.held c.finish_unserved.new.out) (g.K.Sink.faults c.args.out.now) (g.K.Sink.faults c.finish_unserved.new.out) c.finish_unserved.result c.in-Err.unserved c.in-Err.ensures.session c.finish_unserved.ensures.status

pub returns-in-Err-clause-bad_file : goal.returns-in-Err-clause-bad_file
returns-in-Err-clause-bad_file g c = err_bad_file _ (g.H.House.tells c.args.house.now) (g.H.House.file c.args.house.now) (g.H.House.file c.serve_files.new.house) _ _ _ c.in-Some.ensures (g.H.House.opened c.args.house.now) (g.H.House.opened c.serve_files.new.house) (g.K.Sink.held c.args.out.now) (g.K.Sink.held c.finish_unserved.new.out) (g.K.Sink.faults c.args.out.now) (g.K.Sink.faults c.finish_unserved.new.out) c.finish_unserved.result c.in-Err.unserved c.in-Err.ensures.session c.finish_unserved.ensures.status

pub returns-in-Err-clause-complete : goal.returns-in-Err-clause-complete
returns-in-Err-clause-complete g c = λ t reads writes quiet. err_complete _ (g.H.House.tells c.args.house.now) (g.H.House.file c.args.house.now) (g.H.House.file c.serve_files.new.house) _ _ _ c.in-Some.ensures (g.H.House.opened c.args.house.now) (g.H.House.opened c.serve_files.new.house) (g.K.Sink.held c.args.out.now) (g.K.Sink.held c.finish_unserved.new.out) (g.K.Sink.faults c.args.out.now) (g.K.Sink.faults c.finish_unserved.new.out) c.finish_unserved.result c.in-Err.unserved c.in-Err.ensures.session c.finish_unserved.ensures.status t reads writes

pub returns-in-Err-clause-opened : goal.returns-in-Err-clause-opened
returns-in-Err-clause-opened g c = err_opened _ (g.H.House.tells c.args.house.now) (g.H.House.file c.args.house.now) (g.H.House.file c.serve_files.new.house) _ _ _ c.in-Some.ensures (g.H.House.opened c.args.house.now) (g.H.House.opened c.serve_files.new.house) (g.K.Sink.held c.args.out.now) (g.K.Sink.held c.finish_unserved.new.out) (g.K.Sink.faults c.args.out.now) (g.K.Sink.faults c.finish_unserved.new.out) c.finish_unserved.result c.in-Err.unserved c.in-Err.ensures.session

pub returns-in-Err-clause-unopened : goal.returns-in-Err-clause-unopened
returns-in-Err-clause-unopened g c = λ faulty. absurd (faulty _ _ _ c.in-Some.ensures)

pub returns-in-Err-clause-files : goal.returns-in-Err-clause-files
returns-in-Err-clause-files g c = keeps _ (g.H.House.tells c.args.house.now) (g.H.House.file c.args.house.now) (g.H.House.file c.serve_files.new.house) _ _ _ c.in-Some.ensures (g.H.House.opened c.args.house.now) (g.H.House.opened c.serve_files.new.house) (g.K.Sink.held c.args.out.now) (g.K.Sink.held c.finish_unserved.new.out) (g.K.Sink.faults c.args.out.now) (g.K.Sink.faults c.finish_unserved.new.out) c.finish_unserved.result c.in-Err.ensures.others

pub returns-in-Err-clause-untouched : goal.returns-in-Err-clause-untouched
returns-in-Err-clause-untouched g c = λ faulty. absurd (faulty _ _ _ c.in-Some.ensures)

pub returns-in-None-clause-bad_file : goal.returns-in-None-clause-bad_file
returns-in-None-clause-bad_file g c = λ t. absurd (c.in-None.ensures t.paths t.input t.output t.call)

pub returns-in-None-clause-complete : goal.returns-in-None-clause-complete
returns-in-None-clause-complete g c = λ t reads writes quiet. absurd (c.in-None.ensures t.paths t.input t.output t.call)
