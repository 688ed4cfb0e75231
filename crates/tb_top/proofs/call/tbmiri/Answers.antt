use Rattle.std.proofs.Common.{◌∙◌, sym, subst}
use Rattle.tb_base.specs.Growth.{Grew, GrewByPrefix}
use Rattle.tb_base.proofs.GrowthLaws.{Grew-start, GrewByPrefix-whole}
use Rattle.tb_eval.specs.Run.{whole_run}
use Rattle.tb_top.specs.Output.{Output, ran, Ran}
use Rattle.tb_top.proofs.Ends.{ended, told_source, lowered_out}
use Rattle.tb_top.proofs.ReportLaws.{err_front, memory_line, read_line, whole_of}
use Rattle.tb_top.proofs.call.tbmiri.Goals as goal

pub returns-in-Ok-clause-answers : goal.returns-in-Ok-clause-answers
returns-in-Ok-clause-answers g c =
    let run = c.in-Ok.ensures in
    let err = g.E.Sink.bytes c.args.err.now in
    λ no tells calm out quiet. (
      ran run.source (whole_run run.mir),
      Ran run.source (told_source _ _ _ run.source run.lowered.read tells) run.lowered.size run.lowered.tree run.lowered.related run.mir run.lowered.program,
      (sym run.answer, run.put, subst (λ text. Grew err err text) (sym run.text) (Grew-start err)),
    )

pub returns-in-Ok-clause-out_front : goal.returns-in-Ok-clause-out_front
returns-in-Ok-clause-out_front g c =
    let run = c.in-Ok.ensures in
    let before = g.O.Sink.bytes c.args.out.now in
    let after = g.O.Sink.bytes c.run.new.out in
    λ output is. subst (λ (o : Output). GrewByPrefix before after o.out) (sym (lowered_out _ _ _ run.source run.mir output run.lowered is)) (GrewByPrefix-whole before after (whole_run run.mir).printed run.put)

pub returns-in-Err-clause-answers : goal.returns-in-Err-clause-answers
returns-in-Err-clause-answers g c =
    λ no tells calm out quiet.
    let line = whole_of c.in-Err.why _ _ _ _ _ c.report.ensures quiet in
    let end = (ended (Unit {0}) _ _ _ c.in-Err.why c.in-Err.ensures).answer (λ e. no (line.answer ∙ e)) tells calm out in
    (end.output, end.is, (line.answer ∙ end.status, end.out, subst (λ text. Grew (g.E.Sink.bytes c.args.err.now) (g.E.Sink.bytes c.report.new.err) text) end.err line.line))

pub returns-in-Err-clause-out_front : goal.returns-in-Err-clause-out_front
returns-in-Err-clause-out_front g c = (ended (Unit {0}) _ _ _ c.in-Err.why c.in-Err.ensures).out_front

pub returns-in-Err-clause-err_front : goal.returns-in-Err-clause-err_front
returns-in-Err-clause-err_front g c = err_front _ _ c.in-Err.why _ _ _ _ _ c.report.ensures (ended (Unit {0}) _ _ _ c.in-Err.why c.in-Err.ensures).err

pub returns-in-Err-clause-read_line : goal.returns-in-Err-clause-read_line
returns-in-Err-clause-read_line g c = λ rose. read_line c.in-Err.why _ _ _ _ _ c.report.ensures ((ended (Unit {0}) _ _ _ c.in-Err.why c.in-Err.ensures).read_failed rose)

pub returns-in-Err-clause-memory_front : goal.returns-in-Err-clause-memory_front
returns-in-Err-clause-memory_front g c = λ e. memory_line c.in-Err.why _ _ _ _ _ c.report.ensures e
