use Rattle.std.proofs.Common.{subst, sym, ◌∙◌}
use Rattle.cal_model.specs.Transcripts.Transcript.{IsPrinted, IsPrintedInPart}
use Rattle.cal_model.specs.Users.UsersFile.{Users}
use Rattle.cal_script.specs.ScriptEnds.{HasEnded, run_told}
use Rattle.cal_script.proofs.RunLemmas.{nothing_at_start, opening_book, run_from_start}
use Rattle.cal_script.proofs.running.run_frames.Goals as goal

pub returns-in_default-clause-ended : goal.returns-in_default-clause-ended
returns-in_default-clause-ended g c = nothing_at_start _ (g.I.Source.left c.args.input.now) (g.O.Sink.written c.args.output.now)

pub returns-in_default-start-clause-ended : goal.returns-in_default-start-clause-ended
returns-in_default-start-clause-ended g c = nothing_at_start _ (g.I.Source.left c.args.input.now) (g.O.Sink.written c.args.output.now)

pub returns-clause-ended : goal.returns-clause-ended
returns-clause-ended g c =
    subst
    (λ (users : Users). HasEnded (IsPrinted users) (IsPrintedInPart users) c.in-End.end (run_told g.I.Source g.O.Sink c.args.input.now c.frames_on.new.input c.args.output.now c.frames_on.new.output))
    c.deref.ensures
    (run_from_start c.deref.result.now _ _ c.in-End.end _ (opening_book c.in-Ok-start.book c.deref.result.now (c.in-Ok-start.ensures.users ∙ (c.in-Ok.ensures ∙ sym c.deref.ensures)) c.in-Ok-start.ensures.work)
    c.in-End.ensures.ended)
