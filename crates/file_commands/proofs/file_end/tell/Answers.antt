use Rattle.std.proofs.Common.{subst}
use Rattle.ics_tool.specs.Answers.{IsAnswer}
use Rattle.file_commands.proofs.FileLaws.{refused-told, zone_refused-told}
use Rattle.file_commands.proofs.file_end.tell.Goals as goal

pub returns-in-Refused-clause-told : goal.returns-in-Refused-clause-told
returns-in-Refused-clause-told g c = λ listing is.
    refused-told c.args.file.now c.args.zone.now listing c.refused_end.result (g.O.Sink.written c.args.output.now) (g.O.Sink.written c.args.output.now) c.in-Refused.fault
    (subst (IsAnswer listing) c.in-Refused.is is) (λ why said. c.refused_end.ensures.told why said (g.O.Sink.written c.args.output.now) (g.O.Sink.written c.args.output.now))

pub returns-in-ZoneRefused-clause-told : goal.returns-in-ZoneRefused-clause-told
returns-in-ZoneRefused-clause-told g c = λ listing is.
    zone_refused-told c.args.file.now c.args.zone.now listing c.refused_end-in-ZoneRefused.result (g.O.Sink.written c.args.output.now) (g.O.Sink.written c.args.output.now) c.in-ZoneRefused.fault
    (subst (IsAnswer listing) c.in-ZoneRefused.is is) (λ why said. c.refused_end-in-ZoneRefused.ensures.told why said (g.O.Sink.written c.args.output.now) (g.O.Sink.written c.args.output.now))
