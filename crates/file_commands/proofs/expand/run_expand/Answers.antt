use Rattle.file_commands.proofs.FileReads.{expand-said}
use Rattle.file_commands.proofs.expand.run_expand.Goals as goal

pub returns-in-Ok-clause-told : goal.returns-in-Ok-clause-told
returns-in-Ok-clause-told g c =
    expand-said c.expand_file.result (g.O.Sink.written c.args.output.now) (g.O.Sink.written c.expand_file.new.output) (g.F.Files.content c.args.files.now) c.as_slice.result.now c.args.words.now c.in-Ok.words
    c.as_slice.ensures c.in-Ok.ensures.said c.expand_file.ensures.told
