use Rattle.std.proofs.Common.{◌∙◌, ap}
use Rattle.command_words.specs.CheckWords.{file_path}
use Rattle.file_commands.proofs.FileReads.{check-said}
use Rattle.file_commands.proofs.check.run_check.Goals as goal

pub returns-in-Ok-clause-told : goal.returns-in-Ok-clause-told
returns-in-Ok-clause-told g c =
    check-said c.check_file.result (g.O.Sink.written c.args.output.now) (g.O.Sink.written c.check_file.new.output) (g.F.Files.content c.args.files.now) c.in-Ok.path.now (file_path c.args.words.now)
    (c.in-Ok.ensures.said ∙ ap file_path c.as_slice.ensures) c.check_file.ensures.told
