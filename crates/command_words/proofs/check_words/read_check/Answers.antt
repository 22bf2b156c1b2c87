use Rattle.std.proofs.Common.{◌≡◌, ◌∙◌, [], codes}
use Rattle.clap.specs.Words.{fault_of, found_of, matches_of, rows_of}
use Rattle.command_words.specs.CheckWords.{check}
use Rattle.command_words.proofs.CommandLaws.{at_command, not_taken, text_said}
use Rattle.command_words.proofs.CheckWordLaws.{plain_made, simple_made}
use Rattle.command_words.proofs.check_words.read_check.Goals as goal

pub returns-in-Err-clause-untaken : goal.returns-in-Err-clause-untaken
returns-in-Err-clause-untaken c = λ h takes.
    not_taken check _ c.args.words.now c.in-Err.error c.in-Ok.ensures (c.in-Err.ensures.kinds (simple_made _ c.in-Ok.ensures)) (c.why_untaken.ensures cc) takes

pub returns-in-Ok-try_get_matches_from-clause-taken : goal.returns-in-Ok-try_get_matches_from-clause-taken
returns-in-Ok-try_get_matches_from-clause-taken c =
    at_command check _ c.args.words.now (λ a l. fault_of a l ≡ []) c.in-Ok.ensures (c.in-Ok-try_get_matches_from.ensures.kinds (simple_made _ c.in-Ok.ensures))

pub returns-in-Ok-try_get_matches_from-clause-said : goal.returns-in-Ok-try_get_matches_from-clause-said
returns-in-Ok-try_get_matches_from-clause-said c =
    let m = c.in-Ok-try_get_matches_from.matches in
    let ws = c.args.words.now in
    let rows = at_command check _ ws (λ a l. rows_of (found_of m) ≡ matches_of a l) c.in-Ok.ensures (c.in-Ok-try_get_matches_from.ensures.matches (plain_made _ c.in-Ok.ensures)).0 in
    c.text_of.ensures ∙ text_said check m ws (codes "file") rows
