use Rattle.std.proofs.Common.{◌≡◌, []}
use Rattle.clap.specs.Words.{fault_of, found_of, matches_of, rows_of}
use Rattle.command_words.specs.MigrateWords.{migrate}
use Rattle.command_words.proofs.CommandLaws.{at_command, not_taken}
use Rattle.command_words.proofs.MigrateWordLaws.{plain_made, refused, said, simple_made, taken}
use Rattle.command_words.proofs.migrate_words.read_migrate.Goals as goal

pub returns-in-Err-clause-untaken : goal.returns-in-Err-clause-untaken
returns-in-Err-clause-untaken c = λ h takes.
    not_taken migrate _ c.args.words.now c.in-Err.error c.in-Ok.ensures (c.in-Err.ensures.kinds (simple_made _ c.in-Ok.ensures)) (c.why_untaken.ensures cc) takes.0

pub returns-in-Ok-try_get_matches_from-clause-taken : goal.returns-in-Ok-try_get_matches_from-clause-taken
returns-in-Ok-try_get_matches_from-clause-taken c =
    let m = c.in-Ok-try_get_matches_from.matches in
    let ws = c.args.words.now in
    let rows = at_command migrate _ ws (λ a l. rows_of (found_of m) ≡ matches_of a l) c.in-Ok.ensures (c.in-Ok-try_get_matches_from.ensures.matches (plain_made _ c.in-Ok.ensures)).0 in
    let faultless = at_command migrate _ ws (λ a l. fault_of a l ≡ []) c.in-Ok.ensures (c.in-Ok-try_get_matches_from.ensures.kinds (simple_made _ c.in-Ok.ensures)) in
    taken m ws rows c.chosen.result faultless c.chosen.ensures.chosen

pub returns-in-Ok-try_get_matches_from-clause-said : goal.returns-in-Ok-try_get_matches_from-clause-said
returns-in-Ok-try_get_matches_from-clause-said c =
    let m = c.in-Ok-try_get_matches_from.matches in
    let ws = c.args.words.now in
    let rows = at_command migrate _ ws (λ a l. rows_of (found_of m) ≡ matches_of a l) c.in-Ok.ensures (c.in-Ok-try_get_matches_from.ensures.matches (plain_made _ c.in-Ok.ensures)).0 in
    said m ws rows c.chosen.result c.chosen.ensures.said

pub returns-in-Ok-try_get_matches_from-clause-untaken : goal.returns-in-Ok-try_get_matches_from-clause-untaken
returns-in-Ok-try_get_matches_from-clause-untaken c =
    let m = c.in-Ok-try_get_matches_from.matches in
    let ws = c.args.words.now in
    let rows = at_command migrate _ ws (λ a l. rows_of (found_of m) ≡ matches_of a l) c.in-Ok.ensures (c.in-Ok-try_get_matches_from.ensures.matches (plain_made _ c.in-Ok.ensures)).0 in
    refused m ws rows c.chosen.result c.chosen.ensures.refused
