use Rattle.std.proofs.Common.{◌∙◌, ap, codes}
use Rattle.std.specs.Prelude.{Some}
use Rattle.command_words.proofs.JournalLaws.{names_next, names_within, stripped}
use Rattle.command_words.proofs.journal_words.path_named.Goals as goal

pub returns-then-eq : goal.returns-then-eq
returns-then-eq c = ap Some c.first_or_empty.ensures ∙ names_next c.args.word.now c.args.behind.now c.eq.result c.eq.ensures c.if-eq.true

pub returns : goal.returns
returns c =
    stripped (codes "--journal=") c.args.word.now c.strip_prefix.result c.strip_prefix.ensures.cases ∙ names_within c.args.word.now c.args.behind.now c.eq.result c.eq.ensures c.if-eq.false
