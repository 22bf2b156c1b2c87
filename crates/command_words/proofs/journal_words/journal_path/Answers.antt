use Rattle.std.proofs.Common.{◌∙◌, sym, ap}
use Rattle.clap.specs.Words.{Text}
use Rattle.command_words.specs.JournalWords.{path_named}
use Rattle.command_words.proofs.JournalLaws.{goes_on, stops}
use Rattle.command_words.proofs.journal_words.journal_path.Goals as goal

pub words-preserved : goal.words-preserved
words-preserved c =
    let behind = c.in-Some.behind.now in
    let named = c.path_named-named.ensures ∙ ap (λ (word : Text). path_named word behind) c.as_str.ensures in
    goes_on c.words.rest.now c.in-Some.word.now behind c.path_named-named.result c.in-Some.ensures.cases.0 named (sym c.is_some.ensures ∙ c.if-is_some.false) ∙ c.words.invariant

pub returns-then-is_some : goal.returns-then-is_some
returns-then-is_some c =
    let behind = c.in-Some.behind.now in
    let named = c.path_named-named.ensures ∙ ap (λ (word : Text). path_named word behind) c.as_str.ensures in
    stops c.words.rest.now c.in-Some.word.now behind c.path_named-named.result c.in-Some.ensures.cases.0 named (sym c.is_some.ensures ∙ c.if-is_some.true) ∙ c.words.invariant
