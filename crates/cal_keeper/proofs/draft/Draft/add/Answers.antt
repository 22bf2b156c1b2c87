use Rattle.std.proofs.Common.{true, false, sym, subst}
use Rattle.std.proofs.lemmas.Bool.{false≢true}
use Rattle.cal_journal.specs.KeptEntries.{kept_entry}
use Rattle.cal_keeper.specs.declared.principals.PrincipalCounts.{PrincipalCounts}
use Rattle.cal_keeper.specs.Files.Payloads.{HasForm}
use Rattle.cal_keeper.specs.Principals.{counts_of}
use Rattle.cal_keeper.proofs.DraftEntries.{drafts_told}
use Rattle.cal_keeper.proofs.draft.Draft.add.Goals as goal

pub returns-in-Ok-clause-drafts : goal.returns-in-Ok-clause-drafts
returns-in-Ok-clause-drafts g c = λ users same.
    let form : HasForm (counts_of users) (kept_entry c.args.entry.now) = subst (λ (counts : PrincipalCounts). HasForm counts (kept_entry c.args.entry.now)) (sym same) c.requires.form in
    rw (← c.self.view_is) (drafts_told users (kept_entry c.args.entry.now) form c.self.inside.place c.in-Ok.next true _ _ (λ ok. c.in-Ok.ensures.next) c.in-Ok.ensures.puts)

pub returns-in-Err-clause-drafts : goal.returns-in-Err-clause-drafts
returns-in-Err-clause-drafts g c = λ users same.
    let form : HasForm (counts_of users) (kept_entry c.args.entry.now) = subst (λ (counts : PrincipalCounts). HasForm counts (kept_entry c.args.entry.now)) (sym same) c.requires.form in
    rw (← c.self.view_is) (drafts_told users (kept_entry c.args.entry.now) form c.self.inside.place c.self.inside.place false _ _ (λ ok. absurd (false≢true ok)) c.in-Err.ensures.puts)
