use Rattle.std.proofs.Common.{rules, ◌≡◌, is_ok, Bool, true, false, sym, subst}
use Rattle.cal_journal.specs.KeptEntries.{kept_entry}
use Rattle.cal_keeper.specs.Files.Payloads.{payload_of}
use Rattle.cal_keeper.specs.Steps.Committing.{Commits}
use Rattle.cal_keeper.proofs.Commits.{commit_unstaged, commit_staged}
use Rattle.cal_keeper.proofs.commit.commit.Goals as goal

pub returns-in_err-end-clause-commits : goal.returns-in_err-end-clause-commits
returns-in_err-end-clause-commits g c =
    let failed : is_ok c.from_residual.result ≡ false = search rules in
    subst (λ (ok : Bool). Commits c.args.place (payload_of (kept_entry c.args.entry.now)) ok (g.D.Disk.past c.args.disk.now) (g.D.Disk.past c.stage.new.disk)) (sym failed)
    (commit_unstaged (payload_of (kept_entry c.args.entry.now)) c.args.place _ _ c.in_err-end.ensures.puts)

pub returns-in_err-replace-clause-commits : goal.returns-in_err-replace-clause-commits
returns-in_err-replace-clause-commits g c =
    let failed : is_ok c.from_residual-in_err-replace.result ≡ false = search rules in
    subst (λ (ok : Bool). Commits c.args.place (payload_of (kept_entry c.args.entry.now)) ok (g.D.Disk.past c.args.disk.now) (g.D.Disk.past c.replace.new.disk)) (sym failed)
    (commit_staged (payload_of (kept_entry c.args.entry.now)) c.args.place false _ _ _ c.in_ok-end.ensures.puts c.in_err-replace.ensures.replaces)

pub returns-clause-commits : goal.returns-clause-commits
returns-clause-commits g c =
    commit_staged (payload_of (kept_entry c.args.entry.now)) c.args.place true _ _ _ c.in_ok-end.ensures.puts c.in_ok-replace.ensures.replaces
