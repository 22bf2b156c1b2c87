use Rattle.std.proofs.Common.{rules, ◌≡◌, is_ok, Bool, false, sym, subst}
use Rattle.cal_keeper.specs.Steps.Drafting.{LaysBlank}
use Rattle.cal_keeper.proofs.DraftForms.{blank_torn, blank_unsettled, draft_begun}
use Rattle.cal_keeper.proofs.drafting.lay_blank.Goals as goal

pub returns-in_err-write_at-clause-lays : goal.returns-in_err-write_at-clause-lays
returns-in_err-write_at-clause-lays g c =
    let failed : is_ok c.from_residual.result ≡ false = search rules in
    subst (λ (ok : Bool). LaysBlank c.args.text.now ok (g.D.Disk.past c.args.disk.now) (g.D.Disk.past c.write_at.new.self)) (sym failed) (blank_torn c.args.text.now _ _ c.in_err-write_at.ensures.torn)

pub returns-in_err-sync-clause-lays : goal.returns-in_err-sync-clause-lays
returns-in_err-sync-clause-lays g c =
    let failed : is_ok c.from_residual-in_err-sync.result ≡ false = search rules in
    subst (λ (ok : Bool). LaysBlank c.args.text.now ok (g.D.Disk.past c.args.disk.now) (g.D.Disk.past c.sync.new.self)) (sym failed)
    (blank_unsettled c.args.text.now _ _ _ c.in_ok-write_at.ensures.written c.in_err-sync.ensures.past_kept)

pub returns-clause-lays : goal.returns-clause-lays
returns-clause-lays g c = draft_begun c.args.text.now _ _ _ _ _ c.in_ok-write_at.ensures.written c.put_long.ensures.puts (search rules)
