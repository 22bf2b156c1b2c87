use Rattle.std.proofs.Common.{rules, ◌≡◌, is_ok, Bool, false, sym, subst}
use Rattle.cal_keeper.specs.Steps.Drafting.{Seals}
use Rattle.cal_keeper.proofs.DraftForms.{seal_ungated, seal_gated}
use Rattle.cal_keeper.proofs.draft.seal.Goals as goal

pub returns-in_err-put-clause-seals : goal.returns-in_err-put-clause-seals
returns-in_err-put-clause-seals g c =
    let failed : is_ok c.from_residual.result ≡ false = search rules in
    subst (λ (ok : Bool). Seals c.args.place ok (g.D.Disk.past c.args.disk.now) (g.D.Disk.past c.put.new.disk)) (sym failed) (seal_ungated c.args.place _ _ c.in_err-put.ensures.puts)

pub returns-clause-seals : goal.returns-clause-seals
returns-clause-seals g c = seal_gated c.args.place _ _ _ _ c.in_ok-put.ensures.puts c.replace.ensures.replaces
