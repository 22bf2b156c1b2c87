use Rattle.std.proofs.Common.{rules, FitsSigned, w64, to_z-of_z}
use Rattle.std.proofs.lemmas.Result.{on_ok_weaker}
use Rattle.dav_reports.proofs.FreeBusyJoined.{head_joined}
use Rattle.dav_reports.proofs.text.put_head.Goals as goal

pub returns : goal.returns
returns c =
    let fits : FitsSigned w64 c.args.moment = search rules in
    let first = simp to_z-of_z at c.in_ok-put_moment_line.ensures in
    on_ok_weaker c.put_moment_line-3.result
    (λ e. head_joined c.args.out.now c.put_moment_line.new.out c.put_moment_line-2.new.out c.put_moment_line-3.new.out c.args.moment c.args.range first c.in_ok-put_moment_line-2.ensures e)
    c.put_moment_line-3.ensures
