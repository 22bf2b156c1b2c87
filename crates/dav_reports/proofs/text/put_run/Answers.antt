use Rattle.std.proofs.lemmas.Result.{on_ok_weaker}
use Rattle.dav_reports.proofs.FreeBusyJoined.{run_joined}
use Rattle.dav_reports.proofs.text.put_run.Goals as goal

pub returns : goal.returns
returns c =
    on_ok_weaker c.put_moment_line.result
    (λ e. run_joined c.args.out.now c.run_name.result.now c.extend_from_slice.new.self c.put_moment.new.out c.put_moment_line.new.out c.args.run c.run_name.ensures c.in_ok-extend_from_slice.ensures.ok c.in_ok-put_moment.ensures e)
    c.put_moment_line.ensures
