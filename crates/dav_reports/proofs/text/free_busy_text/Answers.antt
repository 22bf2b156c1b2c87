use Rattle.std.proofs.Common.{rules, arith, ap, length, FitsSigned, w64, to_z-of_z}
use Rattle.cal_model.specs.Refusals.RequestLimits.{answer_limit}
use Rattle.dav_reports.proofs.FreeBusyJoined.{front_long, text_joined}
use Rattle.dav_reports.proofs.text.free_busy_text.Goals as goal

pub returns-then-not-branch : goal.returns-then-not-branch
returns-then-not-branch c =
    let fits : FitsSigned w64 c.args.moment = search rules in
    let head = rw c.new-out.ensures at (simp to_z-of_z at c.in_ok-put_head.ensures) in
    front_long answer_limit c.put_head.new.out c.args.moment c.args.range c.args.runs.now head (rw c.if-not-branch.true at c.in_ok-put_runs.ensures)

pub returns-then-len-gt-ANSWER_LIMIT : goal.returns-then-len-gt-ANSWER_LIMIT
returns-then-len-gt-ANSWER_LIMIT c =
    let fits : FitsSigned w64 c.args.moment = search rules in
    let head = rw c.new-out.ensures at (simp to_z-of_z at c.in_ok-put_head.ensures) in
    let whole = text_joined c.put_head.new.out c.put_runs.new.out c.extend_from_slice.new.self c.args.moment c.args.range c.args.runs.now head (rw c.if-not-branch.false at c.in_ok-put_runs.ensures) c.in_ok-extend_from_slice.ensures.ok in
    let size = ap length whole in
    let len = c.len.ensures in
    let long = c.if-len-gt-ANSWER_LIMIT.true in
    omega (arith, size, len, long)

pub returns : goal.returns
returns c =
    let fits : FitsSigned w64 c.args.moment = search rules in
    let head = rw c.new-out.ensures at (simp to_z-of_z at c.in_ok-put_head.ensures) in
    let whole = text_joined c.put_head.new.out c.put_runs.new.out c.extend_from_slice.new.self c.args.moment c.args.range c.args.runs.now head (rw c.if-not-branch.false at c.in_ok-put_runs.ensures) c.in_ok-extend_from_slice.ensures.ok in
    let size = ap length whole in
    let len = c.len.ensures in
    let short = c.if-len-gt-ANSWER_LIMIT.false in
    (whole, omega (arith, size, len, short))
