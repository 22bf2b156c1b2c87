use Rattle.std.proofs.Common.{rules, FitsSigned, w64, to_z-of_z}
use Rattle.std.proofs.lemmas.Result.{on_ok_weaker}
use Rattle.ics_tool.proofs.LineSteps.{floating_put, instant_put}
use Rattle.ics_tool.proofs.lines.put_moment.Goals as goal

pub returns-in-Instant : goal.returns-in-Instant
returns-in-Instant c =
    let fits : FitsSigned w64 c.args.seconds = search rules in
    let spelled = simp to_z-of_z at c.write_utc-text.ensures.text in
    on_ok_weaker c.extend_from_slice.result
    (λ e. instant_put c.args.kind c.args.seconds c.args.out.now c.extend_from_slice.new.self c.write_utc-text.result c.in-Instant.is spelled e)
    c.extend_from_slice.ensures.ok

pub returns-in-Floating : goal.returns-in-Floating
returns-in-Floating c =
    let fits : FitsSigned w64 c.args.seconds = search rules in
    let spelled = simp to_z-of_z at c.write_utc-text.ensures.text in
    on_ok_weaker c.extend_from_slice-in-Floating.result
    (λ e. floating_put c.args.kind c.args.seconds c.args.out.now c.extend_from_slice-in-Floating.new.self c.write_utc-text.result c.in-Floating.is spelled e)
    c.extend_from_slice-in-Floating.ensures.ok
