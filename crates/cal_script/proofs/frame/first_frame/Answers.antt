use Rattle.std.proofs.Common.{arith, subst}
use Rattle.cal_script.specs.FrameHeads.{IsHead}
use Rattle.cal_script.proofs.FrameLemmas.{never_frame_without_feed, never_frame_by_line, never_frame_by_end, whole_bytes, whole_worker}
use Rattle.cal_script.proofs.frame.first_frame.Goals as goal

pub returns-else-octets-le-LONGEST_LINE : goal.returns-else-octets-le-LONGEST_LINE
returns-else-octets-le-LONGEST_LINE c = never_frame_without_feed c.args.octets.now c.in_default.ensures (omega arith)

pub returns-in-Some-Worker : goal.returns-in-Some-Worker
returns-in-Some-Worker c =
    whole_worker _ _ _ _ _ (record { cut = c.in-Some.ensures }) (subst (λ head. IsHead c.in-Some.line.now head) c.in-Some-Worker.field-0-is c.in-Some-Worker.ensures)

pub returns-in-None : goal.returns-in-None
returns-in-None c = never_frame_by_line _ _ _ (record { cut = c.in-Some.ensures }) c.in-None.ensures

pub returns-then-rest-coming-ne10 : goal.returns-then-rest-coming-ne10
returns-then-rest-coming-ne10 c =
    never_frame_by_end _ _ _ _ (record { cut = c.in-Some.ensures }) (subst (λ head. IsHead c.in-Some.line.now head) c.in-Some-Bytes.field-0-is c.in-Some-Bytes.ensures) c.if-rest-coming.false c.if-rest-coming-ne10.true

pub returns : goal.returns
returns c =
    rw c.behind.ensures (whole_bytes c.args.octets.now _ _ _ (record { cut = c.in-Some.ensures }) (subst (λ head. IsHead c.in-Some.line.now head) c.in-Some-Bytes.field-0-is c.in-Some-Bytes.ensures) c.if-rest-coming.false c.if-rest-coming-ne10.false)
