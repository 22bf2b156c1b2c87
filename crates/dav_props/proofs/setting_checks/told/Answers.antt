use Rattle.std.proofs.Common.{arith, false}
use Rattle.cal_model.specs.Properties.Settings.{faults_of_all}
use Rattle.cal_model.specs.Serving.EventReplies.{all_set}
use Rattle.dav_props.proofs.FaultLemmas.{no_fault, a_fault, tells, tells_none, set_names, fault_names}
use Rattle.dav_props.proofs.setting_checks.told.Goals as goal

pub returns-then-len-eq0 : goal.returns-then-len-eq0
returns-then-len-eq0 c texts is =
    let refused = c.args.refused.now in
    let sets = c.args.sets.now in
    record {
      no_fault = no_fault refused (faults_of_all false texts sets) is (omega (arith, c.len.ensures.len, c.if-len-eq0.true));
      reply_is = c.in_ok-reply.ensures (all_set sets) (set_names sets) (tells_none refused sets (omega (arith, c.len.ensures.len, c.if-len-eq0.true)));
    }

pub returns : goal.returns
returns c texts is =
    let refused = c.args.refused.now in
    let sets = c.args.sets.now in
    record {
      fault = a_fault refused (faults_of_all false texts sets) is (omega (arith, c.len.ensures.len, c.if-len-eq0.false));
      reply_is = c.in_ok-reply-2.ensures (faults_of_all false texts sets) (fault_names false texts sets) (tells refused (faults_of_all false texts sets) is);
    }
