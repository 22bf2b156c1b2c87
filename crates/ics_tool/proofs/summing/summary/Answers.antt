use Rattle.std.proofs.Common.{refl, sym, subst, ap}
use Rattle.cal_model.specs.Objects.ObjectReading.{read_object}
use Rattle.ics_tool.specs.Answers.{IsAnswer}
use Rattle.ics_tool.specs.Listings.{file_summary, summary_of}
use Rattle.ics_tool.proofs.AnswerLaws.{refusal-told}
use Rattle.ics_tool.proofs.summing.summary.Goals as goal

pub object_summary-requires-clause-read : goal.object_summary-requires-clause-read
object_summary-requires-clause-read c = record { octets = c.args.octets.now; reading = c.in-Ok.ensures.ok }

pub returns-in-Ok : goal.returns-in-Ok
returns-in-Ok c = subst (λ told. IsAnswer told c.object_summary.result) (sym (ap summary_of c.in-Ok.ensures.ok)) c.object_summary.ensures

pub returns-in-Err : goal.returns-in-Err
returns-in-Err c = subst (IsAnswer (file_summary c.args.octets.now)) (sym c.refusal.ensures) (refusal-told summary_of (λ why. refl) (read_object c.args.octets.now) c.in-Err.fault c.in-Err.ensures.fault)
