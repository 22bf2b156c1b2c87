-- What a request asks for, where its content suits its method and no fault was found in it.
use Rattle.std.proofs.Common.{◌≡◌, [], None, refl}
use Rattle.std.proofs.lemmas.Bool.{false≢true}
use Rattle.cal_model.specs.declared.report.ReportRequest.{ReportRequest}
use Rattle.cal_model.specs.declared.request.Content.{Content}
use Rattle.cal_model.specs.declared.request.Content.TheVariants as content
use Rattle.cal_model.specs.declared.request.Method.{Method}
use Rattle.cal_model.specs.declared.request.Method.TheVariants.{Report}
use Rattle.cal_model.specs.Refusals.SharedRefusals.{fault_of}
use Rattle.cal_model.specs.Requests.MethodContents.{Suits}
use Rattle.cal_model.specs.Serving.ReadingReplies.{report_rows}

-- a REPORT asks for a report
pub report-asked : (asked : Content) → Suits Report asked → fault_of asked ≡ None → ((report : ReportRequest) → asked ≡ content.Report report → ⊥) → ⊥
report-asked content.None suits good other = absurd (false≢true suits)
report-asked (content.Put media octets) suits good other = absurd cc
report-asked (content.Find props deep) suits good other = let never = suits.0 in absurd cc
report-asked (content.Patch sets) suits good other = absurd cc
report-asked (content.Make sets) suits good other = absurd cc
report-asked (content.Acl grants) suits good other = let never = suits.0 in absurd cc
report-asked (content.Report report) suits good other = other report refl
report-asked (content.Bad refusal) suits good other = absurd cc

-- no other method asks for a report
pub plain-rows : (asked : Content) (method : Method) → Suits method asked → (method ≡ Report → ⊥) → report_rows asked ≡ []
plain-rows content.None method suits other = refl
plain-rows (content.Put media octets) method suits other = refl
plain-rows (content.Find props deep) method suits other = refl
plain-rows (content.Patch sets) method suits other = refl
plain-rows (content.Make sets) method suits other = refl
plain-rows (content.Acl grants) method suits other = refl
plain-rows (content.Report report) method suits other = absurd (other suits.0)
plain-rows (content.Bad refusal) method suits other = refl
