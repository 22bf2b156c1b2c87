use Rattle.cal_model.proofs.Bodies.AclSizes.{acls_fit}
use Rattle.cal_model.proofs.Bodies.BodySizes.{finds_fit, patches_fit, makes_fit, reports_fit}
use Rattle.cal_model.proofs.Bodies.GrantLaws.{grants_are_among}
use Rattle.cal_model.proofs.Bodies.SoundReportLaws.{reports_are_sound}
use Rattle.cal_model.proofs.Requests.BookableLaws.{requests_are_bookable, requests_fit}
use Rattle.dav_request.proofs.laws.request_laws.Goals as goal

pub returns-clause-bookable : goal.returns-clause-bookable
returns-clause-bookable c = requests_are_bookable

pub returns-clause-fit : goal.returns-clause-fit
returns-clause-fit c = requests_fit

pub returns-clause-grants : goal.returns-clause-grants
returns-clause-grants c = grants_are_among

pub returns-clause-reports : goal.returns-clause-reports
returns-clause-reports c = reports_are_sound

pub returns-clause-finds_fit : goal.returns-clause-finds_fit
returns-clause-finds_fit c = finds_fit

pub returns-clause-patches_fit : goal.returns-clause-patches_fit
returns-clause-patches_fit c = patches_fit

pub returns-clause-makes_fit : goal.returns-clause-makes_fit
returns-clause-makes_fit c = makes_fit

pub returns-clause-reports_fit : goal.returns-clause-reports_fit
returns-clause-reports_fit c = reports_fit

pub returns-clause-acls_fit : goal.returns-clause-acls_fit
returns-clause-acls_fit c = acls_fit
