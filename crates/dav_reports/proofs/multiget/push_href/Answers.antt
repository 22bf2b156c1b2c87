use Rattle.std.proofs.Common.{◌≡◌, None, Some, refl, sym, ap, ◌∙◌}
use Rattle.std.specs.Prelude.{option_and_then}
use Rattle.cal_base.specs.Lists.NameMap.{value_at}
use Rattle.cal_model.specs.Paths.TargetPaths.{target_path}
use Rattle.cal_model.specs.Properties.PropertyReplies.{status_response}
use Rattle.cal_model.specs.Serving.ReportReplies.{href_response, own_object}
use Rattle.dav_reports.specs.CalendarObjects.{name_at}
use Rattle.dav_reports.specs.MetObjects.{named_response, text_at}
use Rattle.dav_reports.specs.SeenCalendars.{reported_of}
use Rattle.dav_reports.proofs.MetLemmas.{href_foreign, href_met, href_named, said_ok, text_ok, within_ok}
use Rattle.dav_reports.proofs.multiget.push_href.Goals as goal

pub returns-in_default-clause-within : goal.returns-in_default-clause-within
returns-in_default-clause-within g c =
    within_ok c.push_status_response.result c.args.met.now c.args.out.now (status_response c.args.href.now 404) c.push_status_response.new.out c.requires.within c.push_status_response.ensures.text

pub returns-in_default-clause-response : goal.returns-in_default-clause-response
returns-in_default-clause-response g c k may said =
    let reported = reported_of (g.V.View.directory c.args.seen.now.view.now) c.args.seen.now.who c.args.home c.args.calendar.now k in
    let own : option_and_then (own_object reported) (target_path c.args.href.now) ≡ None = sym (c.in_ok-name.ensures.own reported (sym c.user_name-owner.ensures.name) refl) ∙ c.in_default.is in
    text_ok c.push_status_response.result c.args.out.now c.push_status_response.new.out (status_response c.args.href.now 404) (href_response reported c.args.select.now c.args.zone.now c.args.props.now c.args.href.now)
    (sym (href_foreign reported c.args.select.now c.args.zone.now c.args.props.now c.args.href.now own)) c.push_status_response.ensures.text

pub returns-in_default-clause-said : goal.returns-in_default-clause-said
returns-in_default-clause-said g c k may said =
    let reported = reported_of (g.V.View.directory c.args.seen.now.view.now) c.args.seen.now.who c.args.home c.args.calendar.now k in
    said_ok reported c.args.select.now c.args.zone.now c.args.props.now c.push_status_response.result c.args.met.now c.args.out.now (status_response c.args.href.now 404) c.push_status_response.new.out c.requires.within said c.push_status_response.ensures.text

pub returns-in-Some-get-clause-within : goal.returns-in-Some-get-clause-within
returns-in-Some-get-clause-within g c =
    within_ok c.push_again.result c.args.met.now c.args.out.now (text_at c.args.out.now c.in-Some-get.place.now) c.push_again.new.out c.requires.within c.push_again.ensures.text

pub returns-in-Some-get-clause-response : goal.returns-in-Some-get-clause-response
returns-in-Some-get-clause-response g c k may said =
    let reported = reported_of (g.V.View.directory c.args.seen.now.view.now) c.args.seen.now.who c.args.home c.args.calendar.now k in
    let name = c.in-Some.name in
    let place = c.in-Some-get.place.now in
    let own : option_and_then (own_object reported) (target_path c.args.href.now) ≡ Some name = sym (c.in_ok-name.ensures.own reported (sym c.user_name-owner.ensures.name) refl) ∙ c.in-Some.is in
    let found : value_at c.args.met.now name ≡ Some place = ap (value_at c.args.met.now) (sym c.as_slice.ensures) ∙ sym c.in-Some-get.ensures in
    text_ok c.push_again.result c.args.out.now c.push_again.new.out (text_at c.args.out.now place) (href_response reported c.args.select.now c.args.zone.now c.args.props.now c.args.href.now)
    (sym (href_met reported c.args.select.now c.args.zone.now c.args.props.now c.args.href.now name (text_at c.args.out.now place) own (said name place found))) c.push_again.ensures.text

pub returns-in-Some-get-clause-said : goal.returns-in-Some-get-clause-said
returns-in-Some-get-clause-said g c k may said =
    let reported = reported_of (g.V.View.directory c.args.seen.now.view.now) c.args.seen.now.who c.args.home c.args.calendar.now k in
    said_ok reported c.args.select.now c.args.zone.now c.args.props.now c.push_again.result c.args.met.now c.args.out.now (text_at c.args.out.now c.in-Some-get.place.now) c.push_again.new.out c.requires.within said c.push_again.ensures.text

pub returns-clause-response : goal.returns-clause-response
returns-clause-response g c k may said =
    let reported = reported_of (g.V.View.directory c.args.seen.now.view.now) c.args.seen.now.who c.args.home c.args.calendar.now k in
    let name = c.in-Some.name in
    let own : option_and_then (own_object reported) (target_path c.args.href.now) ≡ Some name = sym (c.in_ok-name.ensures.own reported (sym c.user_name-owner.ensures.name) refl) ∙ c.in-Some.is in
    text_ok c.push_new.result c.args.out.now c.push_new.new.out (named_response reported c.args.select.now c.args.zone.now c.args.props.now c.args.href.now name) (href_response reported c.args.select.now c.args.zone.now c.args.props.now c.args.href.now)
    (sym (href_named reported c.args.select.now c.args.zone.now c.args.props.now c.args.href.now name own)) (c.push_new.ensures.response k may)

pub returns-clause-at_most : goal.returns-clause-at_most
returns-clause-at_most g c entries among =
    let named = sym c.in_ok-name.ensures.named ∙ c.in-Some.is in
    c.push_new.ensures.at_most entries (among c.in-Some.name (ap (λ owner. name_at owner c.args.calendar.now c.args.href.now) (sym c.user_name-owner.ensures.name) ∙ named))

pub returns-clause-steps : goal.returns-clause-steps
returns-clause-steps g c entries among =
    let named = sym c.in_ok-name.ensures.named ∙ c.in-Some.is in
    c.push_new.ensures.steps entries (among c.in-Some.name (ap (λ owner. name_at owner c.args.calendar.now c.args.href.now) (sym c.user_name-owner.ensures.name) ∙ named))
