use Rattle.std.proofs.Common.{◌≡◌, ℕ, List, [], ◌+◌, ◌≤◌, ◌++◌, Some, length, sym, ap, ◌∙◌, subst, arith}
use Rattle.std.proofs.lemmas.Result.{on_ok_weaker}
use Rattle.cal_base.specs.Lists.NameMap.{value_at, with_value}
use Rattle.cal_model.specs.declared.property.Props.TheVariants.{None as NoProps}
use Rattle.cal_model.specs.declared.report.ReportRequest.TheVariants.{Multiget}
use Rattle.cal_model.specs.declared.stored.Stored.{Stored}
use Rattle.cal_model.specs.Properties.PropertyReplies.{status_response}
use Rattle.cal_model.specs.Serving.ReportReplies.{object_response}
use Rattle.cal_model.specs.State.ServerState.{octets_at}
use Rattle.rrule_sets.proofs.AskedLemmas.{on_ok_both}
use Rattle.object_walk.specs.WalkedObjects.{objects_at}
use Rattle.dav_reports.specs.CalendarObjects.{IsHeldRight}
use Rattle.dav_reports.specs.MetObjects.{AreWithin, Met, place_behind, unmet_cost}
use Rattle.dav_reports.specs.PieceRows.{AreRowsOf, IsKept}
use Rattle.dav_reports.specs.SeenCalendars.{reported_of}
use Rattle.dav_reports.proofs.CalendarWalks.{IsServed, all_served, entry_cost-known}
use Rattle.dav_reports.proofs.KeptObjects.{IsKept-stored}
use Rattle.dav_reports.proofs.MetLemmas.{found_among, met_ok, object_among, object_in, response_there, said_ok, unmet_one, unmet_with, within_next}
use Rattle.dav_reports.proofs.multiget.push_new.Goals as goal

pub returns-in_default-clause-said : goal.returns-in_default-clause-said
returns-in_default-clause-said g c k may said =
    let reported = reported_of (g.V.View.directory c.args.seen.now.view.now) c.args.seen.now.who c.args.home c.args.calendar.now k in
    said_ok reported c.args.select.now c.args.zone.now c.args.props.now c.push_status_response.result c.args.met.now c.args.out.now (status_response c.args.href.now 404) c.push_status_response.new.out c.requires.within said c.push_status_response.ensures.text

pub push_found-requires-clause-kept : goal.push_found-requires-clause-kept
push_found-requires-clause-kept g c =
    let directory = g.V.View.directory c.args.seen.now.view.now in
    let state = g.V.View.state c.args.seen.now.view.now in
    let stored = c.in-Some.stored.now in
    let found : octets_at state c.args.home c.args.calendar.now c.args.name ≡ Some stored.octets = ap (octets_at state c.args.home c.args.calendar.now) (sym c.as_slice.ensures) ∙ sym c.in-Some.ensures.octets in
    let among = object_among state c.args.home c.args.calendar.now c.args.name stored.octets found in
    let served = found_among IsServed (objects_at state c.args.home c.args.calendar.now) c.args.name stored.octets (all_served directory state c.args.home c.args.calendar.now c.requires.sound) among in
    subst (λ (s : Stored). IsKept s.object) (sym c.deref.ensures) (IsKept-stored stored.octets stored.object served stored.stored.reading)

pub push_found-requires-clause-right : goal.push_found-requires-clause-right
push_found-requires-clause-right g c =
    let state = g.V.View.state c.args.seen.now.view.now in
    let held = g.P.Pieces.held c.args.pieces.now in
    let origin_of = g.V.View.origins c.args.seen.now.view.now c.args.home c.args.calendar.now in
    let stored = c.in-Some.stored.now in
    let found : octets_at state c.args.home c.args.calendar.now c.args.name ≡ Some stored.octets = ap (octets_at state c.args.home c.args.calendar.now) (sym c.as_slice.ensures) ∙ sym c.in-Some.ensures.octets in
    let among = object_among state c.args.home c.args.calendar.now c.args.name stored.octets found in
    let origin_is : origin_of c.args.name ≡ Some c.in-Some.origin = ap origin_of (sym c.as_slice.ensures) ∙ sym c.in-Some.ensures.origin in
    let right = found_among (IsHeldRight held origin_of) (objects_at state c.args.home c.args.calendar.now) c.args.name stored.octets c.requires.right among in
    subst (λ (s : Stored). AreRowsOf held c.in-Some.origin s.object) (sym c.deref.ensures) (right c.in-Some.origin stored.object origin_is stored.stored.reading)

pub returns-in_err-push_found-clause-at_most : goal.returns-in_err-push_found-clause-at_most
returns-in_err-push_found-clause-at_most g c entries stands =
    let state = g.V.View.state c.args.seen.now.view.now in
    let held = g.P.Pieces.held c.args.pieces.now in
    let origin_of = g.V.View.origins c.args.seen.now.view.now c.args.home c.args.calendar.now in
    let select = c.args.select.now in
    let stored = c.in-Some.stored.now in
    let pair : List ℕ × List ℕ = (c.args.name, stored.octets) in
    let found : octets_at state c.args.home c.args.calendar.now c.args.name ≡ Some stored.octets = ap (octets_at state c.args.home c.args.calendar.now) (sym c.as_slice.ensures) ∙ sym c.in-Some.ensures.octets in
    let among = stands stored.octets found in
    let origin_is : origin_of c.args.name ≡ Some c.in-Some.origin = ap origin_of (sym c.as_slice.ensures) ∙ sym c.in-Some.ensures.origin in
    let cost = entry_cost-known held (Multiget NoProps select []) origin_of pair c.in-Some.origin stored.object origin_is stored.stored.reading in
    let one = unmet_one held select origin_of c.args.met.now c.args.name stored.octets entries c.requires.not_met among in
    let steps = rw c.deref.ensures at c.push_found.ensures.steps in
    omega (arith, cost, one, steps)

pub returns-clause-within : goal.returns-clause-within
returns-clause-within g c =
    let met = c.args.met.now in
    let out = c.args.out.now in
    let said = c.as_slice-2.result.now in
    on_ok_both (c.push_said.new.out ≡ out ++ said) (c.push_said.new.met ≡ with_value met c.args.name (place_behind out said)) (AreWithin c.push_said.new.met (length c.push_said.new.out)) c.push_said.result
    (λ text is. subst (λ m. AreWithin m (length c.push_said.new.out)) (sym is) (subst (λ o. AreWithin (with_value met c.args.name (place_behind out said)) (length o)) (sym text) (within_next met c.args.name out said c.requires.within)))
    c.push_said.ensures.text c.push_said.ensures.met

pub returns-clause-at_most : goal.returns-clause-at_most
returns-clause-at_most g c entries stands =
    let state = g.V.View.state c.args.seen.now.view.now in
    let held = g.P.Pieces.held c.args.pieces.now in
    let origin_of = g.V.View.origins c.args.seen.now.view.now c.args.home c.args.calendar.now in
    let select = c.args.select.now in
    let stored = c.in-Some.stored.now in
    let pair : List ℕ × List ℕ = (c.args.name, stored.octets) in
    let found : octets_at state c.args.home c.args.calendar.now c.args.name ≡ Some stored.octets = ap (octets_at state c.args.home c.args.calendar.now) (sym c.as_slice.ensures) ∙ sym c.in-Some.ensures.octets in
    let among = stands stored.octets found in
    let origin_is : origin_of c.args.name ≡ Some c.in-Some.origin = ap origin_of (sym c.as_slice.ensures) ∙ sym c.in-Some.ensures.origin in
    let cost = entry_cost-known held (Multiget NoProps select []) origin_of pair c.in-Some.origin stored.object origin_is stored.stored.reading in
    let one = unmet_one held select origin_of c.args.met.now c.args.name stored.octets entries c.requires.not_met among in
    let steps = rw c.deref.ensures at c.push_found.ensures.steps in
    omega (arith, cost, one, steps)

pub returns-clause-steps : goal.returns-clause-steps
returns-clause-steps g c entries stands =
    let state = g.V.View.state c.args.seen.now.view.now in
    let held = g.P.Pieces.held c.args.pieces.now in
    let origin_of = g.V.View.origins c.args.seen.now.view.now c.args.home c.args.calendar.now in
    let select = c.args.select.now in
    let stored = c.in-Some.stored.now in
    let met = c.args.met.now in
    let place = place_behind c.args.out.now c.as_slice-2.result.now in
    let pair : List ℕ × List ℕ = (c.args.name, stored.octets) in
    let found : octets_at state c.args.home c.args.calendar.now c.args.name ≡ Some stored.octets = ap (octets_at state c.args.home c.args.calendar.now) (sym c.as_slice.ensures) ∙ sym c.in-Some.ensures.octets in
    let among = stands stored.octets found in
    let origin_is : origin_of c.args.name ≡ Some c.in-Some.origin = ap origin_of (sym c.as_slice.ensures) ∙ sym c.in-Some.ensures.origin in
    let cost = entry_cost-known held (Multiget NoProps select []) origin_of pair c.in-Some.origin stored.object origin_is stored.stored.reading in
    let all = unmet_with held select origin_of met c.args.name place entries stored.octets c.requires.not_met among in
    let steps = rw c.deref.ensures at c.push_found.ensures.steps in
    let bound : c.push_found.new.steps + unmet_cost held select origin_of (with_value met c.args.name place) entries ≤ c.args.steps.now + unmet_cost held select origin_of met entries = omega (arith, cost, all, steps) in
    on_ok_weaker c.push_said.result
    (λ is. subst (λ (m : Met). c.push_found.new.steps + unmet_cost held select origin_of m entries ≤ c.args.steps.now + unmet_cost held select origin_of met entries) (sym is) bound) c.push_said.ensures.met

pub returns-clause-said : goal.returns-clause-said
returns-clause-said g c k may said =
    let directory = g.V.View.directory c.args.seen.now.view.now in
    let state = g.V.View.state c.args.seen.now.view.now in
    let reported = reported_of directory c.args.seen.now.who c.args.home c.args.calendar.now k in
    let select = c.args.select.now in
    let zone = c.args.zone.now in
    let props = c.args.props.now in
    let met = c.args.met.now in
    let out = c.args.out.now in
    let name = c.args.name in
    let stored = c.in-Some.stored.now in
    let text = c.as_slice-2.result.now in
    let found : octets_at state c.args.home c.args.calendar.now name ≡ Some stored.octets = ap (octets_at state c.args.home c.args.calendar.now) (sym c.as_slice.ensures) ∙ sym c.in-Some.ensures.octets in
    let there = object_in state c.args.home c.args.calendar.now name stored.octets k may.there found in
    let at = c.in-Some.ensures.place.object_is ∙ c.as_slice.ensures in
    let pair : ◌≡◌ {A = List ℕ × List ℕ} (c.deref.result.now.path.object, c.deref.result.now.octets) (name, stored.octets) = λ i. ((ap (λ (s : Stored). s.path.object) c.deref.ensures ∙ at) i, ap (λ (s : Stored). s.octets) c.deref.ensures i) in
    let written = c.in_ok-push_found.ensures.response k may (subst (λ (e : List ℕ × List ℕ). value_at k.objects e.0 ≡ Some e.1) (sym pair) there) in
    let text_is : text ≡ object_response reported select zone props (name, stored.octets) = c.as_slice-2.ensures ∙ written ∙ (λ i. c.new-said.ensures i ++ object_response reported select zone props (pair i)) in
    met_ok reported select zone props c.push_said.result met name out text c.push_said.new.met c.push_said.new.out c.requires.within
    (response_there reported select zone props name stored.octets there ∙ ap Some (sym text_is)) said c.push_said.ensures.text c.push_said.ensures.met
