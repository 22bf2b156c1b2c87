use Rattle.std.proofs.Common.{ℕ, List, sym, ap, ◌∙◌, arith, map, subst}
use Rattle.std.proofs.lemmas.Result.{IfOk-weaker}
use Rattle.cal_model.specs.Busy.BusyRuns.{runs}
use Rattle.cal_model.specs.declared.report.ReportRequest.TheVariants.{FreeBusy}
use Rattle.cal_model.specs.declared.stored.Stored.{Stored}
use Rattle.freebusy.proofs.Gatherings.{gathered_runs-all}
use Rattle.object_walk.specs.WalkedObjects.{HaveOriginsOf, named_octets, objects_at}
use Rattle.rrule_sets.proofs.AskedLemmas.{sum-cons}
use Rattle.dav_reports.specs.CalendarObjects.{entry_cost, times_of_entries}
use Rattle.dav_reports.specs.PieceRows.{AreRowsOf, IsKept}
use Rattle.dav_reports.proofs.CalendarWalks.{all_served, entry_cost-known, times_known}
use Rattle.dav_reports.proofs.GatheredTimes.{left-all, left-none}
use Rattle.dav_reports.proofs.KeptObjects.{IsKept-stored}
use Rattle.dav_reports.proofs.runs.runs_of_objects.Goals as goal

pub walk-init : goal.walk-init
walk-init g c =
    let directory = g.V.View.directory c.args.view.now in
    let state = g.V.View.state c.args.view.now in
    let same = c.into_iter-stored-iterator.ensures.into_iter_gives in
    let all = ap (map named_octets) same ∙ c.objects-stored-items.ensures.octets in
    record {
      made = rw all (left-all c.new-times.result _);
      counted = rw all (omega arith);
      origins = subst (HaveOriginsOf (g.V.View.origins c.args.view.now c.args.home c.args.name.now)) (sym same) c.objects-stored-items.ensures.origins;
      right = rw all c.requires.right;
      served = rw all (all_served directory state c.args.home c.args.name.now c.requires.sound);
    }

pub put_object-requires-clause-object : goal.put_object-requires-clause-object
put_object-requires-clause-object g c =
    let stored = c.in-Some.stored.now in
    let left = ap (map named_octets) c.in-Some.ensures.steps in
    subst (λ (s : Stored). IsKept s.object) (sym c.deref.ensures) (IsKept-stored stored.octets stored.object (rw left at c.walk.invariant.served).0 stored.stored.reading)

pub put_object-requires-clause-right : goal.put_object-requires-clause-right
put_object-requires-clause-right g c =
    let stored = c.in-Some.stored.now in
    let left = ap (map named_octets) c.in-Some.ensures.steps in
    let origin = (rw c.in-Some.ensures.steps at c.walk.invariant.origins).0 in
    subst (λ (s : Stored). AreRowsOf (g.P.Pieces.held c.args.pieces.now) c.in-Some.origin s.object) (sym c.deref.ensures)
    ((rw left at c.walk.invariant.right).0 c.in-Some.origin stored.object origin stored.stored.reading)

pub returns-in_err-put_object-clause-steps : goal.returns-in_err-put_object-clause-steps
returns-in_err-put_object-clause-steps g c =
    let held = g.P.Pieces.held c.args.pieces.now in
    let origin_of = g.V.View.origins c.args.view.now c.args.home c.args.name.now in
    let stored = c.in-Some.stored.now in
    let pair : List ℕ × List ℕ = (stored.path.object, stored.octets) in
    let left = ap (map named_octets) c.in-Some.ensures.steps in
    let origin = (rw c.in-Some.ensures.steps at c.walk.invariant.origins).0 in
    let counted = rw left at c.walk.invariant.counted in
    let whole = sum-cons (entry_cost held (FreeBusy c.args.range) origin_of pair) (map (entry_cost held (FreeBusy c.args.range) origin_of) (map named_octets c.next.new.self)) in
    let cost = entry_cost-known held (FreeBusy c.args.range) origin_of pair c.in-Some.origin stored.object origin stored.stored.reading in
    let steps = rw c.deref.ensures at c.put_object.ensures.steps in
    omega (arith, counted, whole, cost, steps)

pub walk-preserved : goal.walk-preserved
walk-preserved g c =
    let held = g.P.Pieces.held c.args.pieces.now in
    let origin_of = g.V.View.origins c.args.view.now c.args.home c.args.name.now in
    let stored = c.in-Some.stored.now in
    let pair : List ℕ × List ℕ = (stored.path.object, stored.octets) in
    let rest = map named_octets c.next.new.self in
    let left = ap (map named_octets) c.in-Some.ensures.steps in
    let origins = rw c.in-Some.ensures.steps at c.walk.invariant.origins in
    let counted = rw left at c.walk.invariant.counted in
    let whole = sum-cons (entry_cost held (FreeBusy c.args.range) origin_of pair) (map (entry_cost held (FreeBusy c.args.range) origin_of) rest) in
    let cost = entry_cost-known held (FreeBusy c.args.range) origin_of pair c.in-Some.origin stored.object origins.0 stored.stored.reading in
    let steps = rw c.deref.ensures at c.in_ok-put_object.ensures.steps in
    record {
      made = times_known c.args.zone.now c.args.range c.new-times.result c.walk.times c.put_object.new.out _ pair rest stored.object stored.stored.reading (rw c.deref.ensures at c.in_ok-put_object.ensures.times) (rw left at c.walk.invariant.made);
      counted = omega (arith, counted, whole, cost, steps);
      origins = origins.1;
      right = (rw left at c.walk.invariant.right).1;
      served = (rw left at c.walk.invariant.served).1;
    }

pub returns-clause-runs : goal.returns-clause-runs
returns-clause-runs g c =
    let state = g.V.View.state c.args.view.now in
    let all = times_of_entries c.args.zone.now c.args.range (objects_at state c.args.home c.args.name.now) in
    let end = ap (map named_octets) c.in-None.ensures.steps.0 in
    let gathers = left-none c.new-times.result c.walk.times all (rw end at c.walk.invariant.made) in
    IfOk-weaker c.runs.result _ _
    (λ found is. is ∙ gathered_runs-all c.new-times.result c.walk.times all gathers c.new-times.ensures.times ∙ ap (runs all) c.new-times.ensures.range)
    c.runs.ensures
