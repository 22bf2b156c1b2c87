use Rattle.std.proofs.Common.{◌≡◌, ℕ, ◌+◌, ◌≤◌, List, ◌++◌, [], ◌∷◌, ◌<◌, sym, ap, ◌∙◌, arith, length, map, subst, append-nil}
use Rattle.cal_model.specs.declared.property.Props.TheVariants.{None as NoProps}
use Rattle.cal_model.specs.declared.report.ReportRequest.TheVariants.{Query}
use Rattle.std.specs.Prelude.{None, Some}
use Rattle.cal_base.specs.Lists.NameMap.{value_at}
use Rattle.cal_model.specs.declared.stored.Stored.{Stored}
use Rattle.object_walk.specs.WalkedObjects.{HaveOriginsOf, named_octets, objects_at}
use Rattle.cal_model.specs.Refusals.RequestLimits.{answer_limit}
use Rattle.dav_reports.specs.CalendarObjects.{query_cost, sought_responses}
use Rattle.dav_reports.specs.PieceRows.{AreRowsOf, IsKept}
use Rattle.dav_reports.specs.SeenCalendars.{reported_of}
use Rattle.dav_reports.proofs.CalendarWalks.{all_served, counted_next, counted_within}
use Rattle.dav_reports.proofs.KeptObjects.{IsKept-stored}
use Rattle.dav_reports.proofs.QueryWalks.{entries_found, objects_are, sought_cost, sought_next, too_long}
use Rattle.dav_reports.proofs.query.push_all_sought.Goals as goal

pub walk-init : goal.walk-init
walk-init g c =
    let directory = g.V.View.directory c.args.seen.now.view.now in
    let state = g.V.View.state c.args.seen.now.view.now in
    let same = c.into_iter-stored-iterator.ensures.into_iter_gives in
    let all = ap (map named_octets) same ∙ c.objects-stored-items.ensures.octets in
    record {
      made = λ k may. rw all (ap (λ entries. c.args.out.now ++ sought_responses (reported_of directory c.args.seen.now.who c.args.home c.args.calendar.now k) c.args.select.now c.args.zone.now c.args.props.now c.args.wanted.now entries) (objects_are state c.args.home c.args.calendar.now k may.there));
      counted = rw all (omega arith);
      origins = subst (HaveOriginsOf (g.V.View.origins c.args.seen.now.view.now c.args.home c.args.calendar.now)) (sym same) c.objects-stored-items.ensures.origins;
      right = rw all c.requires.right;
      served = rw all (all_served directory state c.args.home c.args.calendar.now c.requires.sound);
      found = λ k there. rw all (entries_found directory state c.args.home c.args.calendar.now k c.requires.sound there);
    }

pub push_sought-requires-clause-kept : goal.push_sought-requires-clause-kept
push_sought-requires-clause-kept g c =
    let stored = c.in-Some.stored.now in
    let left = ap (map named_octets) c.in-Some.ensures.steps in
    subst (λ (s : Stored). IsKept s.object) (sym c.deref.ensures) (IsKept-stored stored.octets stored.object (rw left at c.walk.invariant.served).0 stored.stored.reading)

pub push_sought-requires-clause-right : goal.push_sought-requires-clause-right
push_sought-requires-clause-right g c =
    let stored = c.in-Some.stored.now in
    let left = ap (map named_octets) c.in-Some.ensures.steps in
    let origin = (rw c.in-Some.ensures.steps at c.walk.invariant.origins).0 in
    subst (λ (s : Stored). AreRowsOf (g.P.Pieces.held c.args.pieces.now) c.in-Some.origin s.object) (sym c.deref.ensures)
    ((rw left at c.walk.invariant.right).0 c.in-Some.origin stored.object origin stored.stored.reading)

pub returns-in_err-push_sought-clause-steps : goal.returns-in_err-push_sought-clause-steps
returns-in_err-push_sought-clause-steps g c =
    let held = g.P.Pieces.held c.args.pieces.now in
    let origin_of = g.V.View.origins c.args.seen.now.view.now c.args.home c.args.calendar.now in
    let report = Query NoProps c.args.select.now c.args.wanted.now None in
    let stored = c.in-Some.stored.now in
    let left = ap (map named_octets) c.in-Some.ensures.steps in
    let named = sought_cost held c.args.select.now c.args.wanted.now c.in-Some.origin stored.object c.args.ranges.now c.requires.ranges in
    counted_within held report origin_of (stored.path.object, stored.octets) (map named_octets c.next.new.self) c.in-Some.origin stored.object c.walk.steps c.push_sought.new.steps
    (c.args.steps.now + query_cost held c.args.select.now c.args.wanted.now origin_of (objects_at (g.V.View.state c.args.seen.now.view.now) c.args.home c.args.calendar.now))
    (rw c.in-Some.ensures.steps at c.walk.invariant.origins).0 stored.stored.reading (rw left at c.walk.invariant.counted)
    (subst (λ n. c.push_sought.new.steps ≤ c.walk.steps + n) named (rw c.deref.ensures at c.push_sought.ensures.steps))

pub returns-then-len-gt-ANSWER_LIMIT-clause-steps : goal.returns-then-len-gt-ANSWER_LIMIT-clause-steps
returns-then-len-gt-ANSWER_LIMIT-clause-steps g c =
    let held = g.P.Pieces.held c.args.pieces.now in
    let origin_of = g.V.View.origins c.args.seen.now.view.now c.args.home c.args.calendar.now in
    let report = Query NoProps c.args.select.now c.args.wanted.now None in
    let stored = c.in-Some.stored.now in
    let left = ap (map named_octets) c.in-Some.ensures.steps in
    let named = sought_cost held c.args.select.now c.args.wanted.now c.in-Some.origin stored.object c.args.ranges.now c.requires.ranges in
    counted_within held report origin_of (stored.path.object, stored.octets) (map named_octets c.next.new.self) c.in-Some.origin stored.object c.walk.steps c.push_sought.new.steps
    (c.args.steps.now + query_cost held c.args.select.now c.args.wanted.now origin_of (objects_at (g.V.View.state c.args.seen.now.view.now) c.args.home c.args.calendar.now))
    (rw c.in-Some.ensures.steps at c.walk.invariant.origins).0 stored.stored.reading (rw left at c.walk.invariant.counted)
    (subst (λ n. c.push_sought.new.steps ≤ c.walk.steps + n) named (rw c.deref.ensures at c.in_ok-push_sought.ensures.steps))

pub returns-then-len-gt-ANSWER_LIMIT-clause-written : goal.returns-then-len-gt-ANSWER_LIMIT-clause-written
returns-then-len-gt-ANSWER_LIMIT-clause-written g c k may =
    let directory = g.V.View.directory c.args.seen.now.view.now in
    let stored = c.in-Some.stored.now in
    let pair : List ℕ × List ℕ = (stored.path.object, stored.octets) in
    let left = ap (map named_octets) c.in-Some.ensures.steps in
    let over : answer_limit < length c.push_sought.new.out = omega arith in
    too_long c.walk.out c.push_sought.new.out _ _ over (
    sought_next (reported_of directory c.args.seen.now.who c.args.home c.args.calendar.now k) c.args.select.now c.args.zone.now c.args.props.now c.args.wanted.now c.walk.out c.push_sought.new.out _ pair (map named_octets c.next.new.self)
    (subst (λ (s : Stored). value_at k.objects s.path.object ≡ Some s.octets → c.push_sought.new.out ≡ c.walk.out ++ sought_responses (reported_of directory c.args.seen.now.who c.args.home c.args.calendar.now k) c.args.select.now c.args.zone.now c.args.props.now c.args.wanted.now ((s.path.object, s.octets) ∷ []))
    c.deref.ensures (c.in_ok-push_sought.ensures.response k may) ((rw left at (c.walk.invariant.found k may.there)).0)) (rw left at (c.walk.invariant.made k may)))

pub walk-preserved : goal.walk-preserved
walk-preserved g c =
    let directory = g.V.View.directory c.args.seen.now.view.now in
    let held = g.P.Pieces.held c.args.pieces.now in
    let origin_of = g.V.View.origins c.args.seen.now.view.now c.args.home c.args.calendar.now in
    let report = Query NoProps c.args.select.now c.args.wanted.now None in
    let stored = c.in-Some.stored.now in
    let pair : List ℕ × List ℕ = (stored.path.object, stored.octets) in
    let rest = map named_octets c.next.new.self in
    let left = ap (map named_octets) c.in-Some.ensures.steps in
    let origins = rw c.in-Some.ensures.steps at c.walk.invariant.origins in
    let named = sought_cost held c.args.select.now c.args.wanted.now c.in-Some.origin stored.object c.args.ranges.now c.requires.ranges in
    record {
      made = λ k may. sought_next (reported_of directory c.args.seen.now.who c.args.home c.args.calendar.now k) c.args.select.now c.args.zone.now c.args.props.now c.args.wanted.now c.walk.out c.push_sought.new.out _ pair rest
          (subst (λ (s : Stored). value_at k.objects s.path.object ≡ Some s.octets → c.push_sought.new.out ≡ c.walk.out ++ sought_responses (reported_of directory c.args.seen.now.who c.args.home c.args.calendar.now k) c.args.select.now c.args.zone.now c.args.props.now c.args.wanted.now ((s.path.object, s.octets) ∷ []))
          c.deref.ensures (c.in_ok-push_sought.ensures.response k may) ((rw left at (c.walk.invariant.found k may.there)).0)) (rw left at (c.walk.invariant.made k may));
      counted =
          counted_next held report origin_of pair rest c.in-Some.origin stored.object c.walk.steps c.push_sought.new.steps
          (c.args.steps.now + query_cost held c.args.select.now c.args.wanted.now origin_of (objects_at (g.V.View.state c.args.seen.now.view.now) c.args.home c.args.calendar.now))
          origins.0 stored.stored.reading (rw left at c.walk.invariant.counted)
          (subst (λ n. c.push_sought.new.steps ≤ c.walk.steps + n) named (rw c.deref.ensures at c.in_ok-push_sought.ensures.steps));
      origins = origins.1;
      right = (rw left at c.walk.invariant.right).1;
      served = (rw left at c.walk.invariant.served).1;
      found = λ k there. (rw left at (c.walk.invariant.found k there)).1;
    }

pub returns-clause-written : goal.returns-clause-written
returns-clause-written g c k may =
    let end = ap (map named_octets) c.in-None.ensures.steps.0 in
    sym (append-nil c.walk.out) ∙ (rw end at (c.walk.invariant.made k may))
