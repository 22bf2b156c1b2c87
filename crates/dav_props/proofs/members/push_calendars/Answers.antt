use Rattle.std.proofs.Common.{◌++◌, length, ◌<◌, sym, ap, arith}
use Rattle.std.specs.Prelude.{flat_map}
use Rattle.cal_model.specs.Refusals.RequestLimits.{answer_limit}
use Rattle.cal_model.specs.State.NameWalks.{calendars_above}
use Rattle.cal_model.proofs.State.NameWalkLaws.{calendars_above-end, calendars_above-first, calendars_above-next}
use Rattle.dav_props.specs.Finding.{calendar_text, calendars_of}
use Rattle.dav_props.proofs.MemberLemmas.{grants_of_next, step_on, up_to_front, up_to_whole, written_all}
use Rattle.dav_props.proofs.members.push_calendars.Goals as goal

pub calendars-init : goal.calendars-init
calendars-init g c =
    let directory = g.V.View.directory c.args.seen.now.view.now in
    let state = g.V.View.state c.args.seen.now.view.now in
    let who = c.args.seen.now.who in
    record {
      member = c.requires.member;
      text = λ sound. ap (λ named. c.args.out.now ++ flat_map (calendar_text directory who c.args.props.now c.args.owner c.args.user.now) named) (calendars_above-first directory state c.args.owner sound);
    }

pub returns-then-len-gt-ANSWER_LIMIT : goal.returns-then-len-gt-ANSWER_LIMIT
returns-then-len-gt-ANSWER_LIMIT g c =
    let directory = g.V.View.directory c.args.seen.now.view.now in
    let state = g.V.View.state c.args.seen.now.view.now in
    let who = c.args.seen.now.who in
    let text = calendar_text directory who c.args.props.now c.args.owner c.args.user.now in
    let past : answer_limit < length c.calendars.out = omega (arith, c.len.ensures, c.if-len-gt-ANSWER_LIMIT.true) in
    up_to_front answer_limit c.calendars.out (flat_map text (calendars_above state c.args.owner c.calendars.last.now)) (c.args.out.now ++ flat_map text (calendars_of state c.args.owner)) past
    (c.calendars.invariant.text c.calendar_after.ensures.sound)

pub push_calendar-requires-clause-users : goal.push_calendar-requires-clause-users
push_calendar-requires-clause-users g c =
    grants_of_next (g.V.View.directory c.args.seen.now.view.now) (g.V.View.state c.args.seen.now.view.now) c.args.owner c.calendars.last.now c.in-Some.name.now c.in-Some.kept.now c.calendar_after.ensures.sound (sym c.in-Some.ensures.next)

pub calendars-smaller : goal.calendars-smaller
calendars-smaller g c =
    let directory = g.V.View.directory c.args.seen.now.view.now in
    let state = g.V.View.state c.args.seen.now.view.now in
    let who = c.args.seen.now.who in
    let above = calendars_above-next directory state c.args.owner c.calendars.last.now c.in-Some.name.now c.in-Some.kept.now c.calendar_after.ensures.sound (sym c.in-Some.ensures.next) in
    let size = ap length above.2 in
    omega (arith, size)

pub calendars-preserved : goal.calendars-preserved
calendars-preserved g c =
    let directory = g.V.View.directory c.args.seen.now.view.now in
    let state = g.V.View.state c.args.seen.now.view.now in
    let who = c.args.seen.now.who in
    let text = calendar_text directory who c.args.props.now c.args.owner c.args.user.now in
    let above = calendars_above-next directory state c.args.owner c.calendars.last.now c.in-Some.name.now c.in-Some.kept.now c.calendar_after.ensures.sound (sym c.in-Some.ensures.next) in
    record {
      member = c.in_ok-push_calendar.ensures.member;
      text =
          λ sound.
          step_on text (c.in-Some.name.now, above.0) (calendars_above state c.args.owner c.in-Some.name.now) (calendars_above state c.args.owner c.calendars.last.now) c.calendars.out c.push_calendar.new.out
          (c.args.out.now ++ flat_map text (calendars_of state c.args.owner))
          (c.in_ok-push_calendar.ensures.text above.0 above.1) above.2 (c.calendars.invariant.text sound);
    }

pub returns : goal.returns
returns g c =
    let directory = g.V.View.directory c.args.seen.now.view.now in
    let state = g.V.View.state c.args.seen.now.view.now in
    let who = c.args.seen.now.who in
    let text = calendar_text directory who c.args.props.now c.args.owner c.args.user.now in
    let whole = c.args.out.now ++ flat_map text (calendars_of state c.args.owner) in
    up_to_whole answer_limit c.calendars.out whole
    (written_all text (calendars_above state c.args.owner c.calendars.last.now) c.calendars.out whole
    (calendars_above-end state c.args.owner c.calendars.last.now (sym c.in_default.ensures.next)) (c.calendars.invariant.text c.calendar_after.ensures.sound))
