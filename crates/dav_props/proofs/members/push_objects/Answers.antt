use Rattle.std.proofs.Common.{ℕ, ◌++◌, ◌<◌, List, length, map, ap, ◌∙◌, arith}
use Rattle.std.specs.Prelude.{flat_map}
use Rattle.cal_model.specs.declared.stored.Stored.{Stored}
use Rattle.cal_model.specs.Refusals.RequestLimits.{answer_limit}
use Rattle.object_walk.specs.WalkedObjects.{named_octets, objects_at}
use Rattle.dav_props.specs.Finding.{object_text}
use Rattle.dav_props.proofs.MemberLemmas.{step_on, up_to_front, up_to_whole, written_all}
use Rattle.dav_props.proofs.members.push_objects.Goals as goal

pub walk-init : goal.walk-init
walk-init g c =
    let who = c.args.seen.now.who in
    record {
      member = c.requires.member;
      text = λ sight is. ap (λ named. c.args.out.now ++ flat_map (object_text (g.V.View.directory c.args.seen.now.view.now) who c.args.props.now c.args.user.now c.args.calendar.now sight) named) (ap (map named_octets) c.into_iter-stored-iterator.ensures.into_iter_gives ∙ c.objects-stored-items.ensures.octets);
    }

pub returns-then-len-gt-ANSWER_LIMIT : goal.returns-then-len-gt-ANSWER_LIMIT
returns-then-len-gt-ANSWER_LIMIT g c sight is =
    let directory = g.V.View.directory c.args.seen.now.view.now in
    let state = g.V.View.state c.args.seen.now.view.now in
    let who = c.args.seen.now.who in
    let text = object_text directory who c.args.props.now c.args.user.now c.args.calendar.now sight in
    let past : answer_limit < length c.walk.out = omega (arith, c.len.ensures, c.if-len-gt-ANSWER_LIMIT.true) in
    up_to_front answer_limit c.walk.out (flat_map text (map named_octets c.walk.stored-iterator)) (c.args.out.now ++ flat_map text (objects_at state c.args.owner c.args.calendar.now)) past
    (c.walk.invariant.text sight is)

pub walk-preserved : goal.walk-preserved
walk-preserved g c =
    let directory = g.V.View.directory c.args.seen.now.view.now in
    let state = g.V.View.state c.args.seen.now.view.now in
    let who = c.args.seen.now.who in
    let stored = c.in-Some.stored.now in
    let pair : List ℕ × List ℕ = (stored.path.object, stored.octets) in
    record {
      member = c.in_ok-push_object.ensures.member;
      text =
          λ sight is.
          let text = object_text directory who c.args.props.now c.args.user.now c.args.calendar.now sight in
          step_on text pair (map named_octets c.next.new.self) (map named_octets c.walk.stored-iterator) c.walk.out c.push_object.new.out
          (c.args.out.now ++ flat_map text (objects_at state c.args.owner c.args.calendar.now))
          (c.in_ok-push_object.ensures.text sight is ∙ ap (λ (s : Stored). c.walk.out ++ text (s.path.object, s.octets)) c.deref.ensures) (ap (map named_octets) c.in-Some.ensures.steps) (c.walk.invariant.text sight is);
    }

pub returns : goal.returns
returns g c sight is =
    let directory = g.V.View.directory c.args.seen.now.view.now in
    let state = g.V.View.state c.args.seen.now.view.now in
    let who = c.args.seen.now.who in
    let text = object_text directory who c.args.props.now c.args.user.now c.args.calendar.now sight in
    let whole = c.args.out.now ++ flat_map text (objects_at state c.args.owner c.args.calendar.now) in
    up_to_whole answer_limit c.walk.out whole
    (written_all text (map named_octets c.walk.stored-iterator) c.walk.out whole (ap (map named_octets) c.in-None.ensures.steps.0) (c.walk.invariant.text sight is))
