use Rattle.std.proofs.Common.{◌++◌, sym, ap, ◌∙◌}
use Rattle.cal_model.specs.Properties.PropertyTable.{Answer}
use Rattle.cal_model.specs.Properties.PropertyReplies.{property_element}
use Rattle.dav_props.specs.Rows.{asked_name}
use Rattle.dav_props.proofs.StatusLemmas.{is_on_at, is_held_at, value_at, answer_without}
use Rattle.dav_props.proofs.answers.push_property.Goals as goal

pub returns-then-status-eq200 : goal.returns-then-status-eq200
returns-then-status-eq200 g c =
    let directory = g.V.View.directory c.args.seen.now.view.now in
    let who = c.args.seen.now.who in
    record {
      status = λ shown unseen here. sym c.if-status-eq200.true ∙ c.status_of-status.ensures directory who shown unseen c.requires.users here;
      element = λ shown unseen here. c.in_ok-push_whole.ensures.element shown unseen here (sym (c.status_of-status.ensures directory who shown unseen c.requires.users here) ∙ c.if-status-eq200.true);
      front = c.push_whole.ensures.front;
    }

pub returns : goal.returns
returns g c =
    let directory = g.V.View.directory c.args.seen.now.view.now in
    let who = c.args.seen.now.who in
    let asked = c.args.asked.now in
    let seen = c.args.subject.now in
    let status = c.status_of-status.result in
    record {
      status = λ shown unseen here. c.status_of-status.ensures directory who shown unseen c.requires.users here;
      element =
          λ shown unseen here.
          c.in_ok-push_empty.ensures.element status
          ∙ ap (λ (a : Answer). c.args.out.now ++ property_element a)
          (sym (answer_without (asked_name asked) (is_on_at directory who shown unseen asked.row (asked_name asked) seen) (is_held_at directory who shown unseen asked.row (asked_name asked) seen)
          (value_at directory who shown unseen asked.row (asked_name asked) seen) status (c.status_of-status.ensures directory who shown unseen c.requires.users here) c.if-status-eq200.false));
      front = c.push_empty.ensures.front;
    }
