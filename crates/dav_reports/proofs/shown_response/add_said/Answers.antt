use Rattle.std.proofs.Common.{◌≡◌, take}
use Rattle.dav_reports.proofs.SaidLemmas.{answer-name}
use Rattle.cal_model.specs.Properties.PropertyTable.{answer}
use Rattle.dav_reports.specs.ShownObjects.{asker_of}
use Rattle.dav_reports.proofs.shown_response.add_said.Goals as goal

pub returns-in-Names : goal.returns-in-Names
returns-in-Names g c = record {
  answered = λ front href said shown resource shows is.
      let asker = asker_of (g.V.View.directory c.args.seen.now.view.now) c.args.seen.now.who shown in
      let kept : take c.len-place.result c.push_answer.new.out ≡ c.args.out.now = rw c.len-place.ensures c.in_ok-status.ensures.front in
      rw c.in-Names.is (c.keep_name.ensures front href said (answer asker resource c.args.name.now) (rw kept is) (answer-name asker resource c.args.name.now) (c.in_ok-status.ensures.status shown resource shows));
}
