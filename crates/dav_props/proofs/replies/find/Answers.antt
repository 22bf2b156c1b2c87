use Rattle.dav_props.proofs.FindLemmas.{found_by}
use Rattle.dav_props.proofs.replies.find.Goals as goal

pub returns : goal.returns
returns g c = record {
  reply =
      found_by (g.V.View.directory c.args.seen.now.view.now) (g.V.View.state c.args.seen.now.view.now) c.args.seen.now.who c.args.path.now c.args.props.now c.args.deep c.in_ok-out.out c.push_all.new.out c.finish.result c.in_ok-out.ensures
      c.finish.ensures c.in_ok-push_all.ensures;
}
