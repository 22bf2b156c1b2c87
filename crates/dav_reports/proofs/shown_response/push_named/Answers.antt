use Rattle.std.proofs.Common.{◌≤◌, ◌<◌, length, take, arith}
use Rattle.std.specs.Prelude.{flat_map}
use Rattle.std.proofs.lemmas.List.{take_all}
use Rattle.dav_reports.proofs.SaidLemmas.{said_more}
use Rattle.dav_reports.specs.AskedProperties.{said_of}
use Rattle.dav_reports.specs.ShownObjects.{asker_of}
use Rattle.dav_reports.proofs.shown_response.push_named.Goals as goal

pub names-preserved : goal.names-preserved
names-preserved g c shown resource shows =
    let asker = asker_of (g.V.View.directory c.args.seen.now.view.now) c.args.seen.now.who shown in
    let below : c.names.name-index < length c.args.names.now = omega arith in
    let more = said_more (said_of c.args.props.now asker resource) c.args.names.now c.names.name-index c.name-item.result below c.name-item.is in
    rw more (c.in_ok-add_said.ensures.answered c.args.out.now c.args.href.now (flat_map (said_of c.args.props.now asker resource) (take c.names.name-index c.args.names.now)) shown resource shows (c.names.invariant shown resource shows))

pub returns : goal.returns
returns g c = record {
  response = λ shown resource shows.
      let asker = asker_of (g.V.View.directory c.args.seen.now.view.now) c.args.seen.now.who shown in
      let past : length c.args.names.now ≤ c.names.name-index = omega arith in
      let all = take_all c.names.name-index c.args.names.now past in
      c.end.ensures.text c.args.out.now c.args.href.now (flat_map (said_of c.args.props.now asker resource) c.args.names.now) (rw all at (c.names.invariant shown resource shows));
}
