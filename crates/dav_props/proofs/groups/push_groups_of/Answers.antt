use Rattle.std.proofs.Common.{ℕ, ◌+◌, arith}
use Rattle.cal_model.specs.State.ServerState.{is_member, group_name}
use Rattle.dav_props.proofs.GroupLemmas.{hrefs_below, one_more, front_kept, all_groups}
use Rattle.dav_props.proofs.groups.push_groups_of.Goals as goal

pub groups-preserved : goal.groups-preserved
groups-preserved g c =
    let directory = g.V.View.directory c.args.view.now in
    let test = λ (group : ℕ). is_member directory group c.args.user in
    let is =
    one_more test (group_name directory) c.groups.group c.args.out.now c.groups.out c.push_where.new.out c.group_name.result.now c.is_member.result
    c.groups.invariant.text c.in_ok-push_where.ensures.text c.is_member.ensures c.group_name.ensures.name in
    record { text = is; front = front_kept c.args.out.now c.push_where.new.out (hrefs_below test (group_name directory) (c.groups.group + 1)) is }

pub returns-clause-text : goal.returns-clause-text
returns-clause-text g c = all_groups (g.V.View.directory c.args.view.now) c.args.user c.groups.group c.args.out.now c.groups.out (omega arith) c.groups.invariant.text
