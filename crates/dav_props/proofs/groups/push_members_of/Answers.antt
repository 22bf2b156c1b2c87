use Rattle.std.proofs.Common.{◌+◌, arith}
use Rattle.cal_model.specs.State.ServerState.{is_member, user_name}
use Rattle.dav_props.proofs.GroupLemmas.{hrefs_below, one_more, front_kept, all_members}
use Rattle.dav_props.proofs.groups.push_members_of.Goals as goal

pub users-preserved : goal.users-preserved
users-preserved g c =
    let directory = g.V.View.directory c.args.view.now in
    let test = is_member directory c.args.group in
    let is =
    one_more test (user_name directory) c.users.user c.args.out.now c.users.out c.push_where.new.out c.user_name.result.now c.is_member.result
    c.users.invariant.text c.in_ok-push_where.ensures.text c.is_member.ensures c.user_name.ensures.name in
    record { text = is; front = front_kept c.args.out.now c.push_where.new.out (hrefs_below test (user_name directory) (c.users.user + 1)) is }

pub returns-clause-text : goal.returns-clause-text
returns-clause-text g c = all_members (g.V.View.directory c.args.view.now) c.args.group c.users.user c.args.out.now c.users.out (omega arith) c.users.invariant.text
