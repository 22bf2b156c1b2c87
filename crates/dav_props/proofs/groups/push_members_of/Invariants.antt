use Rattle.std.proofs.Common.{◌≡◌, ◌++◌, length, take}
use Rattle.cal_model.specs.State.ServerState.{is_member, user_name}
use Rattle.dav_props.proofs.GroupLemmas.{hrefs_below}
use Rattle.dav_props.proofs.groups.push_members_of.Given as goal

-- the members among so many users
abbrev pub invariant-users : goal.invariant-users
invariant-users g l = record {
  text : l.out ≡ l.initial.out ++ hrefs_below (is_member (g.V.View.directory l.view) l.group) (user_name (g.V.View.directory l.view)) l.user;
  front : take (length l.initial.out) l.out ≡ l.initial.out;
}
