use Rattle.std.proofs.Common.{◌≡◌, ◌++◌, length, take}
use Rattle.cal_model.specs.State.ServerState.{is_member, group_name}
use Rattle.dav_props.proofs.GroupLemmas.{hrefs_below}
use Rattle.dav_props.proofs.groups.push_groups_of.Given as goal

-- the user's groups among so many
abbrev pub invariant-groups : goal.invariant-groups
invariant-groups g l = record {
  text : l.out ≡ l.initial.out ++ hrefs_below (λ group. is_member (g.V.View.directory l.view) group l.user) (group_name (g.V.View.directory l.view)) l.group;
  front : take (length l.initial.out) l.out ≡ l.initial.out;
}
