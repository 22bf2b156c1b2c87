use Rattle.std.proofs.Common.{◌≡◌, ◌++◌, drop, length, take}
use Rattle.std.specs.Prelude.{flat_map}
use Rattle.cal_model.specs.Properties.PropertyValues.{grant_element}
use Rattle.dav_props.proofs.access.push_grants.Given as goal

-- with the aces of the grants to come, the buffer will hold all
abbrev pub invariant-grants : goal.invariant-grants
invariant-grants g l = record {
  text : l.out ++ flat_map (grant_element (g.V.View.directory l.seen.view.now)) (drop l.grant-index l.grants) ≡ l.initial.out ++ flat_map (grant_element (g.V.View.directory l.seen.view.now)) l.grants;
  front : take (length l.initial.out) l.out ≡ l.initial.out;
}
