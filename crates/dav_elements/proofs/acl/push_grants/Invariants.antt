use Rattle.std.proofs.Common.{◌≡◌, ◌+◌, ◌++◌, [], length, take}
use Rattle.std.specs.Prelude.{filter, flat_map, codes}
use Rattle.cal_model.specs.Words.Namespaces.{dav}
use Rattle.cal_model.specs.Bodies.ElementParts.{has_name, item_elements}
use Rattle.cal_model.specs.Bodies.AclBodies.{is_kept, grants_of}
use Rattle.dav_elements.specs.AceAnswers.{refusals_from}
use Rattle.dav_elements.proofs.acl.push_grants.Given as goal

-- the grants of the aces so far are appended, one for each, and none of them is refused
abbrev pub invariant-items : goal.invariant-items
invariant-items l =
    let those = filter is_kept (filter (has_name dav (codes "ace")) (flat_map item_elements (take l.item-index l.items))) in record {
      appended : l.grants ≡ l.initial.grants ++ flat_map (grants_of l.users) those;
      counted : length l.grants ≡ length l.initial.grants + length those;
      sound : refusals_from l.users (length l.initial.grants) those ≡ [];
    }
