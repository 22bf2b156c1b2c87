use Rattle.std.proofs.Common.{◌≡◌, ◌++◌, drop}
use Rattle.multistatus.specs.NameKeys.{marked}
use Rattle.dav_props.proofs.setting_names.push_marked.Given as goal

-- with the octets to come, the buffer will hold all
abbrev pub invariant-octets : goal.invariant-octets
invariant-octets l = l.out ++ marked (drop l.octet-index l.text) ≡ l.initial.out ++ marked l.text
