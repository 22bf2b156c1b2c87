use Rattle.std.proofs.Common.{◌≡◌, take}
use Rattle.filter_eval.specs.Places.{component_keys}
use Rattle.filter_eval.proofs.walks.keys_of_components.Given as goal

-- the children that the components so far are
abbrev pub invariant-components : goal.invariant-components
invariant-components l = l.keys ≡ component_keys (take l.component-index l.components)
