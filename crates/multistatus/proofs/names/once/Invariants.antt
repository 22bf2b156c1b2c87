use Rattle.std.proofs.Common.{◌≡◌, ◌++◌, drop}
use Rattle.cal_model.specs.Properties.PropertyReplies.{once}
use Rattle.multistatus.proofs.NameLemmas.{unmet}
use Rattle.multistatus.proofs.names.once.Given as goal

-- with the names to come that are not met yet, the list will hold each once
abbrev pub invariant-names : goal.invariant-names
invariant-names l = l.list ++ unmet l.met (once (drop l.name-index l.names)) ≡ once l.names
