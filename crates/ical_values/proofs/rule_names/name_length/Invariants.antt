use Rattle.std.proofs.Common.{◌≡◌, ◌+◌, drop}
use Rattle.ical_values.specs.RuleNames.{name_length}
use Rattle.ical_values.proofs.rule_names.name_length.Given as goal

-- each octet so far is one of a name
abbrev pub invariant-octets : goal.invariant-octets
invariant-octets l = l.place + name_length (drop l.place l.text) ≡ name_length l.text
