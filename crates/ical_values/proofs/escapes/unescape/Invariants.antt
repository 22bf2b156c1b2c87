use Rattle.std.proofs.Common.{◌≡◌, ◌++◌, length}
use Rattle.cal_model.specs.Values.ValueTexts.{unescaped}
use Rattle.ical_values.proofs.escapes.unescape.Given as goal

-- what is read, before what the rest stands for
abbrev pub invariant-octets : goal.invariant-octets
invariant-octets l = l.plain ++ unescaped l.rest ≡ unescaped l.text

abbrev pub decreases-octets : goal.decreases-octets
decreases-octets l = length l.rest
