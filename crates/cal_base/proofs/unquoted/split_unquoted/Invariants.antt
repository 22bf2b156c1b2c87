use Rattle.std.proofs.Common.{◌≡◌, false, take, drop}
use Rattle.cal_base.specs.Lines.ContentLines.{first_unquoted}
use Rattle.cal_base.specs.Lines.UnquotedParts.{before_first}
use Rattle.cal_base.proofs.unquoted.split_unquoted.Given as goal

-- the octets so far, and what is found in the rest
abbrev pub invariant-octets : goal.invariant-octets
invariant-octets l = before_first (take l.place l.text) (first_unquoted l.separator l.quoted (drop l.place l.text)) ≡ first_unquoted l.separator false l.text
