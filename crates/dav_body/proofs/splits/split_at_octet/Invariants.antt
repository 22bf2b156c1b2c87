use Rattle.std.proofs.Common.{◌≡◌, take, drop}
use Rattle.dav_body.specs.Splits.{first_split, before_first, is_octet}
use Rattle.dav_body.proofs.splits.split_at_octet.Given as goal

-- the octets so far, and what is found in the rest
abbrev pub invariant-octets : goal.invariant-octets
invariant-octets l = before_first (take l.place l.text) (first_split (is_octet l.separator) (drop l.place l.text)) ≡ first_split (is_octet l.separator) l.text
