use Rattle.std.proofs.Common.{◌≡◌, take, drop}
use Rattle.cal_base.specs.Xml.XmlMarkup.{is_quote}
use Rattle.dav_body.specs.Splits.{first_split, before_first}
use Rattle.dav_body.proofs.splits.split_at_quote.Given as goal

-- the octets so far, and what is found in the rest
abbrev pub invariant-octets : goal.invariant-octets
invariant-octets l = before_first (take l.place l.text) (first_split is_quote (drop l.place l.text)) ≡ first_split is_quote l.text
