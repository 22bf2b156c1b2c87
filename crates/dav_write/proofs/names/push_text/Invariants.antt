use Rattle.std.proofs.Common.{◌≡◌, ◌++◌, length, take}
use Rattle.cal_base.specs.Xml.CanonicalXml.{xml_text}
use Rattle.dav_write.proofs.names.push_text.Given as goal

-- with the text of the octets to come, the buffer will hold the whole text
abbrev pub invariant-runs : goal.invariant-runs
invariant-runs l = record {
  text : l.out ++ xml_text l.rest ≡ l.initial.out ++ xml_text l.text;
  front : take (length l.initial.out) l.out ≡ l.initial.out;
}

abbrev pub decreases-runs : goal.decreases-runs
decreases-runs l = length l.rest
