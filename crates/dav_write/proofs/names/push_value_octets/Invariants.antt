use Rattle.std.proofs.Common.{◌≡◌, ◌++◌, drop, length, take}
use Rattle.cal_base.specs.Xml.CanonicalXml.{attribute_text}
use Rattle.dav_write.proofs.names.push_value_octets.Given as goal

-- with the text of the octets to come, the buffer will hold the whole text
abbrev pub invariant-octets : goal.invariant-octets
invariant-octets l = record {
  text : l.out ++ attribute_text (drop l.octet-index l.value) ≡ l.initial.out ++ attribute_text l.value;
  front : take (length l.initial.out) l.out ≡ l.initial.out;
}
