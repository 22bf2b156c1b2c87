-- What is kept, as the definitions have it.
use Rattle.std.specs.Prelude.{◌≡◌, List, map, Some, None}
use Rattle.cal_base.specs.Xml.XmlFaults as definition
use Rattle.cal_base.specs.Xml.XmlMarkup.{Tag}
use Rattle.dav_body.specs.declared.resolve.Resolved.{Resolved}
use Rattle.dav_body.specs.declared.resolve.Resolved.TheVariants.{Fault, Open}
use Rattle.dav_body.specs.declared.open_elements.OpenElement.{OpenElement}
use Rattle.dav_body.specs.declared.progress.Progress.{Progress}
use Rattle.dav_body.specs.declared.progress.Progress.TheVariants.{Nothing, Within, Whole}
use Rattle.dav_body.specs.Reading.{opened}
use Rattle.dav_body.specs.Faults.{why_told}
use Rattle.dav_body.specs.OpenParts.{open_part}
use Rattle.dav_body.specs.Keeping.{Kept, part_tags, nothing, inside, behind}

abbrev pub kept_of : Progress → Kept
kept_of Nothing = nothing
kept_of (Within inner around) = inside (open_part inner) (map open_part around)
kept_of (Whole element) = behind element

-- what a tag is within these: why it cannot stand, or the element that it opens
abbrev pub IsResolved : List OpenElement → Tag → Resolved → Type 0
IsResolved around tag (Fault why) = definition.tag_fault (part_tags (map open_part around)) tag ≡ Some (why_told why)
IsResolved around tag (Open open_one) = (definition.tag_fault (part_tags (map open_part around)) tag ≡ None) × (open_part open_one ≡ opened tag (map open_part around))
