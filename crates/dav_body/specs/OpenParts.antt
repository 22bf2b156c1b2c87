-- An open element, as the definitions have it.
use Rattle.dav_body.specs.declared.open_elements.OpenElement.{OpenElement}
use Rattle.dav_body.specs.Reading.{OpenPart}

abbrev pub open_part : OpenElement → OpenPart
open_part open_one = record { tag = open_one.tag; space = open_one.space; name = open_one.name; attrs = open_one.attrs; items = open_one.items; text = open_one.text }
