-- The map of names to values that the fields of a head make.
use Rattle.std.specs.Prelude.{ℕ, List, [], map}
use Rattle.http_header.specs.Token.{lowercase}
use Rattle.http_header.specs.FieldName.{IsFieldName}
use Rattle.http_header.specs.FieldValue.{FieldValue, plain_value, IsFieldValue}
use Rattle.http_header.specs.HeaderMap.{Entries, append_all}

-- a field's name and value, as octets
abbrev pub RawField : Type 0
RawField = List ℕ × List ℕ

-- the name and the value can stand in a map
abbrev pub IsRawField : RawField → Type 0
IsRawField field = IsFieldName field.0 × IsFieldValue field.1

-- the name in lower case, with its value
abbrev pub map_item : RawField → List ℕ × FieldValue
map_item field = (lowercase field.0, plain_value field.1)

-- the map that has each field, under its name, in order
abbrev pub fields_map : List RawField → Entries FieldValue
fields_map fields = append_all [] (map map_item fields)
