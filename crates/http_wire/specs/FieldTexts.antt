-- What the fields of a head say, by their names.
use Rattle.std.specs.Prelude.{◌≡◌, ℕ, Bool, not, nat_lt, List, map, filter, find, length, slice_get, bytes_eq, codes, Option, Some, None}
use Rattle.std.specs.Str.{str_eq_ignore_ascii_case}
use Rattle.http_header.specs.Token.{lowercase}
use Rattle.http_header.specs.FieldValue.{FieldValue}
use Rattle.http_header.specs.HeaderMap.{get_all}
use Rattle.httparse.specs.Grammar.{RequestHead}
use Rattle.httparse.specs.Spans.{name_and_value}
use Rattle.http_wire.specs.declared.fields.Fields.{Fields}
use Rattle.http_wire.specs.FieldMaps.{fields_map}

-- the values under a name, which compares without ASCII case, among names and values
abbrev pub values_named : List ℕ → List (List ℕ × List ℕ) → List (List ℕ)
values_named name pairs = map (λ (pair : List ℕ × List ℕ). pair.1) (filter (λ (pair : List ℕ × List ℕ). str_eq_ignore_ascii_case pair.0 name) pairs)

-- the values of the fields of a name, in order
abbrev pub values_of : List ℕ → Fields → List (List ℕ)
values_of name fields = map (λ (value : FieldValue). value.bytes) (get_all fields.by_name (lowercase name))

-- the fields of a head
abbrev pub AreFieldsOf : Fields → RequestHead → Type 0
AreFieldsOf fields head = fields.by_name ≡ fields_map (map name_and_value head.fields)

-- several fields have the name
abbrev pub is_several : Fields → List ℕ → Bool
is_several fields name = nat_lt 1 (length (values_of name fields))

-- of several codings the first other than `identity`, else the first
abbrev pub coding_among : List (List ℕ) → Option (List ℕ)
coding_among codings = elim (find (λ coding. not (bytes_eq coding (codes "identity"))) codings) [ None ↦ slice_get codings 0 | Some coding ↦ Some coding ]
