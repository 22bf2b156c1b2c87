-- Elements of bodies, in a short form for the examples.
use Rattle.std.specs.Prelude.{ℕ, List, [], ◌∷◌, codes, ℤ}
use Rattle.cal_base.specs.declared.element.Attr.{Attr}
use Rattle.cal_base.specs.declared.element.Element.{Element}
use Rattle.cal_base.specs.declared.element.Item.{Item}
use Rattle.cal_base.specs.declared.element.Item.TheVariants.{Element as Inner, Text}
use Rattle.cal_model.specs.declared.row.Range.{Range}
use Rattle.cal_model.specs.Words.Namespaces.{dav, caldav}

-- an attribute in no namespace
abbrev pub attribute : List ℕ → List ℕ → Attr
attribute name value = record { space = []; name = name; value = value }

-- elements of WebDAV and of CalDAV, as roots and within others
abbrev pub dav_root : List ℕ → List Item → Element
dav_root name items = record { space = dav; name = name; attrs = []; items = items }

abbrev pub caldav_root : List ℕ → List Item → Element
caldav_root name items = record { space = caldav; name = name; attrs = []; items = items }

abbrev pub dav_item : List ℕ → List Item → Item
dav_item name items = Inner (dav_root name items)

abbrev pub caldav_item : List ℕ → List Attr → List Item → Item
caldav_item name attrs items = Inner (record { space = caldav; name = name; attrs = attrs; items = items })

-- an element of another namespace
abbrev pub other_item : List ℕ → List Item → Item
other_item name items = Inner (record { space = codes "urn:x"; name = name; attrs = []; items = items })

-- an element with the attribute `name`
abbrev pub named_item : List ℕ → List ℕ → List Item → Item
named_item kind name items = caldav_item kind (attribute (codes "name") name ∷ []) items

-- a range with both ends, of an element of this name
abbrev pub range_item : List ℕ → List ℕ → List ℕ → Item
range_item kind start end = caldav_item kind (attribute (codes "start") start ∷ attribute (codes "end") end ∷ []) []

-- 1 to 2 January 2025
abbrev pub time_range : Item
time_range = range_item (codes "time-range") (codes "20250101T000000Z") (codes "20250102T000000Z")

abbrev pub is_not_defined : Item
is_not_defined = caldav_item (codes "is-not-defined") [] []

abbrev pub text_match : List Attr → List ℕ → Item
text_match attrs text = caldav_item (codes "text-match") attrs (Text text ∷ [])

abbrev pub range : ℤ → ℤ → Range
range start end = record { start = record { 0 = start }; end = record { 0 = end } }
