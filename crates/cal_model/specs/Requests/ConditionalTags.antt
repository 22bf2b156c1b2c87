-- The values of If-Match and If-None-Match (RFC 9110, 8.8.3, 13.1.1 and 13.1.2).
-- Given: the value of such a field. Gives: its tags, if it is well formed: a list has a member at least, and none of them is empty.
use Rattle.std.specs.Prelude.{ℕ, Bool, false, not, ◌&&◌, ◌==◌, nat_eq, nat_lt, if◌then◌else◌, List, [], ◌∷◌, map, drop, bytes_eq, codes, Option, Some, None, option_map, option_and_then}
use Rattle.std.specs.List.{list_all, starts_with}
use Rattle.httparse.specs.Grammar.{trim_ows}
use Rattle.cal_base.specs.Lines.ContentLines.{unquoted_pieces, quoted_value, every}
use Rattle.cal_base.specs.Texts.Octets.{double_quote, comma}
use Rattle.cal_model.specs.declared.request.Tags.{Tags}
use Rattle.cal_model.specs.declared.request.Tags.TheVariants.{Any, Listed}

-- an octet of a tag: visible, or past ASCII; the quote is none (8.8.3)
abbrev pub is_tag_octet : ℕ → Bool
is_tag_octet octet = nat_lt 32 octet && not (octet == 127) && not (octet == double_quote)

-- `"` octets `"`
abbrev pub opaque_tag : List ℕ → Option (List ℕ)
opaque_tag [] = None
opaque_tag (octet ∷ text) =
    if octet == double_quote then option_and_then (λ tag. if list_all is_tag_octet tag then Some tag else None) (quoted_value text) else None

-- a tag, and whether it is weak: `W/` stands in front then
abbrev pub entity_tag : List ℕ → Option (Bool × List ℕ)
entity_tag text =
    let weak = starts_with nat_eq text (codes "W/") in
    option_map (λ tag. (weak, tag)) (opaque_tag (if weak then drop 2 text else text))

-- `*`, or one or more tags with commas between them and spaces and tabs around
unfoldable pub tags_of : List ℕ → Option Tags
tags_of value =
    if bytes_eq value (codes "*") then Some Any
    else option_map Listed (every (map (λ piece. entity_tag (trim_ows piece)) (unquoted_pieces comma false value)))
