-- Values and text, met piece by piece.
use Rattle.std.proofs.Common.{◌≡◌, ℕ, true, false, List, [], ◌∷◌, ◌++◌, Option, Some, None, refl, sym, ap, ◌∙◌, append_assoc, flat_map}
use Rattle.std.specs.Prelude.{if◌then◌else◌, ◌==◌, unwrap_or}
use Rattle.cal_base.specs.Texts.Octets.{line_feed, carriage_return}
use Rattle.cal_base.specs.Xml.XmlMarkup.{Markup, opening, closing, character, section, reference, skipped, markups, markup_of, referenced}
use Rattle.cal_base.specs.Xml.XmlScopes.{piece_octets, value_octets}
use Rattle.cal_base.specs.Xml.XmlBodies.{with_line_feeds}
use Rattle.dav_body.specs.Shown.{reference_name}
use Rattle.dav_body.specs.LineFeeds.{octet_shown}

-- what a piece stands for, by the markup that it is
abbrev of_markup : List ℕ → Option Markup → List ℕ
of_markup piece found = elim found [
  | None ↦ piece
  | Some (opening tag) ↦ piece
  | Some (closing name) ↦ piece
  | Some (character text) ↦ piece
  | Some (section text) ↦ piece
  | Some (reference name) ↦ unwrap_or (referenced name) piece
  | Some skipped ↦ piece
]

pub piece_none : (piece : List ℕ) → None ≡ markup_of piece → piece_octets piece ≡ piece
piece_none piece none = ap (of_markup piece) (sym none)

-- the same by the name of a reference
abbrev by_name : List ℕ → Option (List ℕ) → List ℕ
by_name piece name = elim name [ None ↦ piece | Some text ↦ unwrap_or (referenced text) piece ]

of_markup-name : (piece : List ℕ) (markup : Markup) → of_markup piece (Some markup) ≡ by_name piece (reference_name markup)
of_markup-name piece (opening tag) = refl
of_markup-name piece (closing name) = refl
of_markup-name piece (character text) = refl
of_markup-name piece (section text) = refl
of_markup-name piece (reference name) = refl
of_markup-name piece skipped = refl

piece_is : (piece : List ℕ) (markup : Markup) (name : Option (List ℕ)) → Some markup ≡ markup_of piece → name ≡ reference_name markup → piece_octets piece ≡ by_name piece name
piece_is piece markup name is named = ap (of_markup piece) (sym is) ∙ of_markup-name piece markup ∙ ap (by_name piece) (sym named)

pub piece_reference : (piece name : List ℕ) (markup : Markup) → Some markup ≡ markup_of piece → Some name ≡ reference_name markup → piece_octets piece ≡ unwrap_or (referenced name) piece
piece_reference piece name markup is named = piece_is piece markup (Some name) is named

pub piece_other : (piece : List ℕ) (markup : Markup) → Some markup ≡ markup_of piece → None ≡ reference_name markup → piece_octets piece ≡ piece
piece_other piece markup is named = piece_is piece markup None is named

pub value_step : (out octets rest piece behind all : List ℕ) → octets ≡ out ++ piece_octets piece → markups rest ≡ piece ∷ markups behind → out ++ value_octets rest ≡ all → octets ++ value_octets behind ≡ all
value_step out octets rest piece behind all now cut before =
    ap (λ front. front ++ value_octets behind) now
    ∙ append_assoc out (piece_octets piece) (value_octets behind)
    ∙ sym (ap (λ texts. out ++ flat_map piece_octets texts) cut)
    ∙ before

-- Ends of lines

pub line_feeds_first : (octet : ℕ) (behind : List ℕ) → with_line_feeds (octet ∷ behind) ≡ octet_shown octet behind ++ with_line_feeds behind
line_feeds_first octet [] = elim (octet == carriage_return) as (λ b. (if b then line_feed ∷ [] else octet ∷ []) ≡ (if b then line_feed ∷ [] else octet ∷ []) ++ []) [ true ↦ refl | false ↦ refl ]
line_feeds_first octet (next ∷ behind) = refl

pub line_feeds_step : (out octets behind all : List ℕ) (octet : ℕ) → octets ≡ out ++ octet_shown octet behind → out ++ with_line_feeds (octet ∷ behind) ≡ all → octets ++ with_line_feeds behind ≡ all
line_feeds_step out octets behind all octet now before =
    ap (λ front. front ++ with_line_feeds behind) now
    ∙ append_assoc out (octet_shown octet behind) (with_line_feeds behind)
    ∙ sym (ap (λ text. out ++ text) (line_feeds_first octet behind))
    ∙ before
