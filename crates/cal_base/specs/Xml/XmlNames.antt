-- The characters, the white space and the names of XML (XML 1.0, fifth edition, 2.2 and 2.3; Namespaces in XML 1.0, 3 and 4).
-- Each is a test of a whole text; nothing here knows where in a body the text stands.
use Rattle.std.specs.Prelude.{ℕ, Bool, false, ◌&&◌, ◌||◌, ◌==◌, nat_le, if◌then◌else◌, List, [], ◌∷◌, Option, Some, None}
use Rattle.std.specs.List.{list_any, list_all}
use Rattle.std.specs.Str.{is_utf8, chars, bytes_eq}
use Rattle.cal_base.specs.Texts.Octets.{tab, line_feed, carriage_return, space, colon}
use Rattle.cal_base.specs.Lines.ContentLines.{pieces}

-- White space: SPACE, TAB, LF and CR (2.3)

abbrev pub is_blank : ℕ → Bool
is_blank octet = (octet == space) || (octet == tab) || (octet == line_feed) || (octet == carriage_return)

abbrev pub are_blanks : List ℕ → Bool
are_blanks text = list_all is_blank text

abbrev pub begins_with_blank : List ℕ → Bool
begins_with_blank [] = false
begins_with_blank (octet ∷ text) = is_blank octet

-- Characters (2.2)

-- a character within one of some ranges, each from its first to its last
abbrev pub is_among : List (ℕ × ℕ) → ℕ → Bool
is_among ranges character = list_any (λ (range : ℕ × ℕ). nat_le range.0 character && nat_le character range.1) ranges

-- every character but the controls, the surrogates, U+FFFE and U+FFFF; of the controls TAB, LF and CR are characters
abbrev pub is_xml_character : ℕ → Bool
is_xml_character character =
    is_among ((0x9, 0xA) ∷ (0xD, 0xD) ∷ (0x20, 0xD7FF) ∷ (0xE000, 0xFFFD) ∷ (0x10000, 0x10FFFF) ∷ []) character

-- UTF-8 of such characters
abbrev pub is_xml_text : List ℕ → Bool
is_xml_text text = is_utf8 text && list_all is_xml_character (chars text)

-- Names without a colon (2.3; Namespaces, 3)

-- NameStartChar but the colon
abbrev pub name_starts : List (ℕ × ℕ)
name_starts =
    (0x41, 0x5A) ∷ (0x5F, 0x5F) ∷ (0x61, 0x7A) ∷ (0xC0, 0xD6) ∷ (0xD8, 0xF6) ∷ (0xF8, 0x2FF) ∷ (0x370, 0x37D)
    ∷ (0x37F, 0x1FFF) ∷ (0x200C, 0x200D) ∷ (0x2070, 0x218F) ∷ (0x2C00, 0x2FEF) ∷ (0x3001, 0xD7FF) ∷ (0xF900, 0xFDCF)
    ∷ (0xFDF0, 0xFFFD) ∷ (0x10000, 0xEFFFF) ∷ []

-- what NameChar has beside those: `-`, `.`, digits, and combining and joining characters
abbrev pub name_followers : List (ℕ × ℕ)
name_followers = (0x2D, 0x2E) ∷ (0x30, 0x39) ∷ (0xB7, 0xB7) ∷ (0x300, 0x36F) ∷ (0x203F, 0x2040) ∷ []

abbrev pub is_name_start : ℕ → Bool
is_name_start character = is_among name_starts character

abbrev pub is_name_character : ℕ → Bool
is_name_character character = is_name_start character || is_among name_followers character

abbrev pub are_name_characters : List ℕ → Bool
are_name_characters [] = false
are_name_characters (character ∷ characters) = is_name_start character && list_all is_name_character characters

-- NCName, in octets
abbrev pub is_plain_name : List ℕ → Bool
is_plain_name text = is_utf8 text && are_name_characters (chars text)

-- Names with a prefix (Namespaces, 4)

-- a name as it is written: its prefix, empty where there is none, and the name behind it
pub record QName : Type 0 where
  pub prefix : List ℕ
  pub local : List ℕ

-- a name of the pieces between its colons
abbrev pub qname_of_pieces : List (List ℕ) → Option QName
qname_of_pieces [] = None
qname_of_pieces (local ∷ []) = if is_plain_name local then Some (record { prefix = []; local = local }) else None
qname_of_pieces (prefix ∷ local ∷ []) =
    if is_plain_name prefix && is_plain_name local then Some (record { prefix = prefix; local = local }) else None
qname_of_pieces (first ∷ second ∷ third ∷ more) = None

-- the name that a text is
abbrev pub qname_of : List ℕ → Option QName
qname_of text = qname_of_pieces (pieces colon text)

abbrev pub is_same_name : QName → QName → Bool
is_same_name one other = bytes_eq one.prefix other.prefix && bytes_eq one.local other.local
