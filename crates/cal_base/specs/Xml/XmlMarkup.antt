-- A body cut into its markup, and what each markup is by itself (XML 1.0, 2.4 to 2.7, 3.1 and 4.1). Where each ends is told by
-- how it begins, and what it is by a test of its whole text. In a tag alone a state goes from octet to octet, the quote that is
-- open: in `tag_size`, and in `quoted_pieces`.
use Rattle.std.specs.Prelude.{ℕ, zero, suc, ◌+◌, ◌-◌, ◌*◌, Bool, true, false, not, ◌&&◌, ◌||◌, ◌==◌, nat_eq, nat_le, if◌then◌else◌, List, [], ◌∷◌, ◌++◌, map, length, take, drop, fold, find, Option, Some, None, is_some, option_map, option_and_then, codes, encode_utf8}
use Rattle.std.specs.List.{list_any, starts_with, ends_with, take_while}
use Rattle.std.specs.Str.{bytes_eq, continuation_len}
use Rattle.cal_base.specs.Texts.Octets.{double_quote}
use Rattle.cal_base.specs.Texts.Text.{raised_all}
use Rattle.cal_base.specs.Lines.ContentLines.{onto_first, every}
use Rattle.cal_base.specs.Xml.XmlNames.{QName, qname_of, is_blank, are_blanks, begins_with_blank, is_plain_name, is_xml_character, is_xml_text}

-- Where a markup ends

abbrev pub begins : List ℕ → List ℕ → Bool
begins text front = starts_with nat_eq text front

abbrev pub ends : List ℕ → List ℕ → Bool
ends text end = ends_with nat_eq text end

-- how many octets a text has through the first of these ends in it; all, where there is none
abbrev pub size_through : List ℕ → List ℕ → ℕ
size_through end [] = 0
size_through end (octet ∷ text) = elim (begins (octet ∷ text) end) [ true ↦ length end | false ↦ suc (size_through end text) ]

abbrev pub is_quote : ℕ → Bool
is_quote octet = (octet == double_quote) || (octet == 39)

-- the quote that is open behind an octet, given the one that is open before it
abbrev pub quote_after : Option ℕ → ℕ → Option ℕ
quote_after None octet = if is_quote octet then Some octet else None
quote_after (Some quote) octet = if octet == quote then None else Some quote

-- how many octets a text has through the first `>` outside quotes; all, where there is none
abbrev pub tag_size : Option ℕ → List ℕ → ℕ
tag_size quote [] = 0
tag_size None (octet ∷ text) = elim (octet == 62) [ true ↦ 1 | false ↦ suc (tag_size (quote_after None octet) text) ]
tag_size (Some quote) (octet ∷ text) = suc (tag_size (quote_after (Some quote) octet) text)

-- the octets of a character, by the first of them
abbrev pub character_size : List ℕ → ℕ
character_size [] = 0
character_size (octet ∷ text) = suc (continuation_len octet)

-- how many octets the first markup of a text has. Text is cut into characters, with CR LF as one.
abbrev pub markup_size : List ℕ → ℕ
markup_size text =
    if begins text (codes "<!--") then 4 + size_through (codes "-->") (drop 4 text)
    else if begins text (codes "<![CDATA[") then 9 + size_through (codes "]]>") (drop 9 text)
    else if begins text (codes "<?") then 2 + size_through (codes "?>") (drop 2 text)
    else if begins text (codes "<") then 1 + tag_size None (drop 1 text)
    else if begins text (codes "&") then size_through (codes ";") text
    else if begins text (codes "]]>") then 3
    else if begins text (codes "\r\n") then 2
    else character_size text

-- a text cut into at most so many markups
abbrev pub cut : ℕ → List ℕ → List (List ℕ)
cut zero text = []
cut (suc count) [] = []
cut (suc count) (octet ∷ text) =
    let size = markup_size (octet ∷ text) in
    take size (octet ∷ text) ∷ cut count (drop size (octet ∷ text))

-- the markups of a text, each as its octets
abbrev pub markups : List ℕ → List (List ℕ)
markups text = cut (length text) text

-- What a markup is

-- an attribute, with its value as it stands between the quotes
pub record WrittenAttribute : Type 0 where
  pub name : QName
  pub value : List ℕ

-- a start tag, or the tag of an empty element
pub record Tag : Type 0 where
  pub name : QName
  pub attributes : List WrittenAttribute
  pub is_empty : Bool

-- `character` is a character of text or CR LF, `section` what a CDATA section holds, `reference` what stands between `&` and
-- `;`, and `skipped` a comment or a processing instruction
pub data Markup : Type 0 where
  opening : Tag → Markup
  closing : QName → Markup
  character : List ℕ → Markup
  section : List ℕ → Markup
  reference : List ℕ → Markup
  skipped : Markup

-- what stands between the first so many octets of a text and its end, if it has that end
abbrev pub inside : ℕ → List ℕ → List ℕ → Option (List ℕ)
inside start end text =
    let size = start + length end in
    if nat_le size (length text) && ends text end then Some (take (length text - size) (drop start text)) else None

-- a text stands somewhere in another
abbrev pub holds : List ℕ → List ℕ → Bool
holds part [] = length part == 0
holds part (octet ∷ text) = begins (octet ∷ text) part || holds part text

abbrev pub is_not_blank : ℕ → Bool
is_not_blank octet = not (is_blank octet)

-- a text without the blanks at its end
abbrev pub without_last_blanks : List ℕ → List ℕ
without_last_blanks [] = []
without_last_blanks (octet ∷ text) = elim (are_blanks (octet ∷ text)) [ true ↦ [] | false ↦ octet ∷ without_last_blanks text ]

-- a text without the blanks at its start
abbrev pub without_first_blanks : List ℕ → List ℕ
without_first_blanks [] = []
without_first_blanks (octet ∷ text) = elim (is_blank octet) [ true ↦ without_first_blanks text | false ↦ octet ∷ text ]

-- Tags (3.1)

-- the pieces of a text outside and inside quotes, in turn
abbrev pub quoted_pieces : Option ℕ → List ℕ → List (List ℕ)
quoted_pieces quote [] = [] ∷ []
quoted_pieces None (octet ∷ text) = elim (is_quote octet) [
  | true ↦ [] ∷ quoted_pieces (Some octet) text
  | false ↦ onto_first octet (quoted_pieces None text)
]
quoted_pieces (Some quote) (octet ∷ text) = elim (octet == quote) [
  | true ↦ [] ∷ quoted_pieces None text
  | false ↦ onto_first octet (quoted_pieces (Some quote) text)
]

-- the name of an attribute, of what stands before its value: blanks, the name, and `=` with or without blanks around it
abbrev pub attribute_name : List ℕ → Option QName
attribute_name text =
    let front = without_last_blanks text in
    if begins_with_blank text && ends front (codes "=")
    then qname_of (without_last_blanks (without_first_blanks (take (length front - 1) front)))
    else None

-- an attribute; no `<` stands in its value
abbrev pub attribute_of : List ℕ → List ℕ → Option WrittenAttribute
attribute_of before value =
    if holds (codes "<") value then None else option_map (λ name. record { name = name; value = value }) (attribute_name before)

-- the attributes of the pieces behind a tag's name, of which the last has blanks alone
abbrev pub attributes_of : List (List ℕ) → Option (List WrittenAttribute)
attributes_of [] = None
attributes_of (last ∷ []) = if are_blanks last then Some [] else None
attributes_of (before ∷ value ∷ more) =
    option_and_then (λ attribute. option_map (λ others. attribute ∷ others) (attributes_of more)) (attribute_of before value)

-- a tag of its name and of what stands behind it
abbrev pub tag_of_parts : Bool → QName → List ℕ → Option Markup
tag_of_parts is_empty name behind =
    option_map (λ attributes. opening (record { name = name; attributes = attributes; is_empty = is_empty })) (attributes_of (quoted_pieces None behind))

-- a tag of what stands between `<` and `>` or `/>`
abbrev pub tag_of : Bool → List ℕ → Option Markup
tag_of is_empty text =
    let name = take_while is_not_blank text in
    option_and_then (λ named. tag_of_parts is_empty named (drop (length name) text)) (qname_of name)

-- the tag that a text is
abbrev pub opening_of : List ℕ → Option Markup
opening_of text = if ends text (codes "/>") then option_and_then (tag_of true) (inside 1 (codes "/>") text) else option_and_then (tag_of false) (inside 1 (codes ">") text)

-- the end tag that a text is: a name, and perhaps blanks
abbrev pub closing_of : List ℕ → Option Markup
closing_of text = option_and_then (λ name. option_map closing (qname_of (without_last_blanks name))) (inside 2 (codes ">") text)

-- Comments, CDATA sections and processing instructions (2.5 to 2.7)

-- no `--` stands in a comment, nor a `-` before its end
abbrev pub comment_of : List ℕ → Option Markup
comment_of text = option_and_then (λ comment. if holds (codes "--") (comment ++ codes "-") then None else Some skipped) (inside 4 (codes "-->") text)

-- what a section holds
abbrev pub section_of : List ℕ → Option Markup
section_of text = option_map section (inside 9 (codes "]]>") text)

-- the target is a name, and not `xml` in any case
abbrev pub is_target : List ℕ → Bool
is_target target = is_plain_name target && not (bytes_eq (raised_all target) (codes "XML"))

-- an instruction: a target, and nothing or a blank and more behind it
abbrev pub instruction_of : List ℕ → Option Markup
instruction_of text =
    option_and_then (λ instruction. if is_target (take_while is_not_blank instruction) then Some skipped else None) (inside 2 (codes "?>") text)

-- References (4.1)

-- the value of a digit of a base up to 16
abbrev pub digit_value : ℕ → ℕ → Option ℕ
digit_value base octet =
    if nat_le 48 octet && nat_le octet 57 then Some (octet - 48)
    else if (base == 16) && nat_le 97 octet && nat_le octet 102 then Some (octet - 87)
    else if (base == 16) && nat_le 65 octet && nat_le octet 70 then Some (octet - 55)
    else None

-- the number of at least one digit
abbrev pub number_of_digits : ℕ → List ℕ → Option ℕ
number_of_digits base [] = None
number_of_digits base (octet ∷ text) = option_map (fold (λ number digit. number * base + digit) 0) (every (map (digit_value base) (octet ∷ text)))

-- the number of a character reference: `#x` and hexadecimal digits, or `#` and decimal ones
abbrev pub referenced_number : List ℕ → Option ℕ
referenced_number text =
    if begins text (codes "#x") then number_of_digits 16 (drop 2 text)
    else if begins text (codes "#") then number_of_digits 10 (drop 1 text)
    else None

-- a reference by name or by number, whether it stands for something or not
abbrev pub is_reference : List ℕ → Bool
is_reference text = is_plain_name text || is_some (referenced_number text)

-- the reference that a text is
abbrev pub reference_of : List ℕ → Option Markup
reference_of text = option_and_then (λ name. if is_reference name then Some (reference name) else None) (inside 1 (codes ";") text)

-- the entities that need no declaration (4.6)
abbrev pub entities : List (List ℕ × List ℕ)
entities = (codes "amp", codes "&") ∷ (codes "lt", codes "<") ∷ (codes "gt", codes ">") ∷ (codes "quot", codes "\"") ∷ (codes "apos", codes "'") ∷ []

abbrev pub entity_octets : List ℕ → Option (List ℕ)
entity_octets name = option_map (λ (entity : List ℕ × List ℕ). entity.1) (find (λ (entity : List ℕ × List ℕ). bytes_eq entity.0 name) entities)

abbrev pub character_octets : ℕ → Option (List ℕ)
character_octets number = if is_xml_character number then Some (encode_utf8 number) else None

-- the octets that a reference stands for; none for another entity, and for the number of no character
abbrev pub referenced : List ℕ → Option (List ℕ)
referenced text = elim (referenced_number text) [ None ↦ entity_octets text | Some number ↦ character_octets number ]

-- Any markup

-- the markup that a text is by itself. The rows are those of where it ends; `]]>` is none.
abbrev pub markup_of : List ℕ → Option Markup
markup_of text =
    if not (is_xml_text text) then None
    else if begins text (codes "<!--") then comment_of text
    else if begins text (codes "<![CDATA[") then section_of text
    else if begins text (codes "<?") then instruction_of text
    else if begins text (codes "</") then closing_of text
    else if begins text (codes "<") then opening_of text
    else if begins text (codes "&") then reference_of text
    else if begins text (codes "]]>") then None
    else Some (character text)

-- the whole text is one markup
abbrev pub is_one_markup : List ℕ → Bool
is_one_markup text = (markup_size text == length text) && is_some (markup_of text)

-- what a markup that is cut needs to be whole: for each place in a markup at which it can be cut, one text that ends it
abbrev pub endings : List (List ℕ)
endings =
    map (λ n. drop n (codes "<!---->")) (1 ∷ 2 ∷ 3 ∷ 4 ∷ 5 ∷ 6 ∷ [])
    ++ map (λ n. drop n (codes "<![CDATA[]]>")) (2 ∷ 3 ∷ 4 ∷ 5 ∷ 6 ∷ 7 ∷ 8 ∷ 9 ∷ [])
    ++ codes "a?>" ∷ codes "?>"
    ∷ codes "a>" ∷ codes "a=\"\">" ∷ codes "=\"\">" ∷ codes "\"\">" ∷ codes "\">" ∷ codes "'>"
    ∷ codes "a;" ∷ codes "0;" ∷ codes ";" ∷ []

-- a markup that the end of the text cuts
abbrev pub can_go_on : List ℕ → Bool
can_go_on text = list_any (λ ending. is_one_markup (text ++ ending)) endings
