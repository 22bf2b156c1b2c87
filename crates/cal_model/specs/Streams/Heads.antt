-- The head of a request (RFC 9112, 2, 3 and 5): where it ends among the octets of a stream, and what its lines spell.
-- Given: octets. Gives: the size of the first head, and the head that a block of octets is, if it is one. A block is the octets of a head with the empty line that ends it and without the empty lines before it.
-- The grammar is that of the standard as the library `httparse` states it; `HeadGrammar` has the law that both are the same. Lines end in LF or CRLF (RFC 9112, 2.2).
use Rattle.std.specs.Prelude.{ℕ, suc, ◌+◌, ◌-◌, Bool, true, false, ◌&&◌, ◌==◌, nat_lt, if◌then◌else◌, List, [], ◌∷◌, length, bytes_eq, codes, Option, Some, None, option_map, option_and_then}
use Rattle.std.specs.List.{list_all}
use Rattle.std.specs.Str.{is_utf8}
use Rattle.httparse.specs.Grammar.{is_token, is_uri_byte, is_value_byte, LineEnd, crlf, lf, Field, RequestHead}
use Rattle.cal_base.specs.Lines.ContentLines.{pieces, without_return}
use Rattle.cal_base.specs.Texts.Octets.{line_feed, carriage_return, space, colon}
use Rattle.cal_model.specs.Words.Cuts.{cut_at}
use Rattle.cal_model.specs.Words.Lists.{is_empty}

-- Where a head ends (RFC 9112, 2.1 and 2.2)

-- the length of the empty line at the front, which is LF or CRLF, if there is one
abbrev pub empty_line : List ℕ → Option ℕ
empty_line [] = None
empty_line (b ∷ []) = if b == line_feed then Some 1 else None
empty_line (b ∷ c ∷ more) =
    if b == line_feed then Some 1 else if (b == carriage_return) && (c == line_feed) then Some 2 else None

-- the same behind an octet that is a line feed, counted with it
abbrev pub ends_here : ℕ → List ℕ → Option ℕ
ends_here b more = if b == line_feed then option_map suc (empty_line more) else None

-- how many octets there are up to the end of the first empty line that stands behind a line feed, itself counted
unfoldable pub head_end : List ℕ → Option ℕ
head_end [] = None
head_end (b ∷ more) = elim (ends_here b more) [
  | None ↦ option_map suc (head_end more)
  | Some n ↦ Some n
]

-- what stands behind the empty lines at the front, which are skipped
unfoldable pub without_empty_lines : List ℕ → List ℕ
without_empty_lines [] = []
without_empty_lines (b ∷ []) = if b == line_feed then [] else b ∷ []
without_empty_lines (b ∷ c ∷ more) = elim (b == line_feed) [
  | true ↦ without_empty_lines (c ∷ more)
  | false ↦ elim ((b == carriage_return) && (c == line_feed)) [ true ↦ without_empty_lines more | false ↦ b ∷ c ∷ more ]
]

-- how many octets there are up to the end of the first head, the empty lines before it counted
abbrev pub head_size : List ℕ → Option ℕ
head_size octets =
    let begun = without_empty_lines octets in
    option_map (λ n. (length octets - length begun) + n) (head_end begun)

-- What its lines spell (RFC 9112, 3 and 5)

-- how a line ends, by what stands before its line feed
abbrev pub end_of : List ℕ → LineEnd
end_of [] = lf
end_of (octet ∷ []) = if octet == carriage_return then crlf else lf
end_of (octet ∷ next ∷ line) = end_of (next ∷ line)

-- field-line = field-name ":" field-value, without white space before the colon (5.1); white space around the value is no part of it
abbrev pub field_of_parts : LineEnd → List ℕ × List ℕ → Option Field
field_of_parts end parts =
    if is_token parts.0 && list_all is_value_byte parts.1 then Some (record { name = parts.0; raw = parts.1; end = end }) else None

abbrev pub field_of : List ℕ → Option Field
field_of line = option_and_then (field_of_parts (end_of line)) (cut_at colon (without_return line))

-- HTTP/1.0 or HTTP/1.1 (2.3), by its last digit
abbrev pub version_of : List ℕ → Option ℕ
version_of text = if bytes_eq text (codes "HTTP/1.0") then Some 0 else if bytes_eq text (codes "HTTP/1.1") then Some 1 else None

-- any visible octets, as UTF-8: which path they name is not asked here
abbrev pub is_target : List ℕ → Bool
is_target text = nat_lt 0 (length text) && list_all is_uri_byte text && is_utf8 text

-- request-line = method SP request-target SP HTTP-version (3), of the words between its spaces
abbrev pub head_of_words : List (List ℕ) → LineEnd → List Field → LineEnd → Option RequestHead
head_of_words (method ∷ target ∷ version ∷ []) line_end fields last =
    if is_token method && is_target target
    then option_map (λ minor. record { blank = []; method = method; target = target; minor = minor; line_end = line_end; fields = fields; last = last }) (version_of version)
    else None
head_of_words _ line_end fields last = None

-- field lines and the line that ends them
abbrev pub Section : Type 0
Section = List Field × LineEnd

abbrev pub with_field : Option Field → Option Section → Option Section
with_field None section = None
with_field (Some field) section = option_map (λ (fields : Section). (field ∷ fields.0, fields.1)) section

-- field lines up to an empty line, behind which nothing stands
abbrev pub section_of : List (List ℕ) → Option Section
section_of [] = None
section_of (line ∷ []) = None
section_of (line ∷ behind ∷ []) = if is_empty (without_return line) && is_empty behind then Some ([], end_of line) else None
section_of (line ∷ next ∷ third ∷ more) = with_field (field_of line) (section_of (next ∷ third ∷ more))

-- the request line, and the section behind it
abbrev pub head_of_lines : List (List ℕ) → Option RequestHead
head_of_lines [] = None
head_of_lines (first ∷ more) =
    option_and_then (λ (fields : Section). head_of_words (pieces space (without_return first)) (end_of first) fields.0 fields.1) (section_of more)

-- the head that a block is, if it is one
unfoldable pub head_of : List ℕ → Option RequestHead
head_of block = head_of_lines (pieces line_feed block)
