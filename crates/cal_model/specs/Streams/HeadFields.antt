-- What the fields of a head say (RFC 9112, 6, 9.3 and 9.6; RFC 9110, 5 and 8), how its body is framed, and why a head is refused.
-- Given: a head, or a block of octets that may be one. Gives: the request without its body; the framing of the body; the head of a block, or its fault.
use Rattle.std.specs.Prelude.{ℕ, ◌-◌, Bool, false, not, ◌&&◌, ◌||◌, ◌==◌, nat_eq, nat_lt, nat_le, if◌then◌else◌, List, [], ◌∷◌, map, filter, find, length, drop, slice_get, slice_index, bytes_eq, codes, Option, Some, None, is_some, option_and_then, unwrap_or, Result, Ok, Err}
use Rattle.std.specs.Char.{is_ascii_digit}
use Rattle.std.specs.List.{list_any, starts_with, before_first}
use Rattle.std.specs.Str.{str_eq_ignore_ascii_case}
use Rattle.httparse.specs.Grammar.{trim_ows, Field, field_value, RequestHead}
use Rattle.cal_base.specs.Lines.ContentLines.{pieces, without_return}
use Rattle.cal_base.specs.Texts.Octets.{line_feed, comma}
use Rattle.cal_base.specs.Xml.XmlMarkup.{number_of_digits}
use Rattle.cal_model.specs.declared.wire.WireFault.{WireFault}
use Rattle.cal_model.specs.declared.wire.WireFault.TheVariants.{BadHead, HeadTooLong, BodyTooLong, Version}
use Rattle.cal_model.specs.declared.wire.WireRequest.{WireRequest}
use Rattle.cal_model.specs.Words.Lists.{is_empty}
use Rattle.cal_model.specs.Words.TextLines.{with_commas}
use Rattle.cal_model.specs.Streams.WireLimits.{field_limit, body_limit}
use Rattle.cal_model.specs.Streams.Heads.{version_of, head_of}

-- Values (RFC 9110, 5.1 to 5.3)

-- the values of the fields of a name, which compares without ASCII case, in order
abbrev pub values : List ℕ → RequestHead → List (List ℕ)
values name head = map field_value (filter (λ (field : Field). str_eq_ignore_ascii_case field.name name) head.fields)

-- the value of a field that stands once at most
abbrev pub value_of : List ℕ → RequestHead → Option (List ℕ)
value_of name head = slice_get (values name head) 0

-- the values of several fields as one (5.3)
abbrev pub joined : List (List ℕ) → Option (List ℕ)
joined [] = None
joined (value ∷ more) = Some (with_commas (value ∷ more))

-- some option of a Connection field is `close`, with this very case (RFC 9112, 9.6)
abbrev pub names_close : List ℕ → Bool
names_close value = list_any (λ option. bytes_eq (trim_ows option) (codes "close")) (pieces comma value)

-- the connection closes after the reply: version 1.0, or that option (RFC 9112, 9.3)
abbrev pub asks_close : RequestHead → Bool
asks_close head = (head.minor == 0) || list_any names_close (values (codes "connection") head)

-- the content coding: of several fields the first other than `identity`, else the first (RFC 9110, 8.4)
abbrev pub coding_of : RequestHead → Option (List ℕ)
coding_of head =
    let codings = values (codes "content-encoding") head in
    elim (find (λ coding. not (bytes_eq coding (codes "identity"))) codings) [ None ↦ slice_get codings 0 | Some coding ↦ Some coding ]

-- the request of a head and a body
unfoldable pub wire_request : RequestHead → List ℕ → WireRequest
wire_request head body = record {
  method = head.method;
  target = head.target;
  close = asks_close head;
  authorization = value_of (codes "authorization") head;
  media = value_of (codes "content-type") head;
  coding = coding_of head;
  depth = value_of (codes "depth") head;
  if_match = joined (values (codes "if-match") head);
  if_none = joined (values (codes "if-none-match") head);
  body = body;
}

-- How its body is framed (RFC 9112, 6)

-- a body of so many octets, or one in chunks
pub data Framing : Type 0 where
  sized : ℕ → Framing
  chunked : Framing

-- the value of a Content-Length: 1 to 19 digits (RFC 9110, 8.6)
abbrev pub length_of : List ℕ → Option ℕ
length_of value = if nat_le (length value) 19 then number_of_digits 10 value else None

-- no body where no field speaks of one
abbrev pub framing_of : RequestHead → Framing
framing_of head =
    if is_empty (values (codes "transfer-encoding") head)
    then sized (unwrap_or (option_and_then length_of (value_of (codes "content-length") head)) 0)
    else chunked

-- Why it is refused

-- the fields that stand once at most; of If-Match and If-None-Match several are joined, and all others are passed over
abbrev pub single_fields : List (List ℕ)
single_fields = codes "authorization" ∷ codes "content-length" ∷ codes "content-type" ∷ codes "depth" ∷ codes "transfer-encoding" ∷ []

abbrev pub is_repeated : RequestHead → List ℕ → Bool
is_repeated head name = nat_lt 1 (length (values name head))

-- a field of these twice, two framings, or one that is not known (RFC 9112, 6.1 to 6.3): the coding is `chunked` with this very case
abbrev pub is_contradictory : RequestHead → Bool
is_contradictory head =
    let lengths = values (codes "content-length") head in
    let codings = values (codes "transfer-encoding") head in
    list_any (is_repeated head) single_fields
    || not (is_empty lengths) && not (is_empty codings)
    || list_any (λ value. not (is_some (length_of value))) lengths
    || list_any (λ value. not (bytes_eq value (codes "chunked"))) codings

abbrev pub is_too_long : Framing → Bool
is_too_long (sized size) = nat_lt body_limit size
is_too_long chunked = false

-- how many lines stand between the first and the empty one
abbrev pub field_lines : List ℕ → ℕ
field_lines block = length (pieces line_feed block) - 3

-- the request line, without its end
abbrev pub first_line : List ℕ → List ℕ
first_line block = without_return (before_first (λ octet. octet == line_feed) block)

-- it ends in `HTTP/`, a digit, `.` and a digit, and names neither of the two versions (RFC 9112, 2.3)
abbrev pub names_other_version : List ℕ → Bool
names_other_version line =
    let word = drop (length line - 8) line in
    starts_with nat_eq word (codes "HTTP/") && is_ascii_digit (slice_index word 5) && (slice_index word 6 == 46) && is_ascii_digit (slice_index word 7)
    && not (is_some (version_of word))

-- The head of a block, or its fault: too many field lines, another version, no head, fields that contradict each other, a body that is too long, in this order.
unfoldable pub read_head : List ℕ → Result RequestHead WireFault
read_head block =
    if nat_lt field_limit (field_lines block) then Err HeadTooLong
    else if names_other_version (first_line block) then Err Version
    else elim (head_of block) [
      | None ↦ Err BadHead
      | Some head ↦ if is_contradictory head then Err BadHead else if is_too_long (framing_of head) then Err BodyTooLong else Ok head
    ]
