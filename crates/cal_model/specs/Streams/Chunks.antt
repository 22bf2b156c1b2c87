-- A body in chunks (RFC 9112, 7.1): the chunk lines with their sizes, the octets of the chunks, and the trailer, whose fields are dropped.
-- Given: the octets behind a head. Gives: the body and what stands behind it; or that the body is cut; or its first fault. A fault shows at the first octet with which no body goes on. A total above the limit shows at the end of the chunk line that states it.
-- `ChunkGrammar` has the grammar as the standard prints it, and the laws that this is it.
use Rattle.std.specs.Prelude.{ℕ, zero, suc, ◌+◌, ◌-◌, Bool, true, false, not, ◌&&◌, ◌||◌, ◌==◌, nat_lt, nat_le, if◌then◌else◌, List, [], ◌∷◌, ◌++◌, length, take, drop, codes, Option, Some, None, is_some, option_map, option_and_then}
use Rattle.std.specs.List.{list_any, list_all}
use Rattle.httparse.specs.Grammar.{is_extension_byte}
use Rattle.cal_base.specs.Texts.Octets.{line_feed, carriage_return, semicolon}
use Rattle.cal_base.specs.Xml.XmlMarkup.{number_of_digits}
use Rattle.cal_model.specs.declared.wire.WireFault.{WireFault}
use Rattle.cal_model.specs.declared.wire.WireFault.TheVariants.{BodyTooLong, BadChunk}
use Rattle.cal_model.specs.Streams.WireLimits.{head_limit, body_limit, chunk_line_limit}
use Rattle.cal_model.specs.Words.Cuts.{cut_at}
use Rattle.cal_model.specs.Streams.Heads.{empty_line, head_end}

-- Lines

-- what stands before the semicolon, or all where there is none
abbrev pub before_extension : List ℕ → List ℕ
before_extension text = elim (cut_at semicolon text) [ None ↦ text | Some parts ↦ parts.0 ]

-- 1 to 8 hexadecimal digits
abbrev pub size_of : List ℕ → Option ℕ
size_of digits = if nat_le (length digits) 8 then number_of_digits 16 digits else None

-- a line without its CRLF
abbrev pub before_break : List ℕ → Option (List ℕ)
before_break [] = None
before_break (octet ∷ []) = None
before_break (octet ∷ next ∷ []) = if (octet == carriage_return) && (next == line_feed) then Some [] else None
before_break (octet ∷ next ∷ third ∷ line) = option_map (λ text. octet ∷ text) (before_break (next ∷ third ∷ line))

-- the size that the text of a chunk line states: digits, and perhaps an extension, which is `;` and any octets but CR and LF (7.1.1)
abbrev pub text_size : List ℕ → Option ℕ
text_size text = if list_all is_extension_byte text then size_of (before_extension text) else None

-- the size that a chunk line states
unfoldable pub chunk_size : List ℕ → Option ℕ
chunk_size line = if nat_le (length line) chunk_line_limit then option_and_then text_size (before_break line) else None

-- octets with which a chunk line can begin and not end: with one of these endings they are one. Where digits may stand next, the first ends them; behind the digits or in an extension, the second; behind the CR, the last.
abbrev pub begins_chunk_line : List ℕ → Bool
begins_chunk_line octets = list_any (λ ending. is_some (chunk_size (octets ++ ending))) (codes "0\r\n" ∷ codes "\r\n" ∷ codes "\n" ∷ [])

-- some octets, or they with some more of those that follow, pass a test
abbrev pub has_front : (List ℕ → Bool) → List ℕ → List ℕ → Bool
has_front test octets [] = test octets
has_front test octets (next ∷ more) = test octets || has_front test (octets ++ next ∷ []) more

-- how many octets the first line has, its line feed counted
unfoldable pub line_size : List ℕ → Option ℕ
line_size [] = None
line_size (octet ∷ octets) = elim (octet == line_feed) [ true ↦ Some 1 | false ↦ option_map suc (line_size octets) ]

-- what of it stands before its line feed, or all where there is none
unfoldable pub first_line_text : List ℕ → List ℕ
first_line_text [] = []
first_line_text (octet ∷ octets) = if octet == line_feed then [] else octet ∷ first_line_text octets

-- a line goes wrong before it ends: no chunk line begins with so much of it as some front has
unfoldable pub is_broken : List ℕ → Bool
is_broken text = has_front (λ front. not (begins_chunk_line front)) [] (take chunk_line_limit text)

-- the lines up to the first empty one (7.1.2): how many octets they have
abbrev pub trailer_size : List ℕ → Option ℕ
trailer_size octets = elim (empty_line octets) [ None ↦ head_end octets | Some n ↦ Some n ]

-- octets that such lines can begin with: their empty line ends no earlier than with two line feeds
abbrev pub begins_trailer : List ℕ → Bool
begins_trailer octets = elim (trailer_size (octets ++ codes "\n\n")) [ None ↦ false | Some n ↦ nat_le n head_limit ]

-- Bodies

-- a whole body and what stands behind it, one that is cut, or the first fault
pub data Chunked : Type 0 where
  whole : (body rest : List ℕ) → Chunked
  unfinished : Chunked
  faulty : WireFault → Chunked

-- a body with some octets in front
abbrev pub with_front : List ℕ → Chunked → Chunked
with_front octets (whole body rest) = whole (octets ++ body) rest
with_front octets unfinished = unfinished
with_front octets (faulty fault) = faulty fault

-- behind the line of the last chunk: the trailer, which is dropped
abbrev pub behind_last : List ℕ → Chunked
behind_last octets = elim (trailer_size octets) [
  | None ↦ if begins_trailer octets then unfinished else faulty BadChunk
  | Some n ↦ if nat_le n head_limit then whole [] (drop n octets) else faulty BadChunk
]

-- behind the octets of a chunk: CRLF, and what follows
abbrev pub behind_data : List ℕ → Chunked → Chunked
behind_data [] following = unfinished
behind_data (c ∷ []) following = if c == carriage_return then unfinished else faulty BadChunk
behind_data (c ∷ d ∷ more) following = if (c == carriage_return) && (d == line_feed) then following else faulty BadChunk

-- behind the line of another chunk: its octets first
abbrev pub behind_line : ℕ → List ℕ → Chunked → Chunked
behind_line size octets following = behind_data (drop size octets) (with_front (take size octets) following)

-- at a chunk line that states a size, where the chunks before have so many octets
abbrev pub at_size : ℕ → ℕ → List ℕ → (ℕ → Chunked) → Chunked
at_size before size octets following =
    if nat_lt body_limit (before + size) then faulty BodyTooLong
    else elim (size == 0) [ true ↦ behind_last octets | false ↦ behind_line size octets (following (before + size)) ]

-- at a chunk line that is whole
abbrev pub at_line : ℕ → ℕ → List ℕ → (ℕ → ℕ → Chunked) → Chunked
at_line before n octets following = elim (chunk_size (take n octets)) [
  | None ↦ faulty BadChunk
  | Some size ↦ at_size before size (drop n octets) (following (n + size + 2))
]

-- At a chunk. What follows it is given as what stands behind so many octets.
abbrev pub at_chunk : ℕ → List ℕ → (ℕ → ℕ → Chunked) → Chunked
at_chunk before octets following = elim (is_broken (first_line_text octets)) [
  | true ↦ faulty BadChunk
  | false ↦ elim (line_size octets) [ None ↦ unfinished | Some n ↦ at_line before n octets following ]
]

-- what stands behind so many octets: chunks, where those before have so many octets
unfoldable pub chunks_behind : List ℕ → ℕ → ℕ → Chunked
chunks_behind [] skipped before = unfinished
chunks_behind (octet ∷ octets) zero before = at_chunk before (octet ∷ octets) (λ n. chunks_behind octets (n - 1))
chunks_behind (octet ∷ octets) (suc skipped) before = chunks_behind octets skipped before

-- the body in chunks at the front
abbrev pub chunked_body : List ℕ → Chunked
chunked_body octets = chunks_behind octets 0 0
