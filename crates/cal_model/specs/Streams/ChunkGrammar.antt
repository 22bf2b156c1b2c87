-- The grammar of a body in chunks as the standard prints it (RFC 9112, 7.1), and the laws that the bodies that are read are those of this grammar.
-- A chunk line has 1 to 8 digits and no white space, and at most 256 octets; a trailer has at most as many octets as a head. These bounds are this server's own.
use Rattle.std.specs.Prelude.{◌≡◌, ◌≢◌, ◌⊎◌, ℕ, ◌+◌, ◌<◌, ◌≤◌, List, [], ◌∷◌, ◌++◌, length, codes, Option, Some, ◌↔◌}
use Rattle.httparse.specs.Grammar.{print_extension, IsExtension}
use Rattle.cal_base.specs.Xml.XmlMarkup.{number_of_digits}
use Rattle.cal_model.specs.Streams.WireLimits.{head_limit, body_limit}
use Rattle.cal_model.specs.declared.wire.WireFault.{WireFault}
use Rattle.cal_model.specs.declared.wire.WireFault.TheVariants.{BodyTooLong}
use Rattle.cal_model.specs.Streams.WireLimits.{chunk_line_limit}
use Rattle.cal_model.specs.Streams.Chunks.{chunk_size, trailer_size, whole, unfinished, faulty, chunked_body}

-- chunk-size [ chunk-ext ] CRLF
pub record WrittenLine : Type 0 where
  pub digits : List ℕ
  pub extension : Option (List ℕ)

abbrev pub line_text : WrittenLine → List ℕ
line_text line = line.digits ++ print_extension line.extension ++ codes "\r\n"

-- the line is one, and states this size
pub record IsLineOf (line : WrittenLine) (size : ℕ) : Type 0 where
  pub value : number_of_digits 16 line.digits ≡ Some size
  pub most : length line.digits ≤ 8
  pub extension : IsExtension line.extension
  pub within : length (line_text line) ≤ chunk_line_limit

-- chunk-size [ chunk-ext ] CRLF chunk-data CRLF
pub record WrittenChunk : Type 0 where
  pub line : WrittenLine
  pub octets : List ℕ

abbrev pub chunk_text : WrittenChunk → List ℕ
chunk_text chunk = line_text chunk.line ++ (chunk.octets ++ codes "\r\n")

-- the chunks, where those before have so many octets, stay within the limit
abbrev pub AreChunks : ℕ → List WrittenChunk → Type 0
AreChunks before [] = Unit {0}
AreChunks before (chunk ∷ chunks) =
    IsLineOf chunk.line (length chunk.octets) × (0 < length chunk.octets) × (before + length chunk.octets ≤ body_limit)
    × AreChunks (before + length chunk.octets) chunks

-- *chunk last-chunk trailer-section CRLF; the trailer has its CRLF here
pub record WrittenBody : Type 0 where
  pub chunks : List WrittenChunk
  pub last : WrittenLine
  pub trailer : List ℕ

abbrev pub chunks_text : List WrittenChunk → List ℕ → List ℕ
chunks_text [] behind = behind
chunks_text (chunk ∷ chunks) behind = chunk_text chunk ++ chunks_text chunks behind

abbrev pub chunks_octets : List WrittenChunk → List ℕ
chunks_octets [] = []
chunks_octets (chunk ∷ chunks) = chunk.octets ++ chunks_octets chunks

pub record IsBody (body : WrittenBody) : Type 0 where
  pub chunks : AreChunks 0 body.chunks
  pub last : IsLineOf body.last 0
  pub trailer : trailer_size body.trailer ≡ Some (length body.trailer)
  pub short : length body.trailer ≤ head_limit

-- the text of a body, and what stands behind it
abbrev pub body_text : WrittenBody → List ℕ → List ℕ
body_text body rest = chunks_text body.chunks (line_text body.last ++ (body.trailer ++ rest))

-- a line states a size exactly where it is one of the grammar
abbrev pub LinesAreTheGrammar : Type 0
LinesAreTheGrammar = (line : List ℕ) (size : ℕ) → (chunk_size line ≡ Some size) ↔ ((written : WrittenLine) × IsLineOf written size × (line_text written ≡ line))

-- a body of the grammar is read, whatever follows
abbrev pub BodiesAreRead : Type 0
BodiesAreRead = (body : WrittenBody) (rest : List ℕ) → IsBody body → chunked_body (body_text body rest) ≡ whole (chunks_octets body.chunks) rest

-- and what is read as a body is one
abbrev pub BodiesAreTheGrammar : Type 0
BodiesAreTheGrammar =
    (octets body rest : List ℕ) → chunked_body octets ≡ whole body rest
    → (written : WrittenBody) × IsBody written × (body_text written rest ≡ octets) × (chunks_octets written.chunks ≡ body)

-- once a fault shows, no octets that follow make it a body
abbrev pub FaultsCannotGoOn : Type 0
FaultsCannotGoOn =
    (octets more rest : List ℕ) (why : WireFault) (written : WrittenBody) → chunked_body octets ≡ faulty why → IsBody written → body_text written rest ≢ octets ++ more

-- and where none shows, some octets make it a body, or its chunks too long
abbrev pub CutsCanGoOn : Type 0
CutsCanGoOn =
    (octets : List ℕ) → chunked_body octets ≡ unfinished
    → (more : List ℕ) × (((body : List ℕ) × (rest : List ℕ) × (chunked_body (octets ++ more) ≡ whole body rest)) ⊎ (chunked_body (octets ++ more) ≡ faulty BodyTooLong))
