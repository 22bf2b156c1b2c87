-- The limits of what comes on a connection. They are this server's own.
use Rattle.std.specs.Prelude.{ℕ}

-- the most octets of a head, with the empty lines before it and the one that ends it; also of the trailer of a body in chunks
abbrev pub head_limit : ℕ
head_limit = 16_384

-- the most field lines of a head
abbrev pub field_limit : ℕ
field_limit = 100

-- the most octets of a body, without the framing of chunks
abbrev pub body_limit : ℕ
body_limit = 1_048_576

-- the most octets of a chunk's line, its CRLF counted
abbrev pub chunk_line_limit : ℕ
chunk_line_limit = 256

-- the most requests of a connection
abbrev pub request_limit : ℕ
request_limit = 1_000
