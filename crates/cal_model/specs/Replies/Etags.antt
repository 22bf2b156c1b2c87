-- Entity tags (RFC 9110, 8.8.3): the SHA-256 (FIPS 180-4, 6.2) of an object's stored octets in lower-case hexadecimal digits. They are strong.
use Rattle.std.specs.Prelude.{ℕ, List, ◌++◌, codes}
use Rattle.sha2.specs.Sha256.{sha256}
use Rattle.hex.specs.Hex.{encode_lower}
use Rattle.cal_model.specs.declared.reply.Etag.{Etag}

-- the tag of an object
unfoldable pub etag_of : List ℕ → Etag
etag_of octets = record { 0 = encode_lower (sha256 octets) }

-- the tag as fields and the property getetag have it, in double quotes
abbrev pub etag_text : Etag → List ℕ
etag_text etag = codes "\"" ++ (etag.0 ++ codes "\"")
