-- The fields of a head of the library's grammar can stand in a map.
use Rattle.std.proofs.Common.{◌≡◌, ℕ, ◌+◌, ◌≤◌, IsTrue, List, [], ◌∷◌, ◌++◌, All, map, length, length-append, refl, sym, ap, ◌∙◌, arith, append-nil}
use Rattle.std.specs.List.{flat_map}
use Rattle.std.proofs.lemmas.List.Elements.{All-weaker, All-cons, All-nil, All-head, All-tail}
use Rattle.httparse.specs.Grammar.{Field, IsField, print_field, print_end, print_blank, print_version, RequestHead, ReadsRequest, print_request}
use Rattle.httparse.specs.Grammar.{is_token_byte as grammar_token}
use Rattle.httparse.specs.Spans.{name_and_value}
use Rattle.httparse.proofs.TrimLemmas.{AllPass-trim_ows}
use Rattle.http_header.specs.Token.{is_token_byte, is_value_byte}
use Rattle.http_wire.specs.FieldMaps.{IsRawField}

-- both libraries have the same tokens
same_token : (b : ℕ) → grammar_token b ≡ is_token_byte b
unfolding grammar_token is_token_byte
same_token b = refl

token_here : (b : ℕ) → IsTrue (grammar_token b) → IsTrue (is_token_byte b)
token_here b h = sym (same_token b) ∙ h

raw_field : (f : Field) → IsField f → length f.name ≤ 65535 → IsRawField (name_and_value f)
raw_field f h short = (
  ((h.name.0, All-weaker (λ b. IsTrue (grammar_token b)) (λ b. IsTrue (is_token_byte b)) token_here f.name h.name.1), short),
  AllPass-trim_ows is_value_byte f.raw h.raw,
)

raw_fields : (fields : List Field) → All IsField fields → length (flat_map print_field fields) ≤ 65535 → All IsRawField (map name_and_value fields)
raw_fields [] all short = All-nil IsRawField
raw_fields (f ∷ fields) all short =
    let here : length f.name ≤ 65535 = omega (arith, length-append (print_field f) (flat_map print_field fields), length-append (f.name ++ 58 ∷ f.raw) (print_end f.end), length-append f.name (58 ∷ f.raw)) in
    All-cons IsRawField (name_and_value f) (map name_and_value fields)
    (raw_field f (All-head IsField f fields all) here)
    (raw_fields fields (All-tail IsField f fields all) (omega (arith, length-append (print_field f) (flat_map print_field fields))))

fields_within : (head : RequestHead) → length (flat_map print_field head.fields) ≤ length (print_request head)
unfolding print_request
fields_within head =
    let section = flat_map print_field head.fields ++ print_end head.last in
    let line = print_blank head.blank ++ head.method ++ 32 ∷ head.target ++ 32 ∷ print_version head.minor ++ print_end head.line_end in
    omega (arith, length-append line section, length-append (flat_map print_field head.fields) (print_end head.last))

-- the names and values of a head in a block that is no longer than a name may be
pub heads_can_stand : (block : List ℕ) (head : RequestHead) → ReadsRequest block head [] → length block ≤ 65535 → All IsRawField (map name_and_value head.fields)
heads_can_stand block head reads short =
    raw_fields head.fields reads.0.fields (omega (arith, ap length (reads.1 ∙ append-nil (print_request head)), fields_within head))
