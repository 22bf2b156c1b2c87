-- Heads of requests, and what stands at the front of a stream that begins with one (RFC 9112, 2 to 6).
-- The expected values were made by a second implementation, which was written from the rules alone.
use Rattle.std.specs.Prelude.{◌≡◌, refl, ℕ, true, false, [], ◌∷◌, ◌++◌, flat_map, Some, None, codes, replicate}
use Rattle.std.specs.Str.{is_utf8, chars}
use lib.Utf8.{encode}
use Rattle.httparse.specs.Grammar.{is_token_byte, trim_ows}
use Rattle.cal_model.specs.declared.wire.WireFault.TheVariants.{BadHead, HeadTooLong, BodyTooLong, Version}
use Rattle.cal_model.specs.declared.wire.WireRequest.{WireRequest}
use Rattle.cal_model.specs.Words.Cuts.{cut_at}
use Rattle.cal_model.specs.Streams.Heads.{head_end, head_of, without_empty_lines}
use Rattle.cal_model.specs.Streams.HeadFields.{read_head, wire_request}
use Rattle.cal_model.specs.Streams.StreamRequests.{front, request, fault, idle, cut}

-- a GET of the root that has no field which counts
abbrev plain_get : WireRequest
plain_get = record { method = codes "GET"; target = codes "/"; close = false; authorization = None; media = None; coding = None; depth = None; if_match = None; if_none = None; body = [] }

-- a PUT with a head alone
abbrev a_put : WireRequest
a_put = record plain_get { method = codes "PUT"; target = codes "/a" }

-- Where a head begins and ends (RFC 9112, 2.2)

pub head_with_crlf : front (codes "GET / HTTP/1.1\r\nHost: h\r\n\r\n") ≡ request plain_get []
unfolding front head_end cut_at head_of read_head without_empty_lines wire_request is_token_byte trim_ows is_utf8 chars encode
head_with_crlf = refl

-- line feeds alone do too
pub head_with_lf : front (codes "GET / HTTP/1.1\nHost: h\n\n") ≡ request plain_get []
unfolding front head_end cut_at head_of read_head without_empty_lines wire_request is_token_byte trim_ows is_utf8 chars encode
head_with_lf = refl

pub head_without_fields : front (codes "GET / HTTP/1.1\r\n\r\n") ≡ request plain_get []
unfolding front head_end cut_at head_of read_head without_empty_lines wire_request is_token_byte trim_ows is_utf8 chars encode
head_without_fields = refl

-- empty lines before it are skipped
pub head_behind_empty_lines : front (codes "\r\n\n\r\nGET / HTTP/1.1\r\n\r\n") ≡ request plain_get []
unfolding front head_end cut_at head_of read_head without_empty_lines wire_request is_token_byte trim_ows is_utf8 chars encode
head_behind_empty_lines = refl

-- what follows is left
pub head_and_rest : front (codes "GET / HTTP/1.1\r\n\r\nGET /") ≡ request plain_get (codes "GET /")
unfolding front head_end cut_at head_of read_head without_empty_lines wire_request is_token_byte trim_ows is_utf8 chars encode
head_and_rest = refl

pub head_cut : front (codes "GET / HTTP/1.1\r\nHost: h\r\n") ≡ cut
unfolding front head_end cut_at head_of read_head without_empty_lines wire_request is_token_byte trim_ows is_utf8 chars encode
head_cut = refl

-- a CR that no LF follows is no empty line
pub return_before_head : front (codes "\rGET / HTTP/1.1\r\n\r\n") ≡ fault BadHead
unfolding front head_end cut_at head_of read_head without_empty_lines wire_request is_token_byte trim_ows is_utf8 chars encode
return_before_head = refl

-- Nothing but empty lines is idle; a CR behind them may begin a head or an empty line
pub nothing : front [] ≡ idle
unfolding front head_end cut_at head_of read_head without_empty_lines wire_request is_token_byte trim_ows is_utf8 chars encode
nothing = refl

pub empty_lines : front (codes "\r\n\n") ≡ idle
unfolding front head_end cut_at head_of read_head without_empty_lines wire_request is_token_byte trim_ows is_utf8 chars encode
empty_lines = refl

pub return_behind_empty_line : front (codes "\n\r") ≡ cut
unfolding front head_end cut_at head_of read_head without_empty_lines wire_request is_token_byte trim_ows is_utf8 chars encode
return_behind_empty_line = refl

-- The request line (RFC 9112, 3)

-- the connection closes after a request of HTTP/1.0
pub version_1_0 : front (codes "GET / HTTP/1.0\r\nHost: h\r\n\r\n") ≡ request (record plain_get { close = true }) []
unfolding front head_end cut_at head_of read_head without_empty_lines wire_request is_token_byte trim_ows is_utf8 chars encode
version_1_0 = refl

pub version_2_0 : front (codes "GET / HTTP/2.0\r\nHost: h\r\n\r\n") ≡ fault Version
unfolding front head_end cut_at head_of read_head without_empty_lines wire_request is_token_byte trim_ows is_utf8 chars encode
version_2_0 = refl

-- two digits name no version
pub version_1_10 : front (codes "GET / HTTP/1.10\r\nHost: h\r\n\r\n") ≡ fault BadHead
unfolding front head_end cut_at head_of read_head without_empty_lines wire_request is_token_byte trim_ows is_utf8 chars encode
version_1_10 = refl

pub version_in_small_letters : front (codes "GET / http/1.1\r\nHost: h\r\n\r\n") ≡ fault BadHead
unfolding front head_end cut_at head_of read_head without_empty_lines wire_request is_token_byte trim_ows is_utf8 chars encode
version_in_small_letters = refl

-- the version is looked at first, whatever stands before it
pub other_version_alone : front (codes "xHTTP/3.1\r\nHost: h\r\n\r\n") ≡ fault Version
unfolding front head_end cut_at head_of read_head without_empty_lines wire_request is_token_byte trim_ows is_utf8 chars encode
other_version_alone = refl

pub two_spaces : front (codes "GET  / HTTP/1.1\r\nHost: h\r\n\r\n") ≡ fault BadHead
unfolding front head_end cut_at head_of read_head without_empty_lines wire_request is_token_byte trim_ows is_utf8 chars encode
two_spaces = refl

pub space_behind_version : front (codes "GET / HTTP/1.1 \r\nHost: h\r\n\r\n") ≡ fault BadHead
unfolding front head_end cut_at head_of read_head without_empty_lines wire_request is_token_byte trim_ows is_utf8 chars encode
space_behind_version = refl

pub no_token : front (codes "G(T / HTTP/1.1\r\nHost: h\r\n\r\n") ≡ fault BadHead
unfolding front head_end cut_at head_of read_head without_empty_lines wire_request is_token_byte trim_ows is_utf8 chars encode
no_token = refl

pub every_token_octet : front (codes "a!#$%&'*+-.^_`|~9 * HTTP/1.1\r\nHost: h\r\n\r\n") ≡ request (record plain_get { method = codes "a!#$%&'*+-.^_`|~9"; target = codes "*" }) []
unfolding front head_end cut_at head_of read_head without_empty_lines wire_request is_token_byte trim_ows is_utf8 chars encode
every_token_octet = refl

-- octets past ASCII are taken where they are UTF-8
pub target_in_utf8 : front (codes "GET /" ++ (195 ∷ 169 ∷ codes " HTTP/1.1\r\n\r\n")) ≡ request (record plain_get { target = codes "/" ++ 195 ∷ 169 ∷ [] }) []
unfolding front head_end cut_at head_of read_head without_empty_lines wire_request is_token_byte trim_ows is_utf8 chars encode
target_in_utf8 = refl

pub target_not_utf8 : front (codes "GET /" ++ (128 ∷ codes " HTTP/1.1\r\n\r\n")) ≡ fault BadHead
unfolding front head_end cut_at head_of read_head without_empty_lines wire_request is_token_byte trim_ows is_utf8 chars encode
target_not_utf8 = refl

-- Field lines (RFC 9112, 5)

pub white_space_around_value : front (codes "PUT /a HTTP/1.1\r\nDepth: \t1 \t\r\n\r\nabcd") ≡ request (record a_put { depth = Some (codes "1") }) (codes "abcd")
unfolding front head_end cut_at head_of read_head without_empty_lines wire_request is_token_byte trim_ows is_utf8 chars encode
white_space_around_value = refl

pub white_space_before_colon : front (codes "PUT /a HTTP/1.1\r\na : c\r\n\r\nabcd") ≡ fault BadHead
unfolding front head_end cut_at head_of read_head without_empty_lines wire_request is_token_byte trim_ows is_utf8 chars encode
white_space_before_colon = refl

pub no_colon : front (codes "PUT /a HTTP/1.1\r\na\r\n\r\nabcd") ≡ fault BadHead
unfolding front head_end cut_at head_of read_head without_empty_lines wire_request is_token_byte trim_ows is_utf8 chars encode
no_colon = refl

-- a line that goes on in the next one (5.2)
pub folded_line : front (codes "PUT /a HTTP/1.1\r\nHost: h\r\n folded\r\n\r\nabcd") ≡ fault BadHead
unfolding front head_end cut_at head_of read_head without_empty_lines wire_request is_token_byte trim_ows is_utf8 chars encode
folded_line = refl

-- What fields say (RFC 9110, 5.3; RFC 9112, 6 and 9.3)

pub each_field : front (codes "PUT /a HTTP/1.1\r\nDepth: 1\r\nContent-Type: text/xml\r\nAuthorization: Basic YWxpY2U6YWJj\r\nContent-Length: 3\r\n\r\nabcd") ≡ request (record a_put { authorization = Some (codes "Basic YWxpY2U6YWJj"); media = Some (codes "text/xml"); depth = Some (codes "1"); body = codes "abc" }) (codes "d")
unfolding front head_end cut_at head_of read_head without_empty_lines wire_request is_token_byte trim_ows is_utf8 chars encode
each_field = refl

-- of several fields the values are one list
pub tags_joined : front (codes "PUT /a HTTP/1.1\r\nIf-Match: \"a\"\r\nX: y\r\nif-match: \"b\"\r\n\r\nabcd") ≡ request (record a_put { if_match = Some (codes "\"a\", \"b\"") }) (codes "abcd")
unfolding front head_end cut_at head_of read_head without_empty_lines wire_request is_token_byte trim_ows is_utf8 chars encode
tags_joined = refl

-- of these fields there is one at most, also where both say the same
pub second_depth : front (codes "PUT /a HTTP/1.1\r\nDepth: 0\r\nDEPTH: 0\r\n\r\nabcd") ≡ fault BadHead
unfolding front head_end cut_at head_of read_head without_empty_lines wire_request is_token_byte trim_ows is_utf8 chars encode
second_depth = refl

pub close_among_options : front (codes "PUT /a HTTP/1.1\r\nConnection: keep-alive,\tclose ,x\r\n\r\nabcd") ≡ request (record a_put { close = true }) (codes "abcd")
unfolding front head_end cut_at head_of read_head without_empty_lines wire_request is_token_byte trim_ows is_utf8 chars encode
close_among_options = refl

-- the option is this very text
pub close_in_capitals : front (codes "PUT /a HTTP/1.1\r\nConnection: Close\r\n\r\nabcd") ≡ request a_put (codes "abcd")
unfolding front head_end cut_at head_of read_head without_empty_lines wire_request is_token_byte trim_ows is_utf8 chars encode
close_in_capitals = refl

pub coding_other_than_identity : front (codes "PUT /a HTTP/1.1\r\nContent-Encoding: identity\r\nContent-Encoding: gzip\r\nContent-Encoding: br\r\n\r\nabcd") ≡ request (record a_put { coding = Some (codes "gzip") }) (codes "abcd")
unfolding front head_end cut_at head_of read_head without_empty_lines wire_request is_token_byte trim_ows is_utf8 chars encode
coding_other_than_identity = refl

pub coding_of_nothing : front (codes "PUT /a HTTP/1.1\r\nContent-Encoding: \r\n\r\nabcd") ≡ request (record a_put { coding = Some [] }) (codes "abcd")
unfolding front head_end cut_at head_of read_head without_empty_lines wire_request is_token_byte trim_ows is_utf8 chars encode
coding_of_nothing = refl

pub length_with_sign : front (codes "PUT /a HTTP/1.1\r\nContent-Length: +1\r\n\r\nabcd") ≡ fault BadHead
unfolding front head_end cut_at head_of read_head without_empty_lines wire_request is_token_byte trim_ows is_utf8 chars encode
length_with_sign = refl

pub length_of_19_digits : front (codes "PUT /a HTTP/1.1\r\nContent-Length: 0000000000000000003\r\n\r\nabcd") ≡ request (record a_put { body = codes "abc" }) (codes "d")
unfolding front head_end cut_at head_of read_head without_empty_lines wire_request is_token_byte trim_ows is_utf8 chars encode
length_of_19_digits = refl

pub length_of_20_digits : front (codes "PUT /a HTTP/1.1\r\nContent-Length: 00000000000000000000\r\n\r\nabcd") ≡ fault BadHead
unfolding front head_end cut_at head_of read_head without_empty_lines wire_request is_token_byte trim_ows is_utf8 chars encode
length_of_20_digits = refl

pub length_not_there_yet : front (codes "PUT /a HTTP/1.1\r\nContent-Length: 1048576\r\n\r\nabcd") ≡ cut
unfolding front head_end cut_at head_of read_head without_empty_lines wire_request is_token_byte trim_ows is_utf8 chars encode
length_not_there_yet = refl

pub length_above_limit : front (codes "PUT /a HTTP/1.1\r\nContent-Length: 1048577\r\n\r\nabcd") ≡ fault BodyTooLong
unfolding front head_end cut_at head_of read_head without_empty_lines wire_request is_token_byte trim_ows is_utf8 chars encode
length_above_limit = refl

-- the head is looked at before the length
pub length_above_limit_in_bad_head : front (codes "PUT /a HTTP/1.1\r\nContent-Length: 1048577\r\nbad\r\n\r\nabcd") ≡ fault BadHead
unfolding front head_end cut_at head_of read_head without_empty_lines wire_request is_token_byte trim_ows is_utf8 chars encode
length_above_limit_in_bad_head = refl

pub length_beside_chunks : front (codes "PUT /a HTTP/1.1\r\nTransfer-Encoding: chunked\r\nContent-Length: 0\r\n\r\nabcd") ≡ fault BadHead
unfolding front head_end cut_at head_of read_head without_empty_lines wire_request is_token_byte trim_ows is_utf8 chars encode
length_beside_chunks = refl

pub chunked_in_capitals : front (codes "PUT /a HTTP/1.1\r\nTransfer-Encoding: Chunked\r\n\r\nabcd") ≡ fault BadHead
unfolding front head_end cut_at head_of read_head without_empty_lines wire_request is_token_byte trim_ows is_utf8 chars encode
chunked_in_capitals = refl

-- The limits of a head

pub hundred_fields : front (codes "GET / HTTP/1.1\r\n" ++ (flat_map {X = ℕ} (λ n. codes "a:b\r\n") (replicate 100 0) ++ codes "\r\n")) ≡ request plain_get []
unfolding front head_end cut_at head_of read_head without_empty_lines wire_request is_token_byte trim_ows is_utf8 chars encode
hundred_fields = refl

-- too many lines, before anything else is looked at
pub hundred_and_one_fields : front (codes "GET / HTTP/2.0\r\n" ++ (flat_map {X = ℕ} (λ n. codes "bad\r\n") (replicate 101 0) ++ codes "\r\n")) ≡ fault HeadTooLong
unfolding front head_end cut_at head_of read_head without_empty_lines wire_request is_token_byte trim_ows is_utf8 chars encode
hundred_and_one_fields = refl

-- 16,384 octets with the empty line that ends it
pub longest_head : front (codes "GET / HTTP/1.1\r\nX: " ++ (replicate 16361 97 ++ codes "\r\n\r\n")) ≡ request plain_get []
unfolding front head_end cut_at head_of read_head without_empty_lines wire_request is_token_byte trim_ows is_utf8 chars encode
longest_head = refl

pub one_octet_too_long : front (codes "GET / HTTP/1.1\r\nX: " ++ (replicate 16362 97 ++ codes "\r\n\r\n")) ≡ fault HeadTooLong
unfolding front head_end cut_at head_of read_head without_empty_lines wire_request is_token_byte trim_ows is_utf8 chars encode
one_octet_too_long = refl

pub long_head_cut : front (codes "GET / HTTP/1.1\r\nX: " ++ (replicate 16361 97 ++ codes "\r\n\r")) ≡ cut
unfolding front head_end cut_at head_of read_head without_empty_lines wire_request is_token_byte trim_ows is_utf8 chars encode
long_head_cut = refl

-- it is refused as soon as so many octets are there
pub too_long_head_cut : front (codes "GET / HTTP/1.1\r\nX: " ++ (replicate 16362 97 ++ codes "\r\n\r")) ≡ fault HeadTooLong
unfolding front head_end cut_at head_of read_head without_empty_lines wire_request is_token_byte trim_ows is_utf8 chars encode
too_long_head_cut = refl

pub empty_lines_count : front (replicate 16367 10 ++ codes "GET / HTTP/1.1\r\n\r\n") ≡ fault HeadTooLong
unfolding front head_end cut_at head_of read_head without_empty_lines wire_request is_token_byte trim_ows is_utf8 chars encode
empty_lines_count = refl

pub many_empty_lines : front (replicate 16383 10) ≡ idle
unfolding front head_end cut_at head_of read_head without_empty_lines wire_request is_token_byte trim_ows is_utf8 chars encode
many_empty_lines = refl

pub too_many_empty_lines : front (replicate 16384 10) ≡ fault HeadTooLong
unfolding front head_end cut_at head_of read_head without_empty_lines wire_request is_token_byte trim_ows is_utf8 chars encode
too_many_empty_lines = refl
