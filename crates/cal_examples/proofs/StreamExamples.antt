-- Whole streams: their requests, and what is left (RFC 9112, 2 and 9.3).
use Rattle.std.specs.Prelude.{◌≡◌, refl, ℕ, true, false, List, [], ◌∷◌, ◌++◌, length, None, codes, replicate}
use Rattle.std.specs.Str.{is_utf8, chars}
use lib.Utf8.{encode}
use Rattle.httparse.specs.Grammar.{is_token_byte, trim_ows}
use Rattle.cal_model.specs.declared.wire.WireFault.TheVariants.{BadHead}
use Rattle.cal_model.specs.declared.wire.WireRequest.{WireRequest}
use Rattle.cal_model.specs.Words.Cuts.{cut_at}
use Rattle.cal_model.specs.Streams.Heads.{head_end, head_of, without_empty_lines}
use Rattle.cal_model.specs.Streams.HeadFields.{read_head, wire_request}
use Rattle.cal_model.specs.Streams.Chunks.{chunks_behind, chunk_size, line_size, first_line_text, is_broken}
use Rattle.cal_model.specs.Streams.StreamRequests.{front, request, IsStream, ends_idle, ends_cut, ends_at, served, closes_after}

abbrev plain_get : WireRequest
plain_get = record { method = codes "GET"; target = codes "/"; close = false; authorization = None; media = None; coding = None; depth = None; if_match = None; if_none = None; body = [] }

abbrev get_text : List ℕ
get_text = codes "GET / HTTP/1.1\r\n\r\n"

-- Three requests, of which one has a body of a length and one a body in chunks that looks like a request
abbrev put_text : List ℕ
put_text = codes "PUT /a HTTP/1.1\r\nContent-Length: 4\r\n\r\nGET "

abbrev chunks_text : List ℕ
chunks_text = codes "PUT /b HTTP/1.1\r\nTransfer-Encoding: chunked\r\n\r\n12\r\nGET / HTTP/1.1\r\n\r\n\r\n0\r\n\r\n"

abbrev put : WireRequest
put = record plain_get { method = codes "PUT"; target = codes "/a"; body = codes "GET " }

abbrev put_in_chunks : WireRequest
put_in_chunks = record plain_get { method = codes "PUT"; target = codes "/b"; body = get_text }

pub request_with_length : front (put_text ++ chunks_text) ≡ request put chunks_text
unfolding front head_end cut_at head_of read_head without_empty_lines wire_request chunks_behind chunk_size line_size first_line_text is_broken is_token_byte trim_ows is_utf8 chars encode
request_with_length = refl

-- what stands in a chunk is no request
pub request_in_chunks : front (chunks_text ++ get_text) ≡ request put_in_chunks get_text
unfolding front head_end cut_at head_of read_head without_empty_lines wire_request chunks_behind chunk_size line_size first_line_text is_broken is_token_byte trim_ows is_utf8 chars encode
request_in_chunks = refl

-- One after the other, and then nothing
pub three_requests : IsStream (put_text ++ (chunks_text ++ get_text)) (put ∷ put_in_chunks ∷ plain_get ∷ []) [] ends_idle
unfolding front head_end cut_at head_of read_head without_empty_lines wire_request chunks_behind chunk_size line_size first_line_text is_broken is_token_byte trim_ows is_utf8 chars encode
three_requests = record { spelled = (chunks_text ++ get_text, refl, (get_text, refl, ([], refl, refl))); ended = refl }

-- and then a request that is cut
pub cut_request : IsStream (get_text ++ codes "\r\nGET /") (plain_get ∷ []) (codes "\r\nGET /") ends_cut
unfolding front head_end cut_at head_of read_head without_empty_lines wire_request chunks_behind chunk_size line_size first_line_text is_broken is_token_byte trim_ows is_utf8 chars encode
cut_request = record { spelled = (codes "\r\nGET /", refl, refl); ended = refl }

-- and then the first fault: what stands behind it is not read
pub faulty_request : IsStream (get_text ++ (codes "GET\r\n\r\n" ++ get_text)) (plain_get ∷ []) (codes "GET\r\n\r\n" ++ get_text) (ends_at BadHead)
unfolding front head_end cut_at head_of read_head without_empty_lines wire_request chunks_behind chunk_size line_size first_line_text is_broken is_token_byte trim_ows is_utf8 chars encode
faulty_request = record { spelled = (codes "GET\r\n\r\n" ++ get_text, refl, refl); ended = refl }

-- Which are answered

abbrev closing_get : WireRequest
closing_get = record plain_get { close = true }

pub answered_up_to_close : served (plain_get ∷ closing_get ∷ plain_get ∷ []) ≡ plain_get ∷ closing_get ∷ []
answered_up_to_close = refl

pub a_thousand_answered : length (served (replicate 1001 plain_get)) ≡ 1000
a_thousand_answered = refl

pub last_one_closes : closes_after 999 plain_get ≡ true
last_one_closes = refl

pub last_but_one_does_not : closes_after 998 plain_get ≡ false
last_but_one_does_not = refl

pub asked_to_close : closes_after 0 closing_get ≡ true
asked_to_close = refl
