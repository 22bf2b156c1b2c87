-- Bodies in chunks (RFC 9112, 7.1). The expected values were made by a second implementation, which was written from the rules alone.
use Rattle.std.specs.Prelude.{◌≡◌, refl, [], ◌++◌, codes, replicate}
use Rattle.cal_model.specs.declared.wire.WireFault.TheVariants.{BodyTooLong, BadChunk}
use Rattle.cal_model.specs.Words.Cuts.{cut_at}
use Rattle.cal_model.specs.Streams.Heads.{head_end}
use Rattle.cal_model.specs.Streams.Chunks.{whole, unfinished, faulty, line_size, first_line_text, is_broken, chunk_size, chunks_behind, chunked_body}

-- Chunk lines

pub one_chunk : chunked_body (codes "5\r\nhello\r\n0\r\n\r\n") ≡ whole (codes "hello") []
unfolding chunks_behind chunk_size line_size first_line_text is_broken head_end cut_at
one_chunk = refl

pub three_chunks : chunked_body (codes "1\r\nA\r\n1\r\nB\r\n01\r\nC\r\n0\r\n\r\n") ≡ whole (codes "ABC") []
unfolding chunks_behind chunk_size line_size first_line_text is_broken head_end cut_at
three_chunks = refl

-- extensions and the fields of the trailer are dropped
pub chunk_with_extension : chunked_body (codes "5;a=b\r\nhello\r\n0;x\r\nT: 1\r\n\r\nnext") ≡ whole (codes "hello") (codes "next")
unfolding chunks_behind chunk_size line_size first_line_text is_broken head_end cut_at
chunk_with_extension = refl

pub chunk_that_looks_like_the_end : chunked_body (codes "3\r\n0\r\n\r\n0\r\n\r\n") ≡ whole (codes "0\r\n") []
unfolding chunks_behind chunk_size line_size first_line_text is_broken head_end cut_at
chunk_that_looks_like_the_end = refl

pub eight_digits : chunked_body (codes "00000000\r\n\r\n") ≡ whole [] []
unfolding chunks_behind chunk_size line_size first_line_text is_broken head_end cut_at
eight_digits = refl

-- the ninth digit cannot go on, before the line ends
pub nine_digits : chunked_body (codes "000000000") ≡ faulty BadChunk
unfolding chunks_behind chunk_size line_size first_line_text is_broken head_end cut_at
nine_digits = refl

-- a chunk line ends in CRLF alone
pub line_with_lf : chunked_body (codes "5\nhello\r\n0\r\n\r\n") ≡ faulty BadChunk
unfolding chunks_behind chunk_size line_size first_line_text is_broken head_end cut_at
line_with_lf = refl

pub space_behind_size : chunked_body (codes "5 \r\nhello\r\n0\r\n\r\n") ≡ faulty BadChunk
unfolding chunks_behind chunk_size line_size first_line_text is_broken head_end cut_at
space_behind_size = refl

pub no_size : chunked_body (codes "\r\n") ≡ faulty BadChunk
unfolding chunks_behind chunk_size line_size first_line_text is_broken head_end cut_at
no_size = refl

pub line_feed_in_extension : chunked_body (codes "2;a\nb") ≡ faulty BadChunk
unfolding chunks_behind chunk_size line_size first_line_text is_broken head_end cut_at
line_feed_in_extension = refl

-- 256 octets with the CRLF
pub longest_line : chunked_body (codes "0;" ++ (replicate 252 101 ++ codes "\r\n\r\n")) ≡ whole [] []
unfolding chunks_behind chunk_size line_size first_line_text is_broken head_end cut_at
longest_line = refl

-- octet 255 has to be the CR
pub line_too_long : chunked_body (codes "0;" ++ replicate 253 101) ≡ faulty BadChunk
unfolding chunks_behind chunk_size line_size first_line_text is_broken head_end cut_at
line_too_long = refl

pub longest_line_cut : chunked_body (codes "0;" ++ replicate 252 101) ≡ unfinished
unfolding chunks_behind chunk_size line_size first_line_text is_broken head_end cut_at
longest_line_cut = refl

-- The octets of a chunk

pub octets_without_end : chunked_body (codes "2\r\nab\r") ≡ unfinished
unfolding chunks_behind chunk_size line_size first_line_text is_broken head_end cut_at
octets_without_end = refl

pub octets_with_lf : chunked_body (codes "2\r\nab\n0\r\n\r\n") ≡ faulty BadChunk
unfolding chunks_behind chunk_size line_size first_line_text is_broken head_end cut_at
octets_with_lf = refl

-- a body does not end before its last chunk
pub empty_line_for_chunk : chunked_body (codes "1\r\nA\r\n\r\n") ≡ faulty BadChunk
unfolding chunks_behind chunk_size line_size first_line_text is_broken head_end cut_at
empty_line_for_chunk = refl

pub nothing_yet : chunked_body [] ≡ unfinished
unfolding chunks_behind chunk_size line_size first_line_text is_broken head_end cut_at
nothing_yet = refl

-- The limit of a body: it shows at the end of the line

pub total_above_limit : chunked_body (codes "100001\r\n") ≡ faulty BodyTooLong
unfolding chunks_behind chunk_size line_size first_line_text is_broken head_end cut_at
total_above_limit = refl

pub total_above_limit_cut : chunked_body (codes "100001;\r") ≡ unfinished
unfolding chunks_behind chunk_size line_size first_line_text is_broken head_end cut_at
total_above_limit_cut = refl

pub total_of_two_chunks_above_limit : chunked_body (codes "1\r\nA\r\n100000\r\n") ≡ faulty BodyTooLong
unfolding chunks_behind chunk_size line_size first_line_text is_broken head_end cut_at
total_of_two_chunks_above_limit = refl

pub total_at_limit : chunked_body (codes "1\r\nA\r\nfffff\r\nx") ≡ unfinished
unfolding chunks_behind chunk_size line_size first_line_text is_broken head_end cut_at
total_at_limit = refl

-- The trailer: lines up to an empty one, ended by LF or CRLF

pub trailer_with_lf : chunked_body (codes "0\r\nabc\n\nrest") ≡ whole [] (codes "rest")
unfolding chunks_behind chunk_size line_size first_line_text is_broken head_end cut_at
trailer_with_lf = refl

pub trailer_cut : chunked_body (codes "0\r\nabc\r\n") ≡ unfinished
unfolding chunks_behind chunk_size line_size first_line_text is_broken head_end cut_at
trailer_cut = refl

pub return_in_trailer : chunked_body (codes "0\r\n\rx") ≡ unfinished
unfolding chunks_behind chunk_size line_size first_line_text is_broken head_end cut_at
return_in_trailer = refl

-- 16,384 octets with its empty line
pub longest_trailer : chunked_body (codes "0\r\n" ++ (replicate 16380 97 ++ codes "\r\n\r\n")) ≡ whole [] []
unfolding chunks_behind chunk_size line_size first_line_text is_broken head_end cut_at
longest_trailer = refl

pub trailer_too_long : chunked_body (codes "0\r\n" ++ (replicate 16381 97 ++ codes "\r\n\r\n")) ≡ faulty BadChunk
unfolding chunks_behind chunk_size line_size first_line_text is_broken head_end cut_at
trailer_too_long = refl

-- no empty line behind so many octets comes in time
pub trailer_too_long_cut : chunked_body (codes "0\r\n" ++ replicate 16383 97) ≡ faulty BadChunk
unfolding chunks_behind chunk_size line_size first_line_text is_broken head_end cut_at
trailer_too_long_cut = refl
