-- Scripts: what the octets of a connection complete, a request that is turned away in two frames with a frame of a worker between them, and spellings.
use Rattle.std.specs.Prelude.{◌≡◌, refl, ℕ, true, false, List, [], ◌∷◌, length, None, codes, replicate}
use Rattle.std.specs.Fmt.{digits}
use Rattle.std.specs.Str.{is_utf8, chars}
use lib.Utf8.{encode}
use Rattle.std.proofs.Common.{inl}
use Rattle.httparse.specs.Grammar.{is_token_byte, trim_ows}
use Rattle.cal_moment.specs.Calendar.{year_of, month_of, day_of_month}
use Rattle.cal_model.specs.declared.wire.WireFault.TheVariants.{BadHead}
use Rattle.cal_model.specs.declared.wire.WireRequest.{WireRequest}
use Rattle.cal_model.specs.Replies.BareReplies.{bare_reply}
use Rattle.cal_model.specs.Replies.ReplyOctets.{fields, reply_octets}
use Rattle.cal_model.specs.Replies.Statuses.{reason}
use Rattle.cal_model.specs.Replies.WireReplies.{answer_octets}
use Rattle.cal_model.specs.Requests.AskedRequests.{asked_of}
use Rattle.cal_model.specs.Streams.HeadFields.{read_head, wire_request}
use Rattle.cal_model.specs.Streams.Heads.{head_end, head_of, without_empty_lines}
use Rattle.cal_model.specs.Streams.StreamRequests.{front, ends_idle, ends_cut, ends_at}
use Rattle.cal_model.specs.Transcripts.ConnectionAnswers.{whole, faulty, answered, Completes}
use Rattle.cal_model.specs.Transcripts.ScriptFrames.{bytes, worker, claim, publish, frame_text, reply_frame}
use Rattle.cal_model.specs.Transcripts.Transcript.{at_start, fed, Follows}
use Rattle.cal_model.specs.Users.Credentials.{authenticated}
use Rattle.cal_model.specs.Users.UsersFile.{Users}
use Rattle.cal_model.specs.Words.Cuts.{cut_at}

-- What is answered

abbrev plain_options : WireRequest
plain_options = record { method = codes "OPTIONS"; target = codes "/"; close = false; authorization = None; media = None; coding = None; depth = None; if_match = None; if_none = None; body = [] }

abbrev closing_options : WireRequest
closing_options = record plain_options { close = true }

-- a fault is answered behind the requests, as long as none of them closes the connection
fault_behind : answered (plain_options ∷ []) (ends_at BadHead) ≡ whole 0 plain_options ∷ faulty BadHead ∷ []
fault_behind = refl

fault_behind_close : answered (closing_options ∷ plain_options ∷ []) (ends_at BadHead) ≡ whole 0 closing_options ∷ []
fault_behind_close = refl

-- the thousandth request is the last, and no fault behind it is answered
last_request : length (answered (replicate 1000 plain_options) (ends_at BadHead)) ≡ 1000
last_request = refl

-- A request without credentials

abbrev alice : Users
alice = record { people = record { name = codes "alice"; digest = codes "ba7816bf8f01cfea414140de5dae2223b00361a396177a9cb410ff61f20015ad" } ∷ []; groups = [] }

abbrev first_part : List ℕ
first_part = codes "OPTIONS / HTTP"

abbrev options_text : List ℕ
options_text = codes "OPTIONS / HTTP/1.1\r\nHost: h\r\n\r\n"

nothing_yet : Completes [] []
unfolding front head_end cut_at head_of read_head without_empty_lines wire_request is_token_byte trim_ows is_utf8 chars encode
nothing_yet = record { requests = []; rest = []; ending = ends_idle; reading = record { spelled = refl; ended = refl }; are_done = refl }

part_of_it : Completes first_part []
unfolding front head_end cut_at head_of read_head without_empty_lines wire_request is_token_byte trim_ows is_utf8 chars encode
part_of_it = record { requests = []; rest = first_part; ending = ends_cut; reading = record { spelled = refl; ended = refl }; are_done = refl }

all_of_it : Completes options_text (whole 0 plain_options ∷ [])
unfolding front head_end cut_at head_of read_head without_empty_lines wire_request is_token_byte trim_ows is_utf8 chars encode
all_of_it = record { requests = plain_options ∷ []; rest = []; ending = ends_idle; reading = record { spelled = ([], refl, refl); ended = refl }; are_done = refl }

-- its reply has 125 octets
abbrev printed : List ℕ
printed = codes "reply 3 125\nHTTP/1.1 401 Unauthorized\r\nDate: Mon, 10 Mar 2025 09:46:40 GMT\r\nWWW-Authenticate: Basic realm=\"caldav\"\r\nContent-Length: 0\r\n\r\n\n"

turned_away_in_parts : Follows alice (at_start alice) (bytes 3 1_741_599_999 first_part ∷ worker claim 0 ∷ bytes 3 1_741_600_000 (codes "/1.1\r\nHost: h\r\n\r\n") ∷ []) printed
unfolding reply_frame answer_octets reply_octets fields reason year_of month_of day_of_month digits asked_of authenticated
turned_away_in_parts = (
  [],
  printed,
  fed (at_start alice) 3 first_part,
  refl,
  record { done = []; more = []; before_them = nothing_yet; with_them = part_of_it; server = (at_start alice).server; prints = (refl, refl); stands = refl },
  (
    [],
    printed,
    fed (at_start alice) 3 first_part,
    refl,
    (refl, refl),
    (
      printed,
      [],
      fed (at_start alice) 3 options_text,
      refl,
      record {
        done = [];
        more = whole 0 plain_options ∷ [];
        before_them = part_of_it;
        with_them = all_of_it;
        server = (at_start alice).server;
        prints = (record { reply = bare_reply 401; server = (at_start alice).server }, [], inl refl, refl, (refl, refl));
        stands = refl;
      },
      refl,
    ),
  ),
)

-- Spellings of frames

frames_spelled : (frame_text (bytes 15 0 (codes "ab")) ≡ codes "bytes 15 0 2\nab\n") × (frame_text (bytes 0 253_402_300_799 []) ≡ codes "bytes 0 253402300799 0\n\n") × (frame_text (worker publish 63) ≡ codes "publish 63\n")
unfolding frame_text digits
frames_spelled = (refl, refl, refl)
