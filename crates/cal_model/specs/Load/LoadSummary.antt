-- What the command `load` prints: how many sessions, requests and accepted requests there were, how many octets were written, and their SHA-256 (FIPS 180-4). The summary is this project's own.
-- Given: how many events each session puts, and how many sessions there are. Each session is answered in a state of its own, since each changes its own home alone and asks for nothing else.
use Rattle.std.specs.Prelude.{ℕ, Bool, false, ◌&&◌, nat_le, List, [], ◌∷◌, ◌++◌, length, map, flat_map, count_by, codes, decimal, pos}
use Rattle.std.specs.List.{range_with_len}
use Rattle.hex.specs.Hex.{encode_lower}
use Rattle.sha2.specs.Sha256.{sha256}
use Rattle.cal_model.specs.declared.reply.Reply.{Reply}
use Rattle.cal_model.specs.declared.request.Event.{Event}
use Rattle.cal_model.specs.declared.request.Request.{Request}
use Rattle.cal_model.specs.Load.LoadRequests.{load_moment, load_user, requests_of}
use Rattle.cal_model.specs.Replies.ReplyOctets.{reply_octets}
use Rattle.cal_model.specs.Serving.EventReplies.{reply_to, state_after}
use Rattle.cal_model.specs.State.ServerState.{Directory, ServerState, opening_state}

abbrev pub load_event : ℕ → Request → Event
load_event session request = record { session = session; who = session; moment = pos load_moment; request = request }

-- the replies to requests in a state that they alone change
abbrev pub replies : Directory → ServerState → ℕ → List Request → List Reply
replies directory state session [] = []
replies directory state session (request ∷ more) =
    let event = load_event session request in reply_to directory state event ∷ replies directory (state_after directory state event) session more

abbrev pub load_users : ℕ → Directory
load_users sessions = record { names = map load_user (range_with_len 0 sessions); groups = [] }

abbrev pub replies_of : ℕ → ℕ → ℕ → List Reply
replies_of puts sessions session = replies (load_users sessions) (opening_state (load_users sessions)) session (requests_of puts session)

-- The summary

abbrev pub all_replies : ℕ → ℕ → List Reply
all_replies puts sessions = flat_map (replies_of puts sessions) (range_with_len 0 sessions)

abbrev pub is_accepted : Reply → Bool
is_accepted reply = nat_le 200 reply.status && nat_le reply.status 299

abbrev pub all_octets : List Reply → List ℕ
all_octets replies = flat_map (λ reply. reply_octets reply (pos load_moment) false false) replies

abbrev pub summary_line : List ℕ → List ℕ → List ℕ
summary_line word value = word ++ (codes " " ++ (value ++ codes "\n"))

-- The five lines for so many puts in each of so many sessions.
abbrev pub load_summary : ℕ → ℕ → List ℕ
load_summary puts sessions =
    let given = all_replies puts sessions in
    summary_line (codes "sessions") (decimal sessions)
    ++ (summary_line (codes "requests") (decimal (length given))
    ++ (summary_line (codes "accepted") (decimal (count_by is_accepted given))
    ++ (summary_line (codes "octets") (decimal (length (all_octets given)))
    ++ summary_line (codes "sha256") (encode_lower (sha256 (all_octets given))))))
