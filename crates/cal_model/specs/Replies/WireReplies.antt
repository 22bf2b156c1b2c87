-- The replies to faults of a stream, and how the reply to a request is written (RFC 9110, 9.3.2; RFC 9112, 9.3 and 9.6).
-- Given: a fault, or a request as it came and its reply. Gives: the octets that the connection carries back.
use Rattle.std.specs.Prelude.{ℕ, Bool, true, false, List, bytes_eq, codes, ℤ}
use Rattle.cal_model.specs.declared.reply.Reply.{Reply}
use Rattle.cal_model.specs.declared.wire.WireFault.{WireFault}
use Rattle.cal_model.specs.declared.wire.WireFault.TheVariants.{BadHead, HeadTooLong, BodyTooLong, Version, BadChunk}
use Rattle.cal_model.specs.declared.wire.WireRequest.{WireRequest}
use Rattle.cal_model.specs.Replies.BareReplies.{bare_reply}
use Rattle.cal_model.specs.Replies.ReplyOctets.{reply_octets}
use Rattle.cal_model.specs.Streams.StreamRequests.{closes_after}

-- 400 and 413 (RFC 9110, 15.5.1 and 15.5.14), 431 (RFC 6585, 5), 505 (RFC 9110, 15.6.6)
abbrev pub fault_status : WireFault → ℕ
fault_status BadHead = 400
fault_status HeadTooLong = 431
fault_status BodyTooLong = 413
fault_status Version = 505
fault_status BadChunk = 400

-- The octets of the reply to a fault: a status alone, behind which the connection closes.
unfoldable pub fault_octets : WireFault → ℤ → List ℕ
fault_octets why moment = reply_octets (bare_reply (fault_status why)) moment true false

-- the reply to a request of this very method has no content
abbrev pub is_head : WireRequest → Bool
is_head wire = bytes_eq wire.method (codes "HEAD")

-- The octets of the reply to a request, where so many were answered on its connection before.
unfoldable pub answer_octets : ℕ → WireRequest → Reply → ℤ → List ℕ
answer_octets before wire reply moment = reply_octets reply moment (closes_after before wire) (is_head wire)
