-- Replies as a connection carries them: every field, no content at 204, 304 and HEAD, and what a fault is answered (RFC 9110, 8, 9.3.2 and 15; RFC 9112, 9.6).
use Rattle.std.specs.Prelude.{◌≡◌, refl, ℕ, true, false, [], Some, None, codes, pos}
use Rattle.std.specs.Fmt.{digits}
use Rattle.cal_model.specs.declared.path.Path.TheVariants.{Principal, Calendar, Object}
use Rattle.cal_model.specs.declared.reply.Media.TheVariants.{Calendar as CalendarMedia, Xml}
use Rattle.cal_model.specs.declared.reply.Reply.{Reply}
use Rattle.cal_model.specs.declared.wire.WireFault.TheVariants.{HeadTooLong, BodyTooLong}
use Rattle.cal_model.specs.declared.wire.WireRequest.{WireRequest}
use Rattle.cal_model.specs.Replies.BareReplies.{bare_reply}
use Rattle.cal_moment.specs.Calendar.{year_of, month_of, day_of_month}
use Rattle.cal_model.specs.Replies.ReplyOctets.{fields, reply_octets}
use Rattle.cal_model.specs.Replies.Statuses.{reason}
use Rattle.cal_model.specs.Replies.WireReplies.{answer_octets, fault_octets}
use Rattle.cal_examples.proofs.Samples.{stand_up_etag, moment}

-- an object that was found
abbrev found : Reply
found = record { status = 200; etag = Some stand_up_etag; allow = None; media = CalendarMedia; body = codes "BEGIN" }

-- a reply in XML
abbrev refused : Reply
refused = record { status = 403; etag = None; allow = None; media = Xml; body = codes "<a/>" }

-- a reply that has what each field says
abbrev every_field : ℕ → Reply
every_field status = record found { status = status; allow = Some (Calendar (codes "alice") (codes "c")) }

abbrev plain_get : WireRequest
plain_get = record { method = codes "GET"; target = codes "/"; close = false; authorization = None; media = None; coding = None; depth = None; if_match = None; if_none = None; body = [] }

abbrev plain_head : WireRequest
plain_head = record plain_get { method = codes "HEAD" }

-- Fields

-- 304 has the tag, and neither type nor length (RFC 9110, 15.4.5)
pub not_modified : reply_octets (record (bare_reply 304) { etag = Some stand_up_etag }) (pos moment) false false ≡ codes "HTTP/1.1 304 Not Modified\r\nDate: Mon, 10 Mar 2025 09:46:40 GMT\r\nETag: \"e2b908a58297f6090922388fbe2f52e0c09d7f6986555b4ac3424e3347f2b4e5\"\r\n\r\n"
unfolding reply_octets fields reason year_of month_of day_of_month digits
not_modified = refl

-- nor what it would have had at another status
pub not_modified_with_body : reply_octets (record found { status = 304 }) (pos moment) true false ≡ codes "HTTP/1.1 304 Not Modified\r\nDate: Mon, 10 Mar 2025 09:46:40 GMT\r\nETag: \"e2b908a58297f6090922388fbe2f52e0c09d7f6986555b4ac3424e3347f2b4e5\"\r\nConnection: close\r\n\r\n"
unfolding reply_octets fields reason year_of month_of day_of_month digits
not_modified_with_body = refl

-- the order of the fields
pub every_field_at_200 : reply_octets (every_field 200) (pos moment) true false ≡ codes "HTTP/1.1 200 OK\r\nDate: Mon, 10 Mar 2025 09:46:40 GMT\r\nAllow: OPTIONS, PROPFIND, PROPPATCH, REPORT, MKCALENDAR, ACL, DELETE\r\nDAV: 1, access-control, calendar-access\r\nETag: \"e2b908a58297f6090922388fbe2f52e0c09d7f6986555b4ac3424e3347f2b4e5\"\r\nContent-Type: text/calendar; charset=utf-8\r\nConnection: close\r\nContent-Length: 5\r\n\r\nBEGIN"
unfolding reply_octets fields reason year_of month_of day_of_month digits
every_field_at_200 = refl

pub every_field_at_401 : reply_octets (every_field 401) (pos moment) false false ≡ codes "HTTP/1.1 401 Unauthorized\r\nDate: Mon, 10 Mar 2025 09:46:40 GMT\r\nAllow: OPTIONS, PROPFIND, PROPPATCH, REPORT, MKCALENDAR, ACL, DELETE\r\nWWW-Authenticate: Basic realm=\"caldav\"\r\nETag: \"e2b908a58297f6090922388fbe2f52e0c09d7f6986555b4ac3424e3347f2b4e5\"\r\nContent-Type: text/calendar; charset=utf-8\r\nContent-Length: 5\r\n\r\nBEGIN"
unfolding reply_octets fields reason year_of month_of day_of_month digits
every_field_at_401 = refl

pub methods_of_object : reply_octets (record (bare_reply 405) { allow = Some (Object (codes "alice") (codes "c") (codes "o")) }) (pos moment) false false ≡ codes "HTTP/1.1 405 Method Not Allowed\r\nDate: Mon, 10 Mar 2025 09:46:40 GMT\r\nAllow: OPTIONS, GET, HEAD, PUT, DELETE, PROPFIND\r\nContent-Length: 0\r\n\r\n"
unfolding reply_octets fields reason year_of month_of day_of_month digits
methods_of_object = refl

pub methods_of_principal : reply_octets (record (bare_reply 405) { allow = Some (Principal (codes "alice")) }) (pos moment) false false ≡ codes "HTTP/1.1 405 Method Not Allowed\r\nDate: Mon, 10 Mar 2025 09:46:40 GMT\r\nAllow: OPTIONS, PROPFIND\r\nContent-Length: 0\r\n\r\n"
unfolding reply_octets fields reason year_of month_of day_of_month digits
methods_of_principal = refl

pub refused_in_xml : reply_octets refused (pos moment) false false ≡ codes "HTTP/1.1 403 Forbidden\r\nDate: Mon, 10 Mar 2025 09:46:40 GMT\r\nContent-Type: application/xml; charset=utf-8\r\nContent-Length: 4\r\n\r\n<a/>"
unfolding reply_octets fields reason year_of month_of day_of_month digits
refused_in_xml = refl

-- HEAD that is refused has the length of the body that is not written
pub refused_head : reply_octets refused (pos moment) false true ≡ codes "HTTP/1.1 403 Forbidden\r\nDate: Mon, 10 Mar 2025 09:46:40 GMT\r\nContent-Type: application/xml; charset=utf-8\r\nContent-Length: 4\r\n\r\n"
unfolding reply_octets fields reason year_of month_of day_of_month digits
refused_head = refl

-- The reply to a request, and to a fault

pub answer_to_head : answer_octets 0 plain_head found (pos moment) ≡ codes "HTTP/1.1 200 OK\r\nDate: Mon, 10 Mar 2025 09:46:40 GMT\r\nETag: \"e2b908a58297f6090922388fbe2f52e0c09d7f6986555b4ac3424e3347f2b4e5\"\r\nContent-Type: text/calendar; charset=utf-8\r\nContent-Length: 5\r\n\r\n"
unfolding answer_octets reply_octets fields reason year_of month_of day_of_month digits
answer_to_head = refl

-- the thousandth of a connection
pub last_answer : answer_octets 999 plain_get (bare_reply 404) (pos moment) ≡ codes "HTTP/1.1 404 Not Found\r\nDate: Mon, 10 Mar 2025 09:46:40 GMT\r\nConnection: close\r\nContent-Length: 0\r\n\r\n"
unfolding answer_octets reply_octets fields reason year_of month_of day_of_month digits
last_answer = refl

pub want_of_memory : answer_octets 0 (record plain_get { close = true }) (bare_reply 503) (pos moment) ≡ codes "HTTP/1.1 503 Service Unavailable\r\nDate: Mon, 10 Mar 2025 09:46:40 GMT\r\nConnection: close\r\nContent-Length: 0\r\n\r\n"
unfolding answer_octets reply_octets fields reason year_of month_of day_of_month digits
want_of_memory = refl

pub answer_to_long_head : fault_octets HeadTooLong (pos moment) ≡ codes "HTTP/1.1 431 Request Header Fields Too Large\r\nDate: Mon, 10 Mar 2025 09:46:40 GMT\r\nConnection: close\r\nContent-Length: 0\r\n\r\n"
unfolding fault_octets reply_octets fields reason year_of month_of day_of_month digits
answer_to_long_head = refl

pub answer_to_long_body : fault_octets BodyTooLong (pos moment) ≡ codes "HTTP/1.1 413 Content Too Large\r\nDate: Mon, 10 Mar 2025 09:46:40 GMT\r\nConnection: close\r\nContent-Length: 0\r\n\r\n"
unfolding fault_octets reply_octets fields reason year_of month_of day_of_month digits
answer_to_long_body = refl
