-- Whole replies, octet for octet, and what they come to in all.
use Rattle.std.specs.Prelude.{◌≡◌, refl, ℕ, [], true, false, length, Some, None, codes, pos}
use Rattle.std.specs.Fmt.{digits}
use Rattle.cal_model.specs.declared.path.Path.TheVariants.{Home}
use Rattle.cal_model.specs.declared.reply.Media.TheVariants.{Calendar as CalendarMedia}
use Rattle.cal_model.specs.declared.reply.Reply.{Reply}
use Rattle.cal_moment.specs.Calendar.{year_of, month_of, day_of_month}
use Rattle.cal_model.specs.Replies.DateField.{date_of_moment}
use Rattle.cal_model.specs.Replies.ReplyOctets.{fields, reply_octets}
use Rattle.cal_model.specs.Replies.Statuses.{reason}
use Rattle.cal_model.specs.Replies.BareReplies.{bare_reply}
use Rattle.cal_examples.proofs.Samples.{stand_up_etag, moment}

-- the example of RFC 9110, 5.6.7
pub date_of_rfc : date_of_moment 784_111_777 ≡ codes "Sun, 06 Nov 1994 08:49:37 GMT"
unfolding year_of month_of day_of_month
date_of_rfc = refl

pub first_second : date_of_moment 0 ≡ codes "Thu, 01 Jan 1970 00:00:00 GMT"
unfolding year_of month_of day_of_month
first_second = refl

-- what is no request, on a connection that closes
pub turned_away : reply_octets (bare_reply 501) (pos moment) true false ≡ codes "HTTP/1.1 501 Not Implemented\r\nDate: Mon, 10 Mar 2025 09:46:40 GMT\r\nConnection: close\r\nContent-Length: 0\r\n\r\n"
unfolding reply_octets fields reason year_of month_of day_of_month digits
turned_away = refl

pub turned_away_length : length (reply_octets (bare_reply 501) (pos moment) true false) ≡ 107
unfolding reply_octets fields reason year_of month_of day_of_month digits
turned_away_length = refl

-- no credentials
pub unauthorized_length : length (reply_octets (bare_reply 401) (pos moment) false false) ≡ 125
unfolding reply_octets fields reason year_of month_of day_of_month digits
unauthorized_length = refl

pub unauthorized : reply_octets (bare_reply 401) (pos moment) false false ≡ codes "HTTP/1.1 401 Unauthorized\r\nDate: Mon, 10 Mar 2025 09:46:40 GMT\r\nWWW-Authenticate: Basic realm=\"caldav\"\r\nContent-Length: 0\r\n\r\n"
unfolding reply_octets fields reason year_of month_of day_of_month digits
unauthorized = refl

-- an object that was put
abbrev created : Reply
created = record (bare_reply 201) { etag = Some stand_up_etag }

pub created_octets : reply_octets created (pos moment) false false ≡ codes "HTTP/1.1 201 Created\r\nDate: Mon, 10 Mar 2025 09:46:40 GMT\r\nETag: \"e2b908a58297f6090922388fbe2f52e0c09d7f6986555b4ac3424e3347f2b4e5\"\r\nContent-Length: 0\r\n\r\n"
unfolding reply_octets fields reason year_of month_of day_of_month digits
created_octets = refl

pub created_length : length (reply_octets created (pos moment) false false) ≡ 154
unfolding reply_octets fields reason year_of month_of day_of_month digits
created_length = refl

-- one that was replaced: no length
abbrev replaced : Reply
replaced = record (bare_reply 204) { etag = Some stand_up_etag }

pub replaced_octets : reply_octets replaced (pos moment) false false ≡ codes "HTTP/1.1 204 No Content\r\nDate: Mon, 10 Mar 2025 09:46:40 GMT\r\nETag: \"e2b908a58297f6090922388fbe2f52e0c09d7f6986555b4ac3424e3347f2b4e5\"\r\n\r\n"
unfolding reply_octets fields reason year_of month_of day_of_month digits
replaced_octets = refl

-- HEAD has the length of what GET would carry, and no content
abbrev found : Reply
found = record { status = 200; etag = Some stand_up_etag; allow = None; media = CalendarMedia; body = codes "BEGIN" }

pub found_octets : reply_octets found (pos moment) true false ≡ codes "HTTP/1.1 200 OK\r\nDate: Mon, 10 Mar 2025 09:46:40 GMT\r\nETag: \"e2b908a58297f6090922388fbe2f52e0c09d7f6986555b4ac3424e3347f2b4e5\"\r\nContent-Type: text/calendar; charset=utf-8\r\nConnection: close\r\nContent-Length: 5\r\n\r\nBEGIN"
unfolding reply_octets fields reason year_of month_of day_of_month digits
found_octets = refl

pub found_head : reply_octets found (pos moment) false true ≡ codes "HTTP/1.1 200 OK\r\nDate: Mon, 10 Mar 2025 09:46:40 GMT\r\nETag: \"e2b908a58297f6090922388fbe2f52e0c09d7f6986555b4ac3424e3347f2b4e5\"\r\nContent-Type: text/calendar; charset=utf-8\r\nContent-Length: 5\r\n\r\n"
unfolding reply_octets fields reason year_of month_of day_of_month digits
found_head = refl

-- what the client has already: its tag, and neither a type nor a length
pub not_modified : reply_octets (record found { status = 304; body = [] }) (pos moment) false false ≡ codes "HTTP/1.1 304 Not Modified\r\nDate: Mon, 10 Mar 2025 09:46:40 GMT\r\nETag: \"e2b908a58297f6090922388fbe2f52e0c09d7f6986555b4ac3424e3347f2b4e5\"\r\n\r\n"
unfolding reply_octets fields reason year_of month_of day_of_month digits
not_modified = refl

-- OPTIONS of a home says what the server can do; 405 says the methods alone
abbrev options : ℕ → Reply
options status = record (bare_reply status) { allow = Some (Home (codes "alice")) }

pub options_octets : reply_octets (options 200) (pos moment) false false ≡ codes "HTTP/1.1 200 OK\r\nDate: Mon, 10 Mar 2025 09:46:40 GMT\r\nAllow: OPTIONS, PROPFIND\r\nDAV: 1, access-control, calendar-access\r\nContent-Length: 0\r\n\r\n"
unfolding reply_octets fields reason year_of month_of day_of_month digits
options_octets = refl

pub not_allowed : reply_octets (options 405) (pos moment) false false ≡ codes "HTTP/1.1 405 Method Not Allowed\r\nDate: Mon, 10 Mar 2025 09:46:40 GMT\r\nAllow: OPTIONS, PROPFIND\r\nContent-Length: 0\r\n\r\n"
unfolding reply_octets fields reason year_of month_of day_of_month digits
not_allowed = refl
