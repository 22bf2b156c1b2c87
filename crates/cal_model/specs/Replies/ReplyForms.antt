-- The forms that replies have beside a status alone (RFC 9110, 8.8.3, 9.3.7 and 15.4.5; RFC 4918, 13; RFC 4791, 7.10).
-- Given: a status, a body, or the octets of an object. Gives: the typed reply; how it is written is `ReplyOctets`.
use Rattle.std.specs.Prelude.{ℕ, List, Some}
use Rattle.cal_model.specs.declared.path.Path.{Path}
use Rattle.cal_model.specs.declared.reply.Media.TheVariants.{Calendar as CalendarMedia, Xml}
use Rattle.cal_model.specs.declared.reply.Reply.{Reply}
use Rattle.cal_model.specs.Replies.BareReplies.{bare_reply}
use Rattle.cal_model.specs.Replies.Etags.{etag_of}

-- a status with the entity tag of what is stored
abbrev pub tagged_reply : ℕ → List ℕ → Reply
tagged_reply status octets = record (bare_reply status) { etag = Some (etag_of octets) }

abbrev pub xml_reply : ℕ → List ℕ → Reply
xml_reply status body = record (bare_reply status) { media = Xml; body = body }

abbrev pub calendar_reply : List ℕ → Reply
calendar_reply body = record (bare_reply 200) { media = CalendarMedia; body = body }

-- the methods of a resource
abbrev pub options_reply : Path → Reply
options_reply path = record (bare_reply 200) { allow = Some path }

-- the reply to what no reading of a request gives: a method with the content of another one
abbrev pub no_request : Reply
no_request = bare_reply 501
