-- The octets of a reply (RFC 9112, 2.1 and 4): the status line, the fields that apply, an empty line, and the content.
-- Content is never coded, and its length is always said (RFC 9112, 6).
use Rattle.std.specs.Prelude.{ℕ, Bool, not, ◌&&◌, ◌||◌, ◌==◌, if◌then◌else◌, List, [], ◌++◌, map, length, is_some, Option, Some, None, codes, decimal, ℤ, unsigned_abs}
use Rattle.cal_model.specs.declared.path.Path.{Path}
use Rattle.cal_model.specs.declared.reply.Etag.{Etag}
use Rattle.cal_model.specs.declared.reply.Media.{Media}
use Rattle.cal_model.specs.declared.reply.Media.TheVariants.{None as NoMedia, Calendar as CalendarMedia, Xml}
use Rattle.cal_model.specs.declared.reply.Reply.{Reply}
use Rattle.cal_model.specs.Words.TextLines.{ended, with_commas}
use Rattle.cal_model.specs.Requests.Methods.{method_name, methods_at}
use Rattle.cal_model.specs.Replies.DateField.{date_of_moment}
use Rattle.cal_model.specs.Replies.Etags.{etag_text}
use Rattle.cal_model.specs.Replies.Statuses.{status_line}

-- a field with its line end
abbrev pub field : List ℕ → List ℕ → List ℕ
field name value = name ++ (codes ": " ++ ended value)

-- a field that stands under a condition
abbrev pub field_if : Bool → List ℕ → List ℕ → List ℕ
field_if applies name value = if applies then field name value else []

-- the methods of a resource, by its path
abbrev pub methods : Path → List ℕ
methods path = with_commas (map method_name (methods_at path))

-- RFC 9110, 10.2.1
abbrev pub allow_field : Option Path → List ℕ
allow_field None = []
allow_field (Some path) = field (codes "Allow") (methods path)

-- RFC 9110, 8.8.3
abbrev pub etag_field : Option Etag → List ℕ
etag_field None = []
etag_field (Some etag) = field (codes "ETag") (etag_text etag)

-- RFC 9110, 8.3
abbrev pub type_field : Media → List ℕ
type_field NoMedia = []
type_field CalendarMedia = field (codes "Content-Type") (codes "text/calendar; charset=utf-8")
type_field Xml = field (codes "Content-Type") (codes "application/xml; charset=utf-8")

-- 204 and 304 have no content (RFC 9110, 15.3.5 and 15.4.5)
abbrev pub has_content : ℕ → Bool
has_content status = not ((status == 204) || (status == 304))

-- what says how to read the content: its type before the field Connection, and its length behind it
abbrev pub content_type : Reply → List ℕ
content_type reply = if has_content reply.status then type_field reply.media else []

abbrev pub content_length : Reply → List ℕ
content_length reply = field_if (has_content reply.status) (codes "Content-Length") (decimal (length reply.body))

-- The fields in their order. Where Allow answers OPTIONS, DAV says what the server can do (RFC 4918, 10.1; RFC 3744, 7.2; RFC 4791, 5.1).
unfoldable pub fields : Reply → ℤ → Bool → List ℕ
fields reply moment close =
    field (codes "Date") (date_of_moment (unsigned_abs moment))
    ++ (allow_field reply.allow
    ++ (field_if ((reply.status == 200) && is_some reply.allow) (codes "DAV") (codes "1, access-control, calendar-access")
    ++ (field_if (reply.status == 401) (codes "WWW-Authenticate") (codes "Basic realm=\"caldav\"")
    ++ (etag_field reply.etag
    ++ (content_type reply
    ++ (field_if close (codes "Connection") (codes "close")
    ++ content_length reply))))))

-- the content, which the reply to HEAD lacks, though its fields are those of GET (RFC 9110, 9.3.2)
abbrev pub content : Reply → Bool → List ℕ
content reply head_only = if has_content reply.status && not head_only then reply.body else []

-- The octets of a reply that is written at a moment, in seconds since 1970; `close` where the connection closes after it, `head_only` where the request was HEAD.
unfoldable pub reply_octets : Reply → ℤ → Bool → Bool → List ℕ
reply_octets reply moment close head_only =
    ended (status_line reply.status) ++ (fields reply moment close ++ (ended [] ++ content reply head_only))
