use Rattle.std.proofs.Common.{◌≡◌, ◌==◌, ◌&&◌, unsigned_abs, FitsSigned, w64, to_z, of_z, to_z-of_z, rules}
use Rattle.std.specs.Prelude.{codes, is_some}
use Rattle.cal_model.specs.Replies.DateField.{date_of_moment}
use Rattle.cal_model.specs.Replies.ReplyOctets.{field, field_if, allow_field, etag_field, content_type, content_length, fields}
use Rattle.http_wire.proofs.Appends.{pushed}
use Rattle.http_wire.proofs.response.push_fields.Goals as goal

pub returns : goal.returns
unfolding fields
returns c =
    let reply = c.args.reply.now in
    let fits : FitsSigned w64 c.args.moment = search rules in
    let same : to_z w64 (of_z w64 c.args.moment) ≡ c.args.moment = to_z-of_z fits in
    pushed
    (field (codes "Date") (date_of_moment (unsigned_abs c.args.moment)))
    (allow_field reply.allow)
    (field_if ((reply.status == 200) && is_some reply.allow) (codes "DAV") (codes "1, access-control, calendar-access"))
    (field_if (reply.status == 401) (codes "WWW-Authenticate") (codes "Basic realm=\"caldav\""))
    (etag_field reply.etag)
    (content_type reply)
    (field_if c.args.close (codes "Connection") (codes "close"))
    (content_length reply)
    _ _ _ _
    (rw same at c.in_ok-push_date.ensures)
    c.in_ok-push_resource_fields.ensures
    c.in_ok-push_content_fields.ensures
