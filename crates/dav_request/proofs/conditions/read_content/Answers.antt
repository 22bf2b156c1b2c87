use Rattle.std.proofs.Common.{sym, ◌∙◌}
use Rattle.dav_request.proofs.ContentSteps.{content_coded, content_in_order}
use Rattle.dav_request.proofs.conditions.read_content.Goals as goal

pub returns-then-not-is_plain_coding : goal.returns-then-not-is_plain_coding
returns-then-not-is_plain_coding c =
    c.unsupported_media.ensures ∙ sym (content_coded c.args.users.now c.args.wire.now c.args.method (sym c.is_plain_coding.ensures ∙ c.if-not-is_plain_coding.true))

pub returns : goal.returns
returns c =
    rw (content_in_order c.args.users.now c.args.wire.now c.args.method c.args.malformed c.in_ok-content.content c.with_tags-content.result (sym c.is_plain_coding.ensures ∙ c.if-not-is_plain_coding.false) c.requires c.in_ok-content.ensures c.with_tags-content.ensures)
    c.with_depth.ensures
