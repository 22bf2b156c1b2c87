use Rattle.http_wire.proofs.Framings.{request_is}
use Rattle.http_wire.proofs.request.request_of.Goals as goal

pub returns : goal.returns
returns c head of =
    request_is c.args.line c.args.fields.now head c.closes.result c.in_ok-method.method c.in_ok-method.target c.new.result c.in_ok-authorization.authorization c.in_ok-authorization.media c.in_ok-authorization.coding c.in_ok-depth.depth
    c.in_ok-depth.if_match c.in_ok-depth.if_none of c.in_ok-method.ensures c.closes.ensures c.in_ok-authorization.ensures c.in_ok-depth.ensures c.new.ensures
