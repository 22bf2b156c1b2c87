use Rattle.std.proofs.Common.{◌≡◌, ◌+◌, arith}
use Rattle.load_requests.specs.Meanings.{meant_by}
use Rattle.load_requests.proofs.AskingLemmas.{asked-ok}
use Rattle.load_requests.proofs.requests.ask.Goals as goal

pub returns-in-Request : goal.returns-in-Request
returns-in-Request c =
    let sum = c.in-Some.ensures in
    let next : c.in-Some.count ≡ c.args.asking.now.count + 1 = omega (arith, sum) in
    asked-ok c.args.asker.now.users.now c.args.asker.now.session (meant_by c.args.asker.now.session c.args.meaning.now) c.args.asking.now.octets c.args.octets.now _ c.args.asking.now.count _ c.args.asking.now.wire c.feed.new.self _ c.in-Request.wire
    c.in_ok-extend_from_slice.ensures.ok next c.in_ok-feed.ensures.ok c.in-Request.ensures c.if_asks.result c.if_asks.ensures
