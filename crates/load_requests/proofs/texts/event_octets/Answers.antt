use Rattle.std.proofs.Common.{◌∙◌}
use Rattle.load_requests.proofs.EventLemmas.{event-made}
use Rattle.load_requests.proofs.texts.event_octets.Goals as goal

pub returns : goal.returns
returns c =
    event-made c.args.number c.args.drawn.day c.args.drawn.hour c.args.drawn.form c.args.drawn.minutes _ _ _ _ _ _ _ _ _
    (c.as_bytes.ensures.value ∙ c.in_ok-front.ensures) c.in_ok-octets.ensures c.start_text.ensures c.in_ok-extend_from_slice.ensures.ok
    (c.as_bytes-2.ensures.value ∙ c.in_ok-length.ensures) c.in_ok-extend_from_slice-2.ensures.ok c.rule_line.ensures c.in_ok-extend_from_slice-3.ensures.ok c.in_ok-extend_from_slice-4.ensures.ok
