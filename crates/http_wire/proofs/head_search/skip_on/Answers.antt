use Rattle.std.proofs.Common.{sym, ap, ◌∙◌, ◌-◌, length, drop, length-drop, arith}
use Rattle.cal_model.specs.Streams.Heads.{without_empty_lines}
use Rattle.http_wire.proofs.HeadPlaces.{begins_at, skipped_to}
use Rattle.http_wire.proofs.head_search.skip_on.Goals as goal

pub returns-clause-order : goal.returns-clause-order
returns-clause-order c = omega (arith, c.behind_empty_lines-head.ensures.shorter, ap length c.behind.ensures, length-drop c.args.begun c.args.unread.now, c.requires.within)

pub returns-clause-begins : goal.returns-clause-begins
returns-clause-begins c =
    let at = begins_at c.args.unread.now c.args.begun c.requires.within c.requires.skipped in
    at.0 ∙ at.1 ∙ ap (λ l. drop (length c.args.unread.now - length l) c.args.unread.now) (sym (c.behind_empty_lines-head.ensures.behind ∙ ap without_empty_lines c.behind.ensures))

pub returns-clause-skipped : goal.returns-clause-skipped
returns-clause-skipped c =
    let at = begins_at c.args.unread.now c.args.begun c.requires.within c.requires.skipped in
    skipped_to c.args.unread.now c.args.begun _ c.requires.skipped
    (sym (at.1 ∙ ap (λ l. drop (length c.args.unread.now - length l) c.args.unread.now) (sym (c.behind_empty_lines-head.ensures.behind ∙ ap without_empty_lines c.behind.ensures))))
