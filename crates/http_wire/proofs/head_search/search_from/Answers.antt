use Rattle.std.proofs.Common.{sym, ap, ◌∙◌, ◌≡◌, None, Some, length, drop, length-drop, arith}
use Rattle.cal_model.specs.Streams.Heads.{head_end}
use Rattle.http_wire.proofs.HeadPlaces.{ends_at, open_at, looked_on}
use Rattle.http_wire.proofs.head_search.search_from.Goals as goal

pub returns-in-Some : goal.returns-in-Some
returns-in-Some c =
    let found : head_end (drop c.args.from c.args.unread.now) ≡ Some c.in-Some.n = ap head_end (sym c.behind.ensures) ∙ sym c.in-Some.ensures.end in
    let at = ends_at c.args.unread.now c.args.begun c.args.from c.in-Some.n c.requires.order c.requires.within c.requires.begins c.requires.looked found in (
      omega (arith, c.requires.order),
      omega (arith, c.in-Some.ensures.within, ap length c.behind.ensures, length-drop c.args.from c.args.unread.now, c.requires.within),
      at.0,
      at.1,
    )

pub returns-then-last-from : goal.returns-then-last-from
returns-then-last-from c =
    let none : head_end (drop c.args.from c.args.unread.now) ≡ None = ap head_end (sym c.behind.ensures) ∙ sym c.in-None.ensures.end in
    let at = open_at c.args.unread.now c.args.begun c.args.from c.requires.begins c.requires.looked none in (
      omega (arith, c.requires.order, c.if-last-from.true),
      omega (arith, c.saturating_sub-last.ensures),
      c.requires.skipped,
      looked_on c.args.unread.now c.args.begun c.saturating_sub-last.result (omega (arith, c.requires.order, c.if-last-from.true)) (omega (arith, c.saturating_sub-last.ensures, c.if-last-from.true)) at.1,
      at.0,
      c.requires.begins,
    )

pub returns-else-last-from : goal.returns-else-last-from
returns-else-last-from c =
    let none : head_end (drop c.args.from c.args.unread.now) ≡ None = ap head_end (sym c.behind.ensures) ∙ sym c.in-None.ensures.end in
    let at = open_at c.args.unread.now c.args.begun c.args.from c.requires.begins c.requires.looked none in (
      c.requires.order,
      c.requires.within,
      c.requires.skipped,
      c.requires.looked,
      at.0,
      c.requires.begins,
    )
