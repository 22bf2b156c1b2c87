use Rattle.std.proofs.Common.{sym, ap, ◌∙◌, ◌≡◌, ◌-◌, take, length, arith}
use Rattle.std.proofs.lemmas.List.{length-take}
use Rattle.cal_model.specs.Streams.Heads.{without_empty_lines}
use Rattle.http_wire.proofs.Beginning.{long_fault, over_fault, bad_fault, nothing_yet, body_begins}
use Rattle.http_wire.proofs.Searching.{without_empty_lines-twice}
use Rattle.http_wire.proofs.stage.begin.Goals as goal

pub read_head-requires-clause-begins : goal.read_head-requires-clause-begins
read_head-requires-clause-begins c =
    let block : c.front.result.now ≡ without_empty_lines (take c.in-Ends.end c.args.unread.now) = c.front.ensures ∙ ap (take _) c.behind.ensures ∙ sym c.in-Ends.ensures.3 in
    ap without_empty_lines block ∙ without_empty_lines-twice (take c.in-Ends.end c.args.unread.now) ∙ sym block

pub read_head-requires-clause-short : goal.read_head-requires-clause-short
read_head-requires-clause-short c =
    omega (arith, ap length c.front.ensures, length-take (c.in-Ends.end - c.in-Ends.begun) c.behind.result.now, c.if-end-gt-HEAD_LIMIT.false)

pub returns-then-unread-ge-HEAD_LIMIT : goal.returns-then-unread-ge-HEAD_LIMIT
returns-then-unread-ge-HEAD_LIMIT c = λ more. long_fault c.args.unread.now more c.in-Open.ensures.4 c.if-unread-ge-HEAD_LIMIT.true

pub returns-then-end-gt-HEAD_LIMIT : goal.returns-then-end-gt-HEAD_LIMIT
returns-then-end-gt-HEAD_LIMIT c = λ more. over_fault c.args.unread.now more c.in-Ends.end c.in-Ends.ensures.2 c.if-end-gt-HEAD_LIMIT.true

pub returns-else-unread-ge-HEAD_LIMIT : goal.returns-else-unread-ge-HEAD_LIMIT
returns-else-unread-ge-HEAD_LIMIT c = (
  c.in-Open.ensures.0,
  c.in-Open.ensures.1,
  c.in-Open.ensures.2,
  c.in-Open.ensures.3,
  nothing_yet c.args.unread.now c.in-Open.ensures.4 c.if-unread-ge-HEAD_LIMIT.false,
)

pub returns-in-Head : goal.returns-in-Head
returns-in-Head c = (
  c.in-Ends.ensures.1,
  λ more. body_begins c.args.unread.now more c.in-Ends.end c.in-Head.ensures.0 c.in-Head.request c.in-Head.part c.in-Ends.ensures.2 c.if-end-gt-HEAD_LIMIT.false c.in-Ends.ensures.1
      (rw c.in-Ends.ensures.3 (rw (c.front.ensures, c.behind.ensures) at c.in-Head.ensures.1)) c.in-Head.ensures.2 c.in-Head.ensures.3,
)

pub returns-in-Fault : goal.returns-in-Fault
returns-in-Fault c = λ more.
    bad_fault c.args.unread.now more c.in-Ends.end c.in-Fault.why c.in-Ends.ensures.2 c.if-end-gt-HEAD_LIMIT.false (rw c.in-Ends.ensures.3 (rw (c.front.ensures, c.behind.ensures) at c.in-Fault.ensures))
