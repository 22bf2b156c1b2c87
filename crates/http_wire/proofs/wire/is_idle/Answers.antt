use Rattle.std.proofs.Common.{arith, sym, ap, ◌∙◌, ◌≡◌, length}
use Rattle.std.proofs.lemmas.Bool.{false≢true}
use Rattle.std.proofs.lemmas.Bool.Decides.{nat_tests}
use Rattle.cal_model.specs.Streams.Heads.{without_empty_lines}
use Rattle.http_wire.proofs.IdleFronts.{skipped_now, idle_if, idle_then}
use Rattle.http_wire.proofs.wire.is_idle.Goals as goal

pub returns-then-unread-ge-HEAD_LIMIT : goal.returns-then-unread-ge-HEAD_LIMIT
returns-then-unread-ge-HEAD_LIMIT c = (
  λ no. absurd (false≢true no),
  λ e. let then = idle_then c.args.unread.now e in absurd (omega (arith, then.0, c.if-unread-ge-HEAD_LIMIT.true)),
)

pub returns : goal.returns
returns c =
    let same = skipped_now c.args.unread.now c.args.begun c.requires.skipped in
    let all : length (without_empty_lines c.args.unread.now) ≡ length c.behind_empty_lines.result.now = ap length (same ∙ ap without_empty_lines (sym c.behind.ensures) ∙ sym c.behind_empty_lines.ensures.behind) in (
      λ yes. idle_if c.args.unread.now c.if-unread-ge-HEAD_LIMIT.false (Prim.grind (arith, nat_tests, yes, c.is_empty.ensures, all)),
      λ e. let then = idle_then c.args.unread.now e in Prim.grind (arith, nat_tests, then.1, c.is_empty.ensures, all),
    )
