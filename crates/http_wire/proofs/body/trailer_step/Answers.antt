use Rattle.std.proofs.Common.{◌≡◌, ◌+◌, ◌<◌, ◌≤◌, ◌++◌, [], ◌∷◌, Some, length, sym, ap, arith}
use Rattle.cal_model.specs.Streams.Heads.{head_end}
use Rattle.cal_model.specs.Streams.Chunks.{with_front}
use Rattle.http_wire.proofs.TrailerSteps.{trailer_found, trailer_late, trailer_cut, trailer_over, closes_all, goes_on_all}
use Rattle.http_wire.proofs.body.trailer_step.Goals as goal
use Rattle.http_wire.proofs.body.trailer_step.Goals.{then-n-gt-TRAILER_LIMIT-via-then-n-gt-TRAILER_LIMIT, then-n-gt-TRAILER_LIMIT-via-else-n-gt-TRAILER_LIMIT+then-seen-n, then-seen-gt-TRAILER_LIMIT-via-then-seen-gt-TRAILER_LIMIT, then-seen-gt-TRAILER_LIMIT-via-else-seen-gt-TRAILER_LIMIT+then-done-seen, then-seen-gt-TRAILER_LIMIT-via-else-seen-gt-TRAILER_LIMIT+else-done-seen+then-n-seen}

pub returns-then-n-gt-TRAILER_LIMIT : goal.returns-then-n-gt-TRAILER_LIMIT
returns-then-n-gt-TRAILER_LIMIT c = λ more.
    let over : 16_385 < c.args.seen + c.in-Some.n = elim c.then-n-gt-TRAILER_LIMIT.branch [
      | then-n-gt-TRAILER_LIMIT-via-then-n-gt-TRAILER_LIMIT w ↦ omega (arith, w.if-n-gt-TRAILER_LIMIT.true)
      | then-n-gt-TRAILER_LIMIT-via-else-n-gt-TRAILER_LIMIT+then-seen-n w ↦ omega (arith, w.if-n-gt-TRAILER_LIMIT.false, w.if-seen-n.true)
    ] in
    ap (with_front c.args.body.now) (trailer_late c.args.seen c.in-Some.n c.args.octets.now more (sym c.in-Some.ensures.end) over)

pub returns-then-seen-gt-TRAILER_LIMIT : goal.returns-then-seen-gt-TRAILER_LIMIT
returns-then-seen-gt-TRAILER_LIMIT c = λ more.
    let end : head_end (c.args.octets.now ++ 10 ∷ 10 ∷ []) ≡ Some (c.saturating_sub-done.result + (length c.behind-tail.result.now + c.to_end.result)) =
    rw (c.to_end.ensures, c.behind-tail.ensures, c.saturating_sub-done.ensures) (closes_all c.args.octets.now (sym c.in-None.ensures.end)) in
    let over : 16_385 < c.args.seen + (c.saturating_sub-done.result + (length c.behind-tail.result.now + c.to_end.result)) = elim c.then-seen-gt-TRAILER_LIMIT.branch [
      | then-seen-gt-TRAILER_LIMIT-via-then-seen-gt-TRAILER_LIMIT w ↦ omega (arith, w.if-seen-gt-TRAILER_LIMIT.true)
      | then-seen-gt-TRAILER_LIMIT-via-else-seen-gt-TRAILER_LIMIT+then-done-seen w ↦ omega (arith, w.if-seen-gt-TRAILER_LIMIT.false, w.if-done-seen.true)
      | then-seen-gt-TRAILER_LIMIT-via-else-seen-gt-TRAILER_LIMIT+else-done-seen+then-n-seen w ↦ omega (arith, w.if-seen-gt-TRAILER_LIMIT.false, w.if-done-seen.false, w.if-n-seen.true)
    ] in
    ap (with_front c.args.body.now) (trailer_over c.args.seen _ c.args.octets.now more end over)

pub returns-else-seen-n : goal.returns-else-seen-n
returns-else-seen-n c = (
  c.in-Some.ensures.within,
  λ more. trailer_found c.args.seen c.in-Some.n c.args.body.now c.args.octets.now more (sym c.in-Some.ensures.end) c.in-Some.ensures.within (omega (arith, c.if-n-gt-TRAILER_LIMIT.false, c.if-seen-n.false)),
)

pub returns-else-n-seen : goal.returns-else-n-seen
returns-else-n-seen c =
    let none = sym c.in-None.ensures.end in
    let end : head_end (c.args.octets.now ++ 10 ∷ 10 ∷ []) ≡ Some (c.saturating_sub-done.result + (length c.behind-tail.result.now + c.to_end.result)) =
    rw (c.to_end.ensures, c.behind-tail.ensures, c.saturating_sub-done.ensures) (closes_all c.args.octets.now none) in
    let few : c.args.seen + (c.saturating_sub-done.result + (length c.behind-tail.result.now + c.to_end.result)) ≤ 16_385 = omega (arith, c.if-seen-gt-TRAILER_LIMIT.false, c.if-done-seen.false, c.if-n-seen.false) in (
      omega (arith, c.saturating_sub-done.ensures),
      ap (with_front c.args.body.now) (trailer_cut c.args.seen _ c.args.octets.now none end few),
      λ more. rw c.saturating_sub-done.ensures (ap (with_front c.args.body.now) (goes_on_all c.args.seen c.args.octets.now more none)),
    )
