use Rattle.std.proofs.Common.{◌∙◌, arith, ap, Ok, ◌≡◌, ◌-◌, ◌+◌, length}
use Rattle.cal_base.specs.Lines.ContentLines.{pieces}
use Rattle.cal_base.specs.Texts.Octets.{line_feed}
use Rattle.privileges.specs.LineReading.{read_on}
use Rattle.privileges.proofs.LineSteps.{read_on-line}
use Rattle.privileges.proofs.reading.read_lines.Goals as goal

pub lines-preserved : goal.lines-preserved
lines-preserved c =
    let size = c.in-Some.ensures.size in
    let within = c.lines.invariant.within in
    let place = length c.args.octets.now - length c.lines.rest.now in
    let next : place + length c.in-Some.line.now + 1 ≡ length c.args.octets.now - length c.in-Some.behind.now = omega (arith, size, within) in
    record {
      within = omega (arith, size, within);
      on =
          c.lines.invariant.on
          ∙ read_on-line c.lines.users place c.lines.rest.now c.in-Some.line.now c.in-Some.behind.now (Ok c.read_line.new.users) c.in-Some.ensures.pieces c.in_ok-read_line.ensures.users
          ∙ ap (λ n. read_on c.read_line.new.users n (pieces line_feed c.in-Some.behind.now)) next;
    }
