use Rattle.std.proofs.Common.{◌<◌, [], ◌∷◌, length, take, subst, sym, arith}
use Rattle.std.proofs.lemmas.List.{take_all}
use Rattle.ical_objects.specs.Printing.{AddsLines, IsOwnLine}
use Rattle.ical_objects.proofs.Printed.{AddsLines-one, AddsLines-then, AllByRecursion-at, take_more_at, written_more}
use Rattle.ical_objects.proofs.to_text.write_lines.Goals as goal

pub lines-preserved : goal.lines-preserved
lines-preserved c =
    let lines = c.args.lines.now in
    let line = c.line-item.result in
    let within : c.lines.line-index < length lines = omega arith in
    let own : IsOwnLine line = AllByRecursion-at IsOwnLine lines c.lines.line-index line c.requires within c.line-item.is in
    let one : AddsLines c.lines.out (line ∷ []) c.write_line.new.out =
    AddsLines-one c.lines.out c.write_line.new.out c.as_slice.result.now line c.in_ok-write_line.ensures.ends c.in_ok-write_line.ensures.read_back (sym c.as_slice.ensures) own.0 in
    record {
      text = written_more c.args.out.now c.lines.out c.write_line.new.out c.as_slice.result.now lines c.lines.line-index line within c.line-item.is c.lines.invariant.text c.in_ok-write_line.ensures.ok c.as_slice.ensures;
      lines = subst (λ these. AddsLines c.args.out.now these c.write_line.new.out) (sym (take_more_at lines c.lines.line-index line within c.line-item.is))
          (AddsLines-then c.args.out.now c.lines.out c.write_line.new.out (take c.lines.line-index lines) (line ∷ []) c.lines.invariant.lines one);
    }

pub returns-clause-lines : goal.returns-clause-lines
returns-clause-lines c =
    subst (λ these. AddsLines c.args.out.now these c.lines.out) (take_all c.lines.line-index c.args.lines.now (omega arith)) c.lines.invariant.lines
