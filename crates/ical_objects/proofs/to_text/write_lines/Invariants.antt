use Rattle.std.proofs.Common.{◌≡◌, ◌++◌, take}
use Rattle.std.specs.Prelude.{flat_map}
use Rattle.cal_base.specs.Lines.WrittenLines.{written_line}
use Rattle.ical_objects.specs.Printing.{AddsLines}
use Rattle.ical_objects.proofs.to_text.write_lines.Given as goal

-- the lines so far are written, and are read again
abbrev pub invariant-lines : goal.invariant-lines
invariant-lines l = record {
  text : l.out ≡ l.initial.out ++ flat_map written_line (take l.line-index l.lines);
  lines : AddsLines l.initial.out (take l.line-index l.lines) l.out;
}
