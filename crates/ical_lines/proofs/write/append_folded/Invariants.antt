use Rattle.std.proofs.Common.{◌≡◌, ◌≤◌, ◌++◌, true, length, take}
use Rattle.std.specs.Str.{is_utf8, chars}
use Rattle.cal_base.specs.Lines.WrittenLines.{folded, written}
use Rattle.ical_lines.proofs.write.append_folded.Given as goal

-- what was appended, and what the rest is folded to, are the whole
abbrev pub invariant-folds : goal.invariant-folds
invariant-folds l = record {
  appended : l.out ++ folded l.room (chars l.rest) ≡ l.initial.out ++ written l.raw;
  front : take (length l.initial.out) l.out ≡ l.initial.out;
  utf8 : is_utf8 l.rest ≡ true;
  wide : 4 ≤ l.room;
}

abbrev pub decreases-folds : goal.decreases-folds
decreases-folds l = length l.rest
