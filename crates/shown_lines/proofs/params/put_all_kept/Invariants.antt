use Rattle.std.proofs.Common.{◌≡◌, ◌++◌, map, Some}
use Rattle.std.specs.Prelude.{filter, flat_map}
use Rattle.cal_base.specs.Texts.Octets.{semicolon}
use Rattle.cal_base.specs.Lines.ContentLines.{every, param_of}
use Rattle.cal_model.specs.Selections.RowLines.{text_stays}
use Rattle.cal_base.specs.Lines.UnquotedParts.{later_pieces, text_left}
use Rattle.cal_base.specs.Texts.LentTexts.{text_there}
use Rattle.shown_lines.specs.Heads.{behind_semicolon}
use Rattle.shown_lines.proofs.params.put_all_kept.Given as goal

-- what is left is read as the parameters that are left, and what is put so far stands before what is left to put
abbrev pub invariant-params : goal.invariant-params
invariant-params l = record {
  read : every (map param_of (later_pieces semicolon (text_there l.rest))) ≡ Some l.params;
  put : l.out ++ flat_map behind_semicolon (filter (text_stays l.kind) (later_pieces semicolon (text_there l.rest))) ≡ l.initial.out ++ flat_map behind_semicolon (filter (text_stays l.kind) (later_pieces semicolon (text_there l.fn.text)));
}

abbrev pub decreases-params : goal.decreases-params
decreases-params l = text_left (text_there l.rest)
