-- A line of a component in an instance of it, by its name.
use Rattle.std.proofs.Common.{◌≡◌, true, false, [], ◌∷◌, ◌∙◌}
use Rattle.std.specs.Prelude.{◌||◌, bytes_eq, codes}
use Rattle.std.proofs.lemmas.Bool.{cond-true, cond-false}
use Rattle.cal_base.specs.declared.line.Line.{Line}
use Rattle.cal_model.specs.Selections.RowLines.{rewritten}
use Rattle.expand_limit.specs.declared.instance.Instance.{Instance}
use Rattle.expand_limit.specs.InstanceLines.{instance_line_by}

pub line-end : (instance : Instance) (line : Line) → bytes_eq line.name (codes "DTSTART") ≡ false → (bytes_eq line.name (codes "DTEND") || bytes_eq line.name (codes "DUE")) ≡ true
    → instance_line_by instance line ≡ rewritten instance.row.now.kind instance.row.now.end line ∷ []
line-end instance line start is = cond-false (bytes_eq line.name (codes "DTSTART")) _ _ start ∙ cond-true (bytes_eq line.name (codes "DTEND") || bytes_eq line.name (codes "DUE")) _ _ is

pub line-id : (instance : Instance) (line : Line) → bytes_eq line.name (codes "DTSTART") ≡ false → (bytes_eq line.name (codes "DTEND") || bytes_eq line.name (codes "DUE")) ≡ false → bytes_eq line.name (codes "RECURRENCE-ID") ≡ true
    → instance_line_by instance line ≡ rewritten instance.row.now.id_kind instance.row.now.id line ∷ []
line-id instance line start end is =
    cond-false (bytes_eq line.name (codes "DTSTART")) _ _ start ∙ cond-false (bytes_eq line.name (codes "DTEND") || bytes_eq line.name (codes "DUE")) _ _ end ∙ cond-true (bytes_eq line.name (codes "RECURRENCE-ID")) _ _ is
