-- The steps in which a logical line is taken from the octets of a text.
use Rattle.std.proofs.Common.{◌≡◌, ℕ, true, false, List, ◌∷◌, ◌++◌, drop, Option, Result, sym, ap, ◌∙◌}
use Rattle.std.specs.Option.{option_or}
use Rattle.cal_base.specs.declared.line.Line.{Line}
use Rattle.cal_base.specs.Texts.Octets.{line_feed}
use Rattle.cal_base.specs.Lines.ContentLines.{Physical, pieces, physical_from, begins_with_blank, continues, groups}
use Rattle.ical_lines.specs.GroupReading.{refused_place, read_groups, read_text, read_open}
use Rattle.ical_lines.proofs.OpenLines.{open_at_first, open_at_fold, open_at_end}
use Rattle.ical_lines.proofs.PhysicalLines.{continues-physical}

abbrev lines_at : ℕ → List ℕ → List Physical
lines_at place octets = physical_from place (pieces line_feed octets)

abbrev line_at : ℕ → List ℕ → Physical
line_at place text = record { place = place; text = text }

pub start_step : (done : List Line) (place next : ℕ) (octets text raw behind : List ℕ) (refused : Option ℕ) → lines_at place octets ≡ line_at place text ∷ lines_at next behind → raw ≡ text → refused ≡ refused_place (line_at place text) → read_groups done (groups (lines_at place octets)) ≡ read_open done place raw refused (groups (lines_at next behind))
start_step done place next octets text raw behind refused line same_text same_fault = rw (same_text, same_fault, line) (open_at_first done (line_at place text) (lines_at next behind))

pub fold_step : (whole : Result (List Line) ℕ) (done : List Line) (place at next : ℕ) (rest text behind raw longer : List ℕ) (refused later : Option ℕ) → whole ≡ read_open done place raw refused (groups (lines_at at rest)) → lines_at at rest ≡ line_at at text ∷ lines_at next behind → begins_with_blank rest ≡ true → longer ≡ raw ++ drop 1 text → later ≡ option_or refused (refused_place (line_at at text)) → whole ≡ read_open done place longer later (groups (lines_at next behind))
fold_step whole done place at next rest text behind raw longer refused later known line blank same_text same_fault =
    let fold : begins_with_blank text ≡ true = ap continues (sym line) ∙ continues-physical rest at ∙ blank in
    rw (same_text, same_fault) (known ∙ ap (λ them. read_open done place raw refused (groups them)) line ∙ open_at_fold done place raw refused (line_at at text) (lines_at next behind) fold)

pub end_step : (whole : Result (List Line) ℕ) (done : List Line) (place at : ℕ) (rest raw : List ℕ) (refused : Option ℕ) → whole ≡ read_open done place raw refused (groups (lines_at at rest)) → begins_with_blank rest ≡ false → whole ≡ read_text done place raw refused (groups (lines_at at rest))
end_step whole done place at rest raw refused known end = known ∙ open_at_end done place raw refused (lines_at at rest) (continues-physical rest at ∙ end)
