use Rattle.std.proofs.Common.{[], ◌∷◌, true, false, sym, ap, ◌∙◌}
use Rattle.percent_encoding.specs.Percent.{percent_decode}
use Rattle.cal_model.specs.Paths.TargetPaths.{path_of_segments}
use Rattle.dav_write.proofs.SegmentLemmas.{path_of_two_open, path_of_two_closed, path_of_three_open, path_of_three_closed, path_of_four_open, path_of_four_closed, path_of_more, read_closed, read_open}
use Rattle.dav_write.proofs.targets.path_of_segments.Goals as goal

pub returns-then-is_empty : goal.returns-then-is_empty
returns-then-is_empty c =
    let s = c.in-Two in
    sym (ap path_of_segments s.ensures ∙ path_of_two_closed s.kind.now s.user.now (sym c.is_empty-in-Two.ensures ∙ c.if-is_empty.true))

pub returns-else-is_empty : goal.returns-else-is_empty
returns-else-is_empty c =
    let s = c.in-Two in
    read_closed c.path_of_two.result c.args.text.now (s.kind.now ∷ s.user.now ∷ []) (percent_decode s.kind.now ∷ percent_decode s.user.now ∷ []) false s.ensures (path_of_two_open s.kind.now s.user.now (sym c.is_empty-in-Two.ensures ∙ c.if-is_empty.false)) c.path_of_two.ensures

pub returns-then-is_empty-2 : goal.returns-then-is_empty-2
returns-then-is_empty-2 c =
    let s = c.in-Three in
    read_closed c.path_of_two-then-is_empty-2.result c.args.text.now (s.kind.now ∷ s.user.now ∷ s.calendar.now ∷ []) (percent_decode s.kind.now ∷ percent_decode s.user.now ∷ []) true s.ensures
    (path_of_three_closed s.kind.now s.user.now s.calendar.now (sym c.is_empty-in-Three.ensures ∙ c.if-is_empty-2.true)) c.path_of_two-then-is_empty-2.ensures

pub returns-else-is_empty-2 : goal.returns-else-is_empty-2
returns-else-is_empty-2 c =
    let s = c.in-Three in
    read_closed c.path_of_three.result c.args.text.now (s.kind.now ∷ s.user.now ∷ s.calendar.now ∷ []) (percent_decode s.kind.now ∷ percent_decode s.user.now ∷ percent_decode s.calendar.now ∷ []) false s.ensures
    (path_of_three_open s.kind.now s.user.now s.calendar.now (sym c.is_empty-in-Three.ensures ∙ c.if-is_empty-2.false)) c.path_of_three.ensures

pub returns-then-is_empty-3 : goal.returns-then-is_empty-3
returns-then-is_empty-3 c =
    let s = c.in-Four in
    read_closed c.path_of_three-then-is_empty-3.result c.args.text.now (s.kind.now ∷ s.user.now ∷ s.calendar.now ∷ s.object.now ∷ []) (percent_decode s.kind.now ∷ percent_decode s.user.now ∷ percent_decode s.calendar.now ∷ []) true s.ensures
    (path_of_four_closed s.kind.now s.user.now s.calendar.now s.object.now (sym c.is_empty-in-Four.ensures ∙ c.if-is_empty-3.true)) c.path_of_three-then-is_empty-3.ensures

pub returns-else-is_empty-3 : goal.returns-else-is_empty-3
returns-else-is_empty-3 c =
    let s = c.in-Four in
    read_open c.path_of_four.result c.args.text.now (s.kind.now ∷ s.user.now ∷ s.calendar.now ∷ s.object.now ∷ []) (percent_decode s.kind.now ∷ percent_decode s.user.now ∷ percent_decode s.calendar.now ∷ percent_decode s.object.now ∷ []) s.ensures
    (path_of_four_open s.kind.now s.user.now s.calendar.now s.object.now (sym c.is_empty-in-Four.ensures ∙ c.if-is_empty-3.false)) c.path_of_four.ensures

pub returns-in-More : goal.returns-in-More
returns-in-More c = sym (path_of_more _ c.in-More.ensures)
