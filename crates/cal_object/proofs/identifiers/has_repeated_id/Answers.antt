use Rattle.std.proofs.Common.{◌≡◌, ◌∙◌, sym, ap, Some}
use Rattle.cal_model.specs.Instances.Rows.{ids_start}
use Rattle.cal_model.specs.Objects.ResourceFaults.{has_repeat, aligned_ids}
use Rattle.cal_object.specs.Alignments.{tables_of}
use Rattle.cal_object.specs.Identifiers.{ids_beside}
use Rattle.cal_object.proofs.Answered.{ok_moved}
use Rattle.cal_object.proofs.IdLaws.{aligned_ids-beside}
use Rattle.cal_object.proofs.identifiers.has_repeated_id.Goals as goal

pub returns-in-Some : goal.returns-in-Some
returns-in-Some c =
    let object = c.args.object.now in
    let start : ids_start object ≡ Some c.in-Some.start = sym c.ids_start.ensures ∙ c.in-Some.is in
    let ids : ids_beside (tables_of c.args.zones.now) c.in-Some.start c.as_slice.result.now ≡ aligned_ids object =
    ap (λ zones. ids_beside zones c.in-Some.start c.as_slice.result.now) c.requires.zones ∙ ap (ids_beside object.zones c.in-Some.start) c.as_slice.ensures
    ∙ sym (aligned_ids-beside object c.in-Some.start start) in
    ok_moved c.has_repeat_beside.result _ _ (λ repeats is. is ∙ ap has_repeat ids) c.has_repeat_beside.ensures
