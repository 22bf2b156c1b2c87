use Rattle.std.proofs.Common.{◌∙◌, sym, subst, map}
use Rattle.std.specs.Prelude.{All, IfOk}
use Rattle.cal_model.specs.declared.row.Row.{Row}
use Rattle.cal_model.specs.Instances.Alignment.{reading_of}
use Rattle.override_merge.specs.Conversions.{IsRowTime, tables_of}
use Rattle.rrule_sets.specs.HeldGovernors.{HoldsGovernors}
use Rattle.rrule_sets.proofs.GovernorLemmas.{days_name, days_near, governors_by-is}
use Rattle.rrule_sets.proofs.governors.governors_beside.Goals as goal

pub governors-requires-clause-near : goal.governors-requires-clause-near
governors-requires-clause-near c = λ midnight.
    rw c.as_slice.ensures
    (subst (All IsRowTime) (sym (c.in_ok-days.ensures.kept midnight)) (days_near (reading_of (tables_of c.args.zones.now) c.args.ids) midnight c.args.rows.now c.requires.near))

pub returns-clause-held : goal.returns-clause-held
returns-clause-held c =
    let object = c.args.object.now in
    let kept = rw c.requires.zones at c.in_ok-days.ensures.kept in
    let is = governors_by-is object c.args.ids (map (λ (r : Row). r.id) c.args.rows.now) c.in_ok-days.days (λ midnight. kept midnight ∙ days_name (reading_of object.zones c.args.ids) midnight c.args.rows.now) in
    let held = rw (c.requires.zones, c.as_slice.ensures, c.as_slice-2.ensures) at c.governors.ensures.held in
    subst (λ all. IfOk c.governors.result (HoldsGovernors object.zones all)) is held
