use Rattle.std.proofs.Common.{◌≡◌, length, sym, ap, subst, ◌∙◌}
use Rattle.std.specs.Prelude.{unwrap_or}
use Rattle.cal_moment.specs.Calendar.{IsCalendarMoment}
use Rattle.cal_model.specs.Instances.Rows.{Numbered}
use Rattle.cal_model.specs.Objects.ObjectFacts.{IsReadComponent}
use Rattle.cal_model.specs.Selections.LimitedSets.{original_row}
use Rattle.cal_model.proofs.Objects.ObjectFactLaws.{IsReadObject-read}
use Rattle.override_merge.specs.Conversions.{HasConvertibleRow}
use Rattle.override_merge.proofs.ReadObjects.{HasConvertibleRows-read}
use Rattle.expand_limit.specs.SeenRows.{meets, named_id}
use Rattle.expand_limit.proofs.MadeLines.{whole-moment}
use Rattle.expand_limit.proofs.SeenParts.{master-is, master-known, master-there, originals-one}
use Rattle.expand_limit.proofs.ShownRows.{id_moment}
use Rattle.expand_limit.proofs.ShownTrees.{rows-at_hand}
use Rattle.expand_limit.proofs.left.master_meets.Goals as goal

pub instance_meets-requires-clause-component : goal.instance_meets-requires-clause-component
instance_meets-requires-clause-component c =
    let object = c.args.limit.now.object.now in
    let n : Numbered = record { number = c.args.number; component = c.in-Some.master.now } in
    let known = master-is object c.args.number c.in-Some.master.now c.requires.master (sym c.in-Some.ensures) in
    master-known object (IsReadComponent object) n known.0 (IsReadObject-read object c.requires.read).components known.1

pub instance_meets-requires-clause-master : goal.instance_meets-requires-clause-master
instance_meets-requires-clause-master c =
    let object = c.args.limit.now.object.now in
    let n : Numbered = record { number = c.args.number; component = c.in-Some.master.now } in
    let known = master-is object c.args.number c.in-Some.master.now c.requires.master (sym c.in-Some.ensures) in
    master-known object (HasConvertibleRow (length c.args.zones.now)) n known.0 (rows-at_hand object c.args.zones.now (sym c.requires.zones) (HasConvertibleRows-read object c.requires.read c.requires.few).components) known.1

pub instance_meets-requires-clause-id : goal.instance_meets-requires-clause-id
instance_meets-requires-clause-id c =
    let object = c.args.limit.now.object.now in
    let is : c.id_of-id.result ≡ unwrap_or c.args.seen (named_id object.zones c.args.ids c.args.name) = c.id_of-id.ensures ∙ ap (λ zones. unwrap_or c.args.seen (named_id zones c.args.ids c.args.name)) (sym c.requires.zones) in
    let moment : IsCalendarMoment c.id_of-id.result = subst IsCalendarMoment (sym is) (id_moment object c.args.ids c.args.name c.args.seen c.requires.read c.requires.served c.requires.seen) in
    subst IsCalendarMoment (sym (whole-moment c.id_of-id.result moment)) moment

pub returns-in-None : goal.returns-in-None
returns-in-None c = absurd (master-there c.args.limit.now.object.now c.args.number c.requires.master (sym c.in-None.ensures))

pub returns-in-Some : goal.returns-in-Some
returns-in-Some c =
    let limit = c.args.limit.now in
    let object = limit.object.now in
    let ids = c.args.ids in
    let n : Numbered = record { number = c.args.number; component = c.in-Some.master.now } in
    let known = master-is object c.args.number c.in-Some.master.now c.requires.master (sym c.in-Some.ensures) in
    let is : c.id_of-id.result ≡ unwrap_or c.args.seen (named_id object.zones ids c.args.name) = c.id_of-id.ensures ∙ ap (λ zones. unwrap_or c.args.seen (named_id zones ids c.args.name)) (sym c.requires.zones) in
    let moment : IsCalendarMoment c.id_of-id.result = subst IsCalendarMoment (sym is) (id_moment object ids c.args.name c.args.seen c.requires.read c.requires.served c.requires.seen) in
    c.instance_meets.ensures ∙ ap (λ id. meets limit (original_row object ids id n)) (whole-moment c.id_of-id.result moment ∙ is)
    ∙ sym (originals-one limit ids c.args.name c.args.seen n known.0 (IsReadObject-read object c.requires.read).one_master known.1)
