use Rattle.std.proofs.Common.{◌≡◌, ◌∙◌, ◌<◌, ◌≤◌, List, ℤ, ap, length, subst, true}
use Rattle.std.specs.Prelude.{IfOk, MatchOption}
use Rattle.cal_moment.specs.Calendar.{seconds_since_1970}
use Rattle.cal_model.specs.declared.zone.ZoneTable.{ZoneTable}
use Rattle.cal_model.specs.Instances.Alignment.{reading_of, value_of, written_moment}
use Rattle.cal_model.specs.Instances.Starts.{recurs}
use Rattle.override_merge.proofs.MergeLemmas.{zones_count}
use Rattle.rrule_sets.specs.CountedRows.{left_starts}
use Rattle.rrule_sets.proofs.CountLemmas.{left_counted, master_expandable}
use Rattle.rrule_sets.proofs.NearLemmas.{recurring_start, served_start, value_of_served}
use Rattle.rrule_sets.proofs.count.count_beside.Goals as goal

pub count_left-requires-clause-component : goal.count_left-requires-clause-component
count_left-requires-clause-component g c = rw (zones_count c.args.zones.now c.args.object.now.zones c.requires.zones) (master_expandable c.args.object.now c.args.component.now c.requires.object.components c.requires.master)

pub returns : goal.returns
returns g c =
    let object = c.args.object.now in
    let component = c.args.component.now in
    let stamp = c.args.stamp in
    let served = (master_expandable object component c.requires.object.components c.requires.master).served in
    let value : recurs component ≡ true → value_of object.zones stamp ≡ (reading_of object.zones stamp).instant (seconds_since_1970 (written_moment stamp)) = λ does. value_of_served object.zones stamp (served_start component.start stamp (recurring_start component stamp does c.requires.own) served) in
    subst (λ (xs : List ℤ). IfOk c.count_left.result (λ r. MatchOption r (c.args.room < length xs) (λ n. (n ≡ length xs) × (n ≤ c.args.room))))
    (ap (λ (zones : List ZoneTable). left_starts zones stamp component c.in_ok-taken.taken) c.requires.zones ∙ left_counted object stamp component c.in_ok-taken.taken c.requires.master c.requires.own value c.in_ok-taken.ensures.taken)
    c.count_left.ensures
