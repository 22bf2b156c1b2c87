use Rattle.std.proofs.Common.{ap, sym, ◌∙◌, get_or}
use Rattle.std.specs.Prelude.{option_map}
use Rattle.std.proofs.lemmas.Result.{IfOk-weaker}
use Rattle.cal_model.specs.Objects.CalendarChildren.{child_places}
use Rattle.cal_object.specs.ZoneFaults.{first_bad}
use Rattle.cal_object.proofs.ZoneWalk.{zone_fault-first_bad}
use Rattle.cal_object.proofs.zones.read_zones.Goals as goal

pub returns-clause-good : goal.returns-clause-good
returns-clause-good c =
    IfOk-weaker c.tables_of.result _ _
    (λ tables none placed. zone_fault-first_bad placed c.args.calendar.now ∙ ap (option_map (λ child. get_or (child_places placed) child 0)) (sym (ap (first_bad 0 50_000) c.as_slice.ensures) ∙ none))
    c.tables_of.ensures.good

pub returns-clause-bad : goal.returns-clause-bad
returns-clause-bad c = λ child told placed.
    zone_fault-first_bad placed c.args.calendar.now ∙ ap (option_map (λ n. get_or (child_places placed) n 0)) (sym (ap (first_bad 0 50_000) c.as_slice.ensures) ∙ c.tables_of.ensures.bad child told)
