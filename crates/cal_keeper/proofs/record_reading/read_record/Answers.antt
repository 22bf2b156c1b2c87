use Rattle.std.proofs.Common.{rules, ◌≡◌, get_or, ◌+◌, Err, Option, subst}
use Rattle.cal_keeper.specs.Disks.CrashModel.{Past}
use Rattle.cal_keeper.specs.Steps.RecordSteps.{Gives}
use Rattle.cal_keeper.proofs.Reading.{record_missing}
use Rattle.cal_keeper.proofs.record_reading.read_record.Goals as goal

pub returns-in-Err-read_payload-clause-finds : goal.returns-in-Err-read_payload-clause-finds
returns-in-Err-read_payload-clause-finds g c =
    let kept = c.in-Ok-true.ensures.past_kept in
    let filled = rw c.in-Ok-true.field-0-test at c.in-Ok-true.ensures.filled in
    let is_open : get_or c.fill.new.into 0 0 ≡ 1 = search rules in
    let gives = subst (λ (told : Option Past). Gives (c.args.place + 1) (Err c.in-Err-read_payload.none) told) kept c.in-Err-read_payload.ensures.gives in
    record_missing (g.D.Disk.past c.args.disk.now) c.args.place c.fill.new.into c.in-Err-read_payload.none c.fill.auto.into is_open filled gives
