use Rattle.std.proofs.Common.{◌+◌, ◌<◌, true, Option, IfOk, IsErrOf, IfSome, drop, length, subst, arith}
use Rattle.cal_keeper.specs.declared.record_reading.NoRecord.TheVariants.{Bad}
use Rattle.cal_keeper.specs.Disks.CrashModel.{Past, reading}
use Rattle.cal_keeper.specs.Steps.RecordSteps.{IsFilledFrom}
use Rattle.cal_keeper.proofs.Reading.{payload_given}
use Rattle.cal_keeper.proofs.record_reading.read_payload.Goals as goal

pub returns-clause-gives : goal.returns-clause-gives
returns-clause-gives g c =
    let kept = c.in-Ok-true.ensures.past_kept in
    let filled = rw c.in-Ok-true.field-0-test at c.in-Ok-true.ensures.filled in
    let there = subst (λ (told : Option Past). IfOk c.read_octets.result (λ octets. IsFilledFrom (c.args.place + 4) true octets told)) kept c.read_octets.ensures.there in
    let short = subst (λ (told : Option Past). IsErrOf c.read_octets.result Bad → IfSome told (λ p. length (drop (c.args.place + 4) (reading p)) < c.from_be_bytes-size.result)) kept c.read_octets.ensures.short in
    payload_given (g.D.Disk.past c.args.disk.now) c.args.place c.from_be_bytes-size.result c.fill.new.into c.read_octets.result c.fill.auto.into c.in-Ok-true.ensures.octets c.from_be_bytes-size.ensures
    (omega (arith, c.if-size-eq0.false)) c.if-size-gt-PAYLOAD_LIMIT.false filled there c.read_octets.ensures.size short
