use Rattle.std.proofs.Common.{ℕ, ◌<◌, ◌^◌, true, List, Option, Result, Err, ap, IfSome, drop, length, refl, ◌∙◌, subst, arith}
use Rattle.cal_keeper.specs.declared.record_reading.NoRecord.{NoRecord}
use Rattle.cal_keeper.specs.Disks.CrashModel.{Past, reading}
use Rattle.cal_keeper.specs.Steps.RecordSteps.{IsFilledFrom}
use Rattle.cal_keeper.proofs.HeaderReading.{not_marked, header_read, text_cut}
use Rattle.cal_keeper.proofs.opening.read_header.Goals as goal

-- an end by a reason
abbrev bad : NoRecord → Result (List ℕ) NoRecord
bad reason = Err reason

pub returns-in-Some-clause-reads : goal.returns-in-Some-clause-reads
returns-in-Some-clause-reads g c =
    let filled = rw c.in-Ok-true.field-0-test at c.in-Ok-true.ensures.filled in
    not_marked (g.D.Disk.past c.args.disk.now) c.fill.new.into c.fill.auto.into (c.in-Some.ensures.differs).0 filled

pub returns-in-Ok-clause-reads : goal.returns-in-Ok-clause-reads
returns-in-Ok-clause-reads g c =
    let kept = c.in-Ok-true.ensures.past_kept in
    let kept_too = c.in-Ok-true-fill.ensures.past_kept ∙ kept in
    let at_mark = rw c.in-Ok-true.field-0-test at c.in-Ok-true.ensures.filled in
    let at_size = subst (λ (told : Option Past). IsFilledFrom 16 true c.fill-2.new.into told) kept (rw c.in-Ok-true-fill.field-0-test at c.in-Ok-true-fill.ensures.filled) in
    let at_text = subst (λ (told : Option Past). IsFilledFrom 20 true c.in-Ok.text told) kept_too c.in-Ok.ensures.there in
    let few : c.from_be_bytes.result < 2 ^ 32 =
    omega (arith, c.from_be_bytes.ensures, c.in-Ok-true-fill.ensures.octets 0, c.in-Ok-true-fill.ensures.octets 1, c.in-Ok-true-fill.ensures.octets 2, c.in-Ok-true-fill.ensures.octets 3) in
    header_read (g.D.Disk.past c.args.disk.now) c.fill.new.into c.fill-2.new.into c.in-Ok.text c.from_be_bytes.result (c.in-None.ensures.same refl) c.fill-2.auto.into c.in-Ok-true-fill.ensures.octets
    c.from_be_bytes.ensures few c.in-Ok.ensures.size at_mark at_size at_text

pub returns-in-Err-Bad-clause-reads : goal.returns-in-Err-Bad-clause-reads
returns-in-Err-Bad-clause-reads g c =
    let kept = c.in-Ok-true.ensures.past_kept in
    let kept_too = c.in-Ok-true-fill.ensures.past_kept ∙ kept in
    let at_size = subst (λ (told : Option Past). IsFilledFrom 16 true c.fill-2.new.into told) kept (rw c.in-Ok-true-fill.field-0-test at c.in-Ok-true-fill.ensures.filled) in
    let short = subst (λ (told : Option Past). IfSome told (λ p. length (drop 20 (reading p)) < c.from_be_bytes.result)) kept_too (c.in-Err-Bad.ensures.short (ap bad c.in-Err-Bad.field-0-is)) in
    text_cut (g.D.Disk.past c.args.disk.now) c.fill-2.new.into c.from_be_bytes.result c.fill-2.auto.into c.from_be_bytes.ensures at_size short
