use Rattle.std.proofs.Common.{refl, ◌∙◌, arith}
use Rattle.journal_migration.proofs.OpenLaws.{read_since}
use Rattle.journal_migration.proofs.carrying.read_all.Goals as goal

pub records-init : goal.records-init
records-init g c = record { read = c.requires.into; past_kept = refl; never_falls = omega arith }

pub returns-in-Err-clause-read : goal.returns-in-Err-clause-read
returns-in-Err-clause-read g c =
    let kept = c.records.invariant in
    read_since g.D.Disk.past g.D.Disk.faults c.args.old_users.now c.args.new_users.now c.args.first.disk c.records.reader.disk c.in-Err.end.1 c.read_one.new.books kept.past_kept kept.never_falls c.in-Err.ensures.never_falls c.in-Err.end.0 c.in-Err.ensures.read

pub returns-in-Err-clause-past_kept : goal.returns-in-Err-clause-past_kept
returns-in-Err-clause-past_kept g c = c.in-Err.ensures.past_kept ∙ c.records.invariant.past_kept

pub returns-in-Err-clause-never_falls : goal.returns-in-Err-clause-never_falls
returns-in-Err-clause-never_falls g c =
    let first = c.records.invariant.never_falls in
    let second = c.in-Err.ensures.never_falls in
    omega (arith, first, second)

pub records-preserved : goal.records-preserved
records-preserved g c =
    let kept = c.records.invariant in
    record {
      read = c.in-Ok.ensures.read.0;
      past_kept = c.in-Ok.ensures.past_kept ∙ kept.past_kept;
      never_falls = (let first = kept.never_falls in let second = c.in-Ok.ensures.never_falls in omega (arith, first, second));
    }

pub records-smaller : goal.records-smaller
records-smaller g c =
    let further = c.in-Ok.ensures.read.1 in
    let within = c.in-Ok.ensures.read.2 in
    omega (arith, further, within)
