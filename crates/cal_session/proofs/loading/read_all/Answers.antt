use Rattle.std.proofs.Common.{refl, ◌∙◌, arith}
use Rattle.cal_session.proofs.LoadLaws.{read_from}
use Rattle.cal_session.proofs.loading.read_all.Goals as goal

pub records-init : goal.records-init
records-init g c = record { read = c.requires; past_kept = refl; never_falls = omega arith }

pub returns-in-Err-clause-read : goal.returns-in-Err-clause-read
returns-in-Err-clause-read g c =
    let kept = c.records.invariant in
    read_from g.D.Disk.past g.D.Disk.faults c.args.users.now c.args.first.disk c.records.reader.disk c.read_one.new.book c.in-Err.end kept.past_kept kept.never_falls c.in-Err.ensures.never_falls c.in-Err.ensures.read

pub returns-in-Err-clause-never_falls : goal.returns-in-Err-clause-never_falls
returns-in-Err-clause-never_falls g c =
    let first = c.records.invariant.never_falls in
    let second = c.in-Err.ensures.never_falls in
    omega (arith, first, second)

pub records-preserved : goal.records-preserved
records-preserved g c =
    let kept = c.records.invariant in
    record {
      read = c.in-Ok.ensures.read.0;
      past_kept = c.in-Ok.ensures.read.1 ∙ kept.past_kept;
      never_falls = (let first = kept.never_falls in let second = c.in-Ok.ensures.never_falls in omega (arith, first, second));
    }

pub records-smaller : goal.records-smaller
records-smaller g c =
    let further = c.in-Ok.ensures.read.2 in
    let within = c.in-Ok.ensures.read.3 in
    omega (arith, further, within)
