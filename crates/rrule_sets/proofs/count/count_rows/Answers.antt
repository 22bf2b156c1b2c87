use Rattle.std.proofs.Common.{◌≡◌, ◌-◌, ◌<◌, ◌≤◌, arith, length}
use Rattle.cal_model.proofs.Objects.ObjectFactLaws.{IsReadObject-read}
use Rattle.rrule_sets.specs.CountedRows.{master_starts}
use Rattle.rrule_sets.proofs.ReadLemmas.{HasRowsToFind-read}
use Rattle.rrule_sets.proofs.RowCounts.{length_rows}
use Rattle.rrule_sets.proofs.count.count_rows.Goals as goal

pub returns-then-own-limit : goal.returns-then-own-limit
returns-then-own-limit c =
    let object = c.args.object.now in
    let count = length_rows object (IsReadObject-read object c.requires.read).one_master in
    let own = rw c.as_slice.ensures at c.own_rows-own.ensures in
    let test = c.if-own-limit.true in
    omega (arith, count, own, test)

pub master_count-requires-clause-object : goal.master_count-requires-clause-object
master_count-requires-clause-object c = HasRowsToFind-read c.args.object.now c.requires.read c.requires.few c.requires.coarse

pub returns-in-Ok-Some : goal.returns-in-Ok-Some
returns-in-Ok-Some c =
    let object = c.args.object.now in
    let count = length_rows object (IsReadObject-read object c.requires.read).one_master in
    let own = rw c.as_slice.ensures at c.own_rows-own.ensures in
    let test = c.if-own-limit.false in
    let made : (c.in-Ok-Some.count ≡ length (master_starts object)) × (c.in-Ok-Some.count ≤ c.args.limit - c.own_rows-own.result) = rw c.in-Ok-Some.field-0-is at c.in-Ok-Some.ensures in
    (omega (arith, count, own, test, made), omega (arith, count, own, test, made))

pub returns-in-Ok-None : goal.returns-in-Ok-None
returns-in-Ok-None c =
    let object = c.args.object.now in
    let count = length_rows object (IsReadObject-read object c.requires.read).one_master in
    let own = rw c.as_slice.ensures at c.own_rows-own.ensures in
    let test = c.if-own-limit.false in
    let made : c.args.limit - c.own_rows-own.result < length (master_starts object) = rw c.in-Ok-None.field-0-is at c.in-Ok-None.ensures in
    omega (arith, count, own, test, made)
