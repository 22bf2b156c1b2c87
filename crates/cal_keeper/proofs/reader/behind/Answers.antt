use Rattle.std.proofs.Common.{ℕ, ◌+◌, List, drop, Option, IfSome, refl, sym, ap, subst}
use Rattle.cal_keeper.specs.Disks.CrashModel.{Past, reading}
use Rattle.cal_keeper.specs.Files.RecordForm.{HasRecord}
use Rattle.cal_keeper.specs.Principals.{counts_of, AreFew}
use Rattle.cal_keeper.specs.Steps.Decoding.{ReadsEvent, IsOutside}
use Rattle.cal_keeper.proofs.NextFinds.{entry_found, outside_found}
use Rattle.cal_keeper.proofs.reader.behind.Goals as goal

pub returns-in-Ok-Some-clause-found : goal.returns-in-Ok-Some-clause-found
returns-in-Ok-Some-clause-found g c = λ old same.
    let few : AreFew (counts_of c.args.users.now) = subst AreFew (sym c.requires.counts) c.requires.known in
    let reads = rw c.in-Ok-Some.field-0-is at c.in-Ok-Some.ensures.found in
    let of_payload = subst (λ (xs : List ℕ). ReadsEvent c.args.users.now xs c.in-Ok-Some.event c.in-Ok-Some.status) c.as_slice.ensures reads in
    let there = subst (λ (told : Option Past). IfSome told (λ p. HasRecord c.args.payload (drop c.args.place (reading p)))) (sym same) c.requires.there in
    let found = entry_found c.args.users.now few (g.D.Disk.past old) c.args.place (c.args.place + 5 + c.len.result) c.args.payload c.in-Ok-Some.event c.in-Ok-Some.status of_payload
    (ap (λ (n : ℕ). c.args.place + 5 + n) c.len.ensures) there in
    (found.0, found.1, found.2, found.3, sym c.requires.counts, refl)

pub returns-in-Ok-None-clause-found : goal.returns-in-Ok-None-clause-found
returns-in-Ok-None-clause-found g c = λ old same.
    let few : AreFew (counts_of c.args.users.now) = subst AreFew (sym c.requires.counts) c.requires.known in
    let none = rw c.in-Ok-None.field-0-is at c.in-Ok-None.ensures.none in
    let of_payload = subst (λ (xs : List ℕ). IsOutside c.args.users.now xs) c.as_slice.ensures (none refl) in
    let there = subst (λ (told : Option Past). IfSome told (λ p. HasRecord c.args.payload (drop c.args.place (reading p)))) (sym same) c.requires.there in
    (outside_found c.args.users.now few (g.D.Disk.past old) c.args.place c.args.payload of_payload there, refl)
