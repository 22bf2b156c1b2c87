use Rattle.std.proofs.Common.{None, Ok, Err, sym, ◌∙◌, ap, subst}
use Rattle.cal_keeper.specs.declared.record_reading.NoRecord.TheVariants.{Bad}
use Rattle.cal_keeper.specs.Files.NextEntries.{IsFound}
use Rattle.cal_keeper.specs.Steps.RecordSteps.{Finds}
use Rattle.cal_keeper.specs.Keepers.{KeeperState, ReaderState}
use Rattle.cal_keeper.specs.Principals.{counts_of, AreFew}
use Rattle.cal_keeper.proofs.NextFinds.{end_found, neither_found}
use Rattle.cal_keeper.proofs.reader.Reader.next.Goals as goal

pub returns-in-Ok-None-clause-found : goal.returns-in-Ok-None-clause-found
returns-in-Ok-None-clause-found g c =
    let few : AreFew (counts_of c.args.users.now) = subst AreFew (ap (λ (s : ReaderState _). s.principals) c.self.view_is ∙ sym c.requires) c.self.invariant.2 in
    let finds = rw c.in-Ok-None.field-0-is at c.in-Ok-None.ensures.finds in
    let at_self = subst (λ (s : ReaderState _). Finds s.place (Ok None) (g.D.Disk.past s.disk)) c.self.view_is finds in (
      end_found c.args.users.now few (g.D.Disk.past c.args.self.disk) c.args.self.place at_self,
      ap (λ (k : KeeperState _). k.principals) c.at.ensures ∙ ap (λ (s : ReaderState _). s.principals) c.self.view_is ∙ sym c.requires,
      ap (λ (k : KeeperState _). k.place) c.at.ensures ∙ ap (λ (s : ReaderState _). s.place) c.self.view_is,
      ap (λ (k : KeeperState _). k.records) c.at.ensures ∙ ap (λ (s : ReaderState _). s.records) c.self.view_is,
      ap (λ (k : KeeperState _). k.broken) c.at.ensures,
    )

pub returns-in-Ok-None-clause-past_kept : goal.returns-in-Ok-None-clause-past_kept
returns-in-Ok-None-clause-past_kept g c =
    ap (λ (k : KeeperState _). g.D.Disk.past k.disk) c.at.ensures ∙ c.in-Ok-None.ensures.past_kept ∙ ap (λ (s : ReaderState _). g.D.Disk.past s.disk) c.self.view_is

pub returns-in-Ok-Some-clause-found : goal.returns-in-Ok-Some-clause-found
returns-in-Ok-Some-clause-found g c =
    let same = c.in-Ok-Some.ensures.past_kept ∙ ap (λ (s : ReaderState _). g.D.Disk.past s.disk) c.self.view_is in
    subst (λ (s : ReaderState _). IsFound g.D.Disk.past g.D.Disk.faults c.args.users.now (record s { disk = c.args.self.disk }) c.behind.result) c.self.view_is (c.behind.ensures.found c.args.self.disk (sym same))

pub returns-in-Err-Bad-clause-found : goal.returns-in-Err-Bad-clause-found
returns-in-Err-Bad-clause-found g c =
    let few : AreFew (counts_of c.args.users.now) = subst AreFew (ap (λ (s : ReaderState _). s.principals) c.self.view_is ∙ sym c.requires) c.self.invariant.2 in
    let finds = rw c.in-Err-Bad.field-0-is at c.in-Err-Bad.ensures.finds in
    let at_self = subst (λ (s : ReaderState _). Finds s.place (Err Bad) (g.D.Disk.past s.disk)) c.self.view_is finds in (
      neither_found c.args.users.now few (g.D.Disk.past c.args.self.disk) c.args.self.place at_self,
      ap (λ (s : ReaderState _). s.place) c.self.view_is,
    )
