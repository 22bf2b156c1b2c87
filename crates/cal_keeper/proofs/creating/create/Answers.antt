use Rattle.std.proofs.Common.{true, Option, refl, ◌∙◌, subst}
use Rattle.cal_keeper.specs.Disks.CrashModel.{Past}
use Rattle.cal_keeper.specs.Steps.HeaderSteps.{Begins}
use Rattle.cal_keeper.proofs.Beginning.{counted_none, begun_file}
use Rattle.cal_keeper.proofs.creating.create.Goals as goal

pub returns-in-Ok-lay_header-clause-created : goal.returns-in-Ok-lay_header-clause-created
returns-in-Ok-lay_header-clause-created g c =
    let empty = counted_none (g.D.Disk.past c.args.disk) c.in-Ok.octets c.if-octets-ne0.false c.in-Ok.ensures.counted in
    let begins = subst (λ (told : Option Past). Begins c.as_slice.result.now true told (g.D.Disk.past c.lay_header.new.disk)) c.in-Ok.ensures.past_kept c.in-Ok-lay_header.ensures.begins in
    let header_is = c.as_slice.ensures ∙ c.in-Ok-header_of.ensures in
    rw c.at.ensures (
      empty,
      begun_file c.args.users.now c.as_slice.result.now c.in-Ok-lay_header.place (g.D.Disk.past c.args.disk) (g.D.Disk.past c.lay_header.new.disk) header_is c.in-Ok-lay_header.ensures.gate empty begins,
      c.counts_of.ensures.counts,
      refl,
      refl,
    )
