use Rattle.std.proofs.Common.{true, Option, refl, ◌∙◌, subst}
use Rattle.cal_keeper.specs.Disks.CrashModel.{Past}
use Rattle.cal_keeper.specs.Steps.Drafting.{LaysBlank}
use Rattle.cal_keeper.proofs.Beginning.{counted_none}
use Rattle.cal_keeper.proofs.DraftEntries.{begins_told, unchanged_fails}
use Rattle.cal_keeper.proofs.drafting.begin_draft.Goals as goal

pub returns-in-Err-clause-drafted : goal.returns-in-Err-clause-drafted
returns-in-Err-clause-drafted g c = (c.in-Err.ensures.failed, unchanged_fails (g.D.Disk.past c.args.disk) (g.D.Disk.past c.len.new.self) c.in-Err.ensures.past_kept)

pub returns-in-Ok-lay_blank-clause-drafted : goal.returns-in-Ok-lay_blank-clause-drafted
returns-in-Ok-lay_blank-clause-drafted g c =
    let empty = counted_none (g.D.Disk.past c.args.disk) c.in-Ok.octets c.if-octets-ne0.false c.in-Ok.ensures.counted in
    let lays = subst (λ (told : Option Past). LaysBlank c.as_slice.result.now true told (g.D.Disk.past c.lay_blank.new.disk)) c.in-Ok.ensures.past_kept c.in-Ok-lay_blank.ensures.lays in
    let text_is = c.as_slice.ensures ∙ c.in-Ok-users_text.ensures.text in
    rw c.at.ensures (
      empty,
      begins_told c.args.users.now c.as_slice.result.now c.in-Ok-lay_blank.place (g.D.Disk.past c.args.disk) (g.D.Disk.past c.lay_blank.new.disk) text_is c.in-Ok-lay_blank.ensures.gate empty lays,
      c.counts_of.ensures.counts,
      refl,
      refl,
    )
