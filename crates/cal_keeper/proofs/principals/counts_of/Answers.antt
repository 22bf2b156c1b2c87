use Rattle.cal_keeper.proofs.UserTexts.{text_small}
use Rattle.cal_keeper.proofs.principals.counts_of.Goals as goal

pub returns-clause-short : goal.returns-clause-short
returns-clause-short c = text_small c.args.users.now c.len.ensures.few c.len.ensures.short c.groups.ensures.few c.len.ensures.short_groups
