use Rattle.std.proofs.Common.{sym, ◌∙◌}
use Rattle.cal_object.proofs.PropertyTable.{first_of_table}
use Rattle.cal_object.proofs.property.Property.named.Goals as goal

pub returns : goal.returns
returns c = c.copied.ensures ∙ (c.first_named.ensures ∙ sym (first_of_table c.args.name.now))
