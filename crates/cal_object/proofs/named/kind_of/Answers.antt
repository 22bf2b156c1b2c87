use Rattle.std.proofs.Common.{sym}
use Rattle.cal_model.specs.Objects.ComponentLines.{name_of}
use Rattle.cal_object.proofs.NamedLemmas.{kind_named-none}
use Rattle.cal_object.proofs.named.kind_of.Goals as goal

pub returns-else-is_named-4 : goal.returns-else-is_named-4
returns-else-is_named-4 c =
    kind_named-none (name_of c.args.node.now) (sym c.if-is_named.ensures) (sym c.if-is_named-2.ensures) (sym c.if-is_named-3.ensures) (sym c.if-is_named-4.ensures)
