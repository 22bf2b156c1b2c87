use Rattle.std.proofs.Common.{sym, ◌∙◌}
use Rattle.privileges.proofs.UserLines.{right_group}
use Rattle.privileges.proofs.lines.group_of_line.Goals as goal

pub returns-then-is_group-clause-group : goal.returns-then-is_group-clause-group
returns-then-is_group-clause-group c =
    right_group c.args.line.now c.in_ok-word.word.now c.in_ok-word.behind.now c.in_ok-name.name.now c.in_ok-name.members.now c.in_ok-word.ensures.pieces c.in_ok-name.ensures.pieces
    (sym c.is_group.ensures ∙ c.if-is_group.true)
