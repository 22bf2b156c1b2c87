use Rattle.privileges.proofs.UserLines.{longer, not_right}
use Rattle.privileges.proofs.lines.user_of_line.Goals as goal
use Rattle.privileges.proofs.lines.user_of_line.Goals.{else-is_none-via-then-is_none+else-is_user, else-is_none-via-else-is_none}

pub returns-else-is_none-clause-user : goal.returns-else-is_none-clause-user
returns-else-is_none-clause-user c =
    elim c.else-is_none.branch [
      | else-is_none-via-then-is_none+else-is_user w ↦
          not_right c.args.line.now c.in_ok-word.word.now c.in_ok-word.behind.now c.in_ok-name.name.now c.in_ok-name.digest.now c.in_ok-word.ensures.pieces c.in_ok-name.ensures.pieces c.cut-3.result c.is_none.result _ c.cut-3.ensures.pieces c.is_none.ensures w.if-is_none.true w.is_user.ensures w.if-is_user.false
      | else-is_none-via-else-is_none w ↦
          longer c.args.line.now c.in_ok-word.word.now c.in_ok-word.behind.now c.in_ok-name.name.now c.in_ok-name.digest.now c.in_ok-word.ensures.pieces c.in_ok-name.ensures.pieces c.cut-3.result c.is_none.result c.cut-3.ensures.pieces c.is_none.ensures w.if-is_none.false
    ]
