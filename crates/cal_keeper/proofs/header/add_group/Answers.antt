use Rattle.std.proofs.Common.{rules, ◌≡◌, true, false, [], ◌∷◌, ◌++◌, sym, ◌∙◌}
use Rattle.cal_base.specs.Texts.Octets.{space}
use Rattle.cal_model.specs.State.ServerState.{directory_of, is_member}
use Rattle.cal_keeper.proofs.UserTexts.{member_more, other_more}
use Rattle.cal_keeper.proofs.header.add_group.Goals as goal
use Rattle.cal_keeper.proofs.header.add_group.Goals.{then-is_member+in_ok-extend_from_slice-3+in_ok-extend_from_slice-4, else-is_member}

pub members-preserved : goal.members-preserved
members-preserved c =
    let directory = directory_of c.args.users.now in
    elim c.if-is_member.branch [
      | then-is_member+in_ok-extend_from_slice-3+in_ok-extend_from_slice-4 w ↦
          let is : is_member directory c.args.group c.members.who ≡ true = sym c.is_member.ensures ∙ w.if-is_member.true in
          let text : w.extend_from_slice-then-is_member-2.new.self ≡ (c.members.text ++ space ∷ []) ++ w.name.result.now = search rules in
          w.text-is ∙ text ∙ member_more directory c.args.group c.members.who c.extend_from_slice-2.new.self c.members.text w.name.result.now is w.name.ensures c.members.invariant
      | else-is_member w ↦
          let is : is_member directory c.args.group c.members.who ≡ false = sym c.is_member.ensures ∙ w.if-is_member.false in
          w.text-is ∙ other_more directory c.args.group c.members.who c.extend_from_slice-2.new.self c.members.text is c.members.invariant
    ]
