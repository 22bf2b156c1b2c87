use Rattle.std.proofs.Common.{◌∙◌, sym, ap, arith, length}
use Rattle.cal_model.specs.Users.UsersFile.{Users, number_of, group_number_of}
use Rattle.privileges.specs.ShownUsers.{shown}
use Rattle.privileges.proofs.KeptUsers.{AreKnown-kept_group}
use Rattle.privileges.proofs.users.Users.add_group.Goals as goal

pub invariant_of-self-in-Ok : goal.invariant_of-self-in-Ok
invariant_of-self-in-Ok c =
    let seen = c.self.view_is in
    let name = c.in_ok-shown.ensures in
    let before = shown c.self.inside.users c.self.inside.groups in
    AreKnown-kept_group c.self.inside.users c.self.inside.groups c.self.inside.numbers c.self.inside.group_numbers (record { name = c.in_ok-shown.shown; members = c.args.members }) c.push.new.self c.in_ok-key.key c.len-number.result c.insert.new.self
    c.in_ok-push.ensures.ok c.in-Ok.ensures.ok (c.in_ok-key.ensures ∙ sym name) c.len-number.ensures
    c.self.invariant (omega (arith, c.requires.room, ap (λ (users : Users). length users.groups) seen)) (omega (arith, c.requires.named, ap length name)) (omega (arith, c.requires.short, ap length name))
    (ap (number_of before) name ∙ ap (λ users. number_of users c.args.name.now) seen ∙ c.requires.apart)
    (ap (group_number_of before) name ∙ ap (λ users. group_number_of users c.args.name.now) seen ∙ c.requires.new)
