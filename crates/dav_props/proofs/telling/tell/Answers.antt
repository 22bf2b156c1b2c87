use Rattle.std.proofs.Common.{List, [], ◌∷◌, ◌++◌, sym, ap, subst, ◌∙◌}
use Rattle.cal_moment.proofs.Fronts.{empty_is}
use Rattle.cal_model.specs.Properties.PropertyTable.{Answer, answer}
use Rattle.dav_write.proofs.Appending.{on_ok_then}
use Rattle.multistatus.specs.Answered.{IsAnswered}
use Rattle.dav_props.specs.Finding.{asking, told}
use Rattle.dav_props.specs.Rows.{asked_name}
use Rattle.dav_props.specs.Subjects.{resource_of}
use Rattle.dav_props.proofs.TellingLemmas.{bare_is, tells_absent, told_bare, told_whole}
use Rattle.dav_props.proofs.telling.tell.Goals as goal

pub returns-then-is_left_out : goal.returns-then-is_left_out
returns-then-is_left_out g c unseen =
    let asker = asking (g.V.View.directory c.args.seen.now.view.now) c.args.seen.now.who in
    let resource = resource_of c.args.subject.now unseen in
    let name = asked_name c.args.asked.now in
    tells_absent asker resource c.args.telling name c.args.response.now c.args.out.now
    (empty_is (told c.args.telling (answer asker resource name ∷ [])) (sym (c.is_left_out.ensures asker.directory asker.who unseen c.requires.users) ∙ c.if-is_left_out.true))

pub returns-in-Names : goal.returns-in-Names
returns-in-Names g c =
    on_ok_then c.tell_name.result
    (λ tells unseen front href before so_far.
    let asker = asking (g.V.View.directory c.args.seen.now.view.now) c.args.seen.now.who in
    let resource = resource_of c.args.subject.now unseen in
    let name = asked_name c.args.asked.now in
    let some = sym (c.is_left_out.ensures asker.directory asker.who unseen c.requires.users) ∙ c.if-is_left_out.false in
    subst (λ (more : List Answer). IsAnswered front href (before ++ more) c.tell_name.new.response c.tell_name.new.out)
    (sym (told_bare c.args.telling (answer asker resource name) c.in-Names.is some ∙ ap (λ (b : Answer). b ∷ []) (bare_is asker resource name))) (tells front href before so_far))
    c.tell_name.ensures

pub returns-in_default : goal.returns-in_default
returns-in_default g c =
    on_ok_then c.tell_whole.result
    (λ tells unseen front href before so_far.
    let asker = asking (g.V.View.directory c.args.seen.now.view.now) c.args.seen.now.who in
    let resource = resource_of c.args.subject.now unseen in
    let name = asked_name c.args.asked.now in
    let some = sym (c.is_left_out.ensures asker.directory asker.who unseen c.requires.users) ∙ c.if-is_left_out.false in
    subst (λ (more : List Answer). IsAnswered front href (before ++ more) c.tell_whole.new.response c.tell_whole.new.out)
    (sym (told_whole c.args.telling (answer asker resource name) c.in_default.not-Names some)) (tells unseen front href before so_far))
    c.tell_whole.ensures
