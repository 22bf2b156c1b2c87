use Rattle.std.proofs.Common.{◌++◌, codes, ap, ◌∙◌}
use Rattle.cal_model.specs.Replies.Hrefs.{href}
use Rattle.cal_model.specs.Refusals.RefusalReplies.{privileges_of}
use Rattle.dav_write.proofs.Appending.{then_more}
use Rattle.dav_write.specs.ErrorTexts.{need_privileges_front, need_privileges_end}
use Rattle.dav_write.proofs.ErrorLemmas.{need_privileges-pieces}
use Rattle.dav_write.proofs.refusals.need_privileges.Goals as goal

pub returns-clause-items : goal.returns-clause-items
returns-clause-items c =
    then_more c.args.out.now.items need_privileges_front _ c.put_need_privileges_front.ensures.items
    (then_more _ (href c.args.path.now) _ c.put_path.ensures.items
    (then_more _ (codes "</D:href>") _ c.extend_from_slice.ensures.items
    (then_more _ (privileges_of c.args.privilege.0) need_privileges_end (c.extend_from_slice-2.ensures.items ∙ ap (λ text. c.extend_from_slice.new.self.items ++ text) c.privilege_element.ensures.text) c.extend_from_slice-3.ensures.items)))
    ∙ ap (λ text. c.args.out.now.items ++ text) (need_privileges-pieces c.args.path.now c.args.privilege.0)
