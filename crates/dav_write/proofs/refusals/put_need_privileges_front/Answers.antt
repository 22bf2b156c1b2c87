use Rattle.std.proofs.Common.{codes}
use Rattle.cal_base.specs.Xml.CanonicalXml.{attribute_text}
use Rattle.dav_write.proofs.Appending.{then_more}
use Rattle.dav_write.specs.ErrorTexts.{error_front, need_privileges_front}
use Rattle.dav_write.proofs.refusals.put_need_privileges_front.Goals as goal

pub returns-clause-items : goal.returns-clause-items
unfolding error_front need_privileges_front attribute_text
returns-clause-items c = then_more c.args.out.now.items error_front (codes "><D:need-privileges><D:resource><D:href>") c.extend_from_slice.ensures.items c.extend_from_slice-2.ensures.items
