use Rattle.cal_base.specs.Xml.CanonicalXml.{attribute_text}
use Rattle.multistatus.specs.ReplyPieces.{begun}
use Rattle.multistatus.proofs.bodies.begin_multistatus.Goals as goal

pub returns : goal.returns
unfolding begun attribute_text
returns c = c.of.ensures
