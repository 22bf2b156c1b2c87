use Rattle.dav_write.proofs.ElementLemmas.{text_says}
use Rattle.dav_write.proofs.elements.is_written.Goals as goal

pub returns-in-Text : goal.returns-in-Text
returns-in-Text c = text_says c.args.item.now c.in-Text.text c.is_empty.result c.in-Text.is c.is_empty.ensures
