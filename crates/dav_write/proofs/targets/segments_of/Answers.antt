use Rattle.dav_write.proofs.CutLemmas.{five_pieces}
use Rattle.dav_write.proofs.targets.segments_of.Goals as goal

pub returns-in-Some-cut-3 : goal.returns-in-Some-cut-3
returns-in-Some-cut-3 c = five_pieces 47 c.args.text.now c.in-Some.rest.now c.in-Some-cut.rest.now c.in-Some-cut-2.rest.now c.in-Some-cut-3.field-0.1.now c.in-Some.first.now c.in-Some-cut.second.now c.in-Some-cut-2.third.now c.in-Some-cut-3.field-0.0.now
    c.in-Some.ensures.pieces c.in-Some-cut.ensures.pieces c.in-Some-cut-2.ensures.pieces c.in-Some-cut-3.ensures.pieces
