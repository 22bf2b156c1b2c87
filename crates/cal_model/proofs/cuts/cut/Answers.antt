use Rattle.std.proofs.Common.{◌+◌, ◌∷◌, Some, take, sym, ap, ◌∙◌, arith}
use Rattle.cal_base.specs.Lines.ContentLines.{pieces}
use Rattle.cal_model.proofs.Streams.CutPlaces.{pieces_cut, cut_there, pieces_whole, cut_nowhere, tail_is}
use Rattle.cal_model.proofs.cuts.cut.Goals as goal

pub returns-then-place-text-clause-parts : goal.returns-then-place-text-clause-parts
returns-then-place-text-clause-parts c =
    let place = c.octets_before-place.result in
    ap (λ tail. Some (take place c.args.text.now, tail)) (tail_is c.args.text.now (place + 1)) ∙ sym (cut_there c.args.octet c.args.text.now place c.octets_before-place.ensures.first (omega arith))

pub returns-then-place-text-clause-pieces : goal.returns-then-place-text-clause-pieces
returns-then-place-text-clause-pieces c =
    let place = c.octets_before-place.result in
    pieces_cut c.args.octet c.args.text.now place c.octets_before-place.ensures.first (omega arith) ∙ ap (λ tail. take place c.args.text.now ∷ pieces c.args.octet tail) (sym (tail_is c.args.text.now (place + 1)))

pub returns-else-place-text-clause-parts : goal.returns-else-place-text-clause-parts
returns-else-place-text-clause-parts c = sym (cut_nowhere c.args.octet c.args.text.now c.octets_before-place.result c.octets_before-place.ensures.first (omega arith))

pub returns-else-place-text-clause-pieces : goal.returns-else-place-text-clause-pieces
returns-else-place-text-clause-pieces c = pieces_whole c.args.octet c.args.text.now c.octets_before-place.result c.octets_before-place.ensures.first (omega arith)
