use Rattle.std.proofs.Common.{length, ap, sym, arith, ◌∙◌, ◌++◌, ◌∷◌, []}
use Rattle.std.specs.Prelude.{Some, filter, flat_map}
use Rattle.cal_base.specs.Texts.Octets.{semicolon}
use Rattle.cal_model.specs.Selections.RowLines.{text_stays}
use Rattle.cal_base.specs.Lines.UnquotedParts.{later_pieces}
use Rattle.cal_base.specs.Texts.LentTexts.{text_there}
use Rattle.shown_lines.specs.Heads.{behind_semicolon}
use Rattle.shown_lines.proofs.LineHeads.{cut-head, header-some, params-cut, kept_header-cut}
use Rattle.shown_lines.proofs.rewritten.kept_header.Goals as goal

pub slice_bounds-first_unquoted_piece-count : goal.slice_bounds-first_unquoted_piece-count
slice_bounds-first_unquoted_piece-count c = omega (arith, ap length c.header-header.ensures, header-some c.args.line.now c.requires)

pub put_all_kept-requires : goal.put_all_kept-requires
put_all_kept-requires c =
    let cut = cut-head c.args.line.now _ _ c.header-header.result.now _ c.requires c.header-header.ensures c.first_unquoted_piece.ensures.pieces (omega arith) in
    params-cut c.args.line.now _ _ cut ∙ ap Some (sym c.as_slice.ensures)

pub returns : goal.returns
returns c =
    let cut = cut-head c.args.line.now _ _ c.header-header.result.now _ c.requires c.header-header.ensures c.first_unquoted_piece.ensures.pieces (omega arith) in
    let texts = later_pieces semicolon (text_there c.first_unquoted_piece.result.1) in
    c.in_ok-push.ensures.ok
    ∙ ap (λ text. text ++ 58 ∷ []) (c.in_ok-put_all_kept.ensures ∙ ap (λ name. name ++ flat_map behind_semicolon (filter (text_stays c.args.kind) texts)) c.in_ok-text.ensures ∙ sym (kept_header-cut c.args.kind c.args.line.now _ texts cut))
