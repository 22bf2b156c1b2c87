use Rattle.std.proofs.Common.{◌≡◌, [], ◌∷◌, ◌++◌, sym, subst, ◌∙◌, append_assoc}
use Rattle.cal_base.specs.Lines.LineGrammar.{IsLineText}
use Rattle.cal_base.specs.Texts.Octets.{colon}
use Rattle.shown_lines.proofs.CleanTexts.{clean-nil}
use Rattle.shown_lines.proofs.LineHeads.{head-line}
use Rattle.shown_lines.proofs.portion.write_made.Goals as goal

pub write_line-requires : goal.write_line-requires
write_line-requires c =
    let head = c.requires.header in
    let same : c.as_slice.result.now ≡ head.0 ++ colon ∷ [] = cc (head.1) in
    subst IsLineText (sym same) (head-line head.0 [] head.2 clean-nil)

pub write_line-requires-in-Whole : goal.write_line-requires-in-Whole
write_line-requires-in-Whole c =
    let head = c.requires.header in
    let same : c.as_slice-in-Whole.result.now ≡ (head.0 ++ colon ∷ []) ++ c.args.value.now = cc (head.1, c.in_ok-extend_from_slice-in-Whole.ensures.ok) in
    subst IsLineText (sym (same ∙ append_assoc head.0 (colon ∷ []) c.args.value.now)) (head-line head.0 c.args.value.now head.2 c.requires.value)
