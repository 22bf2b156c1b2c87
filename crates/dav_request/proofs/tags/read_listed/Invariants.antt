use Rattle.std.proofs.Common.{◌≡◌, false}
use Rattle.cal_base.specs.Lines.ContentLines.{unquoted_pieces}
use Rattle.cal_base.specs.Texts.Octets.{comma}
use Rattle.cal_base.specs.Lines.UnquotedParts.{later_pieces, preceded, text_left}
use Rattle.cal_base.specs.Texts.LentTexts.{text_there}
use Rattle.dav_request.specs.TagPieces.{tags_in_all}
use Rattle.dav_request.proofs.tags.read_listed.Given as goal

-- those that are read, before those of the rest
abbrev pub invariant-pieces : goal.invariant-pieces
invariant-pieces l = preceded l.tags (tags_in_all (later_pieces comma (text_there l.rest))) ≡ tags_in_all (unquoted_pieces comma false l.value)

abbrev pub decreases-pieces : goal.decreases-pieces
decreases-pieces l = text_left (text_there l.rest)
