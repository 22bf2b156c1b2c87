use Rattle.std.proofs.Common.{◌≡◌, ◌-◌, Bool, length, subst}
use Rattle.ical_values.specs.Parts.{text_there}
use Rattle.ical_values.specs.RuleReading.{HasTakenPiece, IsBadPiece}
use Rattle.ical_values.proofs.ListReading.{if_absent}
use Rattle.ical_values.proofs.PartsLeft.{all_left, piece_taken, piece_bad, whole_read, none_there}
use Rattle.ical_values.proofs.rule_reader.RuleReader.take_parts.Goals as goal

pub parts-init : goal.parts-init
parts-init c = all_left c.args.text.now c.args.self.now.rule c.args.self.now.names c.requires.rule c.requires.names

pub returns-in-Err-clause-bad : goal.returns-in-Err-clause-bad
returns-in-Err-clause-bad c = λ place is.
    let left = c.in-Some.left.now in
    let piece = c.first_piece.result.0.now in
    let behind = c.first_piece.result.1 in
    let rule = c.parts.self.rule in
    let names = c.parts.self.names in
    let ends = if_absent (piece ≡ left) behind c.first_piece.ensures.whole in
    let bad = subst (λ (last : Bool). IsBadPiece rule names piece last (length c.args.text.now - length left) place) (none_there behind c.is_none.result c.is_none.ensures) (c.in-Err.ensures.bad place is) in
    piece_bad c.args.text.now left piece (text_there behind) rule names place (rw c.in-Some.is at c.parts.invariant) c.first_piece.ensures.parts ends bad

pub parts-preserved : goal.parts-preserved
parts-preserved c =
    let left = c.in-Some.left.now in
    let piece = c.first_piece.result.0.now in
    let behind = c.first_piece.result.1 in
    let rule = c.parts.self.rule in
    let names = c.parts.self.names in
    let later = c.take_piece.new.self.rule in
    let more = c.take_piece.new.self.names in
    let ends = if_absent (piece ≡ left) behind c.first_piece.ensures.whole in
    let taken = subst (λ (last : Bool). HasTakenPiece rule names piece last later more) (none_there behind c.is_none.result c.is_none.ensures) c.in-Ok.ensures.ok in
    piece_taken c.args.text.now left piece (text_there behind) rule names later more (rw c.in-Some.is at c.parts.invariant) c.first_piece.ensures.parts ends taken

pub returns-clause-ok : goal.returns-clause-ok
returns-clause-ok c = whole_read c.args.text.now c.parts.self.rule c.parts.self.names (rw c.in_default.is at c.parts.invariant)
