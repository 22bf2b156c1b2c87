-- After an accepted change the pieces of the objects that are still there are right, if all were right before: pieces of what it replaced or removed go.
use Rattle.std.proofs.Common.{◌≡◌, Bool, true, false, cond, List, [], ◌∷◌, ◌++◌, Option, Some, None, refl, sym, ap, ◌∙◌}
use Rattle.std.specs.Prelude.{is_some}
use Rattle.std.proofs.lemmas.Bool.{false≢true}
use Rattle.cal_model.specs.History.Journal.{Entry}
use Rattle.cal_model.specs.History.LiveObjects.{Placed, ends, kept_unless, live_at}
use Rattle.cal_model.specs.declared.piece.Piece.{Piece}
use Rattle.cal_model.specs.History.RightPieces.{IsRight, live_pieces}
use Rattle.cal_model.proofs.History.OriginLaws.{live_within}
use Rattle.cal_model.proofs.History.LiveObjectLaws.{live_at-push, IsRight-push}
use Rattle.std.specs.List.{AllByRecursion}
use Rattle.cal_model.specs.History.HistoryLaws.{PiecesStayRight}

kept-there : (test : Placed → Bool) (placed : Placed) (b : Bool) → test placed ≡ b → is_some (kept_unless test (Some placed)) ≡ true → b ≡ false
kept-there test placed true t e = absurd (false≢true (sym (ap (λ (gone : Bool). is_some (elim gone as (λ x. Option Placed) [ true ↦ None | false ↦ Some placed ])) t) ∙ e))
kept-there test placed false t e = refl

-- a piece whose object is still there
stays-right : (journal : List Entry) (entry : Entry) (piece : Piece) → IsRight journal piece → is_some (live_at (journal ++ entry ∷ []) piece.origin) ≡ true
    → IsRight (journal ++ entry ∷ []) piece
stays-right journal entry piece right there =
    let within = live_within journal piece.origin right.placed right.live in
    let kept = sym (ap is_some (live_at-push journal entry piece.origin within ∙ ap (kept_unless (λ placed. ends placed entry.change)) right.live)) ∙ there in
    IsRight-push journal entry piece right within (kept-there (λ placed. ends placed entry.change) right.placed (ends right.placed entry.change) refl kept)

one_more : (journal : List Entry) (entry : Entry) (piece : Piece) (rest : List Piece) (there : Bool) → is_some (live_at (journal ++ entry ∷ []) piece.origin) ≡ there
    → IsRight journal piece → AllByRecursion (IsRight (journal ++ entry ∷ [])) rest → AllByRecursion (IsRight (journal ++ entry ∷ [])) (cond there (piece ∷ rest) rest)
one_more journal entry piece rest true there right more = (stays-right journal entry piece right there, more)
one_more journal entry piece rest false there right more = more

pub live_pieces-push : (journal : List Entry) (entry : Entry) (pieces : List Piece) → AllByRecursion (IsRight journal) pieces → AllByRecursion (IsRight (journal ++ entry ∷ [])) (live_pieces (journal ++ entry ∷ []) pieces)
live_pieces-push journal entry [] right = tt
live_pieces-push journal entry (piece ∷ pieces) right =
    one_more journal entry piece (live_pieces (journal ++ entry ∷ []) pieces) (is_some (live_at (journal ++ entry ∷ []) piece.origin)) refl right.0 (live_pieces-push journal entry pieces right.1)

pub pieces_stay_right : PiecesStayRight
pieces_stay_right = live_pieces-push
