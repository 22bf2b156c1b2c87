-- The laws of journals: an accepted change is accepted again from its entry, so the journal with it is legal and leads to the same state; and pieces and origins follow it.
-- Given: the users, a journal, an event whose size is told as it is (as every request has it that is asked for), and its change.
use Rattle.std.specs.Prelude.{◌≡◌, ℕ, List, [], ◌∷◌, ◌++◌, length, Some}
use Rattle.std.specs.List.{AllByRecursion}
use Rattle.cal_model.specs.declared.piece.Piece.{Piece}
use Rattle.cal_model.specs.declared.request.Event.{Event}
use Rattle.cal_model.specs.History.Journal.{Entry, asked, replay, IsLegal, entry_of}
use Rattle.cal_model.specs.History.Origins.{Origins, origins_after, AreLive}
use Rattle.cal_model.specs.History.RightPieces.{IsRight, live_pieces}
use Rattle.cal_model.specs.Requests.ContentBounds.{SizeIsTold}
use Rattle.cal_model.specs.Serving.Outcomes.{accepted, outcome}
use Rattle.cal_model.specs.State.Changes.{Change, change_of}
use Rattle.cal_model.specs.State.ServerState.{Directory, ServerState}

-- An accepted change is accepted again from its entry in the same state, with the same status and the same state after it.
abbrev pub AcceptedIsReplayed : Type 0
AcceptedIsReplayed =
    (directory : Directory) (state after : ServerState) (event : Event) (status : ℕ) (change : Change)
    → SizeIsTold event.request.size event.request.content → change_of directory event.request ≡ Some change
    → outcome directory state event ≡ accepted status after
    → outcome directory state (asked directory (entry_of event change status)) ≡ accepted status after

-- so a legal journal stays legal with it, and leads to the state after it
abbrev pub AcceptedKeepsLegal : Type 0
AcceptedKeepsLegal =
    (directory : Directory) (journal : List Entry) (after : ServerState) (event : Event) (status : ℕ) (change : Change)
    → IsLegal directory journal → SizeIsTold event.request.size event.request.content → change_of directory event.request ≡ Some change
    → outcome directory (replay directory journal) event ≡ accepted status after
    → IsLegal directory (journal ++ entry_of event change status ∷ []) × (replay directory (journal ++ entry_of event change status ∷ []) ≡ after)

-- a beginning of a legal journal is legal
abbrev pub BeginningsAreLegal : Type 0
BeginningsAreLegal = (directory : Directory) (journal more : List Entry) → IsLegal directory (journal ++ more) → IsLegal directory journal

-- after one more entry the pieces of objects that are still there are right
abbrev pub PiecesStayRight : Type 0
PiecesStayRight =
    (journal : List Entry) (entry : Entry) (pieces : List Piece)
    → AllByRecursion (IsRight journal) pieces → AllByRecursion (IsRight (journal ++ entry ∷ [])) (live_pieces (journal ++ entry ∷ []) pieces)

-- and the origins that a store keeps are those of the objects that are there
abbrev pub OriginsFollow : Type 0
OriginsFollow =
    (journal : List Entry) (entry : Entry) (origins : Origins)
    → AreLive journal origins → AreLive (journal ++ entry ∷ []) (origins_after entry.change (length journal) origins)
