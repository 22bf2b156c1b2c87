-- What the end of a claim makes of what claims depend on.
-- Given: a claim, or a claim with the rows that were found for it, and what claims depend on before.
use Rattle.std.specs.Prelude.{◌≡◌, ℕ, List, Option, None, IsSome}
use Rattle.cal_model.specs.declared.path.ObjectPath.{ObjectPath}
use Rattle.cal_model.specs.declared.piece.Piece.{Piece}
use Rattle.cal_model.specs.History.Claims.{Pair, Work, without_claim}
use Rattle.cal_model.specs.History.Journal.{Entry}
use Rattle.cal_model.specs.History.LiveObjects.{live_at}
use Rattle.cal_model.specs.History.Origins.{Origins, AreLive}
use Rattle.piece_claims.specs.Boards.{pieces_with}
use Rattle.cal_book.specs.ClaimsOut.{IsMadeAt}
use Rattle.cal_book.specs.declared.claims.Claim.{Claim}
use Rattle.cal_book.specs.declared.claims.Expanded.{Expanded}
use Rattle.cal_book.specs.declared.claims.Publish.{Publish}
use Rattle.cal_book.specs.declared.claims.Publish.TheVariants.{Published, Stale, NoMemory}

abbrev pub pair_of_claim : Claim → Pair
pair_of_claim claim = record { origin = claim.origin; window = claim.window }

-- a claim is one of a journal's objects, whether it is still there or not
abbrev pub IsClaimIn : List Entry → Claim → Type 0
IsClaimIn journal claim = IsMadeAt journal claim.origin claim.stored

abbrev pub piece_of : Expanded → Piece
piece_of expanded = record { origin = expanded.claim.origin; window = expanded.claim.window; rows = expanded.rows }

-- the claim has ended
abbrev pub claim_ended : Claim → Work → Work
claim_ended claim work = record work { out = without_claim (pair_of_claim claim) work.out }

-- and its piece is kept as the newest, where there is none of its object and window yet; as few of the oldest as make room are gone
abbrev pub piece_kept : Expanded → Work → Work
piece_kept expanded work = record (claim_ended expanded.claim work) { pieces = pieces_with (piece_of expanded) work.pieces }

-- the origin of the object that the journal has at a path
abbrev pub IsOriginAt : List Entry → ObjectPath → Option ℕ → Type 0
IsOriginAt journal path found = (origins : Origins) → AreLive journal origins → found ≡ origins path.home path.calendar path.object

-- By what was said of it: a piece is kept where its object is still there. Where it was replaced or removed, or memory was missing, the pieces stay as they are.
abbrev pub IsPublished : Expanded → Work → Work → Publish → Type 0
IsPublished expanded old new Published = IsSome (live_at old.journal expanded.claim.origin) × (new ≡ piece_kept expanded old)
IsPublished expanded old new (Stale found) =
    (live_at old.journal expanded.claim.origin ≡ None) × IsOriginAt old.journal expanded.claim.stored.path found × (new ≡ claim_ended expanded.claim old)
IsPublished expanded old new NoMemory = IsSome (live_at old.journal expanded.claim.origin) × (new ≡ claim_ended expanded.claim old)
