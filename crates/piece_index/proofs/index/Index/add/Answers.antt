use Rattle.std.proofs.Common.{ℕ, List, ◌≡◌, ◌≤◌, ◌-◌, ◌∙◌, ap, sym, subst, arith, [], ◌∷◌, ◌++◌, length, None}
use Rattle.std.proofs.lemmas.Int.{ints}
use Rattle.cal_model.specs.declared.piece.Piece.{Piece}
use Rattle.cal_model.specs.Pieces.KeptPieces.{KeptPieces}
use Rattle.cal_model.specs.Pieces.PieceLists.{ArePairsApart, rows_at, rows_in, newest_within}
use Rattle.piece_index.specs.Entries.{pieces_of}
use Rattle.cal_model.proofs.Pieces.PieceListLaws.{rows_in_append, newest_stays, apart_within, apart_snoc}
use Rattle.cal_model.proofs.Pieces.FoundPieces.{found_after_add}
use Rattle.piece_index.specs.Bounds.{AreBetween}
use Rattle.piece_index.proofs.BoundLemmas.{between_after_add}
use Rattle.piece_index.proofs.index.Index.add.Goals as goal

pub shrink-self-inside-requires : goal.shrink-self-inside-requires
shrink-self-inside-requires c =
    omega (
      arith,
      ap (λ es. rows_in (pieces_of es)) c.in_default.ensures.ok.1,
      rows_in_append (pieces_of c.self.inside.chains) (c.args.piece ∷ []),
    )

pub invariant_of-self-2 : goal.invariant_of-self-2
invariant_of-self-2 c =
    let now = c.shrink-self-inside.ensures.pieces ∙ ap (λ es. newest_within c.self.inside.budget (pieces_of es)) c.in_default.ensures.ok.1 in
    let new : rows_at c.args.piece.origin c.args.piece.window (pieces_of c.self.inside.chains) ≡ None =
    ap (λ s. rows_at c.args.piece.origin c.args.piece.window s.pieces) c.self.view_is ∙ c.requires in
    let least = c.min-self-inside.ensures in
    let greatest = c.max-self-inside.ensures in (
      record {
        counted = c.shrink-self-inside.ensures.rows;
        fits = c.shrink-self-inside.ensures.fits;
        apart = subst ArePairsApart (sym now) (apart_within c.self.inside.budget _ (apart_snoc c.args.piece (pieces_of c.self.inside.chains) c.self.invariant.0.apart new));
      },
      subst (AreBetween _ _) (sym now)
          (between_after_add c.self.inside.budget c.self.inside.least_window c.self.inside.greatest_window _ _ c.args.piece (pieces_of c.self.inside.chains) (omega (arith, ints, least.self_bound)) (omega (arith, ints, greatest.self_bound)) (omega (arith, ints, least.other_bound)) (omega (arith, ints, greatest.other_bound)) c.self.invariant.1),
    )

abbrev state : ℕ → List Piece → KeptPieces
state budget pieces = record { budget = budget; pieces = pieces }

pub returns-clause-added : goal.returns-clause-added
returns-clause-added c =
    let fits : length c.args.piece.rows ≤ c.self.inside.budget = omega arith in
    let now =
    c.shrink-self-inside.ensures.pieces
    ∙ ap (λ es. newest_within c.self.inside.budget (pieces_of es)) c.in_default.ensures.ok.1
    ∙ newest_stays c.self.inside.budget c.args.piece (pieces_of c.self.inside.chains) fits in
    subst
    (λ (s : KeptPieces). (length c.args.piece.rows ≤ s.budget) × (state c.self.inside.budget (pieces_of c.shrink-self-inside.new.self) ≡ record s { pieces = newest_within (s.budget - length c.args.piece.rows) s.pieces ++ c.args.piece ∷ [] }))
    c.self.view_is (fits, ap (state c.self.inside.budget) now)

pub returns-clause-found : goal.returns-clause-found
returns-clause-found c done =
    let fits : length c.args.piece.rows ≤ c.self.inside.budget = omega arith in
    let now =
    c.shrink-self-inside.ensures.pieces
    ∙ ap (λ es. newest_within c.self.inside.budget (pieces_of es)) c.in_default.ensures.ok.1
    ∙ newest_stays c.self.inside.budget c.args.piece (pieces_of c.self.inside.chains) fits in
    let new : rows_at c.args.piece.origin c.args.piece.window (pieces_of c.self.inside.chains) ≡ None =
    ap (λ s. rows_at c.args.piece.origin c.args.piece.window s.pieces) c.self.view_is ∙ c.requires in
    ap (rows_at c.args.piece.origin c.args.piece.window) now ∙ found_after_add _ (pieces_of c.self.inside.chains) c.args.piece new
