use Rattle.std.proofs.Common.{◌≡◌, ◌∙◌, ◌-◌, ap, sym, subst, arith, rules, true, length, take, List, [], ◌∷◌, ◌++◌, ℕ, ℤ, to_z, of_z, w32}
use Rattle.std.proofs.lemmas.Int.{to_z-of_z}
use Rattle.cal_model.specs.declared.piece.Piece.{Piece}
use Rattle.cal_model.specs.Pieces.KeptPieces.{KeptPieces}
use Rattle.cal_model.specs.Pieces.PieceLists.{newest_within, rows_at}
use Rattle.cal_model.proofs.Pieces.FoundPieces.{All-snoc}
use Rattle.cal_model.proofs.Pieces.PieceListLaws.{newest_stays}
use Rattle.number_set.specs.Sets.{has}
use Rattle.piece_claims.specs.Boards.{Board, is_open_if, pair_at, rows_limit}
use Rattle.piece_claims.specs.Counts.{AreCounts, HasMoreIn}
use Rattle.piece_claims.specs.Kept.{AreOfLive}
use Rattle.piece_claims.specs.Lanes.{AreOpen, IsRefreshedAt}
use Rattle.piece_claims.specs.Out.{pairs_out}
use Rattle.piece_claims.specs.Shelved.{AreSameBut}
use Rattle.piece_claims.proofs.AgingLemmas.{as_wide_both, count_within, counted_snoc, open_with, stored_kept}
use Rattle.piece_claims.proofs.KeptLemmas.{as_wide_at, first_passed, kept_aged, wide_of_live}
use Rattle.piece_claims.proofs.NextLemmas.{shown_same}
use Rattle.piece_claims.proofs.ShelvedLemmas.{same_but_last}
use Rattle.piece_claims.proofs.claims.Claims.keep.Goals as goal

pub add-requires : goal.add-requires
add-requires g c =
    record { fits = λ k below. (let few = count_within c.self.inside.index c.self.inside.first c.self.inside.live c.self.inside.counts c.self.invariant.1 k below in let rows = c.row_count-rows.ensures in let small = c.requires.few in omega (arith, few, rows, small)) }

pub refresh_at-requires : goal.refresh_at-requires
refresh_at-requires g c =
    let k = c.self.invariant.0 in
    wide_of_live _ _ _ _ _ _ _ _ _ k c.args.piece.origin
    (sym (shown_same c.self.inside.entries c.self.inside.live k.unknown c.args.piece.origin) ∙ ap (λ (b : Board). has b.live c.args.piece.origin) c.self.view_is ∙ c.requires.live)

pub make_room-requires-clause-live : goal.make_room-requires-clause-live
make_room-requires-clause-live g c =
    let k = c.self.invariant.0 in
    subst (λ (i : KeptPieces). AreOfLive c.self.inside.live i.pieces) (sym c.in_ok-put_in.ensures.ok)
    (All-snoc (λ (q : Piece). has c.self.inside.live q.origin ≡ true) c.self.inside.index.pieces c.args.piece c.self.invariant.1.of_live
    (sym (shown_same c.self.inside.entries c.self.inside.live k.unknown c.args.piece.origin) ∙ ap (λ (b : Board). has b.live c.args.piece.origin) c.self.view_is ∙ c.requires.live))

pub make_room-requires-clause-open : goal.make_room-requires-clause-open
make_room-requires-clause-open g c =
    let k = c.self.invariant.0 in
    let whole : to_z w32 (of_z w32 c.args.piece.window) ≡ c.args.piece.window = to_z-of_z w32 c.args.piece.window (search rules) in
    let first_is = first_passed c.self.inside.first k.low k.high in
    let alive : has c.self.inside.live c.args.piece.origin ≡ true =
    sym (shown_same c.self.inside.entries c.self.inside.live k.unknown c.args.piece.origin) ∙ ap (λ (b : Board). has b.live c.args.piece.origin) c.self.view_is ∙ c.requires.live in
    subst (λ (f : ℤ). AreOpen c.refresh_at.new.self f c.self.inside.live c.put_in.new.index.pieces (pairs_out c.deref-2.result.now)) (sym first_is)
    (subst (λ (o : List (ℕ × ℤ)). AreOpen c.refresh_at.new.self c.self.inside.first c.self.inside.live c.put_in.new.index.pieces (pairs_out o)) (sym c.deref-2.ensures.value)
    (subst (λ (i : KeptPieces). AreOpen c.refresh_at.new.self c.self.inside.first c.self.inside.live i.pieces (pairs_out c.self.inside.out.items)) (sym c.in_ok-put_in.ensures.ok)
    (open_with c.self.inside.lanes c.refresh_at.new.self c.self.inside.first c.self.inside.live c.args.piece c.self.inside.index.pieces (pairs_out c.self.inside.out.items) alive
    (wide_of_live _ _ _ _ _ _ _ _ _ k c.args.piece.origin alive) k.are_open
    (subst (λ (i : KeptPieces). IsRefreshedAt c.self.inside.lanes c.refresh_at.new.self c.self.inside.first c.args.piece.origin c.args.piece.window (is_open_if true i.pieces (pairs_out c.self.inside.out.items) (pair_at c.args.piece.origin c.args.piece.window))) c.in_ok-put_in.ensures.ok
    (subst (λ (o : List (ℕ × ℤ)). IsRefreshedAt c.self.inside.lanes c.refresh_at.new.self c.self.inside.first c.args.piece.origin c.args.piece.window (is_open_if true c.put_in.new.index.pieces (pairs_out o) (pair_at c.args.piece.origin c.args.piece.window))) c.deref.ensures.value
    (subst (λ (f : ℤ). IsRefreshedAt c.self.inside.lanes c.refresh_at.new.self f c.args.piece.origin c.args.piece.window (is_open_if true c.put_in.new.index.pieces (pairs_out c.deref.result.now) (pair_at c.args.piece.origin c.args.piece.window))) first_is
    (subst (λ (w : ℤ). IsRefreshedAt c.self.inside.lanes c.refresh_at.new.self (to_z w32 (of_z w32 c.self.inside.first)) c.args.piece.origin w (is_open_if true c.put_in.new.index.pieces (pairs_out c.deref.result.now) (pair_at c.args.piece.origin w))) whole c.refresh_at.ensures)))))))

pub make_room-requires-clause-shelved : goal.make_room-requires-clause-shelved
make_room-requires-clause-shelved g c =
    c.renew.ensures.filled c.self.inside.index.pieces
    (subst (λ (i : KeptPieces). AreSameBut c.args.piece.origin c.self.inside.index.pieces i.pieces) (sym c.in_ok-put_in.ensures.ok) (same_but_last c.args.piece c.self.inside.index.pieces))
    c.self.invariant.2.filled_to

pub make_room-requires-clause-counted : goal.make_room-requires-clause-counted
make_room-requires-clause-counted g c =
    let whole : to_z w32 (of_z w32 c.args.piece.window) ≡ c.args.piece.window = to_z-of_z w32 c.args.piece.window (search rules) in
    let k = c.self.invariant.0 in
    let first_is = first_passed c.self.inside.first k.low k.high in
    subst (λ (f : ℤ). AreCounts c.add.new.self f c.put_in.new.index.pieces) (sym first_is)
    (subst (λ (i : KeptPieces). AreCounts c.add.new.self c.self.inside.first i.pieces) (sym c.in_ok-put_in.ensures.ok)
    (counted_snoc c.self.inside.counts c.add.new.self c.self.inside.first c.args.piece c.self.inside.index.pieces c.self.invariant.1.counted
    (subst (λ (f : ℤ). HasMoreIn c.self.inside.counts c.add.new.self f c.args.piece.window (length c.args.piece.rows)) first_is
    (subst (λ (w : ℤ). HasMoreIn c.self.inside.counts c.add.new.self (to_z w32 (of_z w32 c.self.inside.first)) w (length c.args.piece.rows)) whole
    (subst (λ (n : ℕ). HasMoreIn c.self.inside.counts c.add.new.self (to_z w32 (of_z w32 c.self.inside.first)) (to_z w32 (of_z w32 c.args.piece.window)) n) c.row_count-rows.ensures c.add.ensures)))))

pub invariant_of-self-2 : goal.invariant_of-self-2
invariant_of-self-2 g c =
    let k = c.self.invariant.0 in
    let first_is = first_passed c.self.inside.first k.low k.high in
    let alive : has c.self.inside.live c.args.piece.origin ≡ true =
    sym (shown_same c.self.inside.entries c.self.inside.live k.unknown c.args.piece.origin) ∙ ap (λ (b : Board). has b.live c.args.piece.origin) c.self.view_is ∙ c.requires.live in
    let pieces_are : c.make_room.new.index ≡ record c.self.inside.index { pieces = newest_within rows_limit (c.self.inside.index.pieces ++ c.args.piece ∷ []) } =
    c.make_room.ensures.pieces ∙ ap (λ (i : KeptPieces). record i { pieces = newest_within rows_limit i.pieces }) c.in_ok-put_in.ensures.ok in (
      kept_aged c.self.inside.index.pieces c.make_room.new.index.pieces c.self.inside.out.items _ c.self.inside.latest c.self.inside.first c.self.inside.live c.self.inside.entries c.self.inside.limit c.self.inside.lanes c.make_room.new.lanes k
          (as_wide_both c.self.inside.lanes c.refresh_at.new.self c.make_room.new.lanes (as_wide_at c.self.inside.lanes c.refresh_at.new.self _ _ _ _ c.refresh_at.ensures) c.make_room.ensures.wide)
          (subst (λ (o : List (ℕ × ℤ)). AreOpen c.make_room.new.lanes c.self.inside.first c.self.inside.live c.make_room.new.index.pieces (pairs_out o)) c.deref-2.ensures.value
          (subst (λ (f : ℤ). AreOpen c.make_room.new.lanes f c.self.inside.live c.make_room.new.index.pieces (pairs_out c.deref-2.result.now)) first_is c.make_room.ensures.open)),
      stored_kept c.self.inside.index c.make_room.new.index c.self.inside.first c.self.inside.live c.self.inside.counts c.make_room.new.counts c.args.piece c.self.invariant.1 alive
          (ap (λ (b : Board). rows_at c.args.piece.origin c.args.piece.window b.pieces) c.self.view_is ∙ c.requires.none) pieces_are
          (subst (λ (f : ℤ). AreCounts c.make_room.new.counts f c.make_room.new.index.pieces) first_is c.make_room.ensures.counted),
      record {
        within = (let before = c.self.invariant.2.within in let less = c.renew.ensures.within in let now = c.make_room.ensures.filled in omega (arith, before, less, now));
        filled_to = c.make_room.ensures.shelved;
      },
    )

pub returns-clause-ok : goal.returns-clause-ok
returns-clause-ok g c =
    let of_pieces : List Piece → Board = λ ps. record { live = take c.self.inside.entries c.self.inside.live; latest = c.self.inside.latest; pieces = ps; out = pairs_out c.self.inside.out.items; room = c.self.inside.limit - c.self.inside.entries } in
    ap (λ (i : KeptPieces). of_pieces i.pieces) (c.make_room.ensures.pieces ∙ ap (λ (i : KeptPieces). record i { pieces = newest_within rows_limit i.pieces }) c.in_ok-put_in.ensures.ok)
    ∙ ap of_pieces (newest_stays rows_limit c.args.piece c.self.inside.index.pieces c.requires.few)
    ∙ ap (λ (b : Board). record b { pieces = newest_within (rows_limit - length c.args.piece.rows) b.pieces ++ c.args.piece ∷ [] }) c.self.view_is
