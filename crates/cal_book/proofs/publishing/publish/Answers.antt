use Rattle.std.proofs.Common.{◌≤◌, List, length, rules, refl, sym, ap, ◌∙◌, subst, FitsSigned, w32}
use Rattle.std.specs.Prelude.{IsSome, is_some}
use Rattle.std.proofs.lemmas.Int.{to_z-of_z}
use Rattle.cal_model.specs.History.Claims.{without_claim}
use Rattle.cal_model.specs.declared.row.Row.{Row}
use Rattle.cal_model.specs.declared.stored.Stored.{Stored}
use Rattle.cal_model.specs.History.Origins.{Origins}
use Rattle.cal_model.specs.Pieces.PieceLists.{rows_at}
use Rattle.piece_claims.specs.Boards.{Board, ended, pair_at, piece_at, published}
use Rattle.cal_book.specs.Keeping.KeptHistories.{origins_in}
use Rattle.cal_book.specs.UpToDate.{IsUpToDate, work_with}
use Rattle.cal_book.proofs.HeldPieces.{AreLive-same}
use Rattle.cal_book.proofs.PublishLemmas.{live-now, stale-now, piece-right, published-found, published-kept, window-limited}
use Rattle.cal_book.proofs.publishing.publish.Goals as goal

pub returns-then-not-is_origin-clause-published : goal.returns-then-not-is_origin-clause-published
returns-then-not-is_origin-clause-published g c =
    let history = c.args.history.now in
    let claim = c.args.expanded.claim in
    let live = c.entries-entries.ensures.step.live in
    let now_is = c.origin_now-now.ensures ∙ ap (λ (s : Stored). origins_in history s.path.home s.path.calendar s.path.object) c.deref.ensures in
    let fits : FitsSigned w32 c.args.expanded.claim.window = search rules in
    let same = to_z-of_z w32 c.args.expanded.claim.window fits in (
      stale-now history.journal (origins_in history) live claim.origin claim.stored c.requires.of_book (λ e. c.is_origin.ensures.other c.if-not-is_origin.true (now_is ∙ e)),
      (λ origins others. now_is ∙ ap (λ (o : Origins). o claim.stored.path.home claim.stored.path.calendar claim.stored.path.object) (AreLive-same history.journal (origins_in history) origins live others)),
      ap (work_with history.journal) c.abandon.ensures
          ∙ ap (λ window. record (work_with history.journal c.args.claims.now) { out = without_claim (pair_at claim.origin window) c.args.claims.now.out }) same,
    )

pub publish-requires-clause-live : goal.publish-requires-clause-live
publish-requires-clause-live g c =
    let history = c.args.history.now in
    let claim = c.args.expanded.claim in
    let live = c.entries-entries.ensures.step.live in
    let now_is = c.origin_now-now.ensures ∙ ap (λ (s : Stored). origins_in history s.path.home s.path.calendar s.path.object) c.deref.ensures in
    sym (c.requires.kept.live claim.origin)
    ∙ ap is_some (live-now history.journal (origins_in history) live claim.origin claim.stored c.requires.of_book (sym now_is ∙ c.is_origin.ensures.held c.if-not-is_origin.false))

pub publish-requires-clause-few : goal.publish-requires-clause-few
publish-requires-clause-few g c =
    let claim = c.args.expanded.claim in
    subst (λ (found : List Row). length found ≤ 4_000_000) (sym c.args.expanded.of_it) (window-limited claim.stored.object claim.window claim.limited)

pub returns-in-Ok-clause-published : goal.returns-in-Ok-clause-published
returns-in-Ok-clause-published g c =
    let history = c.args.history.now in
    let claim = c.args.expanded.claim in
    let live = c.entries-entries.ensures.step.live in
    let now_is = c.origin_now-now.ensures ∙ ap (λ (s : Stored). origins_in history s.path.home s.path.calendar s.path.object) c.deref.ensures in
    let there = live-now history.journal (origins_in history) live claim.origin claim.stored c.requires.of_book (sym now_is ∙ c.is_origin.ensures.held c.if-not-is_origin.false) in
    let fits : FitsSigned w32 c.args.expanded.claim.window = search rules in
    let same = to_z-of_z w32 c.args.expanded.claim.window fits in (
      subst IsSome (sym there) refl,
      ap (work_with history.journal) c.in-Ok.ensures.ok ∙ ap (λ window. work_with history.journal (published (piece_at claim.origin window c.args.expanded.rows) c.args.claims.now)) same,
    )

pub returns-in-Ok-clause-kept : goal.returns-in-Ok-clause-kept
returns-in-Ok-clause-kept g c =
    let history = c.args.history.now in
    let claim = c.args.expanded.claim in
    let live = c.entries-entries.ensures.step.live in
    let now_is = c.origin_now-now.ensures ∙ ap (λ (s : Stored). origins_in history s.path.home s.path.calendar s.path.object) c.deref.ensures in
    let right = piece-right history.journal (origins_in history) live claim.origin claim.stored c.requires.of_book (sym now_is ∙ c.is_origin.ensures.held c.if-not-is_origin.false)
    claim.window c.args.expanded.rows c.args.expanded.of_it in
    let fits : FitsSigned w32 c.args.expanded.claim.window = search rules in
    let same = to_z-of_z w32 c.args.expanded.claim.window fits in
    subst (IsUpToDate history.journal) (sym (c.in-Ok.ensures.ok ∙ ap (λ window. published (piece_at claim.origin window c.args.expanded.rows) c.args.claims.now) same))
    (published-kept history.journal (piece_at claim.origin claim.window c.args.expanded.rows) c.args.claims.now right c.requires.kept)

pub returns-clause-published : goal.returns-clause-published
returns-clause-published g c =
    let history = c.args.history.now in
    let claim = c.args.expanded.claim in
    let live = c.entries-entries.ensures.step.live in
    let now_is = c.origin_now-now.ensures ∙ ap (λ (s : Stored). origins_in history s.path.home s.path.calendar s.path.object) c.deref.ensures in
    let there = live-now history.journal (origins_in history) live claim.origin claim.stored c.requires.of_book (sym now_is ∙ c.is_origin.ensures.held c.if-not-is_origin.false) in
    let fits : FitsSigned w32 c.args.expanded.claim.window = search rules in
    let same = to_z-of_z w32 c.args.expanded.claim.window fits in (
      subst IsSome (sym there) refl,
      ap (work_with history.journal) c.in-Err.ensures.err ∙ ap (λ window. work_with history.journal (ended claim.origin window c.args.claims.now)) same,
    )

pub returns-in-Ok-clause-found : goal.returns-in-Ok-clause-found
returns-in-Ok-clause-found g c said =
    let history = c.args.history.now in
    let claim = c.args.expanded.claim in
    let live = c.entries-entries.ensures.step.live in
    let now_is = c.origin_now-now.ensures ∙ ap (λ (s : Stored). origins_in history s.path.home s.path.calendar s.path.object) c.deref.ensures in
    let right = piece-right history.journal (origins_in history) live claim.origin claim.stored c.requires.of_book (sym now_is ∙ c.is_origin.ensures.held c.if-not-is_origin.false)
    claim.window c.args.expanded.rows c.args.expanded.of_it in
    let fits : FitsSigned w32 c.args.expanded.claim.window = search rules in
    let same = to_z-of_z w32 c.args.expanded.claim.window fits in
    ap (λ (board : Board). rows_at claim.origin claim.window board.pieces) (c.in-Ok.ensures.ok ∙ ap (λ window. published (piece_at claim.origin window c.args.expanded.rows) c.args.claims.now) same)
    ∙ published-found history.journal claim.origin claim.window c.args.expanded.rows c.args.claims.now.pieces right c.requires.kept.right
