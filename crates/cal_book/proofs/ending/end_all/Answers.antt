use Rattle.std.proofs.Common.{◌≡◌, List, ℕ, length, map, refl, sym, ap, ◌∙◌, subst, arith}
use Rattle.std.proofs.lemmas.List.Filters.{length-filter_both}
use Rattle.cal_base.specs.Lists.NameMap.{IsInOrder, Named}
use Rattle.cal_model.specs.Pieces.PieceLists.{is_other_piece, is_piece_of}
use Rattle.cal_model.specs.State.ServerState.{ServerState}
use Rattle.cal_model.specs.History.Origins.{Origins}
use Rattle.object_walk.specs.WalkedObjects.{HaveOriginsOf, named_octets, objects_at}
use Rattle.piece_claims.specs.Boards.{Board}
use Rattle.cal_book.specs.Keeping.KeptHistories.{directory_in, state_in, origins_in}
use Rattle.cal_book.specs.EndedObjects.{IsWithout, is_passed}
use Rattle.cal_book.proofs.HistoryLemmas.{step-octets, step-sound}
use Rattle.cal_book.proofs.StepLemmas.{origin-within}
use Rattle.cal_book.proofs.WalkLemmas.{walk-in_order, walk-left_in_order, walk-first, walk-next, walk-end}
use Rattle.cal_book.proofs.ending.end_all.Goals as goal

pub walk-init : goal.walk-init
walk-init g c =
    let history = c.args.history.now in
    let step = c.entries-entries.ensures.step in
    let same = c.into_iter-origin-iterator.ensures.into_iter_gives in
    let all : map named_octets c.into_iter-origin-iterator.result ≡ objects_at (state_in history) c.args.home c.args.calendar.now =
    ap (map named_octets) same ∙ c.objects-origin-items.ensures.octets ∙ ap (λ (s : ServerState). objects_at s c.args.home c.args.calendar.now) c.view-view.ensures.state in
    record {
      gone = subst (λ (left : Named (List ℕ)). IsWithout history.journal (is_passed left c.args.home c.args.calendar.now) c.args.claims.now c.args.claims.now) (sym all)
          (walk-first history.journal (origins_in history) (state_in history) step.live (step-octets history.users history.store history.journal step) c.args.home c.args.calendar.now c.args.claims.now);
      counted = refl;
      in_order = subst IsInOrder (sym all) (walk-in_order (directory_in history) (state_in history) c.args.home c.args.calendar.now (step-sound history.users history.store history.journal step));
      origins = subst (HaveOriginsOf (origins_in history c.args.home c.args.calendar.now)) (sym same)
          (subst (λ (o : Origins). HaveOriginsOf (o c.args.home c.args.calendar.now) c.objects-origin-items.result) c.view-view.ensures.origins c.objects-origin-items.ensures.origins);
    }

pub ended-requires : goal.ended-requires
ended-requires g c =
    let history = c.args.history.now in
    let step = c.entries-entries.ensures.step in
    let known = (rw c.in-Some.ensures.steps at c.walk.invariant.origins).0 in
    let within = origin-within history.journal (origins_in history) step.live c.args.home c.args.calendar.now _ c.in-Some.origin known in
    let size = c.requires.kept.entries in
    let same = c.walk.invariant.gone.size in
    omega (arith, within, size, same)

pub walk-preserved : goal.walk-preserved
walk-preserved g c =
    let history = c.args.history.now in
    let step = c.entries-entries.ensures.step in
    let left = ap (map named_octets) c.in-Some.ensures.steps in
    let origins = rw c.in-Some.ensures.steps at c.walk.invariant.origins in
    let in_order = rw left at c.walk.invariant.in_order in
    let next = walk-next history.journal (origins_in history) (state_in history) step.live (step-octets history.users history.store history.journal step) c.args.home c.args.calendar.now
    _ _ (map named_octets c.next.new.self) c.in-Some.origin in_order origins.0 c.args.claims.now c.walk.claims c.requires.kept (rw left at c.walk.invariant.gone) in
    let both = length-filter_both (is_piece_of c.in-Some.origin) (is_other_piece c.in-Some.origin) (λ x. refl) c.walk.claims.pieces in
    let pieces = ap (λ (b : Board). length b.pieces) c.ended.ensures.board in
    let cost = c.ended.ensures.cost in
    let so_far = c.walk.invariant.counted in
    record {
      gone = subst (IsWithout history.journal (is_passed (map named_octets c.next.new.self) c.args.home c.args.calendar.now) c.args.claims.now) (sym c.ended.ensures.board) next;
      counted = omega (arith, both, pieces, cost, so_far);
      in_order = walk-left_in_order _ (map named_octets c.next.new.self) in_order;
      origins = origins.1;
    }

pub returns-clause-board : goal.returns-clause-board
returns-clause-board g c =
    let history = c.args.history.now in
    let step = c.entries-entries.ensures.step in
    let end = ap (map named_octets) c.in-None.ensures.steps.0 in
    walk-end history.journal (origins_in history) (state_in history) step.live (step-octets history.users history.store history.journal step) c.args.home c.args.calendar.now c.args.claims.now c.walk.claims
    (rw end at c.walk.invariant.gone)
