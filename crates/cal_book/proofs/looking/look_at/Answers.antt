use Rattle.std.proofs.Common.{◌≡◌, rules, sym, ap, ◌∙◌, subst, to_z-of_z, FitsSigned, w64}
use Rattle.cal_model.specs.State.ServerState.{directory_of}
use Rattle.cal_model.specs.State.SoundStates.{IsSound}
use Rattle.collections.specs.Kept.{state_of, origins_of}
use Rattle.dav_reports.specs.CalendarObjects.{AreHeldRight}
use Rattle.dav_reports.specs.PieceRows.{Held}
use Rattle.piece_shelf.specs.Shelves.{held_on}
use Rattle.piece_claims.specs.Boards.{Board}
use Rattle.cal_book.specs.Cores.{Core, HasLiveOctets, directory_in, state_in}
use Rattle.cal_book.specs.Keeping.KeptHistories.{users_in, directory_in as kept_directory}
use Rattle.cal_book.specs.Looks.{IsLookAt, held_in}
use Rattle.cal_book.specs.UpToDate.{work_with}
use Rattle.cal_book.proofs.HeldPieces.{AreHeldRight-right, held-same, reading-no_more}
use Rattle.cal_book.proofs.HistoryLemmas.{step-octets, step-sound}
use Rattle.cal_book.proofs.looking.look_at.Goals as goal

pub of-requires : goal.of-requires
of-requires c =
    let history = c.args.history.now in
    let pieces = c.args.claims.now.pieces in
    let step = c.entries-entries.ensures.step in
    let shown = c.in_ok-shown.shown in
    let state = c.in_ok-shown.ensures.at.state in
    let octets = subst (HasLiveOctets history.journal) (sym state) (step-octets history.users history.store history.journal step) in
    let sound = subst (IsSound (kept_directory history)) (sym state) (step-sound history.users history.store history.journal step) in
    let same : held_on c.in_ok-shelf.shelf ≡ held_in pieces = held-same (held_on c.in_ok-shelf.shelf) (held_in pieces) c.in_ok-shelf.ensures.held in
    record {
      same = c.in_ok-shown.ensures.at.directory ∙ ap directory_of (sym c.in_ok-users.ensures);
      right = λ home calendar.
          subst (λ (held : Held). AreHeldRight held (origins_of shown) (state_of shown) home calendar) (sym same)
          (AreHeldRight-right history.journal (origins_of shown) (state_of shown) pieces c.in_ok-shown.ensures.at.origins octets c.requires.kept.right (kept_directory history) sound home calendar);
    }

pub returns-clause-at : goal.returns-clause-at
returns-clause-at c spare event reading =
    let history = c.args.history.now in
    let claims = c.args.claims.now in
    let shown = c.in_ok-shown.shown in
    let shelf = c.in_ok-shelf.shelf in
    let fits : FitsSigned w64 c.latest.result = search (rules, c.latest.type_inv) in
    let core : Core = record { users = users_in history; work = work_with history.journal claims; spare = spare } in
    subst (IsLookAt core event) (sym c.of.ensures) (
    record {
      reads = reading;
      users = c.in_ok-users.ensures;
      state = c.in_ok-shown.ensures.at.state ∙ c.entries-entries.ensures.step.state_is;
      origins = c.in_ok-shown.ensures.at.origins;
      cost = reading-no_more (held_on shelf) (held_in claims.pieces) c.in_ok-shelf.ensures.held (origins_of shown) (directory_in core) (state_in core) event;
      latest = to_z-of_z fits ∙ (c.latest.ensures ∙ ap (λ (board : Board). board.latest) c.in_ok-shelf.ensures.same);
    }
    )
