use Rattle.std.proofs.Common.{◌∙◌, sym, ap, subst, map}
use Rattle.std.specs.Prelude.{IfOk}
use Rattle.cal_model.specs.History.Journal.{IsLegal, replay}
use Rattle.cal_model.specs.State.ServerState.{Directory}
use Rattle.cal_model.specs.State.UserNames.{AreToldApart}
use Rattle.cal_journal.specs.Behind.{IsBehind}
use Rattle.cal_journal.specs.KeptEntries.{kept_entry, AreSound}
use Rattle.collections.specs.Kept.{users_of, state_of, origins_of}
use Rattle.cal_book.specs.Keeping.KeptHistories.{Kept, IsShownNow}
use Rattle.cal_book.proofs.Keeping.ShownLemmas.{shown_now}
use Rattle.cal_book.proofs.history.History.look.Goals as goal

pub look_behind-requires-clause-users : goal.look_behind-requires-clause-users
look_behind-requires-clause-users c = subst AreToldApart (sym c.self.invariant.shown_at.same) c.self.invariant.step.told

pub look_behind-requires-clause-legal : goal.look_behind-requires-clause-legal
look_behind-requires-clause-legal c = subst (λ (d : Directory). IsLegal d (map kept_entry c.self.inside.journal.items)) (sym c.self.invariant.shown_at.same) c.self.invariant.step.legal

pub look_behind-requires-clause-sound : goal.look_behind-requires-clause-sound
look_behind-requires-clause-sound c = subst (λ (d : Directory). AreSound d (map kept_entry c.self.inside.journal.items)) (sym c.self.invariant.shown_at.same) c.self.invariant.step.sound

pub look_behind-requires-clause-behind : goal.look_behind-requires-clause-behind
look_behind-requires-clause-behind c =
    subst (λ (d : Directory). IsBehind d (map kept_entry c.self.inside.journal.items) c.self.inside.followed (state_of c.self.inside.shown) (origins_of c.self.inside.shown)) (sym c.self.invariant.shown_at.same) c.self.invariant.shown_at.behind

pub invariant_of-self : goal.invariant_of-self
invariant_of-self c =
    let same = c.self.invariant.shown_at.same in
    let shown = c.look_behind.new.shown in
    record {
      step = c.self.invariant.step;
      shown_at = record {
        same = c.look_behind.ensures.users ∙ same;
        behind = subst (λ (d : Directory). IsBehind d (map kept_entry c.self.inside.journal.items) c.look_behind.new.followed (state_of shown) (origins_of shown)) same c.look_behind.ensures.behind;
      };
    }

pub returns-clause-at : goal.returns-clause-at
returns-clause-at c =
    let before = c.self.inside in
    let journal = map kept_entry before.journal.items in
    let same = c.self.invariant.shown_at.same in
    let said = c.look_behind.ensures in
    let kept : Kept = record { users = before.users; store = before.store; journal = journal; room = before.journal.room } in
    subst (λ (k : Kept). IfOk c.look_behind.result (IsShownNow k)) c.self.view_is
    (shown_now kept (users_of before.shown) c.look_behind.result same (ap (λ (d : Directory). replay d journal) same ∙ sym c.self.invariant.step.state_is) said.directory said.state said.origins)
